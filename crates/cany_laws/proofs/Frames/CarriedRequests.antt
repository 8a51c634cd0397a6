-- How often the bus carries the frames by which a node asks to join and to leave Clean.
use Rattle.std.proofs.Common.{◌≡◌, ℕ, ◌<◌, ◌≤◌, ◌==◌, ◌&&◌, ◌⊎◌, inl, inr, Bool, true, false, nat_lt, List, [], ◌∷◌, count_by, refl, ap, sym, ◌∙◌, subst, arith}
use Rattle.std.proofs.lemmas.Bool.{and_from, and_parts, cases_Bool, cases_lt, eq-eqb, false≢true, false_from_ne_true, lt-ltb, ltb-true}
use Rattle.cany_base.specs.declared.class.Class.{Class}
use Rattle.cany_base.specs.declared.class.Class.TheVariants.{Join, Leave}
use Rattle.cany_base.specs.declared.message.NodeAsk.{NodeAsk}
use Rattle.cany_base.specs.declared.notice.NoticeKind.{NoticeKind}
use Rattle.cany_base.specs.declared.step.Step.{Step}
use Rattle.cany_base.specs.Cycles.{cycle_of}
use Rattle.cany_base.specs.Frame.{FrameParts}
use Rattle.cany_base.specs.Limits.{most_nodes}
use Rattle.cany_base.specs.Scenario.{ScenarioParts}
use Rattle.cany_model.specs.Bus.Frames.{Identity, identity_of}
use Rattle.cany_model.specs.Bus.History.{history}
use Rattle.cany_model.specs.Bus.Restart.{after_restarts}
use Rattle.cany_model.specs.Bus.Slot.{after_slot}
use Rattle.cany_model.specs.Bus.State.{RunState, reads}
use Rattle.cany_model.specs.Rules.Turn.{scenario_at, turn_effects}
use Rattle.cany_model.specs.Rules.Views.{ask_of}
use Rattle.cany_model.specs.Runs.Run.{after_turn, run}
use Rattle.cany_model.proofs.Among.{Among, Among-from_Contains, Among-weaker, count-grows, count-no, count-yes}
use Rattle.cany_model.proofs.Rules.ProtocolFacts.{IsScripted, MayRequest, ask_of as asked_frame, request_asked}
use Rattle.cany_model.proofs.Rules.TurnFacts.{turn_effect}
use Rattle.cany_model.proofs.Runs.Runs.{IsOrderly, history-length}
use Rattle.cany_model.proofs.Runs.Steps.{MayTurn, next_notice}
use Rattle.cany_model.proofs.Rules.Waits.{Asks}
use Rattle.cany_laws.specs.Requests.{CarriesFewRequests, entries_of}
use Rattle.cany_laws.specs.Carried.{times_clean}
use Rattle.cany_laws.proofs.Frames.CarriedCounts.{sent_by}
use Rattle.cany_laws.proofs.Frames.CarriedSends.{absent_never_sends, by_one_node, never_sent, reads_turn, sent_so_often}
use Rattle.cany_laws.proofs.Waiting.WaitNodes.{slot_reads, turn_reads}
use Rattle.cany_model.proofs.Runs.Journals.{reads_restarts}

-- ---- counts

count_le : {X : Type 0} (p q : X → Bool) (xs : List X) → ((x : X) → p x ≡ true → q x ≡ true) → count_by p xs ≤ count_by q xs
count_le p q [] f = omega arith
count_le p q (x ∷ xs) f =
    let rest = count_le p q xs f in
    elim (cases_Bool (p x)) [
      | inl both ↦ omega (arith, rest, count-yes p x xs both, count-yes q x xs (f x both))
      | inr none ↦ omega (arith, rest, count-no p x xs none, count-grows q x xs)
    ]

count_lt : {X : Type 0} (p q : X → Bool) (xs : List X) → ((x : X) → p x ≡ true → q x ≡ true) → Among (λ x. (p x ≡ false) × (q x ≡ true)) xs
    → count_by p xs < count_by q xs
count_lt p q [] f h = absurd h
count_lt p q (x ∷ xs) f (inl here) = omega (arith, count_le p q xs f, count-no p x xs here.0, count-yes q x xs here.1)
count_lt p q (x ∷ xs) f (inr later) =
    let rest = count_lt p q xs f later in
    elim (cases_Bool (p x)) [
      | inl both ↦ omega (arith, rest, count-yes p x xs both, count-yes q x xs (f x both))
      | inr none ↦ omega (arith, rest, count-no p x xs none, count-grows q x xs)
    ]

-- ---- what a turn asks for

abbrev IsAsk : Class → Type 0
IsAsk c = (c ≡ Join) ⊎ (c ≡ Leave)

-- a scripted ask of node i, which makes the frame
record IsRequested (scenario : ScenarioParts) (i : ℕ) (past : List NoticeKind) (x : Identity) : Type 0 where
  slot : ℕ
  class : Class
  may : MayRequest scenario i past slot class
  is : x ≡ ask_of class (cycle_of scenario.params slot) i

requested : (scenario : ScenarioParts) (i : ℕ) (past : List NoticeKind) (x : Identity) → IsAsk x.class → Among (Asks x) (turn_effects scenario i past)
    → IsRequested scenario i past x
requested scenario i past x ask h =
    let w = turn_effect (Asks x) scenario i past h in
    let a = asked_frame scenario w.protocol i past x w.effect w.is w.founded in
    let r = request_asked scenario i past a.0 a.2 (subst IsAsk (ap (λ (y : Identity). y.class) a.1) ask) in
    record { slot = r.slot; class = r.class; may = r.may; is = a.1 ∙ sym (ap identity_of r.frame) }

-- ---- one class of asks

module _ (scenario : ScenarioParts) (c : Class) (ask : IsAsk c) (asks : List NodeAsk)
    (scripted : (s : RunState) (i slot : ℕ) (past : List NoticeKind) → MayRequest (scenario_at scenario s i) i past slot c
    → IsScripted (scenario_at scenario s i) asks i past slot)
    (node cycle : ℕ) where
  abbrev x : Identity
  x = ask_of c cycle node

  -- the asks that the frame makes, and those of them whose slot has been read
  abbrev is_entry : NodeAsk → Bool
  is_entry a = a.node == node && cycle_of scenario.params a.slot == cycle

  abbrev is_read : RunState → NodeAsk → Bool
  is_read s a = is_entry a && nat_lt a.slot (reads s node)

  abbrev entries_read : RunState → ℕ
  entries_read s = count_by (is_read s) asks

  later : (s to : RunState) → reads s node ≤ reads to node → (a : NodeAsk) → is_read s a ≡ true → is_read to a ≡ true
  later s to more a h =
      let parts = and_parts (is_entry a) (nat_lt a.slot (reads s node)) h in
      and_from (is_entry a) (nat_lt a.slot (reads to node)) parts.0
      (lt-ltb a.slot (reads to node) (omega (arith, more, ltb-true a.slot (reads s node) parts.1)))

  read_more : (s to : RunState) → reads s node ≤ reads to node → entries_read s ≤ entries_read to
  read_more s to more = count_le (is_read s) (is_read to) asks (later s to more)

  new_entry : (s : RunState) → IsOrderly scenario.params.nodes s → MayTurn s node
      → Among (Asks (ask_of c cycle node)) (turn_effects (scenario_at scenario s node) node (next_notice s node ∷ history node s))
      → entries_read s < entries_read (after_turn scenario node s)
  new_entry s o may h =
      let to : RunState = after_turn scenario node s in
      let sc : ScenarioParts = scenario_at scenario s node in
      let past : List NoticeKind = next_notice s node ∷ history node s in
      let w = requested sc node past x ask h in
      let class : w.class ≡ c = sym (ap (λ (y : Identity). y.class) w.is) in
      let e = scripted s node w.slot past (subst (MayRequest sc node past w.slot) class w.may) in
      let a : NodeAsk = e.ask in
      let at : a.slot ≡ reads s node = let now = e.now in let slot = e.asked_in in omega (arith, now, slot, history-length node s) in
      let in_cycle : cycle_of scenario.params a.slot ≡ cycle =
      ap (cycle_of scenario.params) e.asked_in ∙ sym (ap (λ (y : Identity). y.number) w.is) in
      let own = turn_reads scenario s node may (o.unread node) in
      let entry : is_entry a ≡ true =
      and_from (a.node == node) (cycle_of scenario.params a.slot == cycle) (eq-eqb a.node node e.asker)
      (eq-eqb (cycle_of scenario.params a.slot) cycle in_cycle) in
      let before : is_read s a ≡ false =
      false_from_ne_true (is_read s a) (λ k.
      absurd (omega (arith, at, ltb-true a.slot (reads s node) (and_parts (is_entry a) (nat_lt a.slot (reads s node)) k).1))) in
      let now : is_read to a ≡ true =
      and_from (is_entry a) (nat_lt a.slot (reads to node)) entry (lt-ltb a.slot (reads to node) (omega (arith, at, own))) in
      count_lt (is_read s) (is_read to) asks (later s to (omega (arith, own)))
      (Among-weaker (λ k. k ≡ a) (λ k. (is_read s k ≡ false) × (is_read to k ≡ true))
      (λ k same. (ap (is_read s) same ∙ before, ap (is_read to) same ∙ now))
      asks (Among-from_Contains asks a e.stands))

  sends : (journal : List Step) → count_by (sent_by (ask_of c cycle node) node) (run scenario journal).trace
      ≤ entries_of scenario.params node cycle asks
  sends journal = elim (cases_lt node scenario.params.nodes) [
    | inr past ↦ omega (arith, absent_never_sends scenario x node past journal)
    | inl below ↦
        let often = sent_so_often scenario x node entries_read
        (record {
          slot = λ rules s o.
              let r = slot_reads scenario rules s o node below in
              read_more s (after_slot rules s) (omega (arith, r));
          restarts = λ s o. read_more s (after_restarts scenario s) (reads_restarts scenario s node);
          turn = λ s j o may. read_more s (after_turn scenario j s) (reads_turn scenario s node j may (o.unread j));
          asks = new_entry;
        })
        journal in
        let all = count_le (is_read (run scenario journal)) is_entry asks
        (λ a h. (and_parts (is_entry a) (nat_lt a.slot (reads (run scenario journal) node)) h).0) in
        omega (arith, often, all)
  ]

  -- no other node asks by this frame
  others_never : (journal : List Step) (i : ℕ) → (i ≡ node → ⊥) → count_by (sent_by (ask_of c cycle node) i) (run scenario journal).trace ≡ 0
  others_never journal i other =
      never_sent scenario x i (λ s o may h.
      other (sym (ap (λ (y : Identity). y.node) (requested (scenario_at scenario s i) i (next_notice s i ∷ history i s) x ask h).is))) journal

  few_asks : (journal : List Step) → scenario.params.nodes ≤ most_nodes
      → times_clean (ask_of c cycle node) (run scenario journal).trace ≤ entries_of scenario.params node cycle asks
  few_asks journal few =
      let one = by_one_node scenario few x journal node (others_never journal) in
      omega (arith, one, sends journal)

-- ---- both

module _ (scenario : ScenarioParts) (journal : List Step) (few : scenario.params.nodes ≤ most_nodes) where
  by_joins : (s : RunState) (i slot : ℕ) (past : List NoticeKind) → MayRequest (scenario_at scenario s i) i past slot Join
      → IsScripted (scenario_at scenario s i) scenario.joins i past slot
  by_joins s i slot past (inl join) = join.1
  by_joins s i slot past (inr leave) = let never = leave.0 in absurd (cc)

  by_leaves : (s : RunState) (i slot : ℕ) (past : List NoticeKind) → MayRequest (scenario_at scenario s i) i past slot Leave
      → IsScripted (scenario_at scenario s i) scenario.leaves i past slot
  by_leaves s i slot past (inl join) = let never = join.0 in absurd (cc)
  by_leaves s i slot past (inr leave) = leave.1

  pub few_requests : (node cycle : ℕ) → CarriesFewRequests scenario (run scenario journal) node cycle
  few_requests node cycle = record {
    joins = few_asks scenario Join (inl refl) scenario.joins by_joins node cycle journal few;
    leaves = few_asks scenario Leave (inr refl) scenario.leaves by_leaves node cycle journal few;
  }
