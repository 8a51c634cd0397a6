-- A node gets no copy of an EDCAN message's data frame while it waits with it. So an origin that
-- has sent it with success has read that before it reads a copy.
use Rattle.std.proofs.Common.{◌≡◌, ℕ, zero, suc, ◌<◌, ◌≤◌, ◌⊎◌, inl, inr, Bool, true, false, List, [], ◌∷◌, Contains, length, map, drop, refl, ap, sym, ◌∙◌, subst, arith}
use Rattle.std.specs.Prelude.{None}
use Rattle.std.specs.List.{list_any}
use Rattle.std.proofs.lemmas.Bool.{both_ways, cases_Bool, cases_eq, cases_lt, false≢true, or_cases}
use Rattle.cany_base.specs.declared.message.Service.TheVariants.{Ed}
use Rattle.cany_base.specs.declared.notice.NoticeKind.{NoticeKind}
use Rattle.cany_base.specs.declared.slot_note.SlotNote.{SlotNote}
use Rattle.cany_base.specs.declared.step.Step.{Step}
use Rattle.cany_base.specs.Frame.{FrameParts}
use Rattle.cany_base.specs.Limits.{most_nodes}
use Rattle.cany_base.specs.Scenario.{ScenarioParts}
use Rattle.cany_model.specs.Bus.Frames.{Identity, identity_of, is_of}
use Rattle.cany_model.specs.Bus.History.{as_seen, copies, given, has_own, history, is_got, is_sent, seen}
use Rattle.cany_model.specs.Bus.Restart.{after_restarts}
use Rattle.cany_model.specs.Bus.Slot.{FaultScript, after_slot, script, slot_note_of}
use Rattle.cany_model.specs.Bus.State.{Incarnation, NodeState, RunState, node_at, opening, reads, runs}
use Rattle.cany_model.specs.Bus.Waiting.{waits}
use Rattle.cany_model.specs.Rules.Messages.{Message, data_id, messages_of}
use Rattle.cany_model.specs.Runs.Run.{after_turn, run}
use Rattle.cany_model.proofs.Among.{Among, Among-from_Contains, Among-weaker, any-from_Among}
use Rattle.cany_model.proofs.Bus.Carried.{Carries, Carries-from_got}
use Rattle.cany_model.proofs.Bus.Identities.{same_identity-from}
use Rattle.cany_model.proofs.Bus.Notes.{note_of-offered, waiting_sends}
use Rattle.cany_model.proofs.Bus.Restarts.{after_restarts-trace, restarts_or_stays}
use Rattle.cany_model.proofs.Bus.Seen.{Among-seen, seen_plain}
use Rattle.cany_model.proofs.Bus.States.{runs_within}
use Rattle.cany_model.proofs.Promises.Agreement.{idle_carries}
use Rattle.cany_model.proofs.Promises.Diffusion.{copies_grow}
use Rattle.cany_model.proofs.Rules.Services.MessageKeys.{IsOneOf}
use Rattle.cany_model.proofs.Runs.Runs.{IsOrderly, history-length}
use Rattle.cany_model.proofs.Runs.Steps.{MayTurn, after_slot-history, after_slot-present, after_slot-trace, after_slot-waiting, after_turn-history, after_turn-present, after_turn-trace, next_notice, running_before_slot}
use Rattle.cany_laws.proofs.Waiting.WaitAsksOnce.{AtItsSlot}
use Rattle.cany_laws.proofs.Waiting.WaitNodes.{IsSame, kept_waits, same_after_turn, same_history}
use Rattle.std.specs.List.{AllByRecursion}
use Rattle.cany_base.specs.declared.class.Class.TheVariants as class
use Rattle.cany_base.specs.declared.notice.NoticeKind.TheVariants.{Idle}
use Rattle.cany_base.specs.Frame.{data_class}
use Rattle.cany_base.specs.Nodes.{has}
use Rattle.cany_model.specs.Bus.History.{is_hidden}
use Rattle.cany_model.specs.Rules.Messages.{data_frame}
use Rattle.cany_model.proofs.Among.{Each-of}
use Rattle.cany_model.proofs.Bus.Carried.{is_got-true, is_sent-true}
use Rattle.cany_model.proofs.Bus.Notes.{given-Got, given-Sent, sender_waits}
use Rattle.cany_model.proofs.Bus.Seen.{seen_idle}
use Rattle.cany_model.proofs.Promises.EachNode.{restarted_new}
use Rattle.cany_model.proofs.Promises.Sources.{IsSourced, MayHold, sourced}
use Rattle.cany_model.proofs.Rules.Services.MessageKeys.{same_message}
use Rattle.cany_model.proofs.Rules.ProtocolFacts.{is_data}
use Rattle.cany_model.proofs.Runs.Journals.{run_none}
use Rattle.cany_model.proofs.Runs.Runs.{orderly, orderly_slot}
use Rattle.cany_laws.proofs.KeptAlongJournal.{kept_always}
use Rattle.cany_laws.proofs.Waiting.WaitUnsent.{IsReadOrUnsent, IsUnsent, read_or_unsent, waited_or_asked}
use Rattle.cany_model.proofs.Timed.Order.TotSlots.{waiting_frame}

-- ---- what a node has read, and what it will have read

-- all that the slots so far gave the node's incarnation, whether it has read it or not
abbrev pub all_of : RunState → ℕ → List NoticeKind
all_of s i = map (given i) (seen (node_at s.nodes i).present s.trace)

-- it has sent the frame with success
abbrev pub own_all : Message → RunState → ℕ → Bool
own_all m s i = has_own (data_id m) (all_of s i)

-- each copy came after an own transmission
abbrev pub IsOwnFirst : Identity → List NoticeKind → Type 0
IsOwnFirst x [] = Unit {0}
IsOwnFirst x (e ∷ past) = (is_got x e ≡ true → has_own x past ≡ true) × IsOwnFirst x past

pub own_first_drop : (x : Identity) (n : ℕ) (past : List NoticeKind) → IsOwnFirst x past → IsOwnFirst x (drop n past)
own_first_drop x zero past h = h
own_first_drop x (suc n) [] h = h
own_first_drop x (suc n) (e ∷ past) h = own_first_drop x n past h.1

-- where no slot has carried it, none came
none_first : (x : Identity) (i : ℕ) (trace : List SlotNote) → (Among (Carries x) trace → ⊥) → IsOwnFirst x (map (given i) trace)
none_first x i [] never = tt
none_first x i (note ∷ trace) never =
    (λ got. absurd (never (inl (Carries-from_got i x note got))), none_first x i trace (λ c. never (inr c)))

-- A node that waits with the frame, or has sent it, has read a copy, or no copy came before an own
-- transmission.
abbrev pub HasAskedOnce : Message → RunState → ℕ → Type 0
HasAskedOnce m s i =
    (0 < copies (data_id m) (history i s))
    ⊎ ((waits (data_id m) (node_at s.nodes i).waiting ≡ true) ⊎ (own_all m s i ≡ true) → IsOwnFirst (data_id m) (all_of s i))

abbrev pub EachAskedOnce : Message → RunState → Type 0
EachAskedOnce m s = (i : ℕ) → runs (node_at s.nodes i) ≡ true → HasAskedOnce m s i

-- ---- a node that stays as it is

pub same_all : (s t : RunState) (i : ℕ) → IsSame s t i → all_of t i ≡ all_of s i
same_all s t i same =
    ap (λ (n : NodeState). map (given i) (seen n.present t.trace)) same.node
    ∙ ap (λ trace. map (given i) (seen (node_at s.nodes i).present trace)) same.trace

same_once : (m : Message) (s t : RunState) (i : ℕ) → IsSame s t i → HasAskedOnce m s i → HasAskedOnce m t i
same_once m s t i same (inl some) = inl (subst (λ past. 0 < copies (data_id m) past) (sym (same_history s t i same)) some)
same_once m s t i same (inr first) = inr (λ h.
    subst (IsOwnFirst (data_id m)) (sym (same_all s t i same)) (first (elim h [
      | inl waiting ↦ inl (sym (ap (λ (n : NodeState). waits (data_id m) n.waiting) same.node) ∙ waiting)
      | inr own ↦ inr (sym (ap (has_own (data_id m)) (same_all s t i same)) ∙ own)
    ])))

-- ---- a slot

-- the frames of the identity that wait are the message's data frame
own_frame : (scenario : ScenarioParts) (m : Message) → IsOneOf (messages_of scenario.sends) m → m.service ≡ Ed → (s : RunState) → IsSourced scenario s
    → (i : ℕ) → runs (node_at s.nodes i) ≡ true → (f : FrameParts) → Contains (node_at s.nodes i).waiting f → data_id m ≡ identity_of f → f ≡ data_frame m
own_frame scenario m is ed s sourced i running f there same =
    let w : List FrameParts = (node_at s.nodes i).waiting in
    let may = Each-of (MayHold scenario s.trace i) f w (sourced.waiting i running) (Among-from_Contains w f there) in
    let class : f.class ≡ class.Ed = sym (ap (λ (y : Identity). y.class) same) ∙ ap data_class ed in
    let held = may (ap is_data class) in
    let k : Message = held.message in
    let id : data_id m ≡ data_id k = same ∙ sym (ap identity_of held.is) in
    let one : k ≡ m =
    same_message scenario.sends k m (Among-from_Contains (messages_of scenario.sends) k held.stands) is (sym (ap (λ (y : Identity). y.node) id))
    (sym (ap (λ (y : Identity). y.number) id)) in
    sym held.is ∙ ap data_frame one

own_parts : (x : Identity) (e : NoticeKind) (past : List NoticeKind) → has_own x (e ∷ past) ≡ true → (is_sent x e ≡ true) ⊎ (has_own x past ≡ true)
unfolding has_own
own_parts x e past h = or_cases (is_sent x e) (list_any (is_sent x) past) h

module _ (scenario : ScenarioParts) (m : Message) (is : IsOneOf (messages_of scenario.sends) m) (ed : m.service ≡ Ed) (rules : FaultScript) (s : RunState)
    (o : IsOrderly scenario.params.nodes s) (few : scenario.params.nodes ≤ most_nodes) (sourced : IsSourced scenario s)
    (i : ℕ) (running : runs (node_at (after_slot rules s).nodes i) ≡ true) where
  abbrev after : RunState
  after = after_slot rules s

  abbrev inc : Incarnation
  inc = (node_at s.nodes i).present

  abbrev note : SlotNote
  note = slot_note_of rules s

  ran : runs (node_at s.nodes i) ≡ true
  ran = (running_before_slot rules s i running).0

  below : i < length s.nodes
  below = runs_within s.nodes i ran

  pub slot_all : all_of after i ≡ given i (as_seen inc note) ∷ all_of s i
  slot_all =
      ap (λ (k : Incarnation). map (given i) (seen k after.trace)) (after_slot-present rules s i below)
      ∙ ap (λ trace. map (given i) (seen inc trace)) (after_slot-trace rules s)

  -- what it heard, the slot gave it
  heard : (P : NoticeKind → Bool) → P Idle ≡ false → P (given i (as_seen inc note)) ≡ true → P (given i note) ≡ true
  heard P idle h = elim (cases_Bool (is_hidden inc note)) [
    | inl hidden ↦ absurd (false≢true (sym idle ∙ sym (ap P (seen_idle i inc note hidden)) ∙ h))
    | inr plain ↦ sym (ap (λ n. P (given i n)) (seen_plain inc note plain)) ∙ h
  ]

  -- it waited with what it sent
  sent_waited : is_sent (data_id m) (given i note) ≡ true → waits (data_id m) (node_at s.nodes i).waiting ≡ true
  sent_waited h =
      let sent = is_sent-true (data_id m) (given i note) h in
      let parts = given-Sent i note sent.what sent.was in
      let waited = (sender_waits rules s sent.what i parts.0 parts.1).1 in
      any-from_Among (is_of (data_id m)) (node_at s.nodes i).waiting
      (Among-weaker (λ g. g ≡ sent.what) (λ g. is_of (data_id m) g ≡ true)
      (λ g e. ap (is_of (data_id m)) e ∙ same_identity-from (data_id m) (identity_of sent.what) sent.identity) (node_at s.nodes i).waiting
      (Among-from_Contains (node_at s.nodes i).waiting sent.what waited))

  -- and gets no copy while it waits with it
  waiting_gets_none : waits (data_id m) (node_at s.nodes i).waiting ≡ true → is_got (data_id m) (given i note) ≡ true → ⊥
  waiting_gets_none waiting h =
      let got = is_got-true (data_id m) (given i note) h in
      let parts = given-Got i note got.what got.was in
      let offered = note_of-offered rules s got.what parts.0 in
      let own = waiting_frame (data_id m) (node_at s.nodes i).waiting waiting in
      let same : own.0 ≡ got.what =
      own_frame scenario m is ed s sourced i ran own.0 own.1 own.2
      ∙ sym (own_frame scenario m is ed s sourced offered.node offered.running got.what offered.waits got.identity) in
      both_ways (has note.senders i) parts.1
      (waiting_sends rules s got.what i (omega (arith, below, o.count, few)) parts.0 ran (subst (Contains (node_at s.nodes i).waiting) same own.1))

  slot_once : HasAskedOnce m s i → HasAskedOnce m after i
  slot_once (inl some) = inl (subst (λ past. 0 < copies (data_id m) past) (sym (after_slot-history rules s i below)) some)
  slot_once (inr first) = inr (λ h.
      let before : (waits (data_id m) (node_at s.nodes i).waiting ≡ true) ⊎ (own_all m s i ≡ true) = was h in
      subst (IsOwnFirst (data_id m)) (sym slot_all) (
        λ got. elim before [
          | inl waiting ↦ absurd (waiting_gets_none waiting (heard (is_got (data_id m)) refl got))
          | inr own ↦ own
        ],
        first before,
      ))
    where
      was : (waits (data_id m) (node_at (after_slot rules s).nodes i).waiting ≡ true) ⊎ (own_all m (after_slot rules s) i ≡ true)
          → (waits (data_id m) (node_at s.nodes i).waiting ≡ true) ⊎ (own_all m s i ≡ true)
      was (inl waiting) = inl (kept_waits (data_id m) _ (node_at s.nodes i).waiting (sym (ap (waits (data_id m)) (after_slot-waiting rules s i ran)) ∙ waiting))
      was (inr own) =
          elim (own_parts (data_id m) (given i (as_seen inc note)) (all_of s i) (sym (ap (has_own (data_id m)) slot_all) ∙ own)) [
            | inl sent ↦ inl (sent_waited (heard (is_sent (data_id m)) refl sent))
            | inr before ↦ inr before
          ]

-- ---- restarts

restarts_once : (scenario : ScenarioParts) (m : Message) (s : RunState) → IsOrderly scenario.params.nodes s → 0 < length s.trace → EachAskedOnce m s
    → EachAskedOnce m (after_restarts scenario s)
restarts_once scenario m s o some all i running = elim (restarts_or_stays scenario s i) [
  | inr stays ↦
      same_once m s (after_restarts scenario s) i (record { node = stays; trace = after_restarts-trace scenario s })
      (all i (sym (ap (λ (n : NodeState). runs n) stays) ∙ running))
  | inl new ↦ inr (λ h.
      let inc : Incarnation = (node_at (after_restarts scenario s).nodes i).present in
      let blank = (restarted_new scenario s i o some new).blank in
      subst (λ trace. IsOwnFirst (data_id m) (map (given i) (seen inc trace))) (sym (after_restarts-trace scenario s))
      (none_first (data_id m) i (seen inc s.trace) (never (seen inc s.trace) blank)))
]
  where
    never : (trace : List SlotNote) → AllByRecursion (λ note. note.frame ≡ None) trace → Among (Carries (data_id m)) trace → ⊥
    never [] all c = c
    never (first ∷ trace) all (inl here) = idle_carries (data_id m) first all.0 here
    never (first ∷ trace) all (inr there) = never trace all.1 there

-- ---- a turn

module _ (scenario : ScenarioParts) (m : Message) (is : IsOneOf (messages_of scenario.sends) m) (ed : m.service ≡ Ed) (s : RunState)
    (o : IsOrderly scenario.params.nodes s) (i : ℕ) (may : MayTurn s i) (unsent : IsReadOrUnsent m s) where
  abbrev to : RunState
  to = after_turn scenario i s

  abbrev past : List NoticeKind
  past = history i s

  pub turn_all : all_of to i ≡ all_of s i
  turn_all =
      ap (λ (k : Incarnation). map (given i) (seen k to.trace)) (after_turn-present scenario i s i may (o.unread i))
      ∙ ap (λ trace. map (given i) (seen (node_at s.nodes i).present trace)) (after_turn-trace scenario i s)

  -- the origin asks in its turn of the scripted slot only where nothing was sent
  pub slot_is_unsent : AtItsSlot m i past → IsUnsent m s
  slot_is_unsent now = elim unsent [
    | inr none ↦ none
    | inl read ↦
        let at : m.slot ≡ length past = now.slot in
        let here : m.slot < reads s i = subst (λ k. m.slot < reads s k) now.origin read in
        absurd (omega (arith, at, here, history-length i s))
  ]

  turn_once : HasAskedOnce m s i → HasAskedOnce m to i
  turn_once (inl some) =
      inl (omega (arith, some, ap (copies (data_id m)) (after_turn-history scenario i s may (o.unread i)), copies_grow (data_id m) (next_notice s i) past))
  turn_once (inr first) = elim (cases_lt 0 (copies (data_id m) (history i to))) [
    | inl some ↦ inl some
    | inr none ↦ inr (λ h. subst (IsOwnFirst (data_id m)) (sym turn_all) (elim h [
      | inr own ↦ first (inr (sym (ap (has_own (data_id m)) turn_all) ∙ own))
      | inl waiting ↦ elim (waited_or_asked scenario m is ed s o i may waiting) [
        | inl before ↦ first (inl before)
        | inr (inl copy) ↦
            let one = copy.now in
            absurd (omega (arith, none, one, ap (copies (data_id m)) (after_turn-history scenario i s may (o.unread i))))
        | inr (inr now) ↦
            none_first (data_id m) i (seen (node_at s.nodes i).present s.trace) (λ c.
            (slot_is_unsent now).carried (Among-seen (Carries (data_id m)) (idle_carries (data_id m)) (node_at s.nodes i).present s.trace c))
      ]
    ]))
  ]

  turns_once : EachAskedOnce m s → EachAskedOnce m to
  turns_once all j running = elim (cases_eq j i) [
    | inl same ↦ subst (λ k. HasAskedOnce m to k) (sym same) (turn_once (all i may.running))
    | inr other ↦
        let stays = same_after_turn scenario s i j other in
        same_once m s to j stays (all j (sym (ap (λ (n : NodeState). runs n) stays.node) ∙ running))
  ]

-- ---- every run

pub asked_once : (scenario : ScenarioParts) → scenario.params.nodes ≤ most_nodes → (m : Message) → IsOneOf (messages_of scenario.sends) m → m.service ≡ Ed
    → (journal : List Step) → EachAskedOnce m (run scenario journal)
asked_once scenario few m is ed =
    kept_always scenario (EachAskedOnce m) (record {
      slot = λ front may all.
          let s : RunState = run scenario front in
          let o = orderly scenario front in
          let rules : FaultScript = script scenario.rules in
          let after : RunState = after_slot rules s in
          let some : 0 < length after.trace = omega (arith, ap length (after_slot-trace rules s)) in
          restarts_once scenario m after (orderly_slot scenario.params.nodes rules s o) some
          (λ i running. slot_once scenario m is ed rules s o few (sourced scenario front few) i running (all i (running_before_slot rules s i running).0));
      turn = λ front i may all. turns_once scenario m is ed (run scenario front) (orderly scenario front) i may (read_or_unsent scenario m is ed front) all;
    }) (λ i running. inr (λ h. tt))
