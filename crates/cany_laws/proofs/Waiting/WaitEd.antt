-- An EDCAN message is carried Clean at most once for each incarnation of a node: one that has sent
-- it with success does not ask for it again.
use Rattle.std.proofs.Common.{◌≡◌, ℕ, suc, ◌+◌, ◌<◌, ◌≤◌, ◌==◌, ◌&&◌, ◌||◌, ◌⊎◌, inl, inr, Bool, true, false, not, List, ◌∷◌, Contains, length, map, drop, ap, sym, ◌∙◌, subst, arith}
use Rattle.std.specs.Prelude.{Some}
use Rattle.std.specs.List.{list_any}
use Rattle.std.proofs.lemmas.Bool.{and_from, and_parts, both_ways, cases_eq, cases_lt, eq-eqb, eqb-true, false_from_ne_true, not-true, not_from_false, or_cases, or_left, or_parts, or_right}
use Rattle.cany_base.specs.declared.message.Service.TheVariants.{Ed}
use Rattle.cany_base.specs.declared.notice.NoticeKind.{NoticeKind}
use Rattle.cany_base.specs.declared.notice.NoticeKind.TheVariants.{Sent}
use Rattle.cany_base.specs.declared.slot_note.SlotNote.{SlotNote}
use Rattle.cany_base.specs.declared.step.Step.{Step}
use Rattle.cany_base.specs.Frame.{FrameParts}
use Rattle.cany_base.specs.Limits.{most_nodes}
use Rattle.cany_base.specs.Scenario.{ScenarioParts}
use Rattle.cany_model.specs.Bus.Frames.{Identity, is_of}
use Rattle.cany_model.specs.Bus.History.{as_seen, copies, given, has_own, history, is_sent, seen}
use Rattle.cany_model.specs.Bus.Restart.{after_restarts}
use Rattle.cany_model.specs.Bus.Slot.{FaultScript, after_slot, script, slot_note_of}
use Rattle.cany_model.specs.Bus.State.{Incarnation, NodeState, RunState, node_at, opening, runs}
use Rattle.cany_model.specs.Bus.Waiting.{waits}
use Rattle.cany_model.specs.Rules.Messages.{Message, data_id, messages_of}
use Rattle.cany_model.specs.Runs.Run.{after_turn, run}
use Rattle.cany_model.proofs.Among.{Among-from_Contains, Among-weaker, any-from_Among, one_at_most, one_if}
use Rattle.cany_model.proofs.Bus.Carried.{Carries, Succeeds, Succeeds-from_own}
use Rattle.cany_model.proofs.Bus.Notes.{waiting_sends}
use Rattle.cany_model.proofs.Bus.Restarts.{after_restarts-trace, restarts_or_stays}
use Rattle.cany_model.proofs.Bus.Seen.{Among-seen, history-is, seen_plain}
use Rattle.cany_model.proofs.Bus.States.{node_at-opening, runs_within}
use Rattle.cany_model.proofs.Promises.Agreement.{idle_carries}
use Rattle.cany_model.proofs.Promises.Diffusion.{copies_grow}
use Rattle.cany_model.proofs.Promises.OwnSlotsAlone.{AllWaitForOwnSlots, own_slots_alone_run, sent_plain}
use Rattle.cany_model.proofs.Rules.Services.MessageKeys.{IsOneOf}
use Rattle.cany_model.proofs.Runs.Runs.{IsOrderly}
use Rattle.cany_model.proofs.Runs.Steps.{MayTurn, after_slot-history, after_slot-present, after_slot-trace, after_slot-waiting, after_turn-history, next_notice, running_before_slot}
use Rattle.cany_model.proofs.Timed.Common.Counting.{total}
use Rattle.cany_laws.specs.Carried.{incarnations_of_first, times_clean}
use Rattle.cany_laws.proofs.Waiting.WaitAsksOnce.{AtFirstCopy, AtItsSlot}
use Rattle.cany_laws.proofs.Waiting.WaitNodes.{IsSame, has_sent, kept_waits, new_lives, same_after_turn, same_history, sent_waits, slot_lives, turn_lives}
use Rattle.cany_laws.proofs.Waiting.WaitTimes.{IsLeft, few_times, lives}
use Rattle.cany_laws.proofs.Waiting.WaitTotals.{one_if_false, one_if_true, one_if_weaker, total_most}
use Rattle.cany_laws.proofs.KeptAlongJournal.{drop-map}
use Rattle.cany_laws.proofs.Waiting.WaitOwnFirst.{EachAskedOnce, IsOwnFirst, all_of, asked_once, own_all, own_first_drop, same_all, slot_is_unsent, turn_all}
use Rattle.cany_laws.proofs.Waiting.WaitUnsent.{IsReadOrUnsent, IsUnsent, copies_carried, read_or_unsent, waited_or_asked}

-- ---- the times that are left at a node

abbrev may_relay : Message → RunState → ℕ → Bool
may_relay m s i = copies (data_id m) (history i s) == 0 && not (own_all m s i)

-- it waits with the frame, or may still get the first copy and has not sent it
abbrev may_hold : Message → RunState → ℕ → Bool
may_hold m s i = runs (node_at s.nodes i) && (waits (data_id m) (node_at s.nodes i).waiting || may_relay m s i)

abbrev left : Message → RunState → ℕ → ℕ
left m s i = one_if (may_hold m s i)

own_more : (x : Identity) (e : NoticeKind) (past : List NoticeKind) → has_own x (e ∷ past) ≡ false → has_own x past ≡ false
unfolding has_own
own_more x e past h = (or_parts (is_sent x e) (list_any (is_sent x) past) h).1

own_now : (x : Identity) (e : NoticeKind) (past : List NoticeKind) → is_sent x e ≡ true → has_own x (e ∷ past) ≡ true
unfolding has_own
own_now x e past h = or_left (is_sent x e) (list_any (is_sent x) past) h

-- from the parts of what may hold it after a step, to those before
hold_before : (m : Message) (s t : RunState) (i : ℕ) → (runs (node_at t.nodes i) ≡ true → runs (node_at s.nodes i) ≡ true)
    → (runs (node_at t.nodes i) ≡ true → waits (data_id m) (node_at t.nodes i).waiting ≡ true
    → (waits (data_id m) (node_at s.nodes i).waiting ≡ true) ⊎ (may_relay m s i ≡ true))
    → (copies (data_id m) (history i t) ≡ 0 → copies (data_id m) (history i s) ≡ 0)
    → (own_all m t i ≡ false → own_all m s i ≡ false) → left m t i ≤ left m s i
hold_before m s t i ran waiting few own = one_if_weaker (may_hold m t i) (may_hold m s i) (λ h.
    let parts = and_parts (runs (node_at t.nodes i)) (waits (data_id m) (node_at t.nodes i).waiting || may_relay m t i) h in
    let before : Bool = waits (data_id m) (node_at s.nodes i).waiting in
    and_from (runs (node_at s.nodes i)) (before || may_relay m s i) (ran parts.0)
    (elim (or_cases (waits (data_id m) (node_at t.nodes i).waiting) (may_relay m t i) parts.1) [
      | inl waits_now ↦ elim (waiting parts.0 waits_now) [
        | inl waited ↦ or_left before (may_relay m s i) waited
        | inr relay ↦ or_right before (may_relay m s i) relay
      ]
      | inr relay ↦
          let two = and_parts (copies (data_id m) (history i t) == 0) (not (own_all m t i)) relay in
          or_right before (may_relay m s i)
          (and_from (copies (data_id m) (history i s) == 0) (not (own_all m s i))
          (eq-eqb (copies (data_id m) (history i s)) 0 (few (eqb-true (copies (data_id m) (history i t)) 0 two.0)))
          (not_from_false (own_all m s i) (own (not-true (own_all m t i) two.1))))
    ]))

-- ---- a slot

module _ (scenario : ScenarioParts) (m : Message) (rules : FaultScript) (s : RunState) (o : IsOrderly scenario.params.nodes s) (i : ℕ)
    (there : i < scenario.params.nodes) where
  abbrev after : RunState
  after = after_slot rules s

  abbrev inc : Incarnation
  inc = (node_at s.nodes i).present

  below : i < length s.nodes
  below = omega (arith, there, o.count)

  slot_own : own_all m after i ≡ has_own (data_id m) (given i (as_seen inc (slot_note_of rules s)) ∷ map (given i) (seen inc s.trace))
  slot_own =
      ap (λ (k : Incarnation). has_own (data_id m) (map (given i) (seen k after.trace))) (after_slot-present rules s i below)
      ∙ ap (λ trace. has_own (data_id m) (map (given i) (seen inc trace))) (after_slot-trace rules s)

  slot_left : left m after i ≤ left m s i
  slot_left =
      hold_before m s after i (λ running. (running_before_slot rules s i running).0)
      (λ running waiting.
      let ran = (running_before_slot rules s i running).0 in
      inl (kept_waits (data_id m) _ (node_at s.nodes i).waiting (sym (ap (waits (data_id m)) (after_slot-waiting rules s i ran)) ∙ waiting)))
      (λ none. sym (ap (copies (data_id m)) (after_slot-history rules s i below)) ∙ none)
      (λ none. own_more (data_id m) (given i (as_seen inc (slot_note_of rules s))) (map (given i) (seen inc s.trace)) (sym slot_own ∙ none))

  sent_left : AllWaitForOwnSlots s → i < most_nodes → (f : FrameParts) → (slot_note_of rules s).frame ≡ Some f → is_of (data_id m) f ≡ true
      → runs (node_at s.nodes i) ≡ true → Contains (node_at s.nodes i).waiting f → given i (slot_note_of rules s) ≡ Sent f → left m after i < left m s i
  sent_left own_slots few f frame same running offered sent =
      let note : SlotNote = slot_note_of rules s in
      let waiting : waits (data_id m) (node_at s.nodes i).waiting ≡ true =
      any-from_Among (is_of (data_id m)) (node_at s.nodes i).waiting
      (Among-weaker (λ g. g ≡ f) (λ g. is_of (data_id m) g ≡ true) (λ g e. ap (is_of (data_id m)) e ∙ same) (node_at s.nodes i).waiting
      (Among-from_Contains (node_at s.nodes i).waiting f offered)) in
      let held : may_hold m s i ≡ true =
      and_from (runs (node_at s.nodes i)) (waits (data_id m) (node_at s.nodes i).waiting || may_relay m s i) running
      (or_left (waits (data_id m) (node_at s.nodes i).waiting) (may_relay m s i) waiting) in
      let plain : as_seen inc note ≡ note =
      seen_plain inc note (sent_plain rules s i (own_slots i running) f frame (waiting_sends rules s f i few frame running offered)) in
      let own : own_all m after i ≡ true =
      slot_own ∙ own_now (data_id m) (given i (as_seen inc note)) (map (given i) (seen inc s.trace))
      (ap (λ k. is_sent (data_id m) (given i k)) plain ∙ ap (is_sent (data_id m)) sent ∙ same) in
      let gone : waits (data_id m) (node_at after.nodes i).waiting ≡ false = sent_waits rules s (data_id m) f same i running sent in
      let none : may_hold m after i ≡ false =
      false_from_ne_true (may_hold m after i) (λ h.
      let parts = and_parts (runs (node_at after.nodes i)) (waits (data_id m) (node_at after.nodes i).waiting || may_relay m after i) h in
      elim (or_cases (waits (data_id m) (node_at after.nodes i).waiting) (may_relay m after i) parts.1) [
        | inl waits_on ↦ both_ways (waits (data_id m) (node_at after.nodes i).waiting) gone waits_on
        | inr relay ↦
            let two = and_parts (copies (data_id m) (history i after) == 0) (not (own_all m after i)) relay in
            both_ways (own_all m after i) (not-true (own_all m after i) two.1) own
      ]) in
      omega (arith, one_if_true (may_hold m s i) held, one_if_false (may_hold m after i) none)

-- ---- a node that stays as it is, or starts again

same_own : (m : Message) (s t : RunState) (i : ℕ) → IsSame s t i → own_all m t i ≡ own_all m s i
same_own m s t i same = ap (has_own (data_id m)) (same_all s t i same)

same_left : (m : Message) (s t : RunState) (i : ℕ) → IsSame s t i → left m t i ≤ left m s i
same_left m s t i same =
    hold_before m s t i (λ running. sym (ap (λ (n : NodeState). runs n) same.node) ∙ running)
    (λ running waiting. inl (sym (ap (λ (n : NodeState). waits (data_id m) n.waiting) same.node) ∙ waiting))
    (λ none. sym (ap (copies (data_id m)) (same_history s t i same)) ∙ none) (λ none. sym (same_own m s t i same) ∙ none)

restarts_left : (scenario : ScenarioParts) (m : Message) (s : RunState) (i : ℕ)
    → left m (after_restarts scenario s) i + lives s i ≤ left m s i + lives (after_restarts scenario s) i
restarts_left scenario m s i = elim (restarts_or_stays scenario s i) [
  | inl new ↦ omega (arith, one_at_most (may_hold m (after_restarts scenario s) i), new_lives scenario s i new)
  | inr stays ↦
      let same : IsSame s (after_restarts scenario s) i = record { node = stays; trace = after_restarts-trace scenario s } in
      omega (arith, same_left m s (after_restarts scenario s) i same, ap (λ (n : NodeState). suc (length n.ended)) stays)
]

-- ---- a turn

-- what was never carried, a node has not sent
unsent_own : (m : Message) (s : RunState) (i : ℕ) → IsUnsent m s → own_all m s i ≡ false
unsent_own m s i h = false_from_ne_true (own_all m s i) (λ own.
    h.carried (Among-seen (Carries (data_id m)) (idle_carries (data_id m)) (node_at s.nodes i).present s.trace
    (Among-weaker (Succeeds (data_id m)) (Carries (data_id m)) (λ note c. c.carries) (seen (node_at s.nodes i).present s.trace)
    (Succeeds-from_own i (data_id m) (seen (node_at s.nodes i).present s.trace) own))))

unsent_copies : (m : Message) (s : RunState) (i : ℕ) → IsUnsent m s → copies (data_id m) (history i s) ≡ 0
unsent_copies m s i h = elim (cases_lt 0 (copies (data_id m) (history i s))) [
  | inl some ↦ absurd (h.carried (copies_carried m s i some))
  | inr none ↦ omega (arith, none)
]

module _ (scenario : ScenarioParts) (m : Message) (is : IsOneOf (messages_of scenario.sends) m) (ed : m.service ≡ Ed) (s : RunState)
    (o : IsOrderly scenario.params.nodes s) (i : ℕ) (may : MayTurn s i) (unsent : IsReadOrUnsent m s) (once : EachAskedOnce m s) where
  abbrev next : RunState
  next = after_turn scenario i s

  abbrev before : List NoticeKind
  before = history i s

  -- what it has read after its turn is the end of all that it will have read
  part : next_notice s i ∷ before ≡ drop (node_at next.nodes i).unread (all_of s i)
  part =
      sym (after_turn-history scenario i s may (o.unread i)) ∙ history-is i next
      ∙ sym (drop-map (node_at next.nodes i).unread (given i) (seen (node_at next.nodes i).present next.trace))
      ∙ ap (drop (node_at next.nodes i).unread) (turn_all scenario m is ed s o i may unsent)

  asked_relay : AtFirstCopy (data_id m) (next_notice s i) before ⊎ AtItsSlot m i before → may_relay m s i ≡ true
  asked_relay (inl first) =
      and_from (copies (data_id m) before == 0) (not (own_all m s i)) (eq-eqb (copies (data_id m) before) 0 first.none)
      (not_from_false (own_all m s i) (false_from_ne_true (own_all m s i) (λ own. elim (once i may.running) [
        | inl some ↦ let none = first.none in omega (arith, some, none)
        | inr own_first ↦
            let here : IsOwnFirst (data_id m) (next_notice s i ∷ before) =
            subst (IsOwnFirst (data_id m)) (sym part) (own_first_drop (data_id m) (node_at next.nodes i).unread (all_of s i) (own_first (inr own))) in
            both_ways (has_own (data_id m) before) first.own (here.0 first.got)
      ])))
  asked_relay (inr now) =
      let none : IsUnsent m s = slot_is_unsent scenario m is ed s o i may unsent now in
      and_from (copies (data_id m) before == 0) (not (own_all m s i)) (eq-eqb (copies (data_id m) before) 0 (unsent_copies m s i none))
      (not_from_false (own_all m s i) (unsent_own m s i none))

  own_turn_left : left m next i ≤ left m s i
  own_turn_left =
      hold_before m s next i (λ running. may.running)
      (λ running waiting. elim (waited_or_asked scenario m is ed s o i may waiting) [
        | inl waited ↦ inl waited
        | inr asked ↦ inr (asked_relay asked)
      ])
      (λ none. omega (
        arith,
        none,
        ap (copies (data_id m)) (after_turn-history scenario i s may (o.unread i)),
        copies_grow (data_id m) (next_notice s i) before,
      ))
      (λ none. sym (ap (has_own (data_id m)) (turn_all scenario m is ed s o i may unsent)) ∙ none)

  turn_left : (j : ℕ) → left m next j ≤ left m s j
  turn_left j = elim (cases_eq j i) [
    | inl same ↦ subst (λ k. left m next k ≤ left m s k) (sym same) own_turn_left
    | inr other ↦ same_left m s next j (same_after_turn scenario s i j other)
  ]

-- ---- every run

-- what is known of each state of a run
record Known (m : Message) (s : RunState) : Type 0 where
  own_slots : AllWaitForOwnSlots s
  unsent : IsReadOrUnsent m s
  once : EachAskedOnce m s

module _ (scenario : ScenarioParts) (few : scenario.params.nodes ≤ most_nodes) (m : Message) (is : IsOneOf (messages_of scenario.sends) m)
    (ed : m.service ≡ Ed) where
  ed_left : IsLeft scenario (data_id m) (Known m) (left m)
  ed_left = record {
    slot = λ s o may q i there. slot_left scenario m (script scenario.rules) s o i there;
    sent = λ s o may q f frame same clean offered.
        let there : offered.node < scenario.params.nodes = omega (arith, runs_within s.nodes offered.node offered.running, o.count) in
        let below : offered.node < most_nodes = omega (arith, there, few) in
        sent_left scenario m (script scenario.rules) s o offered.node there q.own_slots below f frame same offered.running offered.waits
        (has_sent (script scenario.rules) s f frame clean offered below);
    slot_lives = λ s o i there. slot_lives scenario (script scenario.rules) s o i there;
    restarts = λ s i there. restarts_left scenario m s i;
    turn = λ s i o may q j there. turn_left scenario m is ed s o i may q.unsent q.once j;
    turn_lives = λ s i o may j there. turn_lives scenario s i o may j;
  }

  first_left : total (left m (opening scenario.params.nodes)) scenario.params.nodes ≤ total (lives (opening scenario.params.nodes)) scenario.params.nodes
  first_left =
      let s : RunState = opening scenario.params.nodes in
      total_most (left m s) (lives s) scenario.params.nodes (λ i there.
      let one : lives s i ≡ 1 = ap (λ (n : NodeState). suc (length n.ended)) (node_at-opening scenario.params.nodes i there) in
      omega (arith, one, one_at_most (may_hold m s i)))

  known : (journal : List Step) → Known m (run scenario journal)
  known journal = record {
    own_slots = own_slots_alone_run scenario journal;
    unsent = read_or_unsent scenario m is ed journal;
    once = asked_once scenario few m is ed journal;
  }

  pub ed_times : (journal : List Step)
      → times_clean (data_id m) (run scenario journal).trace ≤ incarnations_of_first (run scenario journal) scenario.params.nodes
  ed_times journal =
      let h = few_times scenario (data_id m) (Known m) (left m) ed_left 0 known (omega (arith, first_left)) journal in
      omega (arith, h)
