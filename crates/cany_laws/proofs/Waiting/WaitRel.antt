-- A RELCAN message is carried Clean at most once for each incarnation of a node: an incarnation of
-- the origin asks for the frame in its turn of the scripted slot, one of another node when the
-- timer of its first copy runs out.
use Rattle.std.proofs.Common.{◌≡◌, ℕ, suc, ◌+◌, ◌<◌, ◌≤◌, ◌==◌, ◌&&◌, ◌⊎◌, inl, inr, Bool, true, false, not, nat_le, List, ◌∷◌, Contains, drop, length, refl, ap, sym, ◌∙◌, subst, arith}
use Rattle.std.proofs.lemmas.Bool.{and_from, and_parts, cases_Bool, cases_eq, eq-eqb, both_ways, not-true, not_from_false, false_from_ne_true, false≢true, le-leb, leb-true}
use Rattle.cany_base.specs.declared.message.Service.TheVariants.{Rel}
use Rattle.cany_base.specs.declared.notice.NoticeKind.{NoticeKind}
use Rattle.cany_base.specs.declared.step.Step.{Step}
use Rattle.cany_base.specs.Frame.{FrameParts}
use Rattle.cany_base.specs.Limits.{most_nodes}
use Rattle.cany_base.specs.Scenario.{ScenarioParts}
use Rattle.cany_model.specs.Bus.Frames.{is_of}
use Rattle.cany_model.specs.Bus.History.{history}
use Rattle.cany_model.specs.Bus.Restart.{after_restarts}
use Rattle.cany_model.specs.Bus.Slot.{FaultScript, after_slot, script}
use Rattle.cany_model.specs.Bus.State.{NodeState, RunState, fresh, node_at, opening, reads, runs}
use Rattle.cany_model.specs.Bus.Waiting.{waits}
use Rattle.cany_model.specs.Rules.Effect.{waiting_after}
use Rattle.cany_model.specs.Rules.Messages.{Message, data_id, messages_of}
use Rattle.cany_model.specs.Rules.Relcan.{has_copy}
use Rattle.cany_model.specs.Rules.Turn.{scenario_at, turn_effects}
use Rattle.cany_model.specs.Runs.Run.{after_turn, run}
use Rattle.cany_model.proofs.Among.{Among-from_Contains, Among-weaker, any-from_Among, one_at_most, one_if}
use Rattle.cany_model.proofs.Bus.Restarts.{Restarts, after_restarts-trace, restarts_or_stays}
use Rattle.cany_model.proofs.Bus.States.{node_at-opening, runs_within}
use Rattle.cany_model.proofs.Rules.Services.MessageKeys.{IsOneOf}
use Rattle.cany_model.proofs.Runs.Runs.{IsOrderly, history-length}
use Rattle.cany_model.proofs.Runs.Steps.{MayTurn, after_slot-history, after_slot-waiting, after_turn-history, after_turn-node, next_notice, running_before_slot}
use Rattle.cany_model.proofs.Rules.Waits.{waits-from_after}
use Rattle.cany_model.proofs.Timed.Common.Counting.{total}
use Rattle.cany_laws.specs.Carried.{incarnations_of_first, times_clean}
use Rattle.cany_laws.proofs.Waiting.WaitAsksOnce.{AtItsSlot}
use Rattle.cany_laws.proofs.Waiting.WaitFallBack.{FallsBackNow, copy_dropped, rel_asked}
use Rattle.cany_laws.proofs.Waiting.WaitNodes.{IsSame, has_sent, kept_waits, new_lives, same_after_turn, same_history, same_reads, sent_waits, slot_lives, slot_reads, turn_lives, turn_reads}
use Rattle.cany_laws.proofs.Waiting.WaitTimes.{IsLeft, few_times, lives}
use Rattle.cany_laws.proofs.Waiting.WaitTotals.{one_if_false, one_if_true, one_if_weaker, total_most}

-- ---- the times that are left at a node

-- it waits with the frame; it is not the origin, and its timer may still run out; it is the origin,
-- and the turn of the scripted slot is to come
abbrev holds_it : Message → RunState → ℕ → Bool
holds_it m s i = runs (node_at s.nodes i) && waits (data_id m) (node_at s.nodes i).waiting

abbrev may_relay : ℕ → Message → RunState → ℕ → Bool
may_relay timer m s i = not (m.origin == i) && not (has_copy (data_id m) (drop timer (history i s)))

abbrev may_send : Message → RunState → ℕ → Bool
may_send m s i = m.origin == i && nat_le (reads s i) m.slot

abbrev left : ℕ → Message → RunState → ℕ → ℕ
left timer m s i = one_if (holds_it m s i) + (one_if (may_relay timer m s i) + one_if (may_send m s i))

-- where none of the three begins to hold
left_falls : (timer : ℕ) (m : Message) (s t : RunState) (i : ℕ) → (holds_it m t i ≡ true → holds_it m s i ≡ true)
    → (may_relay timer m t i ≡ true → may_relay timer m s i ≡ true)
    → (may_send m t i ≡ true → may_send m s i ≡ true) → left timer m t i ≤ left timer m s i
left_falls timer m s t i holds relay send =
    omega (
      arith,
      one_if_weaker (holds_it m t i) (holds_it m s i) holds,
      one_if_weaker (may_relay timer m t i) (may_relay timer m s i) relay,
      one_if_weaker (may_send m t i) (may_send m s i) send,
    )

send_before : (m : Message) (s t : RunState) (i : ℕ) → reads s i ≤ reads t i → may_send m t i ≡ true → may_send m s i ≡ true
send_before m s t i grows h =
    let parts = and_parts (m.origin == i) (nat_le (reads t i) m.slot) h in
    and_from (m.origin == i) (nat_le (reads s i) m.slot) parts.0 (le-leb (reads s i) m.slot (omega (arith, leb-true (reads t i) m.slot parts.1, grows)))

-- not both of the last two
either : (a b c : Bool) → one_if (not a && b) + one_if (a && c) ≤ 1
either true b c = omega (arith, one_at_most c)
either false b c = omega (arith, one_at_most b)

-- ---- a slot

module _ (scenario : ScenarioParts) (timer : ℕ) (m : Message) (rules : FaultScript) (s : RunState)
    (o : IsOrderly scenario.params.nodes s) (i : ℕ) (there : i < scenario.params.nodes) where
  abbrev after : RunState
  after = after_slot rules s

  slot_holds : holds_it m after i ≡ true → holds_it m s i ≡ true
  slot_holds h =
      let parts = and_parts (runs (node_at after.nodes i)) (waits (data_id m) (node_at after.nodes i).waiting) h in
      let ran = (running_before_slot rules s i parts.0).0 in
      and_from (runs (node_at s.nodes i)) (waits (data_id m) (node_at s.nodes i).waiting) ran
      (kept_waits (data_id m) _ (node_at s.nodes i).waiting (sym (ap (waits (data_id m)) (after_slot-waiting rules s i ran)) ∙ parts.1))

  slot_relay : may_relay timer m after i ≡ true → may_relay timer m s i ≡ true
  slot_relay h =
      ap (λ past. not (m.origin == i) && not (has_copy (data_id m) (drop timer past))) (sym (after_slot-history rules s i (omega (arith, there, o.count)))) ∙ h

  slot_send : may_send m after i ≡ true → may_send m s i ≡ true
  slot_send h = send_before m s after i (omega (arith, slot_reads scenario rules s o i there)) h

  slot_left : left timer m after i ≤ left timer m s i
  slot_left = left_falls timer m s after i slot_holds slot_relay slot_send

  -- a node that sent it with success
  sent_left : (f : FrameParts) → is_of (data_id m) f ≡ true → runs (node_at s.nodes i) ≡ true → Contains (node_at s.nodes i).waiting f
      → waits (data_id m) (node_at after.nodes i).waiting ≡ false → left timer m after i < left timer m s i
  sent_left f same running offered gone =
      let held : holds_it m s i ≡ true =
      and_from (runs (node_at s.nodes i)) (waits (data_id m) (node_at s.nodes i).waiting) running
      (any-from_Among (is_of (data_id m)) (node_at s.nodes i).waiting
      (Among-weaker (λ g. g ≡ f) (λ g. is_of (data_id m) g ≡ true) (λ g e. ap (is_of (data_id m)) e ∙ same) (node_at s.nodes i).waiting
      (Among-from_Contains (node_at s.nodes i).waiting f offered))) in
      let none : holds_it m after i ≡ false = ap (λ b. runs (node_at after.nodes i) && b) gone ∙ and_false (runs (node_at after.nodes i)) in
      omega (
        arith,
        one_if_true (holds_it m s i) held,
        one_if_false (holds_it m after i) none,
        one_if_weaker (may_relay timer m after i) (may_relay timer m s i) slot_relay,
        one_if_weaker (may_send m after i) (may_send m s i) slot_send,
      )
    where
      and_false : (b : Bool) → (b && false) ≡ false
      and_false true = refl
      and_false false = refl

-- ---- a node that stays as it is, or starts again

same_left : (timer : ℕ) (m : Message) (s t : RunState) (i : ℕ) → IsSame s t i → left timer m t i ≤ left timer m s i
same_left timer m s t i same =
    left_falls timer m s t i
    (λ h. sym (ap (λ (n : NodeState). runs n && waits (data_id m) n.waiting) same.node) ∙ h)
    (λ h. sym (ap (λ past. not (m.origin == i) && not (has_copy (data_id m) (drop timer past))) (same_history s t i same)) ∙ h)
    (send_before m s t i (omega (arith, same_reads s t i same)))

new_left : (scenario : ScenarioParts) (timer : ℕ) (m : Message) (s : RunState) (i : ℕ) → Restarts scenario s i
    → left timer m (after_restarts scenario s) i + lives s i ≤ left timer m s i + lives (after_restarts scenario s) i
new_left scenario timer m s i new =
    let t : RunState = after_restarts scenario s in
    let none : holds_it m t i ≡ false = ap (λ (n : NodeState). runs n && waits (data_id m) n.waiting) new.is in
    omega (arith, one_if_false (holds_it m t i) none, relay_or_send m t i, new_lives scenario s i new)
  where
    relay_or_send : (k : Message) (r : RunState) (j : ℕ) → one_if (may_relay timer k r j) + one_if (may_send k r j) ≤ 1
    relay_or_send k r j = either (k.origin == j) (not (has_copy (data_id k) (drop timer (history j r)))) (nat_le (reads r j) k.slot)

restarts_left : (scenario : ScenarioParts) (timer : ℕ) (m : Message) (s : RunState) (i : ℕ)
    → left timer m (after_restarts scenario s) i + lives s i ≤ left timer m s i + lives (after_restarts scenario s) i
restarts_left scenario timer m s i = elim (restarts_or_stays scenario s i) [
  | inl new ↦ new_left scenario timer m s i new
  | inr stays ↦
      let same : IsSame s (after_restarts scenario s) i = record { node = stays; trace = after_restarts-trace scenario s } in
      omega (arith, same_left timer m s (after_restarts scenario s) i same, ap (λ (n : NodeState). suc (length n.ended)) stays)
]

-- ---- a turn

module _ (scenario : ScenarioParts) (m : Message) (is : IsOneOf (messages_of scenario.sends) m) (rel : m.service ≡ Rel) (s : RunState)
    (o : IsOrderly scenario.params.nodes s) (i : ℕ) (may : MayTurn s i) where
  abbrev timer : ℕ
  timer = scenario.params.confirm

  abbrev to : RunState
  to = after_turn scenario i s

  abbrev past : List NoticeKind
  past = history i s

  turn_relay : may_relay timer m to i ≡ true → may_relay timer m s i ≡ true
  turn_relay h =
      let parts = and_parts (not (m.origin == i)) (not (has_copy (data_id m) (drop timer (history i to)))) h in
      let later : has_copy (data_id m) (drop timer (next_notice s i ∷ past)) ≡ false =
      ap (λ k. has_copy (data_id m) (drop timer k)) (sym (after_turn-history scenario i s may (o.unread i)))
      ∙ not-true (has_copy (data_id m) (drop timer (history i to))) parts.1 in
      and_from (not (m.origin == i)) (not (has_copy (data_id m) (drop timer past))) parts.0
      (not_from_false (has_copy (data_id m) (drop timer past)) (false_from_ne_true (has_copy (data_id m) (drop timer past)) (λ some.
      both_ways (has_copy (data_id m) (drop timer (next_notice s i ∷ past))) later (copy_dropped (data_id m) timer (next_notice s i ∷ past) some))))

  turn_send : may_send m to i ≡ true → may_send m s i ≡ true
  turn_send h = send_before m s to i (omega (arith, turn_reads scenario s i may (o.unread i))) h

  -- it asks for the frame
  asked_left : FallsBackNow timer m i (next_notice s i) past ⊎ AtItsSlot m i past → left timer m to i ≤ left timer m s i
  asked_left (inl falls) =
      let was : may_relay timer m s i ≡ true =
      and_from (not (m.origin == i)) (not (has_copy (data_id m) (drop timer past))) (not_from_false (m.origin == i) falls.other)
      (not_from_false (has_copy (data_id m) (drop timer past)) falls.none) in
      let none : may_relay timer m to i ≡ false =
      false_from_ne_true (may_relay timer m to i) (λ h.
      let parts = and_parts (not (m.origin == i)) (not (has_copy (data_id m) (drop timer (history i to)))) h in
      both_ways (has_copy (data_id m) (drop timer (history i to)))
      (not-true (has_copy (data_id m) (drop timer (history i to))) parts.1)
      (ap (λ k. has_copy (data_id m) (drop timer k)) (after_turn-history scenario i s may (o.unread i)) ∙ falls.now)) in
      omega (
        arith,
        one_if_true (may_relay timer m s i) was,
        one_if_false (may_relay timer m to i) none,
        one_at_most (holds_it m to i),
        one_if_weaker (may_send m to i) (may_send m s i) turn_send,
      )
  asked_left (inr now) =
      let at : m.slot ≡ length past = now.slot in
      let size : length past ≡ reads s i = history-length i s in
      let was : may_send m s i ≡ true =
      and_from (m.origin == i) (nat_le (reads s i) m.slot) (eq-eqb m.origin i now.origin) (le-leb (reads s i) m.slot (omega (arith, at, size))) in
      let none : may_send m to i ≡ false =
      false_from_ne_true (may_send m to i) (λ h.
      let parts = and_parts (m.origin == i) (nat_le (reads to i) m.slot) h in
      omega (arith, leb-true (reads to i) m.slot parts.1, turn_reads scenario s i may (o.unread i), at, size)) in
      omega (
        arith,
        one_if_true (may_send m s i) was,
        one_if_false (may_send m to i) none,
        one_at_most (holds_it m to i),
        one_if_weaker (may_relay timer m to i) (may_relay timer m s i) turn_relay,
      )

  own_turn_left : left timer m to i ≤ left timer m s i
  own_turn_left = elim (cases_Bool (holds_it m to i)) [
    | inr none ↦ left_falls timer m s to i (λ h. absurd (false≢true (sym none ∙ h))) turn_relay turn_send
    | inl held ↦
        let waiting = (and_parts (runs (node_at to.nodes i)) (waits (data_id m) (node_at to.nodes i).waiting) held).1 in
        let is_waiting : (node_at to.nodes i).waiting
        ≡ waiting_after (turn_effects (scenario_at scenario s i) i (next_notice s i ∷ past)) (node_at s.nodes i).waiting =
        ap (λ (n : NodeState). n.waiting) (after_turn-node scenario i s may (o.unread i)) in
        elim (waits-from_after (data_id m) (turn_effects (scenario_at scenario s i) i (next_notice s i ∷ past)) (node_at s.nodes i).waiting
        (sym (ap (waits (data_id m)) is_waiting) ∙ waiting)) [
          | inl before ↦
              left_falls timer m s to i (λ _. and_from (runs (node_at s.nodes i)) (waits (data_id m) (node_at s.nodes i).waiting) may.running before)
              turn_relay turn_send
          | inr asks ↦ asked_left (rel_asked (scenario_at scenario s i) m is rel i (next_notice s i) past asks)
        ]
  ]

  turn_left : (j : ℕ) → left timer m to j ≤ left timer m s j
  turn_left j = elim (cases_eq j i) [
    | inl same ↦ subst (λ k. left timer m to k ≤ left timer m s k) (sym same) own_turn_left
    | inr other ↦ same_left timer m s to j (same_after_turn scenario s i j other)
  ]

-- ---- every run

module _ (scenario : ScenarioParts) (few : scenario.params.nodes ≤ most_nodes) (m : Message) (is : IsOneOf (messages_of scenario.sends) m)
    (rel : m.service ≡ Rel) where
  abbrev wait : ℕ
  wait = scenario.params.confirm

  rel_left : IsLeft scenario (data_id m) (λ s. Unit {0}) (left wait m)
  rel_left = record {
    slot = λ s o may q i there. slot_left scenario wait m (script scenario.rules) s o i there;
    sent = λ s o may q f frame same clean offered.
        let there : offered.node < scenario.params.nodes = omega (arith, runs_within s.nodes offered.node offered.running, o.count) in
        sent_left scenario wait m (script scenario.rules) s o offered.node there f same offered.running offered.waits
        (sent_waits (script scenario.rules) s (data_id m) f same offered.node offered.running
        (has_sent (script scenario.rules) s f frame clean offered (omega (arith, there, few))));
    slot_lives = λ s o i there. slot_lives scenario (script scenario.rules) s o i there;
    restarts = λ s i there. restarts_left scenario wait m s i;
    turn = λ s i o may q j there. turn_left scenario m is rel s o i may j;
    turn_lives = λ s i o may j there. turn_lives scenario s i o may j;
  }

  first_left : total (left wait m (opening scenario.params.nodes)) scenario.params.nodes ≤ total (lives (opening scenario.params.nodes)) scenario.params.nodes
  first_left =
      let s : RunState = opening scenario.params.nodes in
      total_most (left wait m s) (lives s) scenario.params.nodes (λ i there.
      let node : node_at s.nodes i ≡ fresh = node_at-opening scenario.params.nodes i there in
      let none : holds_it m s i ≡ false = ap (λ (n : NodeState). runs n && waits (data_id m) n.waiting) node in
      let one : lives s i ≡ 1 = ap (λ (n : NodeState). suc (length n.ended)) node in
      omega (
        arith,
        one_if_false (holds_it m s i) none,
        one,
        either (m.origin == i) (not (has_copy (data_id m) (drop wait (history i s)))) (nat_le (reads s i) m.slot),
      ))

  pub rel_times : (journal : List Step)
      → times_clean (data_id m) (run scenario journal).trace ≤ incarnations_of_first (run scenario journal) scenario.params.nodes
  rel_times journal =
      let h = few_times scenario (data_id m) (λ s. Unit {0}) (left wait m) rel_left 0 (λ front. tt) (omega (arith, first_left)) journal in
      omega (arith, h)
