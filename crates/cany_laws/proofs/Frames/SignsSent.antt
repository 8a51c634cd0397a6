-- How often the bus carries the frame of a failure sign: no more often than its nodes have had
-- incarnations.
use Rattle.std.proofs.Common.{Bool, List, ap, arith, count_by, drop, false, inl, inr, length, map, refl, subst, sym, true, ℕ, ◌+◌, ◌<◌, ◌∙◌, ◌∷◌, ◌≡◌, ◌≤◌}
use Rattle.std.proofs.lemmas.Bool.{cases_eq}
use Rattle.cany_base.specs.declared.slot_note.SlotNote.{SlotNote}
use Rattle.cany_base.specs.declared.step.Step.{Step}
use Rattle.cany_base.specs.Limits.{most_nodes}
use Rattle.cany_base.specs.Scenario.{ScenarioParts}
use Rattle.cany_model.specs.Bus.History.{given, history, seen}
use Rattle.cany_model.specs.Bus.Restart.{after_restarts}
use Rattle.cany_model.specs.Bus.Slot.{FaultScript, after_slot}
use Rattle.cany_model.specs.Bus.State.{Incarnation, NodeState, RunState, node_at}
use Rattle.cany_model.specs.Rules.Knowledge.{FailureSign, fda_of, knows}
use Rattle.cany_model.specs.Rules.KnowledgeOf.{knowledge_of}
use Rattle.cany_model.specs.Rules.Turn.{scenario_at, scenario_for, turn_effects}
use Rattle.cany_model.specs.Runs.Run.{after_turn, run}
use Rattle.cany_model.proofs.Among.{Among, one_at_most, one_if}
use Rattle.cany_model.proofs.Bus.Restarts.{after_restarts-trace, restarts_or_stays}
use Rattle.cany_model.proofs.Bus.Seen.{history-is}
use Rattle.cany_model.proofs.Rules.Site.KnowledgeFacts.{known_stays}
use Rattle.cany_model.proofs.Rules.Site.SignFacts.{asked_is_known}
use Rattle.cany_model.proofs.Rules.TurnFacts.{fda_cause}
use Rattle.cany_model.proofs.Runs.Runs.{IsOrderly}
use Rattle.cany_model.proofs.Runs.Steps.{MayTurn, after_slot-history, after_slot-present, after_turn-history, after_turn-other, after_turn-other_history, after_turn-present, next_notice}
use Rattle.cany_model.proofs.Rules.Waits.{Asks}
use Rattle.cany_model.proofs.Timed.Order.TotKept.{NoSilent}
use Rattle.cany_model.proofs.Timed.Order.TotRun.{tot_kept}
use Rattle.cany_laws.specs.Carried.{incarnations_of_first, times_clean}
use Rattle.cany_laws.proofs.Frames.CarriedCounts.{by_senders, sent_by}
use Rattle.cany_laws.proofs.Frames.CarriedSends.{CountsAsks, sent_so_often}
use Rattle.cany_laws.proofs.Frames.CarriedSigns.{asked_is_new}
use Rattle.cany_laws.proofs.KeptAlongJournal.{after_slot-ended, after_turn-ended}
use Rattle.cany_laws.proofs.Waiting.WaitTimes.{below_is, lives}
use Rattle.cany_laws.proofs.Waiting.WaitTotals.{one_if_weaker, total_most}

module _ (scenario : ScenarioParts) (sign : FailureSign) where
  abbrev known_at : RunState → ℕ → Bool
  known_at s i = knows sign (knowledge_of (scenario_at scenario s i) i (history i s))

  -- how many incarnations of node i have ended, and the present one with them once it knows the
  -- sign
  abbrev knowing : ℕ → RunState → ℕ
  knowing i s = length (node_at s.nodes i).ended + one_if (known_at s i)

  -- ---- a slot and the restarts at its end

  slot_known : (rules : FaultScript) (s : RunState) (i : ℕ) → i < length s.nodes → known_at (after_slot rules s) i ≡ known_at s i
  slot_known rules s i below =
      ap (λ (inc : Incarnation). knows sign (knowledge_of (scenario_for scenario inc) i (history i (after_slot rules s)))) (after_slot-present rules s i below)
      ∙ ap (λ h. knows sign (knowledge_of (scenario_at scenario s i) i h)) (after_slot-history rules s i below)

  same_known : (s : RunState) (i : ℕ) → node_at (after_restarts scenario s).nodes i ≡ node_at s.nodes i → known_at (after_restarts scenario s) i ≡ known_at s i
  same_known s i same =
      let r : RunState = after_restarts scenario s in
      let of : NodeState → List SlotNote → Bool = λ node t.
      knows sign (knowledge_of (scenario_for scenario node.present) i (map (given i) (drop node.unread (seen node.present t)))) in
      ap (λ l. knows sign (knowledge_of (scenario_at scenario r i) i l)) (history-is i r)
      ∙ ap (λ node. of node r.trace) same ∙ ap (of (node_at s.nodes i)) (after_restarts-trace scenario s)
      ∙ sym (ap (λ l. knows sign (knowledge_of (scenario_at scenario s i) i l)) (history-is i s))

  at_restart : (s : RunState) (i : ℕ) → knowing i s ≤ knowing i (after_restarts scenario s)
  at_restart s i = elim (restarts_or_stays scenario s i) [
    | inl new ↦ let ended = ap (λ (node : NodeState). length node.ended) new.is in omega (arith, ended, one_at_most (known_at s i))
    | inr same ↦ let ended = ap (λ (node : NodeState). length node.ended) same in omega (arith, ended, ap one_if (same_known s i same))
  ]

  -- ---- a turn

  known_next : (s : RunState) (i : ℕ) → IsOrderly scenario.params.nodes s → MayTurn s i
      → known_at (after_turn scenario i s) i ≡ knows sign (knowledge_of (scenario_at scenario s i) i (next_notice s i ∷ history i s))
  known_next s i o may =
      ap (λ (inc : Incarnation). knows sign (knowledge_of (scenario_for scenario inc) i (history i (after_turn scenario i s))))
      (after_turn-present scenario i s i may (o.unread i))
      ∙ ap (λ l. knows sign (knowledge_of (scenario_at scenario s i) i l)) (after_turn-history scenario i s may (o.unread i))

  own_turn : (s : RunState) (i : ℕ) → IsOrderly scenario.params.nodes s → MayTurn s i → knowing i s ≤ knowing i (after_turn scenario i s)
  own_turn s i o may =
      let later : one_if (known_at s i) ≤ one_if (known_at (after_turn scenario i s) i) =
      one_if_weaker (known_at s i) (known_at (after_turn scenario i s) i)
      (λ k. known_next s i o may ∙ known_stays (scenario_at scenario s i) i (next_notice s i) (history i s) sign k) in
      omega (arith, later, ap length (after_turn-ended scenario i s i may (o.unread i)))

  other_turn : (s : RunState) (i j : ℕ) → (i ≡ j → ⊥) → IsOrderly scenario.params.nodes s → MayTurn s j → knowing i s ≤ knowing i (after_turn scenario j s)
  other_turn s i j other o may =
      let known : known_at (after_turn scenario j s) i ≡ known_at s i =
      ap (λ (n : NodeState). knows sign (knowledge_of (scenario_for scenario n.present) i (history i (after_turn scenario j s)))) (after_turn-other scenario j s i other)
      ∙ ap (λ l. knows sign (knowledge_of (scenario_at scenario s i) i l)) (after_turn-other_history scenario j s i other) in
      omega (arith, ap one_if known, ap length (after_turn-ended scenario j s i may (o.unread j)))

  -- a turn that asks for the frame is the first that knows the sign
  asks_once : (s : RunState) (i : ℕ) → IsOrderly scenario.params.nodes s → MayTurn s i
      → Among (Asks (fda_of sign)) (turn_effects (scenario_at scenario s i) i (next_notice s i ∷ history i s))
      → knowing i s < knowing i (after_turn scenario i s)
  asks_once s i o may asks =
      let sc : ScenarioParts = scenario_at scenario s i in
      let cause = fda_cause sc i (fda_of sign) (next_notice s i ∷ history i s) refl asks in
      let new : known_at s i ≡ false = asked_is_new sc i (next_notice s i) (history i s) sign cause in
      let now : known_at (after_turn scenario i s) i ≡ true = known_next s i o may ∙ asked_is_known sc i (next_notice s i ∷ history i s) sign cause in
      omega (arith, ap one_if new, ap one_if now, ap length (after_turn-ended scenario i s i may (o.unread i)))

  -- ---- every run

  counts : (i : ℕ) → i < scenario.params.nodes → CountsAsks scenario (fda_of sign) i (knowing i)
  counts i there = record {
    slot = λ rules s o.
        let below : i < length s.nodes = omega (arith, there, o.count) in
        omega (arith, ap length (after_slot-ended rules s i below), ap one_if (slot_known rules s i below));
    restarts = λ s o. at_restart s i;
    turn = λ s j o may. elim (cases_eq i j) [
      | inl same ↦ subst (λ k. knowing i s ≤ knowing i (after_turn scenario k s)) same (own_turn s i o (subst (MayTurn s) (sym same) may))
      | inr other ↦ other_turn s i j other o may
    ];
    asks = λ s o may asks. asks_once s i o may asks;
  }

  pub signs_few : (journal : List Step) → scenario.params.nodes ≤ most_nodes → NoSilent (run scenario journal).trace
      → times_clean (fda_of sign) (run scenario journal).trace ≤ incarnations_of_first (run scenario journal) scenario.params.nodes
  signs_few journal few plain =
      let s : RunState = run scenario journal in
      let by = by_senders scenario s.trace (tot_kept scenario few journal plain).trace (fda_of sign) in
      let sums =
      total_most (λ i. count_by (sent_by (fda_of sign) i) s.trace) (lives s) scenario.params.nodes (λ i there.
      omega (arith, sent_so_often scenario (fda_of sign) i (knowing i) (counts i there) journal, one_at_most (known_at s i))) in
      omega (arith, by, sums, below_is scenario.params.nodes s)
