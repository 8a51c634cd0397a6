-- A node that runs now, and has been in its incarnation since a slot, was in it and ran when a
-- later slot was run, and had then read the same up to that slot.
use Rattle.std.proofs.Common.{◌≡◌, ℕ, suc, ◌+◌, ◌-◌, ◌<◌, ◌≤◌, ◌⊎◌, inl, inr, true, List, [], ◌∷◌, ◌++◌, length, map, drop, refl, ap, sym, ◌∙◌, subst, arith, drop-drop, length-append}
use Rattle.std.proofs.Math.Seq.{drop-append_seam}
use Rattle.cany_base.specs.declared.step.Step.{Step}
use Rattle.cany_base.specs.Scenario.{ScenarioParts}
use Rattle.cany_model.specs.Bus.History.{given, seen}
use Rattle.cany_model.specs.Bus.Restart.{after_restarts}
use Rattle.cany_model.specs.Bus.Slot.{FaultScript, after_slot, script}
use Rattle.cany_model.specs.Bus.State.{Incarnation, NodeState, RunState, node_at, reads, runs}
use Rattle.cany_model.specs.Promises.Acceptance.{history_to}
use Rattle.cany_model.specs.Runs.Run.{after_turn, run}
use Rattle.cany_model.proofs.Bus.Restarts.{restarts_or_stays}
use Rattle.cany_model.proofs.Bus.Seen.{drop_seen, history-is}
use Rattle.cany_model.proofs.Runs.Runs.{orderly}
use Rattle.cany_model.proofs.Runs.Steps.{MayTurn, after_slot-present, after_slot-trace, after_turn-present, after_turn-runs, after_turn-trace, running_before_slot}
use Rattle.cany_laws.proofs.KeptAlongJournal.{drop-map, IsKeptOn, kept_on, one_longer}
use Rattle.cany_model.proofs.Timed.Views.StartViews.{front_split}

-- node i began again after slot t, or is in the incarnation that it was in then, and ran then if it
-- runs
pub record IsSince (then : RunState) (t i : ℕ) (s : RunState) : Type 0 where
  pub grown : t ≤ length s.trace
  pub present : (t < (node_at s.nodes i).present.since)
      ⊎ (((node_at s.nodes i).present ≡ (node_at then.nodes i).present) × (runs (node_at s.nodes i) ≡ true → runs (node_at then.nodes i) ≡ true))

-- what goes on keeps it
pub since_kept : (scenario : ScenarioParts) (then : RunState) (t i : ℕ) → i < scenario.params.nodes → IsKeptOn scenario (IsSince then t i)
since_kept scenario then t i there = record {
  slot = λ journal may h.
      let s : RunState = run scenario journal in
      let rules : FaultScript = script scenario.rules in
      let slot : RunState = after_slot rules s in
      let below : i < length s.nodes = omega (arith, there, (orderly scenario journal).count) in
      let present : (node_at slot.nodes i).present ≡ (node_at s.nodes i).present = after_slot-present rules s i below in
      record {
        grown = omega (arith, one_longer scenario s, h.grown);
        present = elim (restarts_or_stays scenario slot i) [
          | inl new ↦ inl (subst (λ (inc : Incarnation). t < inc.since) (sym (ap (λ (n : NodeState). n.present) new.is))
              (omega (arith, ap length (after_slot-trace rules s), h.grown)))
          | inr stays ↦ elim h.present [
            | inl after ↦ inl (subst (λ (inc : Incarnation). t < inc.since) (sym (ap (λ (n : NodeState). n.present) stays ∙ present)) after)
            | inr same ↦ inr (
              ap (λ (n : NodeState). n.present) stays ∙ present ∙ same.0,
              λ r. same.1 (running_before_slot rules s i (sym (ap (λ (n : NodeState). runs n) stays) ∙ r)).0,
            )
          ]
        ];
      };
  turn = λ journal j may h.
      let s : RunState = run scenario journal in
      let short : (node_at s.nodes j).unread ≤ length s.trace = (orderly scenario journal).unread j in
      let present : (node_at (after_turn scenario j s).nodes i).present ≡ (node_at s.nodes i).present = after_turn-present scenario j s i may short in
      record {
        grown = subst (λ trace. t ≤ length trace) (sym (after_turn-trace scenario j s)) h.grown;
        present = elim h.present [
          | inl later ↦ inl (subst (λ (inc : Incarnation). t < inc.since) (sym present) later)
          | inr same ↦ inr (present ∙ same.0, λ r. same.1 (sym (after_turn-runs scenario j s i may short) ∙ r))
        ];
      };
}

-- after a front of the journal the node was in its incarnation, where that began before, and ran
pub ran_in : (scenario : ScenarioParts) (journal front rest : List Step) → journal ≡ front ++ rest → (i : ℕ) → i < scenario.params.nodes
    → runs (node_at (run scenario journal).nodes i) ≡ true → (node_at (run scenario journal).nodes i).present.since ≤ length (run scenario front).trace
    → ((node_at (run scenario journal).nodes i).present ≡ (node_at (run scenario front).nodes i).present) × (runs (node_at (run scenario front).nodes i) ≡ true)
ran_in scenario journal front rest whole i there running begun =
    let then : RunState = run scenario front in
    let t : ℕ = length then.trace in
    let h = subst (λ j. IsSince then t i (run scenario j)) (sym whole)
    (kept_on scenario (IsSince then t i) (since_kept scenario then t i there) front rest (record { grown = omega arith; present = inr (refl, λ r. r) })) in
    elim h.present [
      | inl later ↦ absurd (omega (arith, later, begun))
      | inr same ↦ (same.0, same.1 running)
    ]

-- ---- what it has read up to a slot

-- by the trace as it was after that slot
pub read_to : (i : ℕ) (s : RunState) (t : ℕ) → (node_at s.nodes i).unread ≤ length s.trace → t < reads s i
    → history_to t i s ≡ map (given i) (seen (node_at s.nodes i).present (drop (length s.trace - (t + 1)) s.trace))
read_to i s t short read =
    let inc : Incarnation = (node_at s.nodes i).present in
    let unread : ℕ = (node_at s.nodes i).unread in
    ap (drop (reads s i - (t + 1))) (history-is i s)
    ∙ drop-map (reads s i - (t + 1)) (given i) (drop unread (seen inc s.trace))
    ∙ ap (map (given i))
    (drop-drop (reads s i - (t + 1)) unread (seen inc s.trace)
    ∙ ap (λ n. drop n (seen inc s.trace)) (omega (arith, short, read))
    ∙ drop_seen (length s.trace - (t + 1)) inc s.trace)

-- so it is the same in the front, where it had read the slot then
pub same_to : (scenario : ScenarioParts) (journal front rest : List Step) → journal ≡ front ++ rest → (i t : ℕ)
    → (node_at (run scenario journal).nodes i).present ≡ (node_at (run scenario front).nodes i).present
    → t < reads (run scenario journal) i → t < reads (run scenario front) i
    → history_to t i (run scenario journal) ≡ history_to t i (run scenario front)
same_to scenario journal front rest whole i t present read read_then =
    let s : RunState = run scenario journal in
    let then : RunState = run scenario front in
    let split = front_split scenario journal front rest whole in
    let size : length s.trace ≡ length split.0 + length then.trace = ap length split.1 ∙ length-append split.0 then.trace in
    let same : drop (length s.trace - (t + 1)) s.trace ≡ drop (length then.trace - (t + 1)) then.trace =
    ap (λ n. drop n s.trace) (ages size)
    ∙ sym (drop-drop (length then.trace - (t + 1)) (length split.0) s.trace)
    ∙ ap (λ trace. drop (length then.trace - (t + 1)) (drop (length split.0) trace)) split.1
    ∙ ap (drop (length then.trace - (t + 1))) (drop-append_seam split.0 then.trace) in
    read_to i s t ((orderly scenario journal).unread i) read
    ∙ ap (λ (inc : Incarnation). map (given i) (seen inc (drop (length s.trace - (t + 1)) s.trace))) present
    ∙ ap (λ trace. map (given i) (seen (node_at then.nodes i).present trace)) same
    ∙ sym (read_to i then t ((orderly scenario front).unread i) read_then)
  where
    ages : length (run scenario journal).trace ≡ length (front_split scenario journal front rest whole).0 + length (run scenario front).trace
        → length (run scenario journal).trace - (t + 1)
        ≡ length (front_split scenario journal front rest whole).0 + (length (run scenario front).trace - (t + 1))
    ages size = omega (arith, size, read_then)
