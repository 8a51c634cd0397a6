-- No step of a run reads the journal that a scenario has of its own: with another one a journal has
-- the same run, and the same fault.
use Rattle.std.specs.Prelude.{◌≡◌, ℕ, ◌+◌, List, [], ◌∷◌, Option, refl}
use Rattle.std.proofs.Common.{ap, ◌∙◌}
use Rattle.cany_base.specs.declared.step.Step.{Step}
use Rattle.cany_base.specs.declared.step.Step.TheVariants.{Slot, Turn}
use Rattle.cany_base.specs.Scenario.{ScenarioParts}
use Rattle.cany_model.specs.declared.follow.FollowFault.{FollowFault}
use Rattle.cany_model.specs.Runs.Follow.{first_refused_from, first_refused, undone, or_undone, journal_fault}
use Rattle.cany_model.specs.Bus.History.{history}
use Rattle.cany_model.specs.Bus.Restart.{after_entries, nodes_after_entries, after_restarts}
use Rattle.cany_model.specs.Runs.Run.{after_step, after_turn, after_reading, proceed, reply, run, run_from, with_waiting}
use Rattle.cany_model.specs.Bus.State.{NodeState, RunState, node_at, opening}
use Rattle.cany_model.specs.Rules.Effect.{Effect, waiting_after}
use Rattle.cany_text.specs.Replayed.{with_journal}
use Rattle.cany_text.proofs.SameRunRules.{same_effects}

same_reply : (given : Option (List Step)) (scenario : ScenarioParts) (s : RunState) (step : Step)
    → reply (with_journal given scenario) s step ≡ reply scenario s step
unfolding reply
same_reply given scenario s Slot = refl
same_reply given scenario s (Turn i) = refl

same_turn : (given : Option (List Step)) (scenario : ScenarioParts) (i : ℕ) (s : RunState)
    → after_turn (with_journal given scenario) i s ≡ after_turn scenario i s
unfolding after_turn
same_turn given scenario i s =
    let read : RunState = after_reading i s in
    let node : NodeState = node_at read.nodes i in
    ap (λ (effects : List Effect). with_waiting i read (record node { waiting = waiting_after effects node.waiting }))
    (same_effects given scenario node.present.number node.present i (history i read))

same_proceed : (given : Option (List Step)) (scenario : ScenarioParts) (s : RunState) (step : Step)
    → proceed (with_journal given scenario) s step ≡ proceed scenario s step
unfolding after_entries after_restarts nodes_after_entries proceed
same_proceed given scenario s Slot = refl
same_proceed given scenario s (Turn i) = same_turn given scenario i s

same_step : (given : Option (List Step)) (scenario : ScenarioParts) (s : RunState) (step : Step)
    → after_step (with_journal given scenario) s step ≡ after_step scenario s step
unfolding after_step
same_step given scenario s step = rw (same_reply given scenario s step) (rw (same_proceed given scenario s step) refl)

same_run_from : (given : Option (List Step)) (scenario : ScenarioParts) (s : RunState) (journal : List Step)
    → run_from (with_journal given scenario) s journal ≡ run_from scenario s journal
unfolding run_from
same_run_from given scenario s [] = refl
same_run_from given scenario s (step ∷ journal) =
    ap (λ (t : RunState). run_from (with_journal given scenario) t journal) (same_step given scenario s step)
    ∙ same_run_from given scenario (after_step scenario s step) journal

pub same_run : (given : Option (List Step)) (scenario : ScenarioParts) (journal : List Step)
    → run (with_journal given scenario) journal ≡ run scenario journal
same_run given scenario journal = same_run_from given scenario (opening scenario.params.nodes) journal

same_refused : (given : Option (List Step)) (scenario : ScenarioParts) (s : RunState) (place : ℕ) (journal : List Step)
    → first_refused_from (with_journal given scenario) s place journal ≡ first_refused_from scenario s place journal
unfolding first_refused_from
same_refused given scenario s place [] = refl
same_refused given scenario s place (step ∷ journal) =
    rw (same_reply given scenario s step) (rw (same_step given scenario s step)
    (rw (same_refused given scenario (after_step scenario s step) (place + 1) journal) refl))

pub same_fault : (given : Option (List Step)) (scenario : ScenarioParts) (journal : List Step)
    → journal_fault (with_journal given scenario) journal ≡ journal_fault scenario journal
unfolding journal_fault
same_fault given scenario journal =
    ap (λ (first : Option FollowFault). or_undone first (undone scenario (run (with_journal given scenario) journal)))
    (same_refused given scenario (opening scenario.params.nodes) 0 journal)
    ∙ ap (λ (s : RunState). or_undone (first_refused scenario journal) (undone scenario s)) (same_run given scenario journal)
