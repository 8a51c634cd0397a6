-- What holds of each incarnation: it takes part since the slot from which on it has notices or
-- since a later one, and that of the opening since slot 0.
use Rattle.std.proofs.Common.{◌≡◌, ℕ, ◌+◌, ◌≤◌, ◌⊎◌, inl, inr, List, length, refl, sym, subst, arith}
use Rattle.std.proofs.lemmas.Bool.{cases_lt}
use Rattle.std.proofs.lemmas.List.{length-replicate}
use Rattle.cany_base.specs.declared.step.Step.{Step}
use Rattle.cany_base.specs.Params.{Parameters}
use Rattle.cany_base.specs.Scenario.{ScenarioParts}
use Rattle.cany_model.specs.Bus.Restart.{next_incarnation}
use Rattle.cany_model.specs.Bus.Slot.{after_slot, script}
use Rattle.cany_model.specs.Bus.State.{EndedIncarnation, Incarnation, NodeState, RunState, fresh, node_at, opening, original}
use Rattle.cany_model.specs.Runs.Run.{run}
use Rattle.cany_model.proofs.Bus.Restarts.{restarts_or_stays}
use Rattle.cany_model.proofs.Bus.States.{node_at-opening, node_at_past}
use Rattle.cany_model.proofs.Runs.PresentIncarnations.{each_present}
use Rattle.cany_model.proofs.Runs.Runs.{along_run}
use Rattle.cany_model.proofs.Runs.Steps.{after_slot-length, after_slot-present, after_turn-present}
use Rattle.cany_laws.proofs.Silences.Lives.{Lived}

pub record Begins (p : Parameters) (inc : Incarnation) : Type 0 where
  pub since : inc.since ≤ inc.from
  pub first : inc.number ≡ 0 → inc.from ≡ 0
  pub apart : (inc.since ≡ 0) ⊎ (inc.since + p.bound ≤ inc.from)

pub begins_now : (scenario : ScenarioParts) (journal : List Step) (i : ℕ) → Begins scenario.params (node_at (run scenario journal).nodes i).present
begins_now scenario =
    each_present scenario (Begins scenario.params) (record { since = omega arith; first = λ h. refl; apart = inl refl })
    (λ slot inc. record { since = omega arith; first = λ h. absurd (omega (arith, h)); apart = inr (omega arith) })

pub begins : (scenario : ScenarioParts) (journal : List Step) (i : ℕ) (e : EndedIncarnation) → Lived scenario journal i e → Begins scenario.params e.incarnation
begins scenario journal i e l = subst (Begins scenario.params) l.present (begins_now scenario l.front i)
