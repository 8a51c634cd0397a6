-- A journal has no fault exactly where it is legal and whole.
use Rattle.std.specs.Prelude.{◌≡◌, ◌↔◌, ℕ, ◌+◌, Bool, true, false, ◌&&◌, if◌then◌else◌, List, [], ◌∷◌, Option, Some, None, refl}
use Rattle.cany_base.specs.declared.step.Step.{Step}
use Rattle.cany_base.specs.Scenario.{ScenarioParts}
use Rattle.cany_model.specs.declared.follow.FollowFault.{FollowFault}
use Rattle.cany_model.specs.declared.follow.FollowFault.TheVariants.{Refused, Unfinished}
use Rattle.cany_model.specs.Runs.Follow.{first_refused_from, first_refused, first_unread, undone, or_undone, journal_fault}
use Rattle.cany_model.specs.Runs.Run.{reply, is_done, after_step, run, is_legal_from, has_ended, IsLegal, IsWhole}
use Rattle.cany_model.specs.Bus.State.{RunState, opening, slots_run}

-- where a test chooses between going on and a fault
on_or_fault : (done : Bool) (rest : Option FollowFault) (fault : FollowFault) (legal : Bool) → (rest ≡ None) ↔ (legal ≡ true)
    → ((if done then rest else Some fault) ≡ None) ↔ ((done && legal) ≡ true)
on_or_fault true rest fault legal same = same
on_or_fault false rest fault legal same = (λ h. cc h, λ h. cc h)

no_step_refused : (scenario : ScenarioParts) (s : RunState) (place : ℕ) (journal : List Step)
    → (first_refused_from scenario s place journal ≡ None) ↔ (is_legal_from scenario s journal ≡ true)
unfolding first_refused_from is_legal_from
no_step_refused scenario s place [] = (λ h. refl, λ h. refl)
no_step_refused scenario s place (step ∷ journal) =
    on_or_fault (is_done (reply scenario s step)) (first_refused_from scenario (after_step scenario s step) (place + 1) journal)
    (Refused place (reply scenario s step)) (is_legal_from scenario (after_step scenario s step) journal)
    (no_step_refused scenario (after_step scenario s step) (place + 1) journal)

none_or_fault : (ended : Bool) (fault : FollowFault) → ((if ended then None else Some fault) ≡ None) ↔ (ended ≡ true)
none_or_fault true fault = (λ h. refl, λ h. refl)
none_or_fault false fault = (λ h. cc h, λ h. cc h)

neither : (first otherwise : Option FollowFault) → (or_undone first otherwise ≡ None) ↔ ((first ≡ None) × (otherwise ≡ None))
neither None otherwise = (λ h. (refl, h), λ h. h.1)
neither (Some fault) otherwise = (λ h. cc h, λ h. cc (h.0))

pub no_fault_exactly : (scenario : ScenarioParts) (journal : List Step)
    → (journal_fault scenario journal ≡ None) ↔ (IsLegal scenario journal × IsWhole scenario journal)
unfolding journal_fault
no_fault_exactly scenario journal =
    let both = neither (first_refused scenario journal) (undone scenario (run scenario journal)) in
    let steps = no_step_refused scenario (opening scenario.params.nodes) 0 journal in
    let rest = none_or_fault (has_ended scenario (run scenario journal)) (Unfinished (slots_run (run scenario journal)) (first_unread (run scenario journal))) in (
      λ h. (steps.0 (both.0 h).0, rest.0 (both.0 h).1),
      λ h. both.1 (steps.1 h.0, rest.1 h.1),
    )
