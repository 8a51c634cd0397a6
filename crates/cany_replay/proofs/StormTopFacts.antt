-- The run of a storm's scenario, and its summary.
use Rattle.std.proofs.Common.{◌≡◌, ℕ, List, Option, Some, None, option_and_then, unwrap_or, refl, ap, sym, subst, ◌∙◌, arith}
use Rattle.cany_base.specs.Scenario.{ScenarioParts}
use Rattle.cany_io.specs.Sink.{Takes, TakesPrefix}
use Rattle.cany_log.specs.Summary.{summary}
use Rattle.cany_model.specs.declared.follow.FollowFault.{FollowFault}
use Rattle.cany_model.specs.Runs.Follow.{journal_fault, journal_of}
use Rattle.cany_model.specs.Runs.RoundRobin.{round_robin}
use Rattle.cany_command.specs.declared.status.TheConstants.{DONE, NO_MEMORY, WRITE_FAULT}
use Rattle.cany_command.specs.declared.running.RunFault.{RunFault}
use Rattle.cany_command.specs.declared.running.RunFault.TheVariants.{Journal}
use Rattle.cany_command.specs.RunFaults.{IfJournal}
use Rattle.cany_replay.specs.Storm.{storm_scenario}
use Rattle.cany_replay.specs.StormTop.{IsStorm, storm_summary}
use Rattle.cany_command.specs.Promises.{KeepsPromises}
use Rattle.cany_command.specs.Refused.{own_fault}
use Rattle.cany_world.specs.World.{WorldParts}

-- a storm brings no journal
no_journal : (number : ℕ) → (storm_scenario number).journal ≡ None
unfolding storm_scenario
no_journal number = refl

-- so none is refused
no_fault : (number : ℕ) (scenario : ScenarioParts) (fault : FollowFault) → scenario ≡ storm_scenario number → own_fault scenario ≡ Some fault → ⊥
no_fault number scenario fault is found =
    let none : scenario.journal ≡ None = ap (λ (s : ScenarioParts). s.journal) is ∙ no_journal number in
    let e : None ≡ Some fault = sym (ap (option_and_then (journal_fault scenario)) none) ∙ found in
    absurd (cc)

pub not_refused : (number : ℕ) (scenario : ScenarioParts) (fault : RunFault) (found : FollowFault) → scenario ≡ storm_scenario number → fault ≡ Journal found
    → IfJournal fault (λ f. own_fault scenario ≡ Some f) → ⊥
not_refused number scenario fault found is journal refused =
    no_fault number scenario found is (subst (λ r. IfJournal r (λ f. own_fault scenario ≡ Some f)) journal refused)

-- the world of its run
run_by_turns : (number : ℕ) (scenario : ScenarioParts) (world : WorldParts) → scenario ≡ storm_scenario number → world ≡ record { scenario = scenario; journal = journal_of scenario }
    → summary number world.scenario world.journal ≡ storm_summary number
unfolding storm_summary
run_by_turns number scenario world is ran =
    ap (λ (w : WorldParts). summary number w.scenario w.journal) ran
    ∙ ap (λ (s : ScenarioParts). summary number s (journal_of s)) is
    ∙ ap (λ o. summary number (storm_scenario number) (unwrap_or o (round_robin (storm_scenario number)))) (no_journal number)

pub stormed : (number : ℕ) (scenario : ScenarioParts) (world : WorldParts) (old new : Option (List ℕ)) → scenario ≡ storm_scenario number
    → world ≡ record { scenario = scenario; journal = journal_of scenario } → Takes old (summary number world.scenario world.journal) new → KeepsPromises scenario
    → IsStorm number old new
stormed number scenario world old new is ran written promises = record {
  written = subst (λ text. Takes old text new) (run_by_turns number scenario world is ran) written;
  promises = subst KeepsPromises is promises;
}

pub stormed_in_part : (number : ℕ) (scenario : ScenarioParts) (world : WorldParts) (old new : Option (List ℕ)) → scenario ≡ storm_scenario number
    → world ≡ record { scenario = scenario; journal = journal_of scenario } → TakesPrefix old (summary number world.scenario world.journal) new
    → TakesPrefix old (storm_summary number) new
stormed_in_part number scenario world old new is ran part = subst (λ text. TakesPrefix old text new) (run_by_turns number scenario world is ran) part

-- the statuses of a written summary are not that of want of memory
pub done_is_no_memory : DONE ≡ NO_MEMORY → ⊥
done_is_no_memory e = absurd (omega (arith, e))

pub fault_is_no_memory : WRITE_FAULT ≡ NO_MEMORY → ⊥
fault_is_no_memory e = absurd (omega (arith, e))
