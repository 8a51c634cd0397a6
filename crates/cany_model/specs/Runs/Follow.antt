-- What keeps a journal from being legal and whole: its first step that is refused, or what it
-- leaves undone.
use Rattle.std.specs.Prelude.{ℕ, ◌+◌, if◌then◌else◌, List, [], ◌∷◌, take, Option, Some, None, option_map, unwrap_or}
use Rattle.cany_base.specs.declared.step.Step.{Step}
use Rattle.cany_base.specs.Scenario.{ScenarioParts}
use Rattle.cany_model.specs.declared.follow.FollowFault.{FollowFault}
use Rattle.cany_model.specs.declared.follow.FollowFault.TheVariants.{Refused, Unfinished}
use Rattle.cany_model.specs.Runs.RoundRobin.{round_robin}
use Rattle.cany_model.specs.Runs.Run.{reply, is_done, after_step, run, has_ended, first_lagging}
use Rattle.cany_model.specs.Bus.State.{RunState, opening, slots_run}

-- the fault of the first step that is not done, where the first of these steps has this place
unfoldable pub first_refused_from : ScenarioParts → RunState → ℕ → List Step → Option FollowFault
first_refused_from scenario s place [] = None
first_refused_from scenario s place (step ∷ journal) =
    if is_done (reply scenario s step) then first_refused_from scenario (after_step scenario s step) (place + 1) journal
    else Some (Refused place (reply scenario s step))

abbrev pub first_refused : ScenarioParts → List Step → Option FollowFault
first_refused scenario journal = first_refused_from scenario (opening scenario.params.nodes) 0 journal

-- the least running node with an unread notice
abbrev pub first_unread : RunState → Option ℕ
first_unread s = option_map (λ found. found.0) (first_lagging 0 0 s.nodes)

-- what a run leaves undone: how many slots ran, and the first node with something to read
abbrev pub undone : ScenarioParts → RunState → Option FollowFault
undone scenario s = if has_ended scenario s then None else Some (Unfinished (slots_run s) (first_unread s))

abbrev pub or_undone : Option FollowFault → Option FollowFault → Option FollowFault
or_undone (Some fault) otherwise = Some fault
or_undone None otherwise = otherwise

-- the first step that is refused; without one, what is left undone
unfoldable pub journal_fault : ScenarioParts → List Step → Option FollowFault
journal_fault scenario journal = or_undone (first_refused scenario journal) (undone scenario (run scenario journal))

-- the steps that are made: all of them, or those before the first that is refused
abbrev pub steps_made : List Step → Option FollowFault → List Step
steps_made journal None = journal
steps_made journal (Some (Refused place reply)) = take place journal
steps_made journal (Some (Unfinished ran left)) = journal

-- the scenario's own journal, where it has one; otherwise round robin
abbrev pub journal_of : ScenarioParts → List Step
journal_of scenario = unwrap_or scenario.journal (round_robin scenario)
