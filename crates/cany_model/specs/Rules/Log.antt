-- A node's log: the entries of its turns, oldest first.
use Rattle.std.specs.Prelude.{ℕ, List, [], ◌∷◌, ◌++◌}
use Rattle.cany_base.specs.declared.log_entry.LogEntry.{LogEntry}
use Rattle.cany_base.specs.declared.notice.NoticeKind.{NoticeKind}
use Rattle.cany_base.specs.Scenario.{ScenarioParts}
use Rattle.cany_model.specs.Rules.Effect.{entered}
use Rattle.cany_model.specs.Bus.History.{history}
use Rattle.cany_model.specs.Bus.State.{RunState}
use Rattle.cany_model.specs.Rules.Turn.{scenario_at, turn_effects}

-- the log that what was read leads to
unfoldable pub log_from : ScenarioParts → ℕ → List NoticeKind → List LogEntry
log_from scenario i [] = []
log_from scenario i (notice ∷ before) = log_from scenario i before ++ entered (turn_effects scenario i (notice ∷ before))

-- that of the present incarnation
abbrev pub log : ScenarioParts → RunState → ℕ → List LogEntry
log scenario s i = log_from (scenario_at scenario s i) i (history i s)
