-- The incarnations of a node, with what became of each.
use Rattle.std.specs.Prelude.{ℕ, ◌-◌, ◌==◌, List, [], ◌∷◌, Option, find, option_map}
use Rattle.std.specs.Option.{option_map_or}
use Rattle.cany_base.specs.declared.log_entry.LogEntry.{LogEntry}
use Rattle.cany_base.specs.Scenario.{ScenarioParts}
use Rattle.cany_model.specs.declared.span.Span.{Span}
use Rattle.cany_model.specs.Bus.History.{ended_history}
use Rattle.cany_model.specs.Bus.State.{EndedIncarnation, RunState, node_at, reads}
use Rattle.cany_model.specs.Rules.Log.{log_from}
use Rattle.cany_model.specs.Rules.Turn.{scenario_for}

-- all of them, the newest first: the present one as if it ended now
abbrev pub incarnations : RunState → ℕ → List EndedIncarnation
incarnations s i =
    let node = node_at s.nodes i in
    record { incarnation = node.present; next = reads s i; stopped = node.stopped } ∷ node.ended

unfoldable pub incarnation_of : RunState → ℕ → ℕ → Option EndedIncarnation
incarnation_of s i number = find (λ e. e.incarnation.number == number) (incarnations s i)

abbrev pub span_from : EndedIncarnation → Span
span_from e = record { since = e.incarnation.since; stopped = e.stopped; read = e.next - e.incarnation.since }

-- from when to when an incarnation of node i ran, and how many notices it read
abbrev pub span_of : RunState → ℕ → ℕ → Option Span
span_of s i number = option_map span_from (incarnation_of s i number)

-- the log of an incarnation of node i: an earlier one keeps the log that it had when the next one
-- began
abbrev pub log_of : ScenarioParts → RunState → ℕ → ℕ → List LogEntry
log_of scenario s i number =
    option_map_or (λ e. log_from (scenario_for scenario e.incarnation) i (ended_history i s.trace e)) (incarnation_of s i number) []
