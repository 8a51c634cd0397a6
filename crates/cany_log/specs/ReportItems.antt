-- What is written of each item of a report.
use Rattle.std.specs.Prelude.{ℕ, ◌+◌, ◌*◌, ◌/◌, if◌then◌else◌, List, [], length, take, drop}
use Rattle.cany_base.specs.declared.slot_note.SlotNote.{SlotNote}
use Rattle.cany_base.specs.declared.step.Step.{Step}
use Rattle.cany_base.specs.Scenario.{ScenarioParts}
use Rattle.cany_model.specs.Bus.Restart.{restarted_in}
use Rattle.cany_model.specs.Bus.State.{RunState}
use Rattle.cany_model.specs.Promises.Settled.{is_settled}
use Rattle.cany_model.specs.Rules.Messages.{Message}
use Rattle.cany_text.specs.ReportLines.{journal_line, bus_line, is_shown, message_line}

-- how many lines the journal takes
abbrev pub line_count : List Step → ℕ
line_count journal = (length journal + 63) / 64

-- the line of the steps from 64 * k on
abbrev pub journal_text : List Step → ℕ → List ℕ
journal_text journal k = journal_line (take 64 (drop (64 * k) journal))

-- what is written of a slot
abbrev pub shown_line : RunState → SlotNote → List ℕ
shown_line s note = if is_shown note (restarted_in s note.slot) then bus_line note (restarted_in s note.slot) else []

-- what is written of a message
abbrev pub message_text : ScenarioParts → RunState → Message → List ℕ
message_text scenario s m = message_line m (is_settled scenario s m)
