-- The summary of a storm's run: how many slots, log entries and messages there are of each kind.
use Rattle.std.specs.Prelude.{ℕ, suc, ◌&&◌, Bool, true, false, not, List, [], ◌∷◌, count_by, codes, decimal}
use Rattle.std.specs.List.{concat, flat_map, range_with_len}
use Rattle.cany_base.specs.declared.log_entry.LogEntry.{LogEntry}
use Rattle.cany_base.specs.declared.log_entry.LogEntry.TheVariants.{Deliver, Failed, View}
use Rattle.cany_base.specs.declared.rule.Verdict.{Verdict}
use Rattle.cany_base.specs.declared.rule.Verdict.TheVariants.{Clean, Lost, Partial, Silent}
use Rattle.cany_base.specs.declared.slot_note.SlotNote.{SlotNote}
use Rattle.cany_base.specs.declared.step.Step.{Step}
use Rattle.cany_base.specs.Scenario.{ScenarioParts}
use Rattle.cany_model.specs.Runs.Incarnations.{log_of}
use Rattle.cany_model.specs.Runs.Run.{run}
use Rattle.cany_model.specs.Bus.Slot.{carried}
use Rattle.cany_model.specs.Bus.State.{RunState, node_at}
use Rattle.cany_model.specs.Promises.Hypothesis.{any_frame, first_break, is_partial, is_silent}
use Rattle.cany_model.specs.Promises.Settled.{is_settled}
use Rattle.cany_model.specs.Rules.Messages.{messages_of}
use Rattle.cany_text.specs.ReportLines.{line_of, hypothesis_line}

-- ---- slots

abbrev pub is_lost : Verdict → Bool
is_lost Clean = false
is_lost Lost = true
is_lost (Partial reject) = false
is_lost (Silent reject) = false

-- how many slots carried a frame
abbrev pub frames : List SlotNote → ℕ
frames trace = count_by (carried any_frame) trace

-- how many of them have a verdict that passes the test
abbrev pub frames_where : (Verdict → Bool) → List SlotNote → ℕ
frames_where test trace = count_by (λ note. carried any_frame note && test note.verdict) trace

unfoldable pub frames_line : List SlotNote → List ℕ
frames_line trace = line_of (
    codes "frames" ∷ decimal (frames trace)
    ∷ codes "lost" ∷ decimal (frames_where is_lost trace)
    ∷ codes "partial" ∷ decimal (frames_where is_partial trace)
    ∷ codes "silent" ∷ decimal (frames_where is_silent trace) ∷ [])

-- ---- entries

abbrev pub is_delivery : LogEntry → Bool
is_delivery (Deliver slot service message payload) = true
is_delivery (Failed slot node cycle) = false
is_delivery (View slot number members) = false

abbrev pub is_failure : LogEntry → Bool
is_failure (Deliver slot service message payload) = false
is_failure (Failed slot node cycle) = true
is_failure (View slot number members) = false

abbrev pub is_view : LogEntry → Bool
is_view (Deliver slot service message payload) = false
is_view (Failed slot node cycle) = false
is_view (View slot number members) = true

-- the logs of all incarnations of a node, the first one first
unfoldable pub entries_of_node : ScenarioParts → RunState → ℕ → List LogEntry
entries_of_node scenario s i = flat_map (log_of scenario s i) (range_with_len 0 (suc (node_at s.nodes i).present.number))

-- the logs of all nodes, stopped ones included
unfoldable pub all_entries : ScenarioParts → RunState → List LogEntry
all_entries scenario s = flat_map (entries_of_node scenario s) (range_with_len 0 scenario.params.nodes)

unfoldable pub entries_line : List LogEntry → List ℕ
entries_line entries = line_of (
    codes "deliveries" ∷ decimal (count_by is_delivery entries) ∷ codes "failures" ∷ decimal (count_by is_failure entries)
    ∷ codes "views" ∷ decimal (count_by is_view entries) ∷ [])

-- ---- messages

-- how many messages are settled
unfoldable pub settled_count : ScenarioParts → RunState → ℕ
settled_count scenario s = count_by (is_settled scenario s) (messages_of scenario.sends)

-- how many are not
unfoldable pub open_count : ScenarioParts → RunState → ℕ
open_count scenario s = count_by (λ m. not (is_settled scenario s m)) (messages_of scenario.sends)

unfoldable pub settled_line : ScenarioParts → RunState → List ℕ
settled_line scenario s =
    line_of (codes "settled" ∷ decimal (settled_count scenario s) ∷ codes "open" ∷ decimal (open_count scenario s) ∷ [])

-- ---- the summary

-- which storm it was
unfoldable pub storm_line : ℕ → List ℕ
storm_line number = line_of (codes "storm" ∷ decimal number ∷ [])

unfoldable pub summary_lines : ℕ → ScenarioParts → RunState → List (List ℕ)
summary_lines number scenario s =
    storm_line number
    ∷ frames_line s.trace
    ∷ entries_line (all_entries scenario s)
    ∷ settled_line scenario s
    ∷ hypothesis_line (first_break scenario.params s.trace)
    ∷ line_of (codes "end" ∷ [])
    ∷ []

-- the bytes of the summary
unfoldable pub summary : ℕ → ScenarioParts → List Step → List ℕ
summary number scenario journal = concat (summary_lines number scenario (run scenario journal))
