-- The lines of a report. A line is its fields, parted by one space, and ends with a line feed.
use Rattle.std.specs.Prelude.{ℕ, ◌+◌, ◌*◌, ◌/◌, ◌%◌, Bool, not, ◌==◌, ◌||◌, if◌then◌else◌, List, [], ◌∷◌, ◌++◌, length, take, drop, map, filter, slice_index, Option, Some, None, is_some, codes, decimal}
use Rattle.std.specs.List.{flat_map, join_with_byte, range_with_len}
use Rattle.cany_base.specs.declared.format.Format.{Format}
use Rattle.cany_base.specs.declared.log_entry.LogEntry.{LogEntry}
use Rattle.cany_base.specs.declared.log_entry.LogEntry.TheVariants.{Deliver, Failed, View}
use Rattle.cany_base.specs.declared.slot_note.SlotNote.{SlotNote}
use Rattle.cany_base.specs.declared.step.Step.{Step}
use Rattle.cany_base.specs.declared.step.Step.TheVariants.{Slot, Turn}
use Rattle.cany_base.specs.Frame.{FrameParts, is_remote}
use Rattle.cany_base.specs.Layout.{format_number}
use Rattle.cany_base.specs.Nodes.{Nodes, has, is_nobody, node_numbers}
use Rattle.cany_base.specs.Params.{Parameters}
use Rattle.cany_model.specs.declared.breaks.Break.{Break}
use Rattle.cany_model.specs.declared.breaks.BreakKind.{BreakKind}
use Rattle.cany_model.specs.declared.breaks.BreakKind.TheVariants as kind
use Rattle.cany_model.specs.declared.span.Span.{Span}
use Rattle.cany_model.specs.Rules.Messages.{Message}
use Rattle.cany_text.specs.TextNames.{class_name, service_name, verdict_name}

-- the fields, parted by one space, and a line feed
unfoldable pub line_of : List (List ℕ) → List ℕ
line_of fields = join_with_byte 32 fields ++ 10 ∷ []

-- Fields. A number is decimal.

unfoldable pub break_name : BreakKind → List ℕ
break_name kind.Silent = codes "silent"
break_name kind.Omit = codes "omit"
break_name kind.Errors = codes "errors"

-- a number below 16 as one digit
abbrev pub hexadecimal_digit : ℕ → ℕ
hexadecimal_digit n = slice_index (codes "0123456789abcdef") n

abbrev pub byte_text : ℕ → List ℕ
byte_text byte = hexadecimal_digit (byte / 16) ∷ hexadecimal_digit (byte % 16) ∷ []

-- `x` and two digits for each byte
unfoldable pub payload_text : List ℕ → List ℕ
payload_text bytes = codes "x" ++ flat_map byte_text bytes

-- a remote frame has no bytes to show
abbrev pub frame_payload : FrameParts → List ℕ
frame_payload f = if is_remote f.class then codes "r" else payload_text f.payload

abbrev pub numbers_text : List ℕ → List ℕ
numbers_text [] = codes "-"
numbers_text (n ∷ numbers) = join_with_byte 44 (map decimal (n ∷ numbers))

-- the numbers of the set's nodes, ascending and parted by commas, or `-` where there are none
unfoldable pub set_text : Nodes → List ℕ
set_text nodes = numbers_text (filter (has nodes) node_numbers)

-- `.` for a slot, and the letter of the node for its turn
unfoldable pub step_letter : Step → ℕ
step_letter Slot = 46
step_letter (Turn i) = slice_index (codes "0123456789abcdefghijklmnopqrstuvwxyzABCDEFGHIJKLMNOPQRSTUVWXYZ+-") i

-- Lines.

-- that the text is a report, and in which format
unfoldable pub first_line : Format → List ℕ
first_line format = line_of (codes "canely report" ∷ decimal (format_number format) ∷ [])

unfoldable pub params_line : Parameters → List ℕ
params_line p = line_of (
    codes "params nodes" ∷ decimal p.nodes ∷ codes "lag" ∷ decimal p.lag ∷ codes "omit" ∷ decimal p.omit
    ∷ codes "errors" ∷ decimal p.errors ∷ codes "bound" ∷ decimal p.bound ∷ codes "cycle" ∷ decimal p.cycle
    ∷ codes "life" ∷ decimal p.life ∷ codes "silence" ∷ decimal p.silence ∷ codes "confirm" ∷ decimal p.confirm
    ∷ codes "slots" ∷ decimal p.slots ∷ [])

-- some steps of the journal in its alphabet
unfoldable pub journal_line : List Step → List ℕ
journal_line steps = line_of (codes "journal" ∷ map step_letter steps ∷ [])

-- the journal, 64 steps a line and fewer in the last
unfoldable pub journal_lines : List Step → List (List ℕ)
journal_lines journal =
    map (λ k. journal_line (take 64 (drop (64 * k) journal))) (range_with_len 0 ((length journal + 63) / 64))

-- a node by its number, with that of its incarnation where it is not the first
unfoldable pub node_text : ℕ → ℕ → List ℕ
node_text node inc = decimal node ++ (if inc == 0 then [] else codes "/" ++ decimal inc)

abbrev frame_fields : SlotNote → Option FrameParts → List (List ℕ)
frame_fields note None = codes "idle" ∷ []
frame_fields note (Some f) =
    class_name f.class ∷ node_text f.node f.inc ∷ decimal f.number ∷ frame_payload f
    ∷ codes "from" ∷ set_text note.senders ∷ codes "to" ∷ set_text note.takers ∷ verdict_name note.verdict ∷ []

-- the word and the set, where it has a node
abbrev set_fields : List ℕ → Nodes → List (List ℕ)
set_fields word nodes = if is_nobody nodes then [] else word ∷ set_text nodes ∷ []

-- what happened on the bus in a slot, at whose end these nodes started again
unfoldable pub bus_line : SlotNote → Nodes → List ℕ
bus_line note again = line_of (
    codes "bus" ∷ decimal note.slot ∷ frame_fields note note.frame
    ++ set_fields (codes "stop") note.stops ++ set_fields (codes "restart") again)

-- whether a slot has a line: it carried a frame, or a node stopped or started again in it
unfoldable pub is_shown : SlotNote → Nodes → Bool
is_shown note again = is_some note.frame || not (is_nobody note.stops) || not (is_nobody again)

unfoldable pub hypothesis_line : Option Break → List ℕ
hypothesis_line None = line_of (codes "hypothesis within" ∷ [])
hypothesis_line (Some broken) = line_of (codes "hypothesis outside" ∷ break_name broken.kind ∷ decimal broken.slot ∷ [])

abbrev incarnation_fields : ℕ → ℕ → List (List ℕ)
incarnation_fields inc since = if inc == 0 then [] else codes "inc" ∷ decimal inc ∷ codes "since" ∷ decimal since ∷ []

abbrev stop_fields : Option ℕ → List (List ℕ)
stop_fields None = codes "correct" ∷ []
stop_fields (Some slot) = codes "stopped" ∷ decimal slot ∷ []

-- an incarnation of a node: since when it runs, where it is not the first; whether it stopped; and
-- how many notices it read
unfoldable pub node_line : ℕ → ℕ → Span → List ℕ
node_line i inc span = line_of (
    codes "node" ∷ decimal i ∷ incarnation_fields inc span.since ++ stop_fields span.stopped ++ codes "read" ∷ decimal span.read ∷ [])

unfoldable pub entry_line : LogEntry → List ℕ
entry_line (Deliver slot service message payload) =
    line_of (codes "deliver" ∷ decimal slot ∷ service_name service ∷ decimal message.origin ∷ decimal message.seq ∷ payload_text payload ∷ [])
entry_line (Failed slot node cycle) = line_of (codes "failed" ∷ decimal slot ∷ decimal node ∷ decimal cycle ∷ [])
entry_line (View slot number members) = line_of (codes "view" ∷ decimal slot ∷ decimal number ∷ set_text members ∷ [])

-- a message, and whether it is settled
unfoldable pub message_line : Message → Bool → List ℕ
message_line m settled =
    line_of (codes "message" ∷ service_name m.service ∷ decimal m.origin ∷ decimal m.seq ∷ (if settled then codes "settled" else codes "open") ∷ [])
