-- The lines of a report: each ends with its only line feed, and its first byte tells of what kind
-- it is.
use Rattle.std.proofs.Common.{◌≡◌, ℕ, ◌/◌, ◌%◌, ◌<◌, ◌==◌, ◌||◌, Bool, true, false, not, List, [], ◌∷◌, ◌++◌, map, filter, Option, Some, None, refl, arith}
use Rattle.std.specs.Prelude.{if◌then◌else◌, slice_index, codes, decimal}
use Rattle.std.specs.List.{AllByRecursion, flat_map}
use Rattle.cany_base.specs.declared.class.Class.{Class}
use Rattle.cany_base.specs.declared.class.Class.TheVariants.{Accept, Rha, Els, Fda, Join, Leave, Confirm, Tot, Rel, Ed}
use Rattle.cany_base.specs.declared.format.Format.{Format}
use Rattle.cany_base.specs.declared.log_entry.LogEntry.{LogEntry}
use Rattle.cany_base.specs.declared.log_entry.LogEntry.TheVariants.{Deliver, Failed, View}
use Rattle.cany_base.specs.declared.message.Service.{Service}
use Rattle.cany_base.specs.declared.message.Service.TheVariants as service
use Rattle.cany_base.specs.declared.rule.Verdict.{Verdict}
use Rattle.cany_base.specs.declared.rule.Verdict.TheVariants.{Clean, Lost, Partial, Silent}
use Rattle.cany_base.specs.declared.slot_note.SlotNote.{SlotNote}
use Rattle.cany_base.specs.declared.step.Step.{Step}
use Rattle.cany_base.specs.declared.step.Step.TheVariants.{Slot, Turn}
use Rattle.cany_base.specs.Frame.{FrameParts, is_remote}
use Rattle.cany_base.specs.Layout.{format_number}
use Rattle.cany_base.specs.Nodes.{Nodes, has, is_nobody, node_numbers}
use Rattle.cany_base.specs.Params.{Parameters}
use Rattle.cany_model.specs.declared.breaks.Break.{Break}
use Rattle.cany_model.specs.declared.breaks.BreakKind.{BreakKind}
use Rattle.cany_model.specs.declared.breaks.BreakKind.TheVariants as kind
use Rattle.cany_model.specs.declared.span.Span.{Span}
use Rattle.cany_model.specs.Rules.Messages.{Message}
use Rattle.cany_text.specs.ReportLines.{line_of, byte_text, payload_text, frame_payload, numbers_text, set_text, node_text, step_letter, break_name, first_line, params_line, journal_line, bus_line, hypothesis_line, node_line, entry_line, message_line}
use Rattle.cany_text.specs.TextNames.{class_name, service_name, verdict_name}
use Rattle.cany_model.proofs.Among.{Each-append}
use Rattle.cany_text.proofs.ReadOffText.{Lacks, lacks-cons, lacks-append, byte_lacks, choice_lacks, decimals_lack, join_lacks, IsLine, Told, number, texts, texts_lack, told_line, told_line_with, word}

-- ---- fields

abbrev plain : (text : List ℕ) → Lacks 10 text → Told 10
plain text h = word 10 text h

-- a number has no line feed
abbrev decimal_of : ℕ → Told 10
decimal_of n = number 10 (omega arith) n

class_lacks : (c : Class) → Lacks 10 (class_name c)
unfolding class_name
class_lacks Accept = refl
class_lacks Rha = refl
class_lacks Els = refl
class_lacks Fda = refl
class_lacks Join = refl
class_lacks Leave = refl
class_lacks Confirm = refl
class_lacks Tot = refl
class_lacks Rel = refl
class_lacks Ed = refl

service_lacks : (by : Service) → Lacks 10 (service_name by)
unfolding service_name
service_lacks service.Ed = refl
service_lacks service.Rel = refl
service_lacks service.Tot = refl

verdict_lacks : (v : Verdict) → Lacks 10 (verdict_name v)
unfolding verdict_name
verdict_lacks Clean = refl
verdict_lacks Lost = refl
verdict_lacks (Partial reject) = refl
verdict_lacks (Silent reject) = refl

break_lacks : (k : BreakKind) → Lacks 10 (break_name k)
unfolding break_name
break_lacks kind.Silent = refl
break_lacks kind.Omit = refl
break_lacks kind.Errors = refl

bytes_lack : (c : ℕ) → 0 < c → Lacks c (codes "0123456789abcdef") → (bytes : List ℕ) → Lacks c (flat_map byte_text bytes)
bytes_lack c some digits [] = refl
bytes_lack c some digits (b ∷ bytes) =
    lacks-append c (byte_text b) (flat_map byte_text bytes)
    (lacks-append c (slice_index (codes "0123456789abcdef") (b / 16) ∷ []) (slice_index (codes "0123456789abcdef") (b % 16) ∷ [])
    (byte_lacks c (codes "0123456789abcdef") (b / 16) some digits) (byte_lacks c (codes "0123456789abcdef") (b % 16) some digits))
    (bytes_lack c some digits bytes)

pub payload_lacks : (c : ℕ) → 0 < c → Lacks c (codes "x") → Lacks c (codes "0123456789abcdef") → (bytes : List ℕ)
    → Lacks c (payload_text bytes)
unfolding payload_text
payload_lacks c some letter digits bytes = lacks-append c (codes "x") (flat_map byte_text bytes) letter (bytes_lack c some digits bytes)

frame_payload_lacks : (f : FrameParts) → Lacks 10 (frame_payload f)
frame_payload_lacks f =
    choice_lacks 10 (is_remote f.class) (codes "r") (payload_text f.payload) refl (payload_lacks 10 (omega arith) refl refl f.payload)

numbers_lack : (c : ℕ) → c < 44 → (numbers : List ℕ) → Lacks c (numbers_text numbers)
numbers_lack c h [] = lacks-cons c 45 [] (omega arith) refl
numbers_lack c h (n ∷ numbers) = join_lacks c 44 (omega arith) (map decimal (n ∷ numbers))
    (decimals_lack c (omega (arith, h)) (n ∷ numbers))

pub set_lacks : (c : ℕ) → c < 44 → (nodes : Nodes) → Lacks c (set_text nodes)
unfolding set_text
set_lacks c h nodes = numbers_lack c h (filter (has nodes) node_numbers)

abbrev set_of : Nodes → Told 10
set_of nodes = plain (set_text nodes) (set_lacks 10 (omega arith) nodes)

node_lacks : (node inc : ℕ) → Lacks 10 (node_text node inc)
unfolding node_text
node_lacks node inc =
    lacks-append 10 (decimal node) (if inc == 0 then [] else codes "/" ++ decimal inc) (decimal_of node).lacks
    (choice_lacks 10 (inc == 0) [] (codes "/" ++ decimal inc) refl (lacks-append 10 (codes "/") (decimal inc) refl (decimal_of inc).lacks))

letter_lacks : (step : Step) → Lacks 10 (step_letter step ∷ [])
unfolding step_letter
letter_lacks Slot = refl
letter_lacks (Turn i) = byte_lacks 10 (codes "0123456789abcdefghijklmnopqrstuvwxyzABCDEFGHIJKLMNOPQRSTUVWXYZ+-") i (omega arith) refl

letters_lack : (steps : List Step) → Lacks 10 (map step_letter steps)
letters_lack [] = refl
letters_lack (step ∷ steps) = lacks-append 10 (step_letter step ∷ []) (map step_letter steps) (letter_lacks step) (letters_lack steps)

choice_all : (b : Bool) (fs gs : List (List ℕ)) → AllByRecursion (Lacks 10) fs → AllByRecursion (Lacks 10) gs
    → AllByRecursion (Lacks 10) (if b then fs else gs)
choice_all true fs gs x y = x
choice_all false fs gs x y = y

-- ---- lines

pub first_line_is : (format : Format) → IsLine (first_line format)
unfolding first_line
first_line_is format = told_line (plain (codes "canely report") refl ∷ decimal_of (format_number format) ∷ [])

pub params_line_is : (p : Parameters) → IsLine (params_line p)
unfolding params_line
params_line_is p = told_line (
    plain (codes "params nodes") refl ∷ decimal_of p.nodes ∷ plain (codes "lag") refl ∷ decimal_of p.lag ∷ plain (codes "omit") refl
    ∷ decimal_of p.omit
    ∷ plain (codes "errors") refl ∷ decimal_of p.errors ∷ plain (codes "bound") refl ∷ decimal_of p.bound ∷ plain (codes "cycle") refl
    ∷ decimal_of p.cycle
    ∷ plain (codes "life") refl ∷ decimal_of p.life ∷ plain (codes "silence") refl ∷ decimal_of p.silence
    ∷ plain (codes "confirm") refl ∷ decimal_of p.confirm ∷ plain (codes "slots") refl ∷ decimal_of p.slots ∷ [])

pub journal_line_is : (steps : List Step) → IsLine (journal_line steps)
unfolding journal_line
journal_line_is steps = told_line (plain (codes "journal") refl ∷ plain (map step_letter steps) (letters_lack steps) ∷ [])

-- the fields for a set that may be empty
abbrev set_part : List ℕ → Nodes → List (List ℕ)
set_part word nodes = if is_nobody nodes then [] else word ∷ set_text nodes ∷ []

set_part_lacks : (word : List ℕ) (nodes : Nodes) → Lacks 10 word → AllByRecursion (Lacks 10) (set_part word nodes)
set_part_lacks word nodes h = choice_all (is_nobody nodes) [] (word ∷ set_text nodes ∷ []) tt (h, (set_lacks 10 (omega arith) nodes, tt))

sets_lack : (stops again : Nodes) → AllByRecursion (Lacks 10) (set_part (codes "stop") stops ++ set_part (codes "restart") again)
sets_lack stops again =
    Each-append (Lacks 10) (set_part (codes "stop") stops) (set_part (codes "restart") again)
    (set_part_lacks (codes "stop") stops refl) (set_part_lacks (codes "restart") again refl)

bus_line_at : (frame : Option FrameParts) (note : SlotNote) (again : Nodes) → IsLine (bus_line (record note { frame = frame }) again)
unfolding bus_line
bus_line_at None note again =
    told_line_with (plain (codes "bus") refl ∷ decimal_of note.slot ∷ plain (codes "idle") refl ∷ [])
    (set_part (codes "stop") note.stops ++ set_part (codes "restart") again) (sets_lack note.stops again)
bus_line_at (Some f) note again =
    told_line_with (
    plain (codes "bus") refl ∷ decimal_of note.slot ∷ plain (class_name f.class) (class_lacks f.class) ∷ plain (node_text f.node f.inc)
    (node_lacks f.node f.inc)
    ∷ decimal_of f.number ∷ plain (frame_payload f) (frame_payload_lacks f) ∷ plain (codes "from") refl ∷ set_of note.senders
    ∷ plain (codes "to") refl ∷ set_of note.takers ∷ plain (verdict_name note.verdict) (verdict_lacks note.verdict) ∷ [])
    (set_part (codes "stop") note.stops ++ set_part (codes "restart") again) (sets_lack note.stops again)

pub bus_line_is : (note : SlotNote) (again : Nodes) → IsLine (bus_line note again)
bus_line_is note again = bus_line_at note.frame note again

pub hypothesis_line_is : (broken : Option Break) → IsLine (hypothesis_line broken)
unfolding hypothesis_line
hypothesis_line_is None = told_line (plain (codes "hypothesis within") refl ∷ [])
hypothesis_line_is (Some broken) =
    told_line (plain (codes "hypothesis outside") refl ∷ plain (break_name broken.kind) (break_lacks broken.kind)
    ∷ decimal_of broken.slot ∷ [])

abbrev pub incarnation_part : ℕ → ℕ → List (List ℕ)
incarnation_part inc since = if inc == 0 then [] else codes "inc" ∷ decimal inc ∷ codes "since" ∷ decimal since ∷ []

incarnation_part_lacks : (inc since : ℕ) → AllByRecursion (Lacks 10) (incarnation_part inc since)
incarnation_part_lacks inc since =
    choice_all (inc == 0) [] (codes "inc" ∷ decimal inc ∷ codes "since" ∷ decimal since ∷ []) tt
    (texts_lack (plain (codes "inc") refl ∷ decimal_of inc ∷ plain (codes "since") refl ∷ decimal_of since ∷ []))

-- with what became of it, and how many notices it read
span_lacks : (inc since : ℕ) (became : List (Told 10)) (read : ℕ)
    → AllByRecursion (Lacks 10) (incarnation_part inc since ++ texts became ++ codes "read" ∷ decimal read ∷ [])
span_lacks inc since became read =
    Each-append (Lacks 10) (incarnation_part inc since ++ texts became) (codes "read" ∷ decimal read ∷ [])
    (Each-append (Lacks 10) (incarnation_part inc since) (texts became) (incarnation_part_lacks inc since) (texts_lack became))
    (texts_lack (plain (codes "read") refl ∷ decimal_of read ∷ []))

node_line_at : (stopped : Option ℕ) (i inc : ℕ) (span : Span) → IsLine (node_line i inc (record span { stopped = stopped }))
unfolding node_line
node_line_at None i inc span =
    told_line_with (plain (codes "node") refl ∷ decimal_of i ∷ [])
    (incarnation_part inc span.since ++ codes "correct" ∷ [] ++ codes "read" ∷ decimal span.read ∷ [])
    (span_lacks inc span.since (plain (codes "correct") refl ∷ []) span.read)
node_line_at (Some slot) i inc span =
    told_line_with (plain (codes "node") refl ∷ decimal_of i ∷ [])
    (incarnation_part inc span.since ++ codes "stopped" ∷ decimal slot ∷ [] ++ codes "read" ∷ decimal span.read ∷ [])
    (span_lacks inc span.since (plain (codes "stopped") refl ∷ decimal_of slot ∷ []) span.read)

pub node_line_is : (i inc : ℕ) (span : Span) → IsLine (node_line i inc span)
node_line_is i inc span = node_line_at span.stopped i inc span

pub entry_line_is : (entry : LogEntry) → IsLine (entry_line entry)
unfolding entry_line
entry_line_is (Deliver slot by msg payload) =
    told_line (
    plain (codes "deliver") refl ∷ decimal_of slot ∷ plain (service_name by) (service_lacks by) ∷ decimal_of msg.origin ∷ decimal_of msg.seq
    ∷ plain (payload_text payload) (payload_lacks 10 (omega arith) refl refl payload) ∷ [])
entry_line_is (Failed slot node cycle) = told_line (plain (codes "failed") refl ∷ decimal_of slot ∷ decimal_of node ∷ decimal_of cycle ∷ [])
entry_line_is (View slot n members) = told_line (plain (codes "view") refl ∷ decimal_of slot ∷ decimal_of n ∷ set_of members ∷ [])

pub message_line_is : (m : Message) (settled : Bool) → IsLine (message_line m settled)
unfolding message_line
message_line_is m settled =
    told_line (
    plain (codes "message") refl ∷ plain (service_name m.service) (service_lacks m.service) ∷ decimal_of m.origin ∷ decimal_of m.seq
    ∷ plain (if settled then codes "settled" else codes "open") (choice_lacks 10 settled (codes "settled") (codes "open") refl refl) ∷ [])

pub end_line_is : IsLine (line_of (codes "end" ∷ []))
end_line_is = told_line (plain (codes "end") refl ∷ [])

-- ---- what the first byte of a line tells

abbrev begins : ℕ → List ℕ → Bool
begins byte line = slice_index line 0 == byte

abbrev pub is_journal : List ℕ → Bool
is_journal line = begins 106 line

abbrev pub is_bus : List ℕ → Bool
is_bus line = begins 98 line

-- of a node: neither of a message nor the last one
abbrev pub is_of_node : List ℕ → Bool
is_of_node line = not (begins 109 line || begins 101 line)

abbrev pub is_entry : List ℕ → Bool
is_entry line = not (begins 110 line)

pub journal_begins : (steps : List Step) → is_journal (journal_line steps) ≡ true
unfolding journal_line line_of
journal_begins steps = refl

pub bus_begins : (note : SlotNote) (again : Nodes) → (is_bus (bus_line note again) ≡ true) × (is_journal (bus_line note again) ≡ false)
unfolding bus_line line_of
bus_begins note again = (refl, refl)

pub hypothesis_begins : (broken : Option Break) → (is_bus (hypothesis_line broken) ≡ false) × (is_journal (hypothesis_line broken) ≡ false)
unfolding hypothesis_line line_of
hypothesis_begins None = (refl, refl)
hypothesis_begins (Some broken) = (refl, refl)

pub node_begins : (i inc : ℕ) (span : Span) → (is_of_node (node_line i inc span) ≡ true) × (is_entry (node_line i inc span) ≡ false)
unfolding node_line line_of
node_begins i inc span = (refl, refl)

pub entry_begins : (entry : LogEntry) → (is_of_node (entry_line entry) ≡ true) × (is_entry (entry_line entry) ≡ true)
unfolding entry_line line_of
entry_begins (Deliver slot by msg payload) = (refl, refl)
entry_begins (Failed slot node cycle) = (refl, refl)
entry_begins (View slot n members) = (refl, refl)

pub message_begins : (m : Message) (settled : Bool) → is_of_node (message_line m settled) ≡ false
unfolding message_line line_of
message_begins m settled = refl

pub end_begins : is_of_node (line_of (codes "end" ∷ [])) ≡ false
unfolding line_of
end_begins = refl
