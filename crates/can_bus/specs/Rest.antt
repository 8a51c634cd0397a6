-- A stretch of slots in which nobody waits and no rule speaks.
use Rattle.std.specs.Prelude.{ℕ, zero, suc, List, ◌∷◌, length, None}
use Rattle.cany_base.specs.declared.rule.Verdict.TheVariants.{Clean}
use Rattle.cany_base.specs.declared.slot_note.SlotNote.{SlotNote}
use Rattle.cany_base.specs.Nodes.{nobody}

-- the note of a slot that carries no frame and stops nobody
abbrev pub idle_note : ℕ → SlotNote
idle_note slot = record { slot = slot; frame = None; senders = nobody; takers = nobody; verdict = Clean; stops = nobody }

-- the trace with so many idle slots more, newest first
unfoldable pub idle_trace : ℕ → List SlotNote → List SlotNote
idle_trace zero trace = trace
idle_trace (suc slots) trace = idle_note (length (idle_trace slots trace)) ∷ idle_trace slots trace
