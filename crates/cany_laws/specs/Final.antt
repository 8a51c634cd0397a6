-- What is final of a message.
use Rattle.std.specs.Prelude.{◌≡◌, ◌++◌, ℕ, ◌<◌, ◌≤◌, Bool, true, false, List, Contains}
use Rattle.std.specs.List.{list_any}
use Rattle.cany_base.specs.declared.log_entry.LogEntry.TheVariants.{Deliver}
use Rattle.cany_base.specs.declared.message.Service.{Service}
use Rattle.cany_base.specs.declared.slot_note.SlotNote.{SlotNote}
use Rattle.cany_base.specs.declared.step.Step.{Step}
use Rattle.cany_base.specs.Frame.{FrameParts}
use Rattle.cany_base.specs.Scenario.{ScenarioParts}
use Rattle.cany_model.specs.Bus.Frames.{is_of}
use Rattle.cany_model.specs.Bus.Slot.{carried}
use Rattle.cany_model.specs.Bus.State.{EndedIncarnation, slots_run}
use Rattle.cany_model.specs.Promises.Settled.{is_settled}
use Rattle.cany_model.specs.Rules.Messages.{Message, frames_of, message_key}
use Rattle.cany_model.specs.Runs.Run.{all_read, run}
use Rattle.cany_laws.specs.Logs.{IsIncarnation, log_as}

-- whether the frame is one of the message: its data frame, or one that confirms or accepts it
abbrev pub is_frame_of : Message → FrameParts → Bool
is_frame_of m f = list_any (λ x. is_of x f) (frames_of m)

-- Of a message, once the front of a journal was made, whatever the rest of it is. It stays settled
-- wherever all is read again, no later slot carries a frame of it, and no log, of whatever
-- incarnation, has a delivery of it in a later slot.
pub record IsFinal (scenario : ScenarioParts) (front rest : List Step) (m : Message) : Type 0 where
  pub settled : all_read (run scenario (front ++ rest)) ≡ true → is_settled scenario (run scenario (front ++ rest)) m ≡ true
  pub silent : (note : SlotNote) → Contains (run scenario (front ++ rest)).trace note → slots_run (run scenario front) ≤ note.slot
      → carried (is_frame_of m) note ≡ false
  pub delivered : (i : ℕ) (e : EndedIncarnation) → IsIncarnation scenario (run scenario (front ++ rest)) i e
      → (slot : ℕ) (service : Service) (payload : List ℕ)
      → Contains (log_as scenario (run scenario (front ++ rest)) i e) (Deliver slot service (message_key m) payload) → slot < slots_run (run scenario front)
