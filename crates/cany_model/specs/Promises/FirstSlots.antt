-- The first slot that carried a frame.
use Rattle.std.specs.Prelude.{ℕ, if◌then◌else◌, List, [], ◌∷◌, Option, Some, None}
use Rattle.std.specs.Option.{option_or}
use Rattle.cany_base.specs.declared.slot_note.SlotNote.{SlotNote}
use Rattle.cany_model.specs.Bus.Frames.{Identity, is_of}
use Rattle.cany_model.specs.Bus.Slot.{carried}
use Rattle.cany_model.specs.Rules.Messages.{Message, data_id}
use Rattle.cany_model.specs.Rules.Knowledge.{FailureSign, fda_of}

-- the slot, if it carried a frame of this identity
abbrev pub slot_of : Identity → SlotNote → Option ℕ
slot_of x note = if carried (is_of x) note then Some note.slot else None

-- of slots newest first
unfoldable pub first_carried : Identity → List SlotNote → Option ℕ
first_carried x [] = None
first_carried x (note ∷ before) = option_or (first_carried x before) (slot_of x note)

-- the first slot that carried the data frame of the message
abbrev pub first_of_message : Message → List SlotNote → Option ℕ
first_of_message m trace = first_carried (data_id m) trace

-- the first slot that carried the frame of the sign
abbrev pub first_of_sign : FailureSign → List SlotNote → Option ℕ
first_of_sign sign trace = first_carried (fda_of sign) trace
