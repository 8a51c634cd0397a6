-- What the controllers learn of a slot.
use Rattle.std.specs.Prelude.{◌≡◌, Some}
use Rattle.cany_base.specs.declared.notice.NoticeKind.TheVariants.{Got, Sent}
use Rattle.cany_base.specs.declared.slot_note.SlotNote.{SlotNote}
use Rattle.cany_base.specs.Frame.{FrameParts}
use Rattle.can_bus.specs.declared.seeing.Notices.{Notices}

-- of a slot with a frame, the notice for those that take it and that for those that send it with
-- success
abbrev pub AreNoticesOf : SlotNote → Notices → Type 0
AreNoticesOf note notices =
    (f : FrameParts) → note.frame ≡ Some f
    → (notices.got ≡ record { slot = note.slot; kind = Got f }) × (notices.sent ≡ record { slot = note.slot; kind = Sent f })
