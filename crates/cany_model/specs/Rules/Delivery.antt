-- The entry of a delivery, and when EDCAN and RELCAN deliver: at the first copy, or at the origin's
-- own transmission.
use Rattle.std.specs.Prelude.{ℕ, ◌==◌, ◌&&◌, ◌||◌, Bool, not, if◌then◌else◌, List, [], ◌∷◌, length}
use Rattle.std.specs.List.{list_any}
use Rattle.cany_base.specs.declared.log_entry.LogEntry.{LogEntry}
use Rattle.cany_base.specs.declared.log_entry.LogEntry.TheVariants.{Deliver}
use Rattle.cany_base.specs.declared.message.Service.{Service}
use Rattle.cany_base.specs.declared.notice.NoticeKind.{NoticeKind}
use Rattle.cany_base.specs.Frame.{FrameParts}
use Rattle.cany_model.specs.Rules.Effect.{Effect, Enter}
use Rattle.cany_model.specs.Bus.Frames.{Identity, identity_of}
use Rattle.cany_model.specs.Bus.History.{is_got, is_sent}

-- whether a notice makes node i deliver the message of this data frame, if none did before
abbrev pub brings : ℕ → Identity → NoticeKind → Bool
brings i x notice = is_got x notice || (x.node == i && is_sent x notice)

-- whether the notice is the first to bring the message of this data frame: what was read before it
-- is given
abbrev pub is_delivery : ℕ → FrameParts → NoticeKind → List NoticeKind → Bool
is_delivery i f notice before = brings i (identity_of f) notice && not (list_any (brings i (identity_of f)) before)

abbrev pub delivery : ℕ → Service → FrameParts → LogEntry
delivery slot service f =
    Deliver slot service (record { origin = f.node; seq = f.number }) f.payload

-- the delivery of a data frame at the notice that comes after these
unfoldable pub delivery_effects : Service → ℕ → FrameParts → NoticeKind → List NoticeKind → List Effect
delivery_effects service i f notice before =
    if is_delivery i f notice before then Enter (delivery (length before) service f) ∷ [] else []
