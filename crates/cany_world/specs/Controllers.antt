-- What a slot, the end of a run and the end of a message ask of controllers.
use Rattle.std.specs.Prelude.{◌≡◌, ℕ, ◌==◌, ◌&&◌, ◌||◌, Bool, not, nat_lt, is_none, List, length, slice_get, Some}
use Rattle.std.specs.List.{list_any}
use Rattle.cany_base.specs.declared.format.Format.{Format}
use Rattle.cany_base.specs.declared.message.MsgKey.{MsgKey}
use Rattle.cany_model.specs.Bus.Frames.{Identity}
use Rattle.cany_model.specs.Bus.Waiting.{waits}
use Rattle.can_controller.specs.Controller.{ControllerState}
use Rattle.can_frame.specs.Identifier.{AreSmall}

-- whether the controller runs and has more unread notices than this
abbrev pub lags : ℕ → ControllerState → Bool
lags lag c = is_none c.stopped && nat_lt lag (length c.unread)

-- whether the controller has stopped, or its node has read every notice
abbrev pub has_read : ControllerState → Bool
has_read c = not (is_none c.stopped) || length c.unread == 0

-- whether the controller runs and waits with one of the frames
abbrev pub awaits : List Identity → ControllerState → Bool
awaits frames c = is_none c.stopped && list_any (λ x. waits x c.waiting) frames

-- the controllers keep the format
abbrev pub HaveFormat : Format → List ControllerState → Type 0
HaveFormat format controllers = (i : ℕ) (c : ControllerState) → slice_get controllers i ≡ Some c → c.params.format ≡ format

-- the key names a message that a run in the format can have
abbrev pub IsSmallKey : Format → MsgKey → Type 0
IsSmallKey format key = AreSmall format key.seq key.origin
