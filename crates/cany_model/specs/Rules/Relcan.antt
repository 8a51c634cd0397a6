-- RELCAN: the origin confirms its message, and a node that reads no confirmation in time falls back
-- to sending the data frame itself.
use Rattle.std.specs.Prelude.{ℕ, ◌++◌, ◌==◌, ◌&&◌, ◌||◌, Bool, false, not, if◌then◌else◌, List, [], ◌∷◌, drop, slice_index_or}
use Rattle.std.specs.List.{list_any}
use Rattle.cany_base.specs.declared.class.Class.TheVariants as class
use Rattle.cany_base.specs.declared.message.Service.TheVariants as service
use Rattle.cany_base.specs.declared.notice.NoticeKind.{NoticeKind}
use Rattle.cany_base.specs.declared.notice.NoticeKind.TheVariants.{Idle, Got, Sent, Bad}
use Rattle.cany_base.specs.Frame.{FrameParts}
use Rattle.cany_base.specs.Params.{Parameters}
use Rattle.cany_base.specs.Scenario.{ScenarioParts}
use Rattle.cany_model.specs.Rules.Delivery.{delivery_effects}
use Rattle.cany_model.specs.Rules.Eager.{has_enough}
use Rattle.cany_model.specs.Rules.Effect.{Effect, Ask, Withdraw, TurnRule}
use Rattle.cany_model.specs.Bus.Frames.{Identity, identity_of, same_class}
use Rattle.cany_model.specs.Bus.History.{is_got}
use Rattle.cany_model.specs.Rules.Messages.{Message, data_frame, is_service}
use Rattle.cany_model.specs.Rules.Protocol.{Protocol}

-- ---- confirmations

-- the frame that confirms the message of this data frame, and what names it
abbrev pub confirm_frame : FrameParts → FrameParts
confirm_frame f = record { class = class.Confirm; number = f.number; node = f.node; inc = 0; payload = [] }

abbrev pub confirm_of : Identity → Identity
confirm_of x = record { class = class.Confirm; number = x.number; node = x.node }

-- whether a copy of the frame was read, and whether a confirmation of its message was
abbrev pub has_copy : Identity → List NoticeKind → Bool
has_copy x past = list_any (is_got x) past

abbrev pub has_confirm : Identity → List NoticeKind → Bool
has_confirm x past = has_copy (confirm_of x) past

-- ---- timers

-- whether node i keeps a timer for this frame: it is a RELCAN data frame of another node
abbrev pub is_timed : ℕ → Identity → Bool
is_timed i x = same_class x.class class.Rel && not (x.node == i)

-- whether the newest notice is the first copy of the frame
abbrev pub is_first_got : Identity → List NoticeKind → Bool
is_first_got x [] = false
is_first_got x (notice ∷ before) = is_got x notice && not (has_copy x before)

-- Whether node i falls back in the turn of the newest notice: the first copy was read so many slots
-- before as the timer takes, and no confirmation up to this slot.
abbrev pub falls_back : ℕ → ℕ → Identity → List NoticeKind → Bool
falls_back timer i x past = is_timed i x && is_first_got x (drop timer past) && not (has_confirm x past)

-- whether it fell back in the turn of one of these notices
unfoldable pub fell_back : ℕ → ℕ → Identity → List NoticeKind → Bool
fell_back timer i x [] = false
fell_back timer i x (notice ∷ before) = falls_back timer i x (notice ∷ before) || fell_back timer i x before

-- whether node i has a timer of the message ahead: a copy started it, its slot is not read yet, and
-- no confirmation was read
abbrev pub has_timer_ahead : ScenarioParts → Message → ℕ → List NoticeKind → Bool
has_timer_ahead scenario m i past =
    let x = identity_of (data_frame m) in
    is_timed i x && has_copy x past && not (has_copy x (drop scenario.params.confirm past)) && not (has_confirm x past)

-- ---- what a turn does

-- a copy that is read after the node fell back: with more than omit copies the frame is withdrawn
abbrev pub late_copy_effects : Parameters → ℕ → FrameParts → List NoticeKind → List Effect
late_copy_effects p i f before =
    if fell_back p.confirm i (identity_of f) before && has_enough p.omit (identity_of f) (Got f ∷ before) then Withdraw (identity_of f) ∷ []
    else []

-- the origin confirms its message once it has read its own transmission
abbrev pub confirm_effects : ℕ → FrameParts → List Effect
confirm_effects i f = if f.node == i then Ask (confirm_frame f) ∷ [] else []

-- what a notice leads to, after those before it
unfoldable pub relcan_at : Parameters → ℕ → NoticeKind → List NoticeKind → List Effect
relcan_at p i Idle before = []
relcan_at p i Bad before = []
relcan_at p i (Got f) before =
    if same_class f.class class.Rel
    then delivery_effects service.Rel i f (Got f) before ++ late_copy_effects p i f before
    else []
relcan_at p i (Sent f) before =
    if same_class f.class class.Rel
    then delivery_effects service.Rel i f (Sent f) before ++ confirm_effects i f
    else []

-- A node that falls back asks for the frame, unless it has read more than omit copies by then. The
-- notice that may have started the timer is given apart.
abbrev pub fall_back_effects : Parameters → ℕ → List NoticeKind → NoticeKind → List Effect
fall_back_effects p i past Idle = []
fall_back_effects p i past (Got f) =
    if falls_back p.confirm i (identity_of f) past && not (has_enough p.omit (identity_of f) past) then Ask f ∷ [] else []
fall_back_effects p i past (Sent f) = []
fall_back_effects p i past Bad = []

-- what the timer does that runs out in this turn, if one does: the notice of as many slots before
-- started it
unfoldable pub timer_effects : Parameters → ℕ → List NoticeKind → List Effect
timer_effects p i past = fall_back_effects p i past (slice_index_or past p.confirm Idle)

-- the notice, and then the timer that is due at its slot
unfoldable pub relcan_effects : TurnRule
relcan_effects scenario i [] = []
relcan_effects scenario i (notice ∷ before) =
    relcan_at scenario.params i notice before ++ timer_effects scenario.params i (notice ∷ before)

abbrev pub relcan : Protocol
relcan = record {
  effects = relcan_effects;
  originates = false;
  ahead = has_timer_ahead;
  names = λ c. same_class c class.Rel || same_class c class.Confirm;
  delivers = λ by. is_service by service.Rel;
}
