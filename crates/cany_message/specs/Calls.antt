-- What a notice of a data frame calls for, as actions: the delivery, then the reply. What RELCAN
-- calls for at the end of a timer in the same turn comes after these.
use Rattle.std.specs.Prelude.{ℕ, List, [], ◌∷◌, ◌++◌}
use Rattle.cany_base.specs.declared.actions.Action.{Action}
use Rattle.cany_base.specs.declared.actions.Action.TheVariants.{Ask, Withdraw}
use Rattle.cany_base.specs.declared.message.Service.{Service}
use Rattle.cany_base.specs.declared.notice.Notice.{Notice}
use Rattle.cany_base.specs.declared.notice.NoticeKind.{NoticeKind}
use Rattle.cany_base.specs.declared.notice.NoticeKind.TheVariants.{Idle, Got, Sent, Bad}
use Rattle.cany_base.specs.Frame.{FrameParts}
use Rattle.cany_message.specs.declared.calls.Calls.{Calls}
use Rattle.cany_message.specs.declared.calls.Reply.{Reply}
use Rattle.cany_message.specs.declared.calls.Reply.TheVariants.{Nothing, Asks, Confirms, Withdraws}
use Rattle.cany_message.specs.Actions.{delivery_actions}
use Rattle.cany_model.specs.Rules.Relcan.{confirm_frame}

abbrev pub replied : Reply → FrameParts → List Action
replied Nothing f = []
replied Asks f = Ask f ∷ []
replied Confirms f = Ask (confirm_frame f) ∷ []
replied (Withdraws ident) f = Withdraw ident ∷ []

-- of a frame in a slot, by a service
abbrev pub frame_actions : Service → ℕ → Calls → FrameParts → List Action
frame_actions service slot calls f = delivery_actions service slot calls.delivers f ++ replied calls.reply f

-- of the frame that a notice brings, if it brings one
abbrev pub actions_at : Service → ℕ → Calls → NoticeKind → List Action
actions_at service slot calls Idle = []
actions_at service slot calls (Got f) = frame_actions service slot calls f
actions_at service slot calls (Sent f) = frame_actions service slot calls f
actions_at service slot calls Bad = []

abbrev pub actions_called : Service → Notice → Calls → List Action
actions_called service notice calls = actions_at service notice.slot calls notice.kind
