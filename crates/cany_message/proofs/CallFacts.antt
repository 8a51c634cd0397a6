-- What a notice calls for, as actions.
use Rattle.std.proofs.Common.{◌≡◌, ℕ, false, [], refl}
use Rattle.cany_base.specs.declared.message.Service.{Service}
use Rattle.cany_base.specs.declared.notice.NoticeKind.{NoticeKind}
use Rattle.cany_base.specs.declared.notice.NoticeKind.TheVariants.{Idle, Got, Sent, Bad}
use Rattle.cany_message.specs.declared.calls.Calls.{Calls}
use Rattle.cany_message.specs.declared.calls.Reply.TheVariants.{Nothing}
use Rattle.cany_message.specs.Calls.{actions_at}

abbrev pub nothing : Calls
nothing = record { delivers = false; reply = Nothing }

pub nothing_called : (service : Service) (slot : ℕ) (kind : NoticeKind) → actions_at service slot nothing kind ≡ []
nothing_called service slot Idle = refl
nothing_called service slot Bad = refl
nothing_called service slot (Got f) = refl
nothing_called service slot (Sent f) = refl
