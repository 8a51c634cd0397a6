-- EDCAN: every node that got the data frame of a message relays it by the eager rule.
use Rattle.std.specs.Prelude.{ℕ, ◌++◌, false, if◌then◌else◌, List, [], ◌∷◌}
use Rattle.cany_base.specs.declared.class.Class.TheVariants as class
use Rattle.cany_base.specs.declared.message.Service.TheVariants as service
use Rattle.cany_base.specs.declared.notice.NoticeKind.{NoticeKind}
use Rattle.cany_base.specs.declared.notice.NoticeKind.TheVariants.{Idle, Got, Sent, Bad}
use Rattle.cany_model.specs.Rules.Delivery.{delivery_effects}
use Rattle.cany_model.specs.Rules.Eager.{eager_effects}
use Rattle.cany_model.specs.Rules.Effect.{Effect, TurnRule}
use Rattle.cany_model.specs.Rules.Protocol.{Protocol, nothing_ahead}
use Rattle.cany_model.specs.Bus.Frames.{same_class}
use Rattle.cany_model.specs.Rules.Messages.{is_service}

-- what a notice leads to, after those before it
unfoldable pub edcan_at : ℕ → ℕ → NoticeKind → List NoticeKind → List Effect
edcan_at omit i Idle before = []
edcan_at omit i Bad before = []
edcan_at omit i (Got f) before =
    if same_class f.class class.Ed
    then delivery_effects service.Ed i f (Got f) before ++ eager_effects omit f (Got f ∷ before)
    else []
edcan_at omit i (Sent f) before =
    if same_class f.class class.Ed then delivery_effects service.Ed i f (Sent f) before else []

unfoldable pub edcan_effects : TurnRule
edcan_effects scenario i [] = []
edcan_effects scenario i (notice ∷ before) = edcan_at scenario.params.omit i notice before

abbrev pub edcan : Protocol
edcan = record {
  effects = edcan_effects;
  originates = false;
  ahead = nothing_ahead;
  names = λ c. same_class c class.Ed;
  delivers = λ by. is_service by service.Ed;
}
