-- The actions that deliver the message of a data frame, that withdraw a frame, and that relay it.
use Rattle.std.specs.Prelude.{ℕ, Bool, true, if◌then◌else◌, List, [], ◌∷◌}
use Rattle.cany_base.specs.declared.actions.Action.{Action}
use Rattle.cany_base.specs.declared.actions.Action.TheVariants.{Ask, Withdraw, Enter}
use Rattle.cany_base.specs.declared.format.Format.{Format}
use Rattle.cany_base.specs.declared.message.Service.{Service}
use Rattle.cany_base.specs.Frame.{FrameParts}
use Rattle.cany_diffuse.specs.declared.learnt.Learnt.{Learnt}
use Rattle.cany_diffuse.specs.declared.learnt.Learnt.TheVariants.{First, Again, Enough}
use Rattle.cany_model.specs.Bus.Frames.{identity_of}
use Rattle.cany_model.specs.Rules.Actions.{ident_of}
use Rattle.cany_model.specs.Rules.Delivery.{delivery}

abbrev pub delivery_actions : Service → ℕ → Bool → FrameParts → List Action
delivery_actions service slot delivers f = if delivers then Enter (delivery slot service f) ∷ [] else []

-- a protocol names no incarnation: its node does
abbrev pub withdraw_actions : Format → Bool → FrameParts → List Action
withdraw_actions format withdraws f = if withdraws then Withdraw (ident_of format (identity_of f)) ∷ [] else []

-- what a node does with a frame for what its copy calls for
abbrev pub relay_actions : Format → Learnt → FrameParts → List Action
relay_actions format First f = Ask f ∷ []
relay_actions format (Again copies) f = []
relay_actions format (Enough copies) f = withdraw_actions format true f
