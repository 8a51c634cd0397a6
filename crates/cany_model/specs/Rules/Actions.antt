-- The effects of rules as the actions that the code lists: a withdrawal names the identifier.
use Rattle.std.specs.Prelude.{ℕ, List, map}
use Rattle.cany_base.specs.declared.actions.Action.{Action}
use Rattle.cany_base.specs.declared.format.Format.{Format}
use Rattle.cany_base.specs.declared.actions.Action.TheVariants as action
use Rattle.cany_base.specs.Frame.{identifier_of}
use Rattle.cany_model.specs.Rules.Effect.{Effect, Ask, Withdraw, Enter}
use Rattle.cany_model.specs.Bus.Frames.{Identity, bare}

-- the identifier of the frames of this identity
abbrev pub ident_of : Format → Identity → ℕ
ident_of format x = identifier_of format (bare x)

abbrev pub action_of : Format → Effect → Action
action_of format (Ask f) = action.Ask f
action_of format (Withdraw x) = action.Withdraw (ident_of format x)
action_of format (Enter entry) = action.Enter entry

abbrev pub actions_of : Format → List Effect → List Action
actions_of format effects = map (action_of format) effects
