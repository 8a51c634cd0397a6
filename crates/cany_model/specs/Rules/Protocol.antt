-- A protocol as one value: what a turn and a settled message ask of it, and what it names and
-- delivers.
use Rattle.std.specs.Prelude.{ℕ, Bool, false, List}
use Rattle.cany_base.specs.declared.class.Class.{Class}
use Rattle.cany_base.specs.declared.message.Service.{Service}
use Rattle.cany_base.specs.declared.notice.NoticeKind.{NoticeKind}
use Rattle.cany_base.specs.Scenario.{ScenarioParts}
use Rattle.cany_model.specs.Rules.Effect.{TurnRule}
use Rattle.cany_model.specs.Rules.Messages.{Message}

pub record Protocol : Type 0 where
  -- what it does in a turn
  pub effects : TurnRule
  -- whether it is by this that an origin asks for the data frames of its own messages
  pub originates : Bool
  -- whether it has something of a message ahead at a node, after what the node has read
  pub ahead : ScenarioParts → Message → ℕ → List NoticeKind → Bool
  -- the classes of the frames that it asks for and withdraws
  pub names : Class → Bool
  -- the services whose messages it delivers
  pub delivers : Service → Bool

-- of a protocol without timers
abbrev pub nothing_ahead : ScenarioParts → Message → ℕ → List NoticeKind → Bool
nothing_ahead scenario m i past = false

-- One that is no service: by it no origin asks for a message, none is delivered, and it has nothing
-- ahead.
abbrev pub no_service : TurnRule → (Class → Bool) → Protocol
no_service effects names = record { effects = effects; originates = false; ahead = nothing_ahead; names = names; delivers = λ by. false }
