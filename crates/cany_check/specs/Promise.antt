-- What the status of a verdict says of a run, in the words of the promise.
use Rattle.std.specs.Prelude.{◌≡◌, ℕ, ◌⊎◌, false, Contains}
use Rattle.cany_base.specs.declared.log_entry.LogEntry.TheVariants.{Failed}
use Rattle.cany_base.specs.Scenario.{ScenarioParts}
use Rattle.cany_model.specs.Bus.State.{RunState}
use Rattle.cany_model.specs.Promises.OneView.{HasOneView}
use Rattle.cany_model.specs.Promises.Safe.{IsAgreedOn, IsSignAgreedOn}
use Rattle.cany_model.specs.Promises.Settled.{IsCorrect, IsCorrectFrom, is_settled, nobody_waits_with_sign}
use Rattle.cany_model.specs.Promises.Entries.{HasLoggedFailure}
use Rattle.cany_model.specs.Rules.Knowledge.{FailureSign}
use Rattle.cany_model.specs.Rules.Log.{log}
use Rattle.cany_model.specs.Rules.Messages.{Message, messages_of}
use Rattle.cany_check.specs.Accounts.Account.{account_of}
use Rattle.cany_check.specs.Deciding.OneOrder.{NobodyParts}

-- no log of a correct node has a failure entry of this one
abbrev pub StandsInNone : ScenarioParts → RunState → ℕ → Type 0
StandsInNone scenario s r = (i : ℕ) → IsCorrect scenario s i → (slot cycle : ℕ) → Contains (log scenario s i) (Failed slot r cycle) → ⊥

-- Nothing of the promise is broken: the run agrees on each message and on each sign, no two correct
-- nodes part, they hold one view of each number, and nobody that ran all the time was taken for
-- failed.
pub record KeepsPromise (scenario : ScenarioParts) (s : RunState) : Type 0 where
  pub agreement : (m : Message) → Contains (messages_of scenario.sends) m → IsAgreedOn scenario s m
  pub order : NobodyParts (account_of scenario s)
  pub views : HasOneView scenario s
  pub signs : (sign : FailureSign) → IsSignAgreedOn scenario s sign
  pub accuracy : (r : ℕ) → IsCorrectFrom scenario s 0 r → StandsInNone scenario s r

-- a message is not settled
pub record HasOpenMessage (scenario : ScenarioParts) (s : RunState) : Type 0 where
  pub message : Message
  pub stands : Contains (messages_of scenario.sends) message
  pub unsettled : is_settled scenario s message ≡ false

-- somebody waits with the frame of a sign that a correct node knows
pub record HasOpenSign (scenario : ScenarioParts) (s : RunState) : Type 0 where
  pub sign : FailureSign
  pub node : ℕ
  pub correct : IsCorrect scenario s node
  pub knows : HasLoggedFailure scenario s node sign
  pub awaited : nobody_waits_with_sign s sign ≡ false

-- more may come of a message or of a sign
abbrev pub IsOpen : ScenarioParts → RunState → Type 0
IsOpen scenario s = HasOpenMessage scenario s ⊎ HasOpenSign scenario s
