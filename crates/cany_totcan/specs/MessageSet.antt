-- A set of messages.
use Rattle.std.specs.Prelude.{◌≡◌, ℕ, zero, suc, max, ◌==◌, Bool, if◌then◌else◌, List, count_by, length, slice_index_or}
use Rattle.cany_base.specs.declared.message.SendAsk.{SendAsk}
use Rattle.cany_base.specs.declared.message.Service.TheVariants as service
use Rattle.cany_base.specs.Nodes.{Nodes, has, nobody}
use Rattle.cany_base.specs.Scenario.{ScenarioParts}
use Rattle.cany_model.specs.Rules.Messages.{is_from}
use Rattle.cany_model.specs.Rules.Rooms.{sends_by}

-- for each sequence number the origins of those messages of this number that are in the set
pub record MessageSetParts : Type 0 where
  pub origins : List Nodes

abbrev pub has_message : MessageSetParts → (seq origin : ℕ) → Bool
has_message v seq origin = has (slice_index_or v.origins seq nobody) origin

-- the most scripted sends of one of the first nodes
unfoldable pub most_of_one : List SendAsk → ℕ → ℕ
most_of_one sends zero = 0
most_of_one sends (suc nodes) = max (count_by (is_from nodes) sends) (most_of_one sends nodes)

-- A number above those of all messages by TOTCAN: the messages of an origin are numbered together,
-- whatever their service.
abbrev pub numbers_of : ScenarioParts → ℕ
numbers_of scenario = if sends_by scenario service.Tot == 0 then 0 else most_of_one scenario.sends scenario.params.nodes

-- there is a place for each message of the scenario by TOTCAN
abbrev pub HasRoomOf : ScenarioParts → MessageSetParts → Type 0
HasRoomOf scenario v = length v.origins ≡ numbers_of scenario
