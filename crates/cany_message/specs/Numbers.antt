-- The numbers that stand for messages.
use Rattle.std.specs.Prelude.{ℕ, ◌+◌, ◌*◌, List, filter, map}
use Rattle.cany_base.specs.declared.message.Service.{Service}
use Rattle.cany_base.specs.Frame.{FrameParts}
use Rattle.cany_base.specs.Limits.{most_nodes}
use Rattle.cany_base.specs.Scenario.{ScenarioParts}
use Rattle.cany_model.specs.Rules.Messages.{Message, is_service, messages_of}

-- the number that stands for the message of an origin
abbrev pub message_number : (seq origin : ℕ) → ℕ
message_number seq origin = seq * most_nodes + origin

-- that of the message that a frame names
abbrev pub frame_number : FrameParts → ℕ
frame_number f = message_number f.number f.node

-- those of these messages
abbrev pub numbers_of : List Message → List ℕ
numbers_of messages = map (λ m. message_number m.seq m.origin) messages

-- the numbers of a scenario's messages by a service
abbrev pub message_numbers : ScenarioParts → Service → List ℕ
message_numbers scenario by = numbers_of (filter (λ m. is_service by m.service) (messages_of scenario.sends))
