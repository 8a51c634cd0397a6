-- The scripted sends: in its turn of the scripted slot the origin asks for the data frame of an
-- EDCAN or RELCAN message.
use Rattle.std.specs.Prelude.{ℕ, ◌==◌, ◌&&◌, ◌||◌, Bool, true, false, nat_lt, if◌then◌else◌, List, [], ◌∷◌, length, filter, map}
use Rattle.cany_base.specs.declared.class.Class.TheVariants as class
use Rattle.cany_base.specs.declared.message.Service.{Service}
use Rattle.cany_base.specs.declared.message.Service.TheVariants.{Ed, Rel, Tot}
use Rattle.cany_base.specs.Scenario.{ScenarioParts}
use Rattle.cany_model.specs.Bus.Frames.{same_class}
use Rattle.cany_model.specs.Rules.Effect.{Ask, TurnRule}
use Rattle.cany_model.specs.Rules.Messages.{Message, messages_of, data_frame}
use Rattle.cany_model.specs.Rules.Protocol.{Protocol, nothing_ahead}

-- whether the origin asks for the data frame in its turn of the scripted slot
abbrev pub is_sent_at_once : Service → Bool
is_sent_at_once Ed = true
is_sent_at_once Rel = true
is_sent_at_once Tot = false

abbrev pub is_sent_in : ℕ → ℕ → Message → Bool
is_sent_in i slot m = is_sent_at_once m.service && m.origin == i && m.slot == slot

-- the messages that may be sent in a slot: none before the first slot whose scripted asks are made
abbrev pub sendable : ScenarioParts → ℕ → List Message
sendable scenario slot = if nat_lt slot scenario.from then [] else messages_of scenario.sends

-- the origin asks for the data frames of its messages of this slot, in file order
unfoldable pub send_effects : TurnRule
send_effects scenario i [] = []
send_effects scenario i (notice ∷ before) =
    map (λ m. Ask (data_frame m)) (filter (is_sent_in i (length before)) (sendable scenario (length before)))

abbrev pub scripted_sends : Protocol
scripted_sends = record {
  effects = send_effects;
  originates = true;
  ahead = nothing_ahead;
  names = λ c. same_class c class.Ed || same_class c class.Rel;
  delivers = λ by. false;
}
