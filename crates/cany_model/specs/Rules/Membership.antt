-- Membership in a turn: the exchange of vectors, the view at the end of a cycle, and the scripted
-- asks to join and to leave.
use Rattle.std.specs.Prelude.{ℕ, ◌==◌, ◌&&◌, ◌||◌, ◌++◌, Bool, nat_lt, if◌then◌else◌, List, [], ◌∷◌, length, filter}
use Rattle.std.specs.List.{flat_map}
use Rattle.cany_base.specs.declared.class.Class.TheVariants as class
use Rattle.cany_base.specs.declared.message.NodeAsk.{NodeAsk}
use Rattle.cany_base.specs.Scenario.{ScenarioParts}
use Rattle.cany_model.specs.Bus.Frames.{same_class}
use Rattle.cany_model.specs.Rules.Effect.{TurnRule}
use Rattle.cany_model.specs.Rules.Protocol.{Protocol, no_service}
use Rattle.cany_model.specs.Rules.KnowledgeOf.{ended_in, start_in, knowledge_of}
use Rattle.cany_model.specs.Rules.Vectors.{exchange_at}
use Rattle.cany_model.specs.Rules.Views.{join_asked, leave_asked, view_effects}

-- ---- vectors

unfoldable pub exchange_effects : TurnRule
exchange_effects scenario i [] = []
exchange_effects scenario i (notice ∷ before) =
    exchange_at scenario.params scenario.inc i notice before (knowledge_of scenario i before).vector
    (start_in scenario.params i (length before) notice (knowledge_of scenario i before))

abbrev pub vectors : Protocol
vectors = no_service exchange_effects (λ c. same_class c class.Rha)

-- ---- views

unfoldable pub install_effects : TurnRule
install_effects scenario i [] = []
install_effects scenario i (notice ∷ before) =
    view_effects scenario.params scenario.joins scenario.leaves i (length before)
    (ended_in scenario.params (length before) notice (knowledge_of scenario i before))

abbrev pub views : Protocol
views = no_service install_effects (λ c. same_class c class.Join || same_class c class.Leave)

-- ---- scripted asks

abbrev pub is_ask_in : ℕ → ℕ → NodeAsk → Bool
is_ask_in i slot ask = ask.node == i && ask.slot == slot

-- those of node i in a slot: none before the first slot whose scripted asks are made
abbrev pub asks_in : ScenarioParts → ℕ → ℕ → List NodeAsk → List NodeAsk
asks_in scenario i slot asks = if nat_lt slot scenario.from then [] else filter (is_ask_in i slot) asks

-- the joins, and then the leaves, each in file order
unfoldable pub ask_effects : TurnRule
ask_effects scenario i [] = []
ask_effects scenario i (notice ∷ before) =
    flat_map (λ ask. join_asked scenario.params scenario.inc i (length before) (knowledge_of scenario i (notice ∷ before)).members)
    (asks_in scenario i (length before) scenario.joins)
    ++ flat_map (λ ask. leave_asked scenario.params scenario.inc i (length before) (knowledge_of scenario i (notice ∷ before)).members)
    (asks_in scenario i (length before) scenario.leaves)

abbrev pub scripted_asks : Protocol
scripted_asks = no_service ask_effects (λ c. same_class c class.Join || same_class c class.Leave)
