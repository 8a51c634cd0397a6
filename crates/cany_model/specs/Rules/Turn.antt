-- What a node does in a turn: what each protocol does, in their order.
use Rattle.std.specs.Prelude.{ℕ, zero, suc, ◌==◌, ◌||◌, Bool, false, if◌then◌else◌, List, [], ◌∷◌}
use Rattle.std.specs.List.{flat_map, list_any}
use Rattle.cany_base.specs.declared.notice.NoticeKind.{NoticeKind}
use Rattle.cany_base.specs.Scenario.{ScenarioParts}
use Rattle.cany_model.specs.Bus.Frames.{Identity, is_of}
use Rattle.cany_base.specs.Nodes.{nobody}
use Rattle.cany_model.specs.Bus.State.{Incarnation, RunState, node_at}
use Rattle.cany_model.specs.Rules.Backlog.{tot_backlog}
use Rattle.cany_model.specs.Rules.Edcan.{edcan}
use Rattle.cany_model.specs.Rules.Effect.{Effect, Ask, Withdraw, Enter, TurnRule}
use Rattle.cany_model.specs.Rules.Life.{failure_signs, life_signs}
use Rattle.cany_model.specs.Rules.Membership.{scripted_asks, vectors, views}
use Rattle.cany_model.specs.Rules.Messages.{Message, data_id}
use Rattle.cany_model.specs.Rules.Protocol.{Protocol}
use Rattle.cany_model.specs.Rules.Relcan.{relcan}
use Rattle.cany_model.specs.Rules.Sends.{scripted_sends}
use Rattle.cany_model.specs.Rules.Totcan.{totcan}

-- the protocols, in the order in which a turn goes through them
abbrev pub protocols : List Protocol
protocols =
    edcan ∷ relcan ∷ totcan ∷ failure_signs ∷ vectors ∷ views ∷ life_signs ∷ scripted_sends ∷ scripted_asks ∷ tot_backlog ∷ []

-- one after another
unfoldable pub turn_effects : TurnRule
turn_effects scenario i past = flat_map (λ protocol. protocol.effects scenario i past) protocols

-- The scenario as an incarnation follows it. One of a restarted node makes no scripted ask of a
-- slot before its first one, is at first no member, and tells its number.
abbrev pub scenario_for : ScenarioParts → Incarnation → ScenarioParts
scenario_for scenario inc = record scenario {
  members = if inc.number == 0 then scenario.members else nobody;
  from = if inc.number == 0 then scenario.from else inc.from;
  inc = if inc.number == 0 then scenario.inc else inc.number;
}

-- the scenario as the present incarnation of node i follows it
abbrev pub scenario_at : ScenarioParts → RunState → ℕ → ScenarioParts
scenario_at scenario s i = scenario_for scenario (node_at s.nodes i).present

-- what an incarnation does in a turn, where its number is given apart, so that a node that never
-- restarted gets the very scenario, and rows compute
abbrev pub effects_for : ℕ → ScenarioParts → Incarnation → ℕ → List NoticeKind → List Effect
effects_for zero scenario inc i past = turn_effects scenario i past
effects_for (suc number) scenario inc i past = turn_effects (scenario_for scenario inc) i past

-- whether one of them has something of the message ahead at node i
abbrev pub is_ahead_at : ScenarioParts → Message → ℕ → List NoticeKind → Bool
is_ahead_at scenario m i past = list_any (λ protocol. protocol.ahead scenario m i past) protocols

-- what an origin does in a turn for its own messages
abbrev pub origin_effects : TurnRule
origin_effects scenario i past =
    flat_map (λ protocol. if protocol.originates then protocol.effects scenario i past else []) protocols

abbrev pub asks_for : Identity → Effect → Bool
asks_for x (Ask f) = is_of x f
asks_for x (Withdraw y) = false
asks_for x (Enter entry) = false

-- whether node i, as the origin, asked for the data frame of the message in one of its turns so far
unfoldable pub has_asked : ScenarioParts → Message → ℕ → List NoticeKind → Bool
has_asked scenario m i [] = false
has_asked scenario m i (notice ∷ before) =
    list_any (asks_for (data_id m)) (origin_effects scenario i (notice ∷ before)) || has_asked scenario m i before
