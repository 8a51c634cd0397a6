use Rattle.std.proofs.Common.{◌≡◌, ◌↔◌, false, ap, subst, sym, ◌∙◌}
use Rattle.cany_base.specs.declared.message.SendAsk.{SendAsk}
use Rattle.cany_base.specs.Nodes.{nobody}
use Rattle.cany_base.proofs.ParamsFacts.{few_nodes}
use Rattle.cany_model.specs.Promises.Settled.{is_ahead}
use Rattle.cany_world.specs.Settled.{nodes_ahead}
use Rattle.cany_world.specs.World.{WorldParts, state_of}
use Rattle.cany_world.specs.WorldFields.{world_parts}
use Rattle.cany_world.proofs.SettledFacts.{HasMessage, about, few_read, message_of_send, same_count, told_of_send}
use Rattle.cany_world.proofs.UnsettledFacts.{nobody_has_ahead}
use Rattle.cany_world.proofs.world.World.ahead.Goals as goal
use Rattle.cany_world.proofs.world.World.ahead.Goals.{After-nodes_ahead}

pub nodes_ahead-requires-clause-count : goal.nodes_ahead-requires-clause-count
nodes_ahead-requires-clause-count c =
    same_count c.self.inside c.self.invariant _ c.as_slice-controllers.ensures.value _ c.as_slice-nodes.ensures.value

pub nodes_ahead-requires-clause-few : goal.nodes_ahead-requires-clause-few
nodes_ahead-requires-clause-few c =
    few_read c.self.inside c.self.invariant _ c.as_slice-controllers.ensures.value

it : (c : After-nodes_ahead) → HasMessage c.self.inside.scenario c.args.index c.index-sends-index.result c.key.result
it c =
    message_of_send (world_parts c.self.inside) _ c.self.view_is c.args.index c.sends-sends.result.now c.index-sends-index.result c.key.result c.self.invariant.legal
    c.requires c.sends-sends.ensures c.index-sends-index.is c.key.ensures

-- the set is that of the message
set_is : (c : After-nodes_ahead) → c.nodes_ahead.result ≡ nodes_ahead c.self.inside.scenario (state_of (world_parts c.self.inside)) (it c).message
set_is c =
    let u : WorldParts = world_parts c.self.inside in
    let named = it c in
    c.nodes_ahead.ensures u.scenario u.journal named.message
    (about c.self.inside c.self.invariant _ c.as_slice-controllers.ensures.value _ c.as_slice-nodes.ensures.value named.message _ named.stands named.named)
    (named.service ∙ ap (λ (x : SendAsk). x.service) c.index-sends-index.is)

pub returns-clause-set : goal.returns-clause-set
returns-clause-set c =
    let end = (goal.at.returns-clause-set c).After-nodes_ahead in
    told_of_send (world_parts c.self.inside) _ c.self.view_is c.args.index _ _ (λ w m. c.nodes_ahead.result ≡ nodes_ahead w.scenario (state_of w) m) (it end) (set_is end)

pub returns-clause-nobody : goal.returns-clause-nobody
returns-clause-nobody c =
    let u : WorldParts = world_parts c.self.inside in
    let end = (goal.at.returns-clause-nobody c).After-nodes_ahead in
    told_of_send u _ c.self.view_is c.args.index _ _ (λ w m. (c.nodes_ahead.result ≡ nobody) ↔ (is_ahead w.scenario (state_of w) m ≡ false)) (it end)
    (subst (λ set. (set ≡ nobody) ↔ (is_ahead u.scenario (state_of u) (it end).message ≡ false)) (sym (set_is end))
    (nobody_has_ahead u.scenario u.journal (few_nodes u.scenario.params c.self.invariant.legal.in_range) (it end).message))
