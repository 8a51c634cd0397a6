use Rattle.std.proofs.Common.{◌≡◌, ◌↔◌, false, ap, subst, sym, ◌∙◌}
use Rattle.cany_base.specs.declared.message.SendAsk.{SendAsk}
use Rattle.cany_base.specs.Nodes.{nobody}
use Rattle.cany_base.specs.Params.{Parameters}
use Rattle.cany_base.proofs.ParamsFacts.{few_nodes}
use Rattle.cany_model.specs.Rules.Messages.{frames_named, frames_of}
use Rattle.cany_model.specs.Promises.Settled.{is_awaited}
use Rattle.cany_world.specs.Controllers.{IsSmallKey}
use Rattle.cany_world.specs.Settled.{waiting_nodes}
use Rattle.cany_world.specs.World.{WorldParts, state_of}
use Rattle.cany_world.specs.WorldFields.{world_parts}
use Rattle.cany_world.proofs.SettledFacts.{HasMessage, controllers_read, few_read, have_format, message_of_send, told_of_send}
use Rattle.cany_world.proofs.UnsettledFacts.{nobody_waits}
use Rattle.cany_world.proofs.world.World.waiting.Goals as goal
use Rattle.cany_world.proofs.world.World.waiting.Goals.{After-waiting_nodes}

pub waiting_nodes-requires-clause-count : goal.waiting_nodes-requires-clause-count
waiting_nodes-requires-clause-count c =
    few_read c.self.inside c.self.invariant _ c.as_slice-controllers.ensures.value

pub waiting_nodes-requires-clause-format : goal.waiting_nodes-requires-clause-format
waiting_nodes-requires-clause-format c =
    have_format c.self.inside c.self.invariant _ c.as_slice-controllers.ensures.value _ (c.behind-self.view_is ∙ c.params.ensures.params)

pub waiting_nodes-requires-clause-key : goal.waiting_nodes-requires-clause-key
waiting_nodes-requires-clause-key c =
    let named = message_of_send (world_parts c.self.inside) _ c.self.view_is c.args.index c.sends-sends.result.now c.index-sends-index.result c.key.result
    c.self.invariant.legal c.requires c.sends-sends.ensures c.index-sends-index.is c.key.ensures in
    subst (λ (p : Parameters). IsSmallKey p.format c.key.result) (sym (c.behind-self.view_is ∙ c.params.ensures.params)) named.small

it : (c : After-waiting_nodes) → HasMessage c.self.inside.scenario c.args.index c.index-sends-index.result c.key.result
it c =
    message_of_send (world_parts c.self.inside) _ c.self.view_is c.args.index c.sends-sends.result.now c.index-sends-index.result c.key.result c.self.invariant.legal
    c.requires c.sends-sends.ensures c.index-sends-index.is c.key.ensures

-- the set is that of the message
set_is : (c : After-waiting_nodes) → c.waiting_nodes.result ≡ waiting_nodes (frames_of (it c).message) (state_of (world_parts c.self.inside))
set_is c =
    let u : WorldParts = world_parts c.self.inside in
    let named = it c in
    c.waiting_nodes.ensures u.scenario u.journal (controllers_read c.self.inside c.self.invariant _ c.as_slice-controllers.ensures.value)
    ∙ ap (λ by. waiting_nodes (frames_named by c.key.result) (state_of u)) (sym (named.service ∙ ap (λ (x : SendAsk). x.service) c.index-sends-index.is))
    ∙ ap (λ k. waiting_nodes (frames_named named.message.service k) (state_of u)) (sym named.named)

pub returns-clause-set : goal.returns-clause-set
returns-clause-set c =
    let end = (goal.at.returns-clause-set c).After-waiting_nodes in
    told_of_send (world_parts c.self.inside) _ c.self.view_is c.args.index _ _ (λ w m. c.waiting_nodes.result ≡ waiting_nodes (frames_of m) (state_of w)) (it end) (set_is end)

pub returns-clause-nobody : goal.returns-clause-nobody
returns-clause-nobody c =
    let u : WorldParts = world_parts c.self.inside in
    let end = (goal.at.returns-clause-nobody c).After-waiting_nodes in
    told_of_send u _ c.self.view_is c.args.index _ _ (λ w m. (c.waiting_nodes.result ≡ nobody) ↔ (is_awaited (frames_of m) (state_of w) ≡ false)) (it end)
    (subst (λ set. (set ≡ nobody) ↔ (is_awaited (frames_of (it end).message) (state_of u) ≡ false)) (sym (set_is end))
    (nobody_waits u.scenario u.journal (few_nodes u.scenario.params c.self.invariant.legal.in_range) (frames_of (it end).message)))
