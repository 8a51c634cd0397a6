use Rattle.std.proofs.Common.{◌≡◌, sym, subst, ◌∙◌}
use Rattle.cany_base.specs.Params.{Parameters}
use Rattle.cany_model.specs.Promises.Settled.{is_settled}
use Rattle.cany_world.specs.Controllers.{IsSmallKey}
use Rattle.cany_world.specs.World.{WorldParts, state_of}
use Rattle.cany_world.specs.WorldFields.{world_parts}
use Rattle.cany_world.proofs.SettledFacts.{about, have_format, message_of_send, origin_within, same_count, told_of_send}
use Rattle.cany_world.proofs.world.World.settled.Goals as goal

pub is_settled-requires-clause-origin : goal.is_settled-requires-clause-origin
is_settled-requires-clause-origin c =
    origin_within c.self.inside c.self.invariant _ c.as_slice-controllers.ensures.value c.args.index _ _
    (message_of_send (world_parts c.self.inside) _ c.self.view_is c.args.index c.sends-sends.result.now c.index-sends-index.result c.key.result c.self.invariant.legal
    c.requires c.sends-sends.ensures c.index-sends-index.is c.key.ensures)

pub is_settled-requires-clause-key : goal.is_settled-requires-clause-key
is_settled-requires-clause-key c =
    let it = message_of_send (world_parts c.self.inside) _ c.self.view_is c.args.index c.sends-sends.result.now c.index-sends-index.result c.key.result
    c.self.invariant.legal c.requires c.sends-sends.ensures c.index-sends-index.is c.key.ensures in
    subst (λ (p : Parameters). IsSmallKey p.format c.key.result) (sym (c.behind-self.view_is ∙ c.params.ensures.params)) it.small

pub is_settled-requires-clause-format : goal.is_settled-requires-clause-format
is_settled-requires-clause-format c =
    have_format c.self.inside c.self.invariant _ c.as_slice-controllers.ensures.value _ (c.behind-self.view_is ∙ c.params.ensures.params)

pub is_settled-requires-clause-count : goal.is_settled-requires-clause-count
is_settled-requires-clause-count c =
    same_count c.self.inside c.self.invariant _ c.as_slice-controllers.ensures.value _ c.as_slice-nodes.ensures.value

pub returns : goal.returns
returns c =
    let u : WorldParts = world_parts c.self.inside in
    let it = message_of_send u _ c.self.view_is c.args.index c.sends-sends.result.now c.index-sends-index.result c.key.result c.self.invariant.legal c.requires
    c.sends-sends.ensures c.index-sends-index.is c.key.ensures in
    told_of_send u _ c.self.view_is c.args.index _ _ (λ w m. c.is_settled.result ≡ is_settled w.scenario (state_of w) m) it
    (c.is_settled.ensures u.scenario u.journal it.message
    (about c.self.inside c.self.invariant _ c.as_slice-controllers.ensures.value _ c.as_slice-nodes.ensures.value it.message _ it.stands it.named)
    it.service it.slot)
