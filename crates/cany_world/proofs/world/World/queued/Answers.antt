use Rattle.std.proofs.Common.{◌≡◌, ap, ◌∙◌}
use Rattle.std.specs.Prelude.{not}
use Rattle.cany_base.specs.declared.message.SendAsk.{SendAsk}
use Rattle.cany_world.specs.Settled.{is_queued}
use Rattle.cany_world.specs.World.{WorldParts, state_of}
use Rattle.cany_world.specs.WorldFields.{world_parts}
use Rattle.cany_world.proofs.SettledFacts.{about, message_of_send, origin_within, same_count, told_of_send}
use Rattle.cany_world.proofs.world.World.queued.Goals as goal

pub is_asked-requires-clause-count : goal.is_asked-requires-clause-count
is_asked-requires-clause-count c =
    same_count c.self.inside c.self.invariant _ c.as_slice-controllers.ensures.value _ c.as_slice-nodes.ensures.value

pub is_asked-requires-clause-origin : goal.is_asked-requires-clause-origin
is_asked-requires-clause-origin c =
    origin_within c.self.inside c.self.invariant _ c.as_slice-controllers.ensures.value c.args.index _ _
    (message_of_send (world_parts c.self.inside) _ c.self.view_is c.args.index c.sends-sends.result.now c.index-sends-index.result c.key.result c.self.invariant.legal
    c.requires c.sends-sends.ensures c.index-sends-index.is c.key.ensures)

pub returns : goal.returns
returns c =
    let u : WorldParts = world_parts c.self.inside in
    let it = message_of_send u _ c.self.view_is c.args.index c.sends-sends.result.now c.index-sends-index.result c.key.result c.self.invariant.legal c.requires
    c.sends-sends.ensures c.index-sends-index.is c.key.ensures in
    told_of_send u _ c.self.view_is c.args.index _ _ (λ w m. not c.is_asked.result ≡ is_queued w.scenario (state_of w) m) it
    (ap not (c.is_asked.ensures u.scenario u.journal it.message
    (about c.self.inside c.self.invariant _ c.as_slice-controllers.ensures.value _ c.as_slice-nodes.ensures.value it.message _ it.stands it.named)
    (it.slot ∙ ap (λ (x : SendAsk). x.slot) c.index-sends-index.is)))
