use Rattle.std.proofs.Common.{refl, subst}
use Rattle.cany_model.specs.Rules.Messages.{message_key}
use Rattle.cany_world.specs.Settled.{IsFinished}
use Rattle.cany_world.specs.World.{WorldParts, state_of}
use Rattle.cany_world.specs.WorldFields.{world_parts}
use Rattle.cany_world.proofs.SettledFacts.{about, same_count}
use Rattle.cany_world.proofs.world.World.finished_services.Goals as goal

pub finished_services-requires : goal.finished_services-requires
finished_services-requires c =
    same_count c.self.inside c.self.invariant _ c.as_slice.ensures.value _ c.as_slice-2.ensures.value

pub returns : goal.returns
returns c =
    let w : WorldParts = world_parts c.self.inside in
    subst (λ (v : WorldParts). IsFinished v.scenario (state_of v) c.finished_services.result) c.self.view_is
    (λ m stands. c.finished_services.ensures w.scenario w.journal m (message_key m)
    (about c.self.inside c.self.invariant _ c.as_slice.ensures.value _ c.as_slice-2.ensures.value m _ stands refl))
