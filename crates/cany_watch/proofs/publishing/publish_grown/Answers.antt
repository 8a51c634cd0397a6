use Rattle.std.proofs.Common.{ℕ, Option, subst}
use Rattle.cany_watch.specs.Halls.{IsShownBut}
use Rattle.cany_watch.proofs.PublishFacts.{none_grown}
use Rattle.cany_watch.proofs.publishing.publish_grown.Goals as goal

pub returns-in-None : goal.returns-in-None
returns-in-None g c =
    none_grown c.args.world.now c.args.publishers.now.items c.requires.are
    (subst (λ (grown : Option ℕ). IsShownBut grown c.args.world.now c.args.publishers.now.items) c.in-None.is (c.requires.others c.if-not-is_all_else.false))
