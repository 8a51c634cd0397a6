use Rattle.std.proofs.Common.{subst}
use Rattle.cany_world.specs.Journal.{Repeats}
use Rattle.cany_world.specs.World.{WorldParts}
use Rattle.cany_world.proofs.world.World.period.Goals as goal

pub returns : goal.returns
returns c = subst (λ (w : WorldParts). Repeats c.period.result w.journal) c.self.view_is c.period.ensures
