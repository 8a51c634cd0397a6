use Rattle.cany_world.proofs.SpansAndLogs.{told_since}
use Rattle.cany_world.proofs.world.World.takes_part_since.Goals as goal

pub returns : goal.returns
returns c =
    told_since c.args.self.now.scenario c.args.self.now.journal c.args.node c.args.inc c.incarnations.result.now c.incarnations.ensures c.requires.inc c.takes_part_since.result
    c.takes_part_since.ensures.first c.takes_part_since.ensures.later
