use Rattle.cany_world.proofs.SpansAndLogs.{told_log}
use Rattle.cany_world.proofs.world.World.log_of.Goals as goal

pub returns : goal.returns
returns c =
    told_log c.args.self.now.scenario c.args.self.now.journal c.args.node c.args.inc c.incarnations.result.now c.incarnations.ensures c.requires.inc c.log_of.result.now c.log_of.ensures
