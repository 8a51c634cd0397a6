use Rattle.cany_world.specs.World.{state_of}
use Rattle.cany_world.proofs.SpansAndLogs.{log_is}
use Rattle.cany_world.proofs.world.World.log.Goals as goal

pub returns : goal.returns
returns c =
    log_is c.args.self.now.scenario (state_of c.args.self.now) c.args.node c.incarnations.result.now c.node.result.now c.log.result.now c.incarnations.ensures c.node.ensures c.log.ensures
