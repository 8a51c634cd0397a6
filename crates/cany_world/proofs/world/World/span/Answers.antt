use Rattle.cany_world.proofs.SpansAndLogs.{told_span}
use Rattle.cany_world.proofs.world.World.span.Goals as goal

pub returns : goal.returns
returns c =
    told_span c.args.self.now.scenario c.args.self.now.journal c.args.node c.args.inc c.incarnations.result.now c.incarnations.ensures c.requires.inc c.controller.result.now c.span_of.result
    c.controller.ensures c.span_of.ensures
