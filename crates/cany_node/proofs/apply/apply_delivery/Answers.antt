use Rattle.cany_node.proofs.AppliedParts.{none_applied}
use Rattle.cany_node.proofs.apply.apply_delivery.Goals as goal

pub returns-then-not-delivers : goal.returns-then-not-delivers
returns-then-not-delivers c = rw c.if-not-delivers.true (none_applied c.args.inc c.args.ctl.now c.args.log.now)

pub apply_one-requires : goal.apply_one-requires
apply_one-requires c = rw (c.if-not-delivers.false, ← c.frame.view_is) at c.requires

pub returns : goal.returns
returns c = rw (c.if-not-delivers.false, ← c.frame.view_is) c.apply_one.ensures
