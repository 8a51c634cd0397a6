use Rattle.std.proofs.Common.{◌/◌, arith}
use Rattle.std.proofs.Math.Nat.{mul-div-le}
use Rattle.cany_log.proofs.heading.whole_pages.Goals as goal

pub returns : goal.returns
returns c = omega (arith, mul-div-le (c.args.steps / 64) c.args.lines)
