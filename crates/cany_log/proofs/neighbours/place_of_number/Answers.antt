use Rattle.std.proofs.Common.{arith}
use Rattle.cany_log.proofs.NumbersFacts.{place_high, place_low}
use Rattle.cany_log.proofs.neighbours.place_of_number.Goals as goal

pub returns-then-number-lt10 : goal.returns-then-number-lt10
returns-then-number-lt10 c = omega (arith, c.from-number.ensures, place_low c.args.number (omega (arith, c.from-number.ensures, c.if-number-lt10.true)))

pub returns-else-number-lt10 : goal.returns-else-number-lt10
returns-else-number-lt10 c =
    omega (arith, c.from-number.ensures, place_high c.args.number (omega (arith, c.from-number.ensures, c.if-number-lt10.false)) c.requires)
