use Rattle.std.proofs.Common.{◌<◌, ap, arith, length, length-append, rules}
use Rattle.std.specs.Prelude.{decimal}
use Rattle.cany_log.proofs.NumberFacts.{inc_digits}
use Rattle.cany_log.proofs.line_buffer.LineBuffer.put_incarnation.Goals as goal

pub put_digits-requires : goal.put_digits-requires
put_digits-requires g c =
    let few : c.from.result < 256 = omega (arith, c.from.ensures, c.ranges.inc.fits) in
    (search rules, omega (arith, inc_digits c.from.result few))

pub put_byte-requires : goal.put_byte-requires
put_byte-requires g c =
    let few : c.from.result < 256 = omega (arith, c.from.ensures, c.ranges.inc.fits) in
    (search rules, omega (arith, inc_digits c.from.result few, ap length c.put_digits.ensures, length-append (decimal c.from.result) c.args.self.now))
