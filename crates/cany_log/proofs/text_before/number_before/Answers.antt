use Rattle.std.proofs.Common.{◌≤◌, arith, length, rules}
use Rattle.std.specs.Prelude.{decimal}
use Rattle.std.proofs.lemmas.Fmt.{length-decimal-le}
use Rattle.cany_log.proofs.text_before.number_before.Goals as goal

pub write_digits-at-requires : goal.write_digits-at-requires
write_digits-at-requires c = (
  omega (arith, c.requires.0, length-decimal-le 20 c.args.number (omega arith) (omega arith) (omega arith)),
  c.requires.1,
)

pub byte_before-requires : goal.byte_before-requires
byte_before-requires c =
    let short : length (decimal c.args.number) ≤ 20 = length-decimal-le 20 c.args.number (omega arith) (omega arith) (omega arith) in
    (omega (arith, short, c.requires.0, c.write_digits-at.ensures.start), search rules)

pub returns-clause-short : goal.returns-clause-short
returns-clause-short c = length-decimal-le 20 c.args.number (omega arith) (omega arith) (omega arith)
