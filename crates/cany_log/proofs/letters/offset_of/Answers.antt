use Rattle.std.proofs.Common.{arith}
use Rattle.std.proofs.lemmas.Bool.{le-ltb, lt-ltb}
use Rattle.cany_log.proofs.LetterFacts.{letter_by_offset, letter_past_62}
use Rattle.cany_log.proofs.letters.offset_of.Goals as goal

pub returns-then-number-lt10-clause-letter : goal.returns-then-number-lt10-clause-letter
returns-then-number-lt10-clause-letter c =
    rw (lt-ltb c.args.number 10 c.if-number-lt10.true) at (letter_by_offset c.args.number (omega (arith, c.requires)))

pub returns-then-number-lt36-clause-letter : goal.returns-then-number-lt36-clause-letter
returns-then-number-lt36-clause-letter c =
    rw (le-ltb c.args.number 10 c.if-number-lt10.false, lt-ltb c.args.number 36 c.if-number-lt36.true) at
    (letter_by_offset c.args.number (omega (arith, c.requires)))

pub returns-then-number-lt62-clause-letter : goal.returns-then-number-lt62-clause-letter
returns-then-number-lt62-clause-letter c =
    rw (le-ltb c.args.number 10 c.if-number-lt10.false, le-ltb c.args.number 36 c.if-number-lt36.false, lt-ltb c.args.number 62 c.if-number-lt62.true) at
    (letter_by_offset c.args.number (omega (arith, c.requires)))

pub returns-then-number-lt63-clause-letter : goal.returns-then-number-lt63-clause-letter
returns-then-number-lt63-clause-letter c =
    rw (lt-ltb c.args.number 63 c.if-number-lt63.true) at (letter_past_62 c.args.number (omega (arith, c.requires)) c.if-number-lt62.false)

pub returns-else-number-lt63-clause-letter : goal.returns-else-number-lt63-clause-letter
returns-else-number-lt63-clause-letter c =
    rw (le-ltb c.args.number 63 c.if-number-lt63.false) at (letter_past_62 c.args.number (omega (arith, c.requires)) c.if-number-lt62.false)
