use Rattle.std.proofs.Common.{◌∙◌, ap, arith, sym}
use Rattle.cany_log.specs.Letters.{letter_of}
use Rattle.cany_log.proofs.LetterFacts.{letter_of_slot, letter_of_turn}
use Rattle.cany_text.specs.ReportLines.{step_letter}
use Rattle.cany_log.proofs.letters.number_of.Goals as goal

pub returns-in-Slot-clause-letter : goal.returns-in-Slot-clause-letter
returns-in-Slot-clause-letter c = letter_of_slot ∙ ap step_letter (sym c.in-Slot.is)

pub returns-in-Turn-clause-letter : goal.returns-in-Turn-clause-letter
returns-in-Turn-clause-letter c =
    ap letter_of c.get.ensures.value ∙ letter_of_turn c.in-Turn.node (omega (arith, c.get.ensures.value, c.get.ensures.in_range)) ∙ ap step_letter (sym c.in-Turn.is)
