use Rattle.std.proofs.Common.{◌∷◌, [], ◌++◌, map, take, ap, ◌∙◌, sym, arith, length-set}
use Rattle.std.proofs.lemmas.List.{take_more_set, map_more}
use Rattle.cany_text.specs.ReportLines.{step_letter}
use Rattle.cany_log.proofs.letters.write_letters.Goals as goal

pub loop-i-preserved : goal.loop-i-preserved
loop-i-preserved c = record {
  text =
      take_more_set c.loop-i.letters c.loop-i.i c.letter.result (omega (arith, c.loop-i.invariant.len))
      ∙ ap (λ done. done ++ c.letter.result ∷ []) c.loop-i.invariant.text
      ∙ ap (λ x. map step_letter (take c.loop-i.i c.args.steps.now) ++ x ∷ []) c.letter.ensures
      ∙ ap (λ step. map step_letter (take c.loop-i.i c.args.steps.now) ++ step_letter step ∷ []) c.index-steps-i.is
      ∙ sym (map_more step_letter c.args.steps.now c.loop-i.i c.index-steps-i.result (omega arith));
  len = length-set c.loop-i.letters c.loop-i.i c.letter.result ∙ c.loop-i.invariant.len;
}
