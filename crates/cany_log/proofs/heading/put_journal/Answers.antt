use Rattle.std.proofs.Common.{◌*◌, ◌-◌, ◌≤◌, ◌++◌, length, refl, ◌∙◌, ap, arith}
use Rattle.std.specs.List.{range_with_len}
use Rattle.std.proofs.lemmas.List.FromFn.{length-range_with_len}
use Rattle.cany_log.specs.ReportItems.{journal_text}
use Rattle.cany_log.proofs.PageFacts.{HasPut-start, HasPut-next}
use Rattle.cany_log.proofs.ReportFacts.{at_number, steps_of_line}
use Rattle.cany_log.proofs.heading.put_journal.Goals as goal

pub loop-line-init : goal.loop-line-init
loop-line-init c = record {
  put = HasPut-start (journal_text c.args.journal.now) (range_with_len 0 c.args.end) c.args.end c.args.page.now (omega (arith, length-range_with_len 0 c.args.end));
  short = omega arith;
  order = c.requires.order.0;
  within = omega arith;
}

pub loop-line-preserved : goal.loop-line-preserved
loop-line-preserved c =
    let inside : (c.loop-line.line - 1) * 64 ≤ length c.args.journal.now = omega (arith, c.loop-line.invariant.within, c.loop-line-test.true, c.requires.order.1) in
    let steps = steps_of_line c.args.journal.now (c.loop-line.line - 1) ((c.loop-line.line - 1) * 64) c.min.result refl inside c.min.ensures in
    record {
      put = HasPut-next (journal_text c.args.journal.now) (range_with_len 0 c.args.end) c.loop-line.line (c.loop-line.line - 1) _ _ _ c.loop-line.invariant.put
          (omega (arith, c.loop-line-test.true)) (at_number c.args.end (c.loop-line.line - 1) (omega (arith, c.loop-line-test.true, c.loop-line.invariant.within)))
          (c.put_steps.ensures.text ∙ ap (λ r. r ++ c.loop-line.page) steps);
      short = omega (arith, c.loop-line.invariant.short, c.put_steps.ensures.short, c.loop-line-test.true);
      order = omega (arith, c.loop-line-test.true);
      within = omega (arith, c.loop-line.invariant.within);
    }
