use Rattle.std.proofs.Common.{◌-◌, ◌++◌, length, length-append, refl, sym, ◌∙◌, ap, arith, rules}
use Rattle.std.specs.List.{range_with_len}
use Rattle.cany_text.specs.ReportLines.{numbers_text}
use Rattle.cany_log.proofs.SetTextFacts.{HasListed-start, HasListed-run, HasListed-more, HasListed-first, HasRun-short, nobody_text, set_text-short}
use Rattle.cany_log.proofs.line_buffer.LineBuffer.put_numbers.Goals as goal

pub returns-then-end-eq0-clause-text : goal.returns-then-end-eq0-clause-text
returns-then-end-eq0-clause-text g c =
    let none = nobody_text c.args.set (λ i past near. c.end_of_run-end.ensures.none i (omega (arith, c.if-end-eq0.true)) near) in
    c.put_byte.ensures ∙ ap (λ r. r ++ c.args.self.now) (sym none)

pub returns-then-end-eq0-clause-short : goal.returns-then-end-eq0-clause-short
returns-then-end-eq0-clause-short g c = set_text-short c.args.set

pub loop-end-init : goal.loop-end-init
loop-end-init g c = record {
  listed = HasListed-start _ _ _ c.end_of_run-end.ensures.within (omega (arith, c.if-end-eq0.false)) c.end_of_run-end.ensures.none;
  few = c.end_of_run-end.ensures.within;
  last = c.end_of_run-end.ensures.last;
}

pub put_bytes-requires : goal.put_bytes-requires
put_bytes-requires g c =
    let text = numbers_text (range_with_len c.start_of_run-start.result (c.loop-end.end - c.start_of_run-start.result)) in
    let run = HasListed-run c.args.set _ _ c.args.self.now c.loop-end.self (text ++ c.loop-end.self) c.loop-end.invariant.listed c.start_of_run-start.ensures.before c.loop-end.invariant.few
    c.start_of_run-start.ensures.all refl in
    (search rules, omega (arith, HasRun-short _ _ _ _ run (omega (arith, c.start_of_run-start.ensures.before, c.loop-end.invariant.few)), ap length c.numbers_from_to.ensures, length-append text c.loop-end.self))

pub put_byte-requires-then-end-gt0 : goal.put_byte-requires-then-end-gt0
put_byte-requires-then-end-gt0 g c =
    let put = c.put_bytes.ensures ∙ ap (λ r. r ++ c.loop-end.self) c.numbers_from_to.ensures in
    let run = HasListed-run c.args.set _ _ c.args.self.now c.loop-end.self _ c.loop-end.invariant.listed c.start_of_run-start.ensures.before c.loop-end.invariant.few
    c.start_of_run-start.ensures.all put in
    (search rules, omega (arith, HasRun-short _ _ _ _ run (omega (arith, c.start_of_run-start.ensures.before, c.loop-end.invariant.few)), c.end_of_run-end-in-loop-end.ensures.within))

pub loop-end-preserved-then-end-gt0 : goal.loop-end-preserved-then-end-gt0
loop-end-preserved-then-end-gt0 g c =
    let next = c.end_of_run-end-in-loop-end.ensures in
    record {
      listed =
          rw c.put_byte-then-end-gt0.ensures
          (HasListed-more c.args.set _ _ _ c.args.self.now c.loop-end.self _ c.loop-end.invariant.listed c.start_of_run-start.ensures.before c.loop-end.invariant.few
          c.start_of_run-start.ensures.all (c.put_bytes.ensures ∙ ap (λ r. r ++ c.loop-end.self) c.numbers_from_to.ensures) c.if-end-gt0.true next.within next.none);
      few = omega (arith, next.within, c.start_of_run-start.ensures.before, c.loop-end.invariant.few);
      last = next.last;
    }

pub loop-end-preserved : goal.loop-end-preserved
loop-end-preserved g c =
    let next = c.end_of_run-end-in-loop-end.ensures in
    record {
      listed =
          HasListed-first c.args.set _ _ _ c.args.self.now c.loop-end.self _ c.loop-end.invariant.listed c.start_of_run-start.ensures.before c.loop-end.invariant.few
          c.start_of_run-start.ensures.all (c.put_bytes.ensures ∙ ap (λ r. r ++ c.loop-end.self) c.numbers_from_to.ensures) (omega (arith, c.if-end-gt0.false)) next.none;
      few = omega (arith, next.within, c.start_of_run-start.ensures.before, c.loop-end.invariant.few);
      last = next.last;
    }

pub returns-clause-text : goal.returns-clause-text
returns-clause-text g c = c.loop-end.invariant.listed.all (omega (arith, c.loop-end-test.false))

pub returns-clause-short : goal.returns-clause-short
returns-clause-short g c = set_text-short c.args.set
