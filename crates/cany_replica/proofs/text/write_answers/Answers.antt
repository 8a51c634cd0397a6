use Rattle.std.proofs.Common.{◌≡◌, refl, ◌∙◌, ap, take}
use Rattle.std.proofs.lemmas.List.{take_all}
use Rattle.std.proofs.lemmas.Result.{err_from_is_err_and}
use Rattle.cany_model.specs.Promises.Order.{tot_content, tot_deliveries}
use Rattle.cany_replica.specs.Fold.{table_after}
use Rattle.cany_replica.proofs.FoldFacts.{next_table}
use Rattle.cany_replica.proofs.TextFacts.{replies-nothing, replies-next, replies-cut}
use Rattle.cany_replica.proofs.text.write_answers.Goals as goal

pub loop-entry-init : goal.loop-entry-init
unfolding table_after
loop-entry-init g c = record { table = refl; written = replies-nothing c.args.table.now c.args.log.now _ _ }

pub loop-entry-preserved : goal.loop-entry-preserved
loop-entry-preserved g c = record {
  table = c.take_in-answer.ensures.table ∙ ap (λ table. table_after table (tot_content c.entry-item.result)) c.loop-entry.invariant.table
      ∙ next_table c.args.table.now c.args.log.now c.loop-entry.entry-index c.entry-item.result c.loop-entry-test.true c.entry-item.is;
  written = replies-next _ _ _ _ _ _ _ _ _ _ _ c.loop-entry-test.true c.entry-item.is c.loop-entry.invariant.table c.loop-entry.invariant.written
      (rw c.take_in-answer.ensures.answer at c.in_ok-write_answer.ensures);
}

pub returns-in_err-write_answer : goal.returns-in_err-write_answer
returns-in_err-write_answer g c =
    let p = err_from_is_err_and c.from_residual.result c.from_residual.ensures.1 in
    rw p.1 (record {
      table = tt;
      written = replies-cut _ _ _ _ _ _ _ _ _ _ _ _ c.loop-entry-test.true c.entry-item.is c.loop-entry.invariant.table c.loop-entry.invariant.written
          (rw c.take_in-answer.ensures.answer at c.in_err-write_answer.ensures);
    })

pub returns : goal.returns
returns g c =
    let all : take c.loop-entry.entry-index c.args.log.now ≡ c.args.log.now = take_all c.loop-entry.entry-index c.args.log.now c.loop-entry-test.false in
    record {
      table = c.loop-entry.invariant.table ∙ ap (λ entries. table_after c.args.table.now (tot_deliveries entries)) all;
      written = rw all at c.loop-entry.invariant.written;
    }
