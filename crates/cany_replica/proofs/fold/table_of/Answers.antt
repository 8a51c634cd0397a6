use Rattle.std.proofs.Common.{◌∙◌, ap}
use Rattle.cany_model.specs.Promises.Order.{tot_content}
use Rattle.cany_replica.specs.Fold.{table_after}
use Rattle.cany_replica.specs.Table.{empty_table}
use Rattle.cany_replica.proofs.FoldFacts.{next_table}
use Rattle.cany_replica.proofs.fold.table_of.Goals as goal

pub loop-entry-init : goal.loop-entry-init
unfolding table_after
loop-entry-init c = c.empty-table.ensures

pub loop-entry-preserved : goal.loop-entry-preserved
loop-entry-preserved c =
    c.take_in.ensures.table
    ∙ ap (λ table. table_after table (tot_content c.entry-item.result)) c.loop-entry.invariant
    ∙ next_table empty_table c.args.log.now c.loop-entry.entry-index c.entry-item.result c.loop-entry-test.true c.entry-item.is
