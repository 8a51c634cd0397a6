use Rattle.std.proofs.Common.{◌≡◌, take, Ok}
use Rattle.cany_log.specs.Written.{IsWritten}
use Rattle.cany_model.specs.Promises.Order.{tot_deliveries}
use Rattle.cany_replica.proofs.TextFacts.{first_replies}
use Rattle.cany_replica.specs.Fold.{table_after}
use Rattle.cany_replica.proofs.text.write_answers.Given as goal

abbrev pub invariant-loop-entry : goal.invariant-loop-entry
invariant-loop-entry g l = record {
  table : l.table ≡ table_after l.fn.table (tot_deliveries (take l.entry-index l.log));
  written : IsWritten (first_replies l.fn.table l.log l.entry-index) (Ok tt)
      (g.K.Sink.taken l.initial.sink) (g.K.Sink.taken l.sink) (g.K.Sink.faults l.initial.sink) (g.K.Sink.faults l.sink);
}
