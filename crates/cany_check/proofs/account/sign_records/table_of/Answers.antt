use Rattle.std.proofs.Common.{List, length, refl}
use Rattle.std.proofs.lemmas.Option.{slice_get_read}
use Rattle.cany_check.specs.declared.account.record.LogRecord.{LogRecord}
use Rattle.cany_check.specs.InOrder.{ascending}
use Rattle.cany_check.proofs.account.sign_records.table_of.Goals as goal

pub loop-i-init : goal.loop-i-init
unfolding ascending
loop-i-init c = c.new-table.ensures.empty

pub enter_running-requires : goal.enter_running-requires
enter_running-requires c =
    let logs : List LogRecord = c.args.logs.now in
    c.requires c.loop-i.i c.index-logs-i.result (slice_get_read logs (length logs) c.loop-i.i c.index-logs-i.result refl c.loop-i-test.true c.index-logs-i.is)
