use Rattle.std.proofs.Common.{refl}
use Rattle.std.proofs.lemmas.Result.{err_from_is_err_and}
use Rattle.cany_model.specs.Runs.Incarnations.{log_of}
use Rattle.cany_model.specs.Runs.Run.{run}
use Rattle.cany_log.proofs.ReportFacts.{incarnation_text}
use Rattle.cany_log.proofs.WrittenFacts.{IsWritten-then, IsWritten-short}
use Rattle.cany_log.proofs.node_lines.write_incarnation.Goals as goal

pub returns-in_err-write_node_line : goal.returns-in_err-write_node_line
returns-in_err-write_node_line g c =
    let p = err_from_is_err_and c.from_residual.result c.from_residual.ensures.1 in
    let text = incarnation_text _ _ _ _ _ (log_of c.args.world.now.scenario (run c.args.world.now.scenario c.args.world.now.journal) c.args.node c.args.inc) c.span.ensures refl in
    record {
      written = rw (p.1, text) (IsWritten-short _ _ _ _ _ _ _ c.in_err-write_node_line.ensures);
      empty = c.requires.page;
    }

pub returns : goal.returns
returns g c =
    let text = incarnation_text _ _ _ _ _ _ c.span.ensures c.log_of.ensures in
    record {
      written = rw text (IsWritten-then _ _ _ _ _ _ _ _ _ c.in_ok-write_node_line.ensures c.write_entries.ensures.written);
      empty = c.write_entries.ensures.empty;
    }
