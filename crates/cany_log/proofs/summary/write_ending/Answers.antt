use Rattle.std.proofs.lemmas.Result.{err_from_is_err_and}
use Rattle.cany_model.specs.Runs.Run.{run}
use Rattle.cany_log.proofs.SummaryFacts.{ending-is}
use Rattle.cany_log.proofs.WrittenFacts.{IsWritten-then, IsWritten-short}
use Rattle.cany_log.proofs.summary.write_ending.Goals as goal

pub returns-in_err-write_hypothesis : goal.returns-in_err-write_hypothesis
returns-in_err-write_hypothesis g c =
    let p = err_from_is_err_and c.from_residual.result c.from_residual.ensures.1 in
    rw (p.1, ending-is c.args.world.now.scenario (run c.args.world.now.scenario c.args.world.now.journal) c.hypothesis.result c.hypothesis.ensures.first) (IsWritten-short _ _ _ _ _ _ _ c.in_err-write_hypothesis.ensures)

pub returns : goal.returns
returns g c =
    rw (ending-is c.args.world.now.scenario (run c.args.world.now.scenario c.args.world.now.journal) c.hypothesis.result c.hypothesis.ensures.first) (IsWritten-then _ _ _ _ _ _ _ _ _ c.in_ok-write_hypothesis.ensures c.write_line.ensures)
