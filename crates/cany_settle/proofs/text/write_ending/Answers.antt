use Rattle.std.proofs.lemmas.Result.{err_from_is_err_and}
use Rattle.cany_model.specs.Runs.Run.{run}
use Rattle.cany_log.proofs.WrittenFacts.{IsWritten-then, IsWritten-short}
use Rattle.std.proofs.Common.{refl}
use Rattle.cany_settle.proofs.TextFacts.{ending-is}
use Rattle.cany_settle.proofs.text.write_ending.Goals as goal

pub returns-in_err-write_settled : goal.returns-in_err-write_settled
returns-in_err-write_settled g c =
    let p = err_from_is_err_and c.from_residual.result c.from_residual.ensures.1 in
    rw (p.1, ending-is c.args.world.now.scenario (run c.args.world.now.scenario c.args.world.now.journal) _ refl) (IsWritten-short _ _ _ _ _ _ _ c.in_err-write_settled.ensures)

pub returns-in_err-write_hypothesis : goal.returns-in_err-write_hypothesis
returns-in_err-write_hypothesis g c =
    let p = err_from_is_err_and c.from_residual-in_err-write_hypothesis.result c.from_residual-in_err-write_hypothesis.ensures.1 in
    rw (p.1, ending-is c.args.world.now.scenario (run c.args.world.now.scenario c.args.world.now.journal) c.hypothesis.result c.hypothesis.ensures.first)
    (IsWritten-then _ _ _ _ _ _ _ _ _ c.in_ok-write_settled.ensures (IsWritten-short _ _ _ _ _ _ _ c.in_err-write_hypothesis.ensures))

pub returns : goal.returns
returns g c =
    rw (ending-is c.args.world.now.scenario (run c.args.world.now.scenario c.args.world.now.journal) c.hypothesis.result c.hypothesis.ensures.first)
    (IsWritten-then _ _ _ _ _ _ _ _ _ c.in_ok-write_settled.ensures (IsWritten-then _ _ _ _ _ _ _ _ _ c.in_ok-write_hypothesis.ensures c.write_word.ensures))
