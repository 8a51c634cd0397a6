use Rattle.std.proofs.Common.{refl}
use Rattle.std.proofs.lemmas.Result.{err_from_is_err_and}
use Rattle.cany_log.proofs.WrittenFacts.{IsWritten-short, IsWritten-then}
use Rattle.cany_model.specs.Promises.Hypothesis.{first_break}
use Rattle.cany_model.specs.Runs.Run.{run}
use Rattle.cany_replica.proofs.TextFacts.{replica_is}
use Rattle.cany_replica.proofs.text.write_replica.Goals as goal

pub returns-in_err-write_first_line : goal.returns-in_err-write_first_line
returns-in_err-write_first_line g c =
    let p = err_from_is_err_and c.from_residual.result c.from_residual.ensures.1 in
    let scenario = c.args.world.now.scenario in
    let journal = c.args.world.now.journal in
    rw (p.1, replica_is scenario journal (first_break scenario.params (run scenario journal).trace) refl)
    (IsWritten-short _ _ _ _ _ _ _ c.in_err-write_first_line.ensures)

pub returns-in_err-write_hypothesis : goal.returns-in_err-write_hypothesis
returns-in_err-write_hypothesis g c =
    let p = err_from_is_err_and c.from_residual-in_err-write_hypothesis.result c.from_residual-in_err-write_hypothesis.ensures.1 in
    rw (p.1, replica_is c.args.world.now.scenario c.args.world.now.journal c.hypothesis.result c.hypothesis.ensures.first)
    (IsWritten-then _ _ _ _ _ _ _ _ _ c.in_ok-write_first_line.ensures (IsWritten-short _ _ _ _ _ _ _ c.in_err-write_hypothesis.ensures))

pub returns-in_err-write_nodes : goal.returns-in_err-write_nodes
returns-in_err-write_nodes g c =
    let p = err_from_is_err_and c.from_residual-in_err-write_nodes.result c.from_residual-in_err-write_nodes.ensures.1 in
    rw (p.1, replica_is c.args.world.now.scenario c.args.world.now.journal c.hypothesis.result c.hypothesis.ensures.first)
    (IsWritten-then _ _ _ _ _ _ _ _ _ c.in_ok-write_first_line.ensures (IsWritten-then _ _ _ _ _ _ _ _ _ c.in_ok-write_hypothesis.ensures
    (IsWritten-short _ _ _ _ _ _ _ c.in_err-write_nodes.ensures)))

pub returns : goal.returns
returns g c =
    rw (replica_is c.args.world.now.scenario c.args.world.now.journal c.hypothesis.result c.hypothesis.ensures.first)
    (IsWritten-then _ _ _ _ _ _ _ _ _ c.in_ok-write_first_line.ensures (IsWritten-then _ _ _ _ _ _ _ _ _ c.in_ok-write_hypothesis.ensures
    (IsWritten-then _ _ _ _ _ _ _ _ _ c.in_ok-write_nodes.ensures c.write_last_line.ensures)))
