use Rattle.std.proofs.Common.{◌+◌, arith}
use Rattle.std.proofs.lemmas.Result.{err_from_is_err_and}
use Rattle.cany_log.proofs.ReportFacts.{incarnation_part, node_lines_text, at_number, below_length, past_length}
use Rattle.cany_log.proofs.WrittenFacts.{IsWritten-nothing, IsWritten-next, IsWritten-cut, IsWritten-all}
use Rattle.cany_log.proofs.node_lines.write_node.Goals as goal

pub loop-inc-init : goal.loop-inc-init
loop-inc-init g c = record { written = IsWritten-nothing _ _; empty = c.requires.page }

pub loop-inc-preserved : goal.loop-inc-preserved
loop-inc-preserved g c =
    let count = c.incarnation-inc-end.result + 1 in
    record {
      written = IsWritten-next (incarnation_part c.args.world.now.scenario c.args.world.now.journal c.args.node) _ _ _ _ _ _ _ _ _ c.loop-inc.invariant.written
          (below_length count c.loop-inc.inc (omega arith)) (at_number count c.loop-inc.inc (omega arith)) c.in_ok-write_incarnation.ensures.written;
      empty = c.in_ok-write_incarnation.ensures.empty;
    }

pub returns-in_err-write_incarnation : goal.returns-in_err-write_incarnation
returns-in_err-write_incarnation g c =
    let p = err_from_is_err_and c.from_residual.result c.from_residual.ensures.1 in
    let count = c.incarnation-inc-end.result + 1 in
    record {
      written = rw (p.1, node_lines_text c.args.world.now.scenario c.args.world.now.journal c.args.node count (omega (arith, c.incarnation-inc-end.ensures)))
          (IsWritten-cut (incarnation_part c.args.world.now.scenario c.args.world.now.journal c.args.node) _ _ _ _ _ _ _ _ _ _ c.loop-inc.invariant.written
          (below_length count c.loop-inc.inc (omega arith)) (at_number count c.loop-inc.inc (omega arith)) c.in_err-write_incarnation.ensures.written);
      empty = c.in_err-write_incarnation.ensures.empty;
    }

-- the last incarnation was written
pub returns-in_ok-write_incarnation : goal.returns-in_ok-write_incarnation
returns-in_ok-write_incarnation g c =
    let count = c.incarnation-inc-end.result + 1 in
    record {
      written = rw (node_lines_text c.args.world.now.scenario c.args.world.now.journal c.args.node count (omega (arith, c.incarnation-inc-end.ensures)))
          (IsWritten-all (incarnation_part c.args.world.now.scenario c.args.world.now.journal c.args.node) _ (c.loop-inc.inc + 1) _ _ _ _
          (IsWritten-next (incarnation_part c.args.world.now.scenario c.args.world.now.journal c.args.node) _ _ _ _ _ _ _ _ _ c.loop-inc.invariant.written
          (below_length count c.loop-inc.inc (omega arith)) (at_number count c.loop-inc.inc (omega arith)) c.in_ok-write_incarnation.ensures.written)
          (past_length count (c.loop-inc.inc + 1) (omega arith)));
      empty = c.in_ok-write_incarnation.ensures.empty;
    }

pub returns : goal.returns
returns g c =
    let count = c.incarnation-inc-end.result + 1 in
    record {
      written = rw (node_lines_text c.args.world.now.scenario c.args.world.now.journal c.args.node count (omega (arith, c.incarnation-inc-end.ensures)))
          (IsWritten-all (incarnation_part c.args.world.now.scenario c.args.world.now.journal c.args.node) _ _ _ _ _ _ c.loop-inc.invariant.written (past_length count c.loop-inc.inc (omega arith)));
      empty = c.loop-inc.invariant.empty;
    }
