use Rattle.std.proofs.Common.{◌∙◌, ap, arith}
use Rattle.std.proofs.lemmas.Result.{err_from_is_err_and}
-- no law says how many nodes parameters have in any format
use Rattle.cany_base.proofs.ParamsFacts.{few_nodes}
use Rattle.cany_log.proofs.ReportFacts.{node_part, concat-flat_map, at_number, below_length, past_length}
use Rattle.cany_log.proofs.WrittenFacts.{IsWritten-nothing, IsWritten-next, IsWritten-cut, IsWritten-all}
use Rattle.cany_log.proofs.node_lines.write_nodes.Goals as goal

pub unwrap-requires : goal.unwrap-requires
unwrap-requires g c = c.new.ensures.found.1 (omega (arith, few_nodes _ c.behind-scenario.invariant))

pub loop-number-init : goal.loop-number-init
loop-number-init g c = record { written = IsWritten-nothing _ _; empty = c.requires }

pub write_node-requires : goal.write_node-requires
write_node-requires g c =
    let node = rw c.unwrap.ensures at c.new.ensures.value in
    let nodes = ap (λ p. p.nodes) (c.behind-scenario.view_is ∙ c.params.ensures.params ∙ ap (λ s. s.params) c.scenario.ensures) in
    record { page = c.loop-number.invariant.empty; node = omega (arith, node, nodes, c.loop-number-test.true) }

pub loop-number-preserved : goal.loop-number-preserved
loop-number-preserved g c =
    let node = rw c.unwrap.ensures at c.new.ensures.value in
    record {
      written = IsWritten-next (node_part c.args.world.now.scenario c.args.world.now.journal) _ _ _ _ _ _ _ _ _ c.loop-number.invariant.written
          (below_length _ _ c.loop-number-test.true) (at_number _ _ c.loop-number-test.true) (rw node at c.in_ok-write_node.ensures.written);
      empty = c.in_ok-write_node.ensures.empty;
    }

pub returns-in_err-write_node : goal.returns-in_err-write_node
returns-in_err-write_node g c =
    let p = err_from_is_err_and c.from_residual.result c.from_residual.ensures.1 in
    let node = rw c.unwrap.ensures at c.new.ensures.value in
    let nodes = ap (λ p. p.nodes) (c.behind-scenario.view_is ∙ c.params.ensures.params ∙ ap (λ s. s.params) c.scenario.ensures) in
    record {
      written = rw (p.1, concat-flat_map, ← nodes) (IsWritten-cut (node_part c.args.world.now.scenario c.args.world.now.journal) _ _ _ _ _ _ _ _ _ _ c.loop-number.invariant.written
          (below_length _ _ c.loop-number-test.true) (at_number _ _ c.loop-number-test.true) (rw node at c.in_err-write_node.ensures.written));
      empty = c.in_err-write_node.ensures.empty;
    }

pub returns : goal.returns
returns g c =
    let nodes = ap (λ p. p.nodes) (c.behind-scenario.view_is ∙ c.params.ensures.params ∙ ap (λ s. s.params) c.scenario.ensures) in
    record {
      written = rw (concat-flat_map, ← nodes) (IsWritten-all (node_part c.args.world.now.scenario c.args.world.now.journal) _ _ _ _ _ _ c.loop-number.invariant.written
          (past_length _ _ c.loop-number-test.false));
      empty = c.loop-number.invariant.empty;
    }
