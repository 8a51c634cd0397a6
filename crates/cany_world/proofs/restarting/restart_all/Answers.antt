use Rattle.std.proofs.Common.{◌≡◌, [], length, sym, subst, ◌∙◌, arith}
use Rattle.std.proofs.lemmas.Bool.{eqb-true}
use Rattle.std.proofs.lemmas.List.{nil_from_length}
use Rattle.cany_model.specs.Runs.Run.{run}
use Rattle.cany_model.specs.Bus.Slot.{after_slot, script}
use Rattle.cany_model.specs.Bus.State.{RunState}
use Rattle.cany_model.proofs.Timed.Detector.NoRestarts.{restarts_none}
use Rattle.cany_world.specs.Kept.{AreControllersOf, AreNodesOf}
use Rattle.cany_world.proofs.RestartFacts.{may_start_here, restarted_more, restarted_none, restarted_whole}
use Rattle.cany_world.proofs.restarting.restart_all.Goals as goal

pub returns-then-is_empty : goal.returns-then-is_empty
returns-then-is_empty c = λ scenario journal same now within row kept.
    let none : c.args.restarts.now ≡ [] = nil_from_length c.args.restarts.now (eqb-true (length c.args.restarts.now) 0 (sym c.is_empty.ensures ∙ c.if-is_empty.true)) in
    let s : RunState = after_slot (script scenario.rules) (run scenario journal) in
    let ends = sym (restarts_none scenario (sym same ∙ none) s) in (
      subst (λ (t : RunState). AreControllersOf scenario t c.args.controllers.now) ends row,
      subst (λ (t : RunState). AreNodesOf scenario t c.args.nodes.now) ends kept,
    )

pub loop-i-init : goal.loop-i-init
loop-i-init c = restarted_none c.args.restarts.now c.args.slot c.args.controllers.now c.args.nodes.now

pub restart_node-requires : goal.restart_node-requires
restart_node-requires c begins =
    may_start_here _ _ c.loop-i.i _ _ _ _ c.loop-i.invariant c.requires (omega (arith, c.loop-i-test.true, c.loop-i.invariant.row_length)) _ _
    c.of_index.ensures begins

pub loop-i-preserved : goal.loop-i-preserved
loop-i-preserved c =
    restarted_more _ _ c.loop-i.i _ _ _ _ c.loop-i.invariant c.requires (omega (arith, c.loop-i-test.true, c.loop-i.invariant.row_length)) _ _
    c.of_index.ensures c.restart_node.new.controller c.restart_node.new.incarnations c.restart_node.ensures

pub returns : goal.returns
returns c =
    restarted_whole c.args.restarts.now c.args.slot c.loop-i.i c.args.controllers.now c.loop-i.controllers c.args.nodes.now c.loop-i.nodes c.loop-i.invariant
    (omega (arith, c.loop-i-test.false, c.loop-i.invariant.row_length))
