use Rattle.cany_node.proofs.Applying.{done-none}
use Rattle.cany_node.proofs.NextAction.{can_do, next_stands, next_done, all_done}
use Rattle.cany_node.proofs.apply.apply_all.Goals as goal

pub loop-action-init : goal.loop-action-init
loop-action-init c scenario i effects legal format are names stamped = done-none _ _

pub apply-requires-clause-can : goal.apply-requires-clause-can
apply-requires-clause-can c =
    can_do c.args.inc c.args.out.now.items c.args.ctl.now c.loop-action.ctl c.args.log.now c.loop-action.log c.requires c.loop-action.action-index c.action-item.result
    (next_stands c.requires.scenario.params.format c.requires.effects c.args.out.now.items c.as_slice-actions.result.now c.loop-action.action-index c.action-item.result c.requires.are
    c.as_slice-actions.ensures.items c.loop-action-test.true c.action-item.is)
    (c.loop-action.invariant c.requires.scenario c.requires.node c.requires.effects c.requires.legal c.requires.format c.requires.are c.requires.names c.requires.stamped)
    c.frames_ascend.ensures

pub loop-action-preserved : goal.loop-action-preserved
loop-action-preserved c scenario i effects legal format are names stamped =
    next_done scenario i c.args.inc effects c.loop-action.action-index c.action-item.result _ c.loop-action.ctl c.apply.new.ctl _ c.loop-action.log c.apply.new.log legal
    format names stamped
    (next_stands scenario.params.format effects c.args.out.now.items c.as_slice-actions.result.now c.loop-action.action-index c.action-item.result are c.as_slice-actions.ensures.items
    c.loop-action-test.true c.action-item.is)
    c.apply.ensures (c.loop-action.invariant scenario i effects legal format are names stamped)

pub returns : goal.returns
returns c scenario i effects legal format are names stamped =
    all_done scenario.params.format c.args.inc effects c.args.out.now.items c.as_slice-actions.result.now c.loop-action.action-index _ _ _ _ are
    c.as_slice-actions.ensures.items c.loop-action-test.false (c.loop-action.invariant scenario i effects legal format are names stamped)
