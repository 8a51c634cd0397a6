use Rattle.std.proofs.Common.{sym, arith, ◌∙◌}
use Rattle.cany_world.proofs.SettledFacts.{ahead_here, left_to_all, left_to_next, none_ahead, one_ahead}
use Rattle.cany_world.proofs.settled.is_ahead.Goals as goal

pub loop-i-init : goal.loop-i-init
loop-i-init c = left_to_all c.args.service c.args.key.now c.args.controllers.now c.args.nodes.now

pub returns-then-has_ahead : goal.returns-then-has_ahead
returns-then-has_ahead c scenario journal m about by =
    one_ahead c.loop-i.i c.args.service c.args.key.now c.args.controllers.now c.args.nodes.now c.loop-i.invariant scenario journal m about by c.loop-i-test.true
    (sym (ahead_here c.args.service c.args.key.now c.args.controllers.now c.args.nodes.now c.loop-i.i _ _ c.has_ahead.result c.requires c.loop-i-test.true
    c.index-controllers-i.is c.index-nodes-i.is c.has_ahead.ensures scenario journal m about by) ∙ c.if-has_ahead.true)

pub loop-i-preserved : goal.loop-i-preserved
loop-i-preserved c scenario journal m about by =
    left_to_next c.loop-i.i c.args.service c.args.key.now c.args.controllers.now c.args.nodes.now c.loop-i.invariant scenario journal m about by c.loop-i-test.true
    (sym (ahead_here c.args.service c.args.key.now c.args.controllers.now c.args.nodes.now c.loop-i.i _ _ c.has_ahead.result c.requires c.loop-i-test.true
    c.index-controllers-i.is c.index-nodes-i.is c.has_ahead.ensures scenario journal m about by) ∙ c.if-has_ahead.false)

pub returns : goal.returns
returns c scenario journal m about by = none_ahead c.loop-i.i c.args.service c.args.key.now c.args.controllers.now c.args.nodes.now c.loop-i.invariant scenario journal m about by (omega arith)
