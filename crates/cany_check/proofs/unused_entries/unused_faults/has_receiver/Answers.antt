use Rattle.std.proofs.Common.{◌≤◌, subst, ap, sym, arith, ◌∙◌}
use Rattle.cany_base.specs.Params.{Parameters}
use Rattle.cany_base.specs.Scenario.{IsLegalScenario, ScenarioParts}
use Rattle.cany_base.proofs.ParamsFacts.{few_nodes}
use Rattle.cany_world.specs.World.{state_of}
use Rattle.cany_check.specs.Idle.Unused.{is_receiver}
use Rattle.cany_check.proofs.Idle.FaultFacts.{no_node, some_node}
use Rattle.cany_check.proofs.unused_entries.unused_faults.has_receiver.Goals as goal

pub returns-then-is_receiver : goal.returns-then-is_receiver
returns-then-is_receiver c =
    let params = c.args.world.now.scenario.params in
    let legal = subst IsLegalScenario c.scenario.ensures c.params.ensures.legal in
    let k = c.of_index-node.result in
    let here = sym c.has.ensures ∙ c.if-has.true in
    sym (some_node c.args.nodes (is_receiver (state_of c.args.world.now) c.args.note.now) k (omega (arith, c.requires k here, few_nodes params legal.in_range)) here
    (sym c.is_receiver.ensures ∙ c.if-is_receiver.true))

pub returns : goal.returns
returns c =
    let params = c.args.world.now.scenario.params in
    let count = ap (λ (p : Parameters). p.nodes) (c.behind-scenario.view_is ∙ c.params.ensures.params ∙ ap (λ (s : ScenarioParts). s.params) c.scenario.ensures) in
    let past : params.nodes ≤ c.loop-i.i = omega (arith, c.loop-i-test.false, c.from-i-end.ensures, count) in
    sym (no_node c.args.nodes (is_receiver (state_of c.args.world.now) c.args.note.now) params.nodes c.requires (λ k h. c.loop-i.invariant k (omega (arith, h, past))))
