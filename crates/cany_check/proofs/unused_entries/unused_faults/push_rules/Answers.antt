use Rattle.std.proofs.Common.{ap, subst, ◌∙◌}
use Rattle.cany_base.specs.Scenario.{IsLegalScenario, IsRuleOf, ScenarioParts}
use Rattle.cany_world.specs.World.{state_of}
use Rattle.cany_check.specs.declared.unused_entries.unused_entry.UnusedEntry.TheVariants as entry
use Rattle.cany_check.specs.Idle.Unused.{unused_rule}
use Rattle.cany_check.proofs.Idle.NamedFacts.{one_at, ruled_at}
use Rattle.cany_check.proofs.Idle.PlacesFound.{all_found, found_two, none_found}
use Rattle.cany_check.proofs.unused_entries.unused_faults.push_rules.Goals as goal

pub loop-place-init : goal.loop-place-init
loop-place-init c =
    none_found (unused_rule c.args.world.now.scenario (state_of c.args.world.now)) (λ why. entry.Fault why) c.args.found.now.items

pub unused_rule-unused-requires-clause-rule : goal.unused_rule-unused-requires-clause-rule
unused_rule-unused-requires-clause-rule c =
    let scenario = c.args.world.now.scenario in
    let legal = subst IsLegalScenario c.scenario-scenario.ensures c.params-legal.ensures.legal in
    one_at (IsRuleOf scenario.params) c.rules-rules.result.now scenario.rules c.loop-place.place c.index-rules-place.result (c.rules-rules.ensures ∙ ap (λ (s : ScenarioParts). s.rules) c.scenario-scenario.ensures) legal.rules c.loop-place-test.true c.index-rules-place.is

pub unused_rule-unused-requires-clause-named : goal.unused_rule-unused-requires-clause-named
unused_rule-unused-requires-clause-named c =
    ruled_at c.args.world.now.scenario c.rules-rules.result.now c.loop-place.place c.index-rules-place.result (c.rules-rules.ensures ∙ ap (λ (s : ScenarioParts). s.rules) c.scenario-scenario.ensures) c.loop-place-test.true c.index-rules-place.is

pub loop-place-preserved : goal.loop-place-preserved
loop-place-preserved c =
    let unused = c.unused_rule-unused.result in
    found_two (λ why. entry.Fault why) c.rules-rules.result.now c.loop-place.place c.index-rules-place.result (unused_rule c.args.world.now.scenario (state_of c.args.world.now))
    unused.verdict unused.stops c.as_fault.result c.as_fault-in-loop-place.result
    c.args.found.now.items c.loop-place.found.items c.push_found.new.found.items c.push_found-in-loop-place.new.found.items
    c.loop-place-test.true c.index-rules-place.is c.loop-place.invariant c.unused_rule-unused.ensures c.as_fault.ensures c.as_fault-in-loop-place.ensures
    c.in_ok-push_found.ensures c.in_ok-push_found-2.ensures

pub returns : goal.returns
returns c =
    all_found (unused_rule c.args.world.now.scenario (state_of c.args.world.now)) (λ why. entry.Fault why) c.rules-rules.result.now c.args.world.now.scenario.rules c.loop-place.place c.args.found.now.items c.loop-place.found.items c.loop-place-test.false
    (c.rules-rules.ensures ∙ ap (λ (s : ScenarioParts). s.rules) c.scenario-scenario.ensures) c.loop-place.invariant
