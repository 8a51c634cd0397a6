use Rattle.std.proofs.Common.{ap, subst, ◌∙◌}
use Rattle.cany_base.specs.declared.message.NodeAsk.{NodeAsk}
use Rattle.cany_base.specs.Scenario.{IsAskOf, IsLegalScenario}
use Rattle.cany_world.specs.World.{state_of}
use Rattle.cany_check.specs.Idle.Asks.{ask_class, ask_entry, asks_of}
use Rattle.cany_check.specs.Idle.Attempts.{asked_frame, is_named}
use Rattle.cany_check.specs.Idle.Unused.{as_list, unused_ask}
use Rattle.cany_check.proofs.Idle.NamedFacts.{ask_named, asks_legal, one_at}
use Rattle.cany_check.proofs.Idle.PlacesFound.{all_found, found_next, none_found}
use Rattle.cany_check.proofs.unused_entries.unused_asks.push_asks.Goals as goal

pub loop-place-init : goal.loop-place-init
loop-place-init c =
    none_found (λ (ask : NodeAsk). as_list (unused_ask c.args.world.now.scenario (state_of c.args.world.now) (ask_class c.args.kind) ask)) (ask_entry c.args.kind) c.args.found.now.items

pub unused_ask-why-requires-clause-ask : goal.unused_ask-why-requires-clause-ask
unused_ask-why-requires-clause-ask c =
    let scenario = c.args.world.now.scenario in
    let legal = subst IsLegalScenario c.scenario-scenario.ensures c.params-legal.ensures.legal in
    one_at (IsAskOf scenario.params) c.among-asks.result.now (asks_of c.args.kind scenario) c.loop-place.place c.index-asks-place.result
    (c.among-asks.ensures ∙ ap (asks_of c.args.kind) c.scenario-scenario.ensures) (asks_legal scenario legal c.args.kind) c.loop-place-test.true c.index-asks-place.is

pub unused_ask-why-requires-clause-named : goal.unused_ask-why-requires-clause-named
unused_ask-why-requires-clause-named c =
    ap (λ k. is_named c.args.world.now.scenario (asked_frame c.args.world.now.scenario.params k c.index-asks-place.result)) c.class.ensures
    ∙ ask_named c.args.world.now.scenario c.args.kind c.among-asks.result.now c.loop-place.place c.index-asks-place.result
    (c.among-asks.ensures ∙ ap (asks_of c.args.kind) c.scenario-scenario.ensures) c.loop-place-test.true c.index-asks-place.is

pub loop-place-preserved : goal.loop-place-preserved
loop-place-preserved c =
    found_next (ask_entry c.args.kind) c.among-asks.result.now c.loop-place.place c.index-asks-place.result
    (λ (ask : NodeAsk). unused_ask c.args.world.now.scenario (state_of c.args.world.now) (ask_class c.args.kind) ask) c.unused_ask-why.result c.entry.result
    c.args.found.now.items c.loop-place.found.items c.push_found.new.found.items c.loop-place-test.true c.index-asks-place.is c.loop-place.invariant
    (c.unused_ask-why.ensures ∙ ap (λ k. unused_ask c.args.world.now.scenario (state_of c.args.world.now) k c.index-asks-place.result) c.class.ensures) c.entry.ensures c.in_ok-push_found.ensures

pub returns : goal.returns
returns c =
    all_found (λ (ask : NodeAsk). as_list (unused_ask c.args.world.now.scenario (state_of c.args.world.now) (ask_class c.args.kind) ask)) (ask_entry c.args.kind)
    c.among-asks.result.now (asks_of c.args.kind c.args.world.now.scenario) c.loop-place.place c.args.found.now.items c.loop-place.found.items c.loop-place-test.false
    (c.among-asks.ensures ∙ ap (asks_of c.args.kind) c.scenario-scenario.ensures) c.loop-place.invariant
