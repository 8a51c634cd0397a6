use Rattle.std.proofs.Common.{ap, subst, ◌∙◌}
use Rattle.cany_base.specs.declared.message.SendAsk.{SendAsk}
use Rattle.cany_base.specs.Scenario.{IsLegalScenario, IsSendOf, ScenarioParts}
use Rattle.cany_world.specs.World.{state_of}
use Rattle.cany_check.specs.declared.unused_entries.unused_entry.UnusedEntry.TheVariants as entry
use Rattle.cany_check.specs.Idle.Unused.{as_list, unused_send}
use Rattle.cany_check.proofs.Idle.NamedFacts.{one_at}
use Rattle.cany_check.proofs.Idle.PlacesFound.{all_found, found_next, none_found}
use Rattle.cany_check.proofs.unused_entries.unused_sends.push_sends.Goals as goal

pub loop-place-init : goal.loop-place-init
loop-place-init c =
    none_found (λ (send : SendAsk). as_list (unused_send (state_of c.args.world.now) send)) (λ why. entry.Send why) c.args.found.now.items

pub missed-why-requires : goal.missed-why-requires
missed-why-requires c =
    let scenario = c.args.world.now.scenario in
    let legal = subst IsLegalScenario c.scenario-scenario.ensures c.params-legal.ensures.legal in
    (one_at (IsSendOf scenario.params) c.sends-sends.result.now scenario.sends c.loop-place.place c.index-sends-place.result
    (c.sends-sends.ensures ∙ ap (λ (s : ScenarioParts). s.sends) c.scenario-scenario.ensures) legal.sends c.loop-place-test.true c.index-sends-place.is).1

pub loop-place-preserved : goal.loop-place-preserved
loop-place-preserved c =
    found_next (λ why. entry.Send why) c.sends-sends.result.now c.loop-place.place c.index-sends-place.result
    (λ (send : SendAsk). unused_send (state_of c.args.world.now) send) c.missed-why.result c.as_send.result
    c.args.found.now.items c.loop-place.found.items c.push_found.new.found.items c.loop-place-test.true c.index-sends-place.is c.loop-place.invariant
    c.missed-why.ensures c.as_send.ensures c.in_ok-push_found.ensures

pub returns : goal.returns
returns c =
    all_found (λ (send : SendAsk). as_list (unused_send (state_of c.args.world.now) send)) (λ why. entry.Send why) c.sends-sends.result.now c.args.world.now.scenario.sends c.loop-place.place c.args.found.now.items c.loop-place.found.items c.loop-place-test.false
    (c.sends-sends.ensures ∙ ap (λ (s : ScenarioParts). s.sends) c.scenario-scenario.ensures) c.loop-place.invariant
