use Rattle.std.proofs.Common.{map, refl, ap, subst, ◌∙◌, inl, inr, arith}
use Rattle.cany_base.specs.Scenario.{ScenarioParts}
use Rattle.cany_world.specs.World.{WorldParts}
use Rattle.cany_crew.specs.Top.{IsCrewRun, TakesReportStart}
use Rattle.cany_crew.proofs.GateFacts.{all_passed, any_refused, none_fell}
use Rattle.cany_crew.proofs.top.run_scenario.Goals as goal

pub returns-clause-done : goal.returns-clause-done
returns-clause-done g c = λ done.
    subst (λ (s : ScenarioParts). IsCrewRun s (g.K.Sink.taken c.args.sink.now) (g.K.Sink.taken c.report_ending.new.sink))
    (c.run_crew-world.ensures.scenario ∙ ap (λ (w : WorldParts). w.scenario) c.in-Ok.ensures) (c.report_ending.ensures.done done)

pub returns-clause-start : goal.returns-clause-start
returns-clause-start g c = λ fault.
    subst (λ (s : ScenarioParts). TakesReportStart s (g.K.Sink.taken c.args.sink.now) (g.K.Sink.taken c.report_ending.new.sink))
    (c.run_crew-world.ensures.scenario ∙ ap (λ (w : WorldParts). w.scenario) c.in-Ok.ensures) (c.report_ending.ensures.start fault)

pub returns-clause-passed : goal.returns-clause-passed
returns-clause-passed g c = λ done.
    all_passed (map g.G.Gate.refusals c.args.gates.now.items) (map g.G.Gate.refusals c.run_crew-world.new.gates.items)
    (map g.G.Gate.refused_at c.run_crew-world.new.gates.items) c.run_crew-world.result.1
    (c.report_ending.ensures.passed done) c.run_crew-world.ensures.outcome

pub returns-clause-held : goal.returns-clause-held
returns-clause-held g c = λ held.
    any_refused (map g.G.Gate.refusals c.args.gates.now.items) (map g.G.Gate.refusals c.run_crew-world.new.gates.items)
    (map g.G.Gate.refused_at c.run_crew-world.new.gates.items) c.run_crew-world.result.1
    (c.report_ending.ensures.held held) c.run_crew-world.ensures.outcome

pub returns-clause-count : goal.returns-clause-count
returns-clause-count g c = c.run_crew-world.ensures.fell

pub returns-clause-write_fault : goal.returns-clause-write_fault
returns-clause-write_fault g c = c.report_ending.ensures.write_fault

pub returns-clause-untouched : goal.returns-clause-untouched
returns-clause-untouched g c = c.report_ending.ensures.untouched

pub returns-clause-status : goal.returns-clause-status
returns-clause-status g c = c.report_ending.ensures.status

-- there is no memory for the world
pub returns-in_default : goal.returns-in_default
returns-in_default g c = record {
  done = λ is. absurd (omega (arith, is));
  passed = λ is. refl;
  held = λ is. absurd (omega (arith, is));
  count = none_fell _ _ refl;
  write_fault = λ is. absurd (omega (arith, is));
  start = λ is. absurd (omega (arith, is));
  untouched = λ none. refl;
  status = inr (inr (inl refl));
}

pub run_crew-world-requires-clause-fresh : goal.run_crew-world-requires-clause-fresh
run_crew-world-requires-clause-fresh g c κs within = ap (λ (w : WorldParts). w.journal) c.in-Ok.ensures

pub report_ending-requires-clause-ended : goal.report_ending-requires-clause-ended
report_ending-requires-clause-ended g c = c.run_crew-world.ensures.ended
