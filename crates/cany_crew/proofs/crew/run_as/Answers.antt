use Rattle.std.proofs.Common.{◌<◌, refl, sym, ap, ◌∙◌, subst}
use Rattle.std.specs.Prelude.{IfSome}
use Rattle.cany_base.specs.Scenario.{ScenarioParts}
use Rattle.cany_world.specs.World.{WorldParts}
use Rattle.cany_crew.proofs.GateFacts.{none_fell}
use Rattle.cany_crew.proofs.crew.run_as.Goals as goal

pub returns-in-Ok-start : goal.returns-in-Ok-start
returns-in-Ok-start g c = record {
  scenario = c.run_yard-world.ensures.scenario ∙ sym c.requires.course;
  ended = c.run_yard-world.ensures.ended;
  node = subst (λ (s : ScenarioParts). IfSome c.run_yard-world.result.1 (λ found. found.0 < s.params.nodes)) (sym c.requires.course) c.run_yard-world.ensures.node;
  outcome = c.run_yard-world.ensures.outcome;
  fell = c.run_yard-world.ensures.outcome.fell;
  memory = tt;
}

-- there is no memory: the world comes back
pub returns-in-Err : goal.returns-in-Err
returns-in-Err g c = record { scenario = refl; ended = tt; node = tt; outcome = tt; fell = none_fell _ _ refl; memory = refl }

pub returns-in-Err-start : goal.returns-in-Err-start
returns-in-Err-start g c = record {
  scenario = ap (λ (w : WorldParts). w.scenario) c.in-Err-start.ensures.memory;
  ended = tt;
  node = tt;
  outcome = tt;
  fell = none_fell _ _ refl;
  memory = c.in-Err-start.ensures.memory;
}
