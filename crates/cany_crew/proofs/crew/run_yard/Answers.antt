use Rattle.std.proofs.Common.{◌<◌, map, subst, ap, ◌∙◌, arith}
use Rattle.std.specs.Prelude.{IfSome}
use Rattle.std.proofs.lemmas.List.{length-map}
use Rattle.cany_base.specs.Scenario.{ScenarioParts}
use Rattle.cany_crew.proofs.GateFacts.{outcome_then}
use Rattle.cany_crew.proofs.crew.run_yard.Goals as goal

-- where no pass was refused to the workers, what is left tells
pub returns-clause-node : goal.returns-clause-node
returns-clause-node g c =
    subst (λ (s : ScenarioParts). IfSome c.finish-held.result (λ found. found.0 < s.params.nodes)) c.end-world.ensures.scenario c.finish-held.ensures.node

pub returns-clause-outcome : goal.returns-clause-outcome
returns-clause-outcome g c =
    outcome_then (map g.G.Gate.refusals c.args.gates.now.items) (map g.G.Gate.refusals c.work_seats-worked.new.gates.items)
    (map g.G.Gate.refusals c.finish-held.new.gates.items) (map g.G.Gate.refused_at c.work_seats-worked.new.gates.items)
    (map g.G.Gate.refused_at c.finish-held.new.gates.items) c.work_seats-worked.result.held c.finish-held.result c.in-None.is c.work_seats-worked.ensures.outcome
    c.finish-held.ensures.outcome

pub end-world-requires : goal.end-world-requires
end-world-requires g c = omega (arith, c.work_seats-worked.ensures.seats, c.requires.all)

pub finish-held-requires-after_bounds : goal.finish-held-requires-after_bounds
finish-held-requires-after_bounds g c κs within =
    let same = c.work_seats-worked.ensures.outcome.fell.len in
    let before = length-map c.args.gates.now.items g.G.Gate.refusals in
    let after = length-map c.work_seats-worked.new.gates.items g.G.Gate.refusals in
    omega (arith, same, before, after, c.requires.gates, c.requires.all, ap (λ (s : ScenarioParts). s.params.nodes) c.end-world.ensures.scenario, c.work_seats-worked.new.gates.ok.0, c.args.gates.now.ok.0)

pub returns-in-Some-clause-scenario : goal.returns-in-Some-clause-scenario
returns-in-Some-clause-scenario g c = c.end-world.ensures.scenario

pub returns-clause-scenario : goal.returns-clause-scenario
returns-clause-scenario g c = c.finish-held.ensures.scenario ∙ c.end-world.ensures.scenario

pub returns-clause-ended : goal.returns-clause-ended
returns-clause-ended g c = c.finish-held.ensures.ended

pub work_seats-worked-requires-clause-empty : goal.work_seats-worked-requires-clause-empty
work_seats-worked-requires-clause-empty g c κs within = c.requires.empty

pub work_seats-worked-requires-clause-room : goal.work_seats-worked-requires-clause-room
work_seats-worked-requires-clause-room g c κs within = c.requires.room

pub work_seats-worked-requires-clause-seats : goal.work_seats-worked-requires-clause-seats
work_seats-worked-requires-clause-seats g c κs within = c.requires.seats

pub work_seats-worked-requires-clause-nodes : goal.work_seats-worked-requires-clause-nodes
work_seats-worked-requires-clause-nodes g c κs within = c.requires.nodes

pub work_seats-worked-requires-clause-gates : goal.work_seats-worked-requires-clause-gates
work_seats-worked-requires-clause-gates g c κs within = c.requires.gates
