use Rattle.std.proofs.Common.{◌≡◌, ◌<◌, true, List, length, map, Some, sym, ap, ◌∙◌, subst, arith}
use Rattle.cany_base.specs.declared.step.Step.{Step}
use Rattle.cany_base.specs.Scenario.{ScenarioParts}
use Rattle.cany_model.specs.Runs.Run.{is_done, reply}
use Rattle.cany_world.specs.World.{state_of}
use Rattle.cany_crew.proofs.FinishFacts.{made_leaves_fewer, turn_within}
use Rattle.cany_crew.specs.Gates.{IsOutcome}
use Rattle.cany_crew.proofs.AssignmentFacts.{slice_whole}
use Rattle.cany_crew.proofs.GateFacts.{outcome_held}
use Rattle.cany_crew.proofs.finish.finish.Given as given
use Rattle.cany_crew.proofs.finish.finish.Goals as goal
use Rattle.cany_crew.proofs.finish.finish.Goals.{in-Turn+else-not-ask, in_default-step}

-- the node of a turn that can be made
within : (g : given.Over) (c : goal.In-Turn g) → c.in-Turn.node < c.loop-step.world.scenario.params.nodes
within g c =
    let world = c.loop-step.world in
    turn_within world.scenario world.journal c.in-Turn.node
    (subst (λ (step : Step). is_done (reply world.scenario (state_of world) step) ≡ true) c.in-Turn.is c.in-Some.ensures.done)

pub read-slot-requires : goal.read-slot-requires
read-slot-requires g c = within g c

pub ask-requires-after_bounds : goal.ask-requires-after_bounds
ask-requires-after_bounds g c κs from =
    let world = c.loop-step.world in
    let below : c.in-Turn.node < world.scenario.params.nodes =
    turn_within world.scenario world.journal c.in-Turn.node
    (subst (λ (step : Step). is_done (reply world.scenario (state_of world) step) ≡ true) c.in-Turn.is c.in-Some.ensures.done) in
    let same = ap (λ (s : ScenarioParts). s.params.nodes) c.loop-step.invariant.0 in
    let gates = c.loop-step.invariant.1 in
    omega (arith, below, same, gates, c.requires, c.as_mut_slice.ensures.len)

pub returns-then-not-ask-clause-node : goal.returns-then-not-ask-clause-node
returns-then-not-ask-clause-node g c =
    let world = c.loop-step.world in
    let below : c.in-Turn.node < world.scenario.params.nodes =
    turn_within world.scenario world.journal c.in-Turn.node
    (subst (λ (step : Step). is_done (reply world.scenario (state_of world) step) ≡ true) c.in-Turn.is c.in-Some.ensures.done) in
    let same = ap (λ (s : ScenarioParts). s.params.nodes) c.loop-step.invariant.0 in
    omega (arith, below, same)

pub returns-then-not-ask-clause-outcome : goal.returns-then-not-ask-clause-outcome
returns-then-not-ask-clause-outcome g c =
    let counts = map g.G.Gate.refusals c.args.gates.now.items in
    let same : map g.G.Gate.refusals c.as_mut_slice.result.now ≡ counts =
    ap (λ (gates : List g.row.G.Denot). map g.G.Gate.refusals gates) c.as_mut_slice.ensures.value ∙ c.loop-step.invariant.2 in
    let len : length c.ask.new.gates ≡ c.loop-step.gates.len = omega (arith, c.ask.auto.gates, c.as_mut_slice.ensures.len) in
    subst (λ (gates : List g.row.G.Denot). IsOutcome counts (map g.G.Gate.refusals gates) (map g.G.Gate.refused_at gates) (Some (c.in-Turn.node, c.read-slot.result)))
    (sym (slice_whole c.loop-step.gates.len c.ask.new.gates c.loop-step.gates.items len))
    (outcome_held counts (map g.G.Gate.refusals c.as_mut_slice.result.now) (map g.G.Gate.refusals c.ask.new.gates) (map g.G.Gate.refused_at c.ask.new.gates)
    (c.in-Turn.node, c.read-slot.result) same
    c.ask.ensures.count (c.ask.ensures.refused c.if-not-ask.true))

pub loop-step-smaller : goal.loop-step-smaller
loop-step-smaller g c =
    let same : c.match-step.step ≡ c.in-Some.step = elim c.match-step.branch [ in-Turn+else-not-ask w ↦ w.step-is ∙ sym w.in-Turn.is | in_default-step w ↦ w.step-is ] in
    made_leaves_fewer c.loop-step.world c.step.new.self c.in-Some.step c.match-step.step c.step.result same c.step.ensures.reply c.in-Some.ensures.done
    c.in-Some.ensures.legal c.step.ensures.new
