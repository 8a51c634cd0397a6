use Rattle.std.proofs.Common.{◌≡◌, ap, ◌∙◌, arith}
use Rattle.cany_base.specs.Params.{Parameters}
use Rattle.cany_base.specs.Scenario.{ScenarioParts}
use Rattle.cany_world.proofs.RoundFacts.{as_made, round_slot, round_slot_can, round_next, round_whole, turn_made}
use Rattle.cany_world.proofs.rounds.make_round.Goals as goal

pub loop-i-init : goal.loop-i-init
loop-i-init c = round_slot c.args.world.now c.make_slot.new.self c.make_slot.ensures

pub make_slot-requires : goal.make_slot-requires
make_slot-requires c = round_slot_can c.args.world.now c.requires

pub make_turn-requires : goal.make_turn-requires
make_turn-requires c =
    let count : c.from-count.result ≡ c.args.world.now.scenario.params.nodes =
    c.from-count.ensures ∙ ap (λ (p : Parameters). p.nodes) (c.behind-scenario.view_is ∙ c.params.ensures.params) ∙ ap (λ (s : ScenarioParts). s.params.nodes) c.scenario.ensures in
    let same : c.loop-i.world.scenario.params.nodes ≡ c.args.world.now.scenario.params.nodes =
    ap (λ (s : ScenarioParts). s.params.nodes) c.loop-i.invariant.scenario in
    omega (arith, count, same, c.of_index.ensures, c.loop-i-test.true)

pub loop-i-preserved : goal.loop-i-preserved
loop-i-preserved c =
    round_next c.args.world.now c.loop-i.world c.make_turn.new.self c.loop-i.i c.loop-i.invariant
    (as_made c.loop-i.world c.make_turn.new.self c.of_index.result c.make_turn.result c.make_turn.ensures.reply c.make_turn.ensures.new
    ∙ ap (turn_made c.loop-i.world) c.of_index.ensures)

pub returns : goal.returns
returns c =
    let count : c.from-count.result ≡ c.args.world.now.scenario.params.nodes =
    c.from-count.ensures ∙ ap (λ (p : Parameters). p.nodes) (c.behind-scenario.view_is ∙ c.params.ensures.params) ∙ ap (λ (s : ScenarioParts). s.params.nodes) c.scenario.ensures in
    round_whole c.args.world.now c.loop-i.world c.loop-i.i c.loop-i.invariant (omega (arith, count, c.loop-i-test.false, c.loop-i.auto.i-end))
