use Rattle.std.proofs.Common.{◌≡◌, ap, ◌∙◌, arith}
use Rattle.cany_base.specs.Params.{Parameters}
use Rattle.cany_base.specs.Scenario.{ScenarioParts}
use Rattle.cany_world.proofs.RoundFacts.{advanced_by, rounds_begin, rounds_end, rounds_legal, rounds_made, rounds_room, rounds_step, rounds_whole}
use Rattle.cany_world.proofs.rounds.round_robin.Goals as goal

pub loop-left-init : goal.loop-left-init
loop-left-init c =
    let slots : c.behind-scenario.inside.slots ≡ c.args.world.now.scenario.params.slots =
    ap (λ (p : Parameters). p.slots) (c.behind-scenario.view_is ∙ c.params.ensures.params) ∙ ap (λ (s : ScenarioParts). s.params.slots) c.scenario.ensures in
    rounds_begin c.args.world.now c.behind-scenario.inside.slots c.requires slots

pub advance-left-requires-clause-room : goal.advance-left-requires-clause-room
advance-left-requires-clause-room c = rounds_room c.args.world.now c.loop-left.world c.loop-left.left c.loop-left.invariant

pub advance-left-requires-clause-legal : goal.advance-left-requires-clause-legal
advance-left-requires-clause-legal c = rounds_legal c.args.world.now c.loop-left.world c.loop-left.left c.loop-left.invariant

pub loop-left-preserved : goal.loop-left-preserved
loop-left-preserved c =
    rounds_step c.args.world.now c.loop-left.world c.advance-left.new.world c.loop-left.left c.advance-left.result c.loop-left.invariant
    (advanced_by c.loop-left.world c.advance-left.new.world c.loop-left.left c.advance-left.result c.advance-left.ensures.fewer c.advance-left.ensures.new c.advance-left.ensures.ran)

pub note_rounds-requires : goal.note_rounds-requires
note_rounds-requires c =
    let none : c.loop-left.left ≡ 0 = omega (arith, c.loop-left-test.false) in
    rounds_made c.args.world.now c.loop-left.world (rounds_whole c.args.world.now c.loop-left.world c.loop-left.left c.loop-left.invariant none)

pub returns-clause-run : goal.returns-clause-run
returns-clause-run c =
    let none : c.loop-left.left ≡ 0 = omega (arith, c.loop-left-test.false) in
    c.note_rounds.ensures ∙ rounds_whole c.args.world.now c.loop-left.world c.loop-left.left c.loop-left.invariant none

pub returns-clause-ended : goal.returns-clause-ended
returns-clause-ended c =
    let none : c.loop-left.left ≡ 0 = omega (arith, c.loop-left-test.false) in
    rounds_end c.args.world.now c.note_rounds.new.self (c.note_rounds.ensures ∙ rounds_whole c.args.world.now c.loop-left.world c.loop-left.left c.loop-left.invariant none)
