use Rattle.std.proofs.Common.{◌≡◌, suc, ◌-◌, arith}
use Rattle.cany_world.proofs.RoundFacts.{IsAdvanced, after_rested, after_round, may_round, rested_new, round_new}
use Rattle.cany_world.proofs.rounds.advance.Goals as goal
use Rattle.cany_world.proofs.rounds.advance.Goals.{After-make_round}

pub returns-then-rested-gt0-clause-new : goal.returns-then-rested-gt0-clause-new
returns-then-rested-gt0-clause-new c =
    rested_new c.args.world.now c.rest-rested.new.self c.args.left c.rest-rested.result c.rest-rested.ensures.few c.rest-rested.ensures.rounds

pub make_round-requires : goal.make_round-requires
make_round-requires c =
    let so : IsAdvanced c.args.world.now c.rest-rested.new.self c.args.left (c.args.left - c.rest-rested.result) =
    after_rested c.args.world.now c.rest-rested.new.self c.args.left c.rest-rested.result c.rest-rested.ensures.few c.rest-rested.ensures.rounds c.rest-rested.ensures.ran in
    let more : c.args.left - c.rest-rested.result ≡ suc (c.args.left - 1) = omega (arith, c.if-rested-gt0.false, c.requires.some) in
    may_round c.args.world.now c.rest-rested.new.self c.args.left (c.args.left - c.rest-rested.result) (c.args.left - 1) so more c.requires.legal

-- what the round leaves
advanced : (c : After-make_round) → IsAdvanced c.args.world.now c.make_round.new.world c.args.left (c.args.left - 1)
advanced c =
    let more : c.args.left - c.rest-rested.result ≡ suc (c.args.left - 1) = omega (arith, c.if-rested-gt0.false, c.requires.some) in
    after_round c.args.world.now c.rest-rested.new.self c.make_round.new.world c.args.left (c.args.left - c.rest-rested.result) (c.args.left - 1)
    (after_rested c.args.world.now c.rest-rested.new.self c.args.left c.rest-rested.result c.rest-rested.ensures.few c.rest-rested.ensures.rounds c.rest-rested.ensures.ran)
    more c.requires.legal c.make_round.ensures

pub returns-clause-new : goal.returns-clause-new
returns-clause-new c =
    round_new c.args.world.now c.rest-rested.new.self c.make_round.new.world c.args.left c.rest-rested.result c.requires.some (omega (arith, c.if-rested-gt0.false))
    c.rest-rested.ensures.rounds c.make_round.ensures

pub returns-clause-ran : goal.returns-clause-ran
returns-clause-ran c = (advanced (goal.at.returns-clause-ran c).After-make_round).ran
