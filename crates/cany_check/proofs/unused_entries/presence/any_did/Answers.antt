use Rattle.std.proofs.Common.{arith}
use Rattle.cany_model.specs.Runs.Incarnations.{incarnations}
use Rattle.cany_world.specs.World.{state_of}
use Rattle.cany_check.specs.Idle.Presence.{did}
use Rattle.cany_check.proofs.Idle.PresenceFacts.{any_done, any_of_one, incarnations_count, next_of_any}
use Rattle.cany_check.proofs.unused_entries.presence.any_did.Goals as goal

pub returns-then-did : goal.returns-then-did
returns-then-did c =
    any_of_one (did c.args.activity c.args.slot) (incarnations (state_of c.args.world.now) c.args.node) c.loop-back.back c.stay_at.result c.did.result c.stay_at.ensures c.did.ensures
    c.if-did.true c.loop-back.invariant

pub loop-back-preserved : goal.loop-back-preserved
loop-back-preserved c =
    next_of_any (did c.args.activity c.args.slot) (incarnations (state_of c.args.world.now) c.args.node) c.loop-back.back c.stay_at.result c.did.result c.stay_at.ensures c.did.ensures
    c.if-did.false c.loop-back.invariant

pub returns : goal.returns
returns c =
    any_done (did c.args.activity c.args.slot) (incarnations (state_of c.args.world.now) c.args.node) c.loop-back.back
    (omega (arith, c.loop-back-test.false, c.incarnation.ensures, c.from-back-end.ensures, incarnations_count c.args.world.now.scenario c.args.world.now.journal c.args.node))
    c.loop-back.invariant
