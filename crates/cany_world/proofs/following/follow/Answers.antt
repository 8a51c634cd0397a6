use Rattle.std.proofs.Common.{refl, arith}
use Rattle.cany_model.proofs.Runs.Following.{followed_none}
use Rattle.cany_world.proofs.FollowFacts.{along_more, along_refused, along_whole, along_part}
use Rattle.cany_world.proofs.following.follow.Goals as goal

pub loop-place-init : goal.loop-place-init
loop-place-init c = record { scenario = refl; steps = followed_none c.args.world.now.scenario c.args.journal.now c.args.world.now.journal c.requires }

pub loop-place-preserved : goal.loop-place-preserved
loop-place-preserved c =
    along_more c.args.world.now c.loop-place.world c.step.new.self c.args.journal.now c.loop-place.place c.index-journal-place.result c.step.result c.loop-place.invariant
    c.loop-place-test.true c.index-journal-place.is c.step.ensures.reply c.step.ensures.new c.in-Done.is

pub returns-in_default : goal.returns-in_default
returns-in_default c =
    let e = along_refused c.args.world.now c.loop-place.world c.step.new.self c.args.journal.now c.loop-place.place c.index-journal-place.result c.step.result c.loop-place.invariant
    c.loop-place-test.true c.index-journal-place.is c.step.ensures.reply c.step.ensures.new c.in_default.not-Done in
    record { fault = e.is; made = e.made }

pub returns-then-ended-clause-fault : goal.returns-then-ended-clause-fault
returns-then-ended-clause-fault c =
    (along_whole c.args.world.now c.loop-place.world c.args.journal.now c.loop-place.place c.ended.result c.loop-place.invariant (omega arith) c.ended.ensures c.if-ended.true).is

pub returns-then-ended-clause-made : goal.returns-then-ended-clause-made
returns-then-ended-clause-made c =
    (along_whole c.args.world.now c.loop-place.world c.args.journal.now c.loop-place.place c.ended.result c.loop-place.invariant (omega arith) c.ended.ensures c.if-ended.true).made

pub returns-clause-fault : goal.returns-clause-fault
returns-clause-fault c =
    (along_part c.args.world.now c.loop-place.world c.args.journal.now c.loop-place.place c.ended.result c.ran.result c.first_unread.result c.loop-place.invariant (omega arith)
    c.ended.ensures c.if-ended.false c.ran.ensures c.first_unread.ensures).is

pub returns-clause-made : goal.returns-clause-made
returns-clause-made c =
    (along_part c.args.world.now c.loop-place.world c.args.journal.now c.loop-place.place c.ended.result c.ran.result c.first_unread.result c.loop-place.invariant (omega arith)
    c.ended.ensures c.if-ended.false c.ran.ensures c.first_unread.ensures).made
