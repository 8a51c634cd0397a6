use Rattle.std.proofs.Common.{refl}
use Rattle.cany_base.specs.declared.step.Step.TheVariants.{Turn}
use Rattle.cany_watch.proofs.GrowthFacts.{IsLogLength, slot_grows, turn_grows, turn_grows_none}
use Rattle.cany_watch.proofs.growing.make.Goals as goal

pub returns-in-Slot-clause-grown : goal.returns-in-Slot-clause-grown
returns-in-Slot-clause-grown c =
    slot_grows c.args.world.now c.step.new.self c.args.step c.step.result c.step.ensures.reply c.step.ensures.new c.in-Slot.is

pub returns-then-log_len-before-clause-grown : goal.returns-then-log_len-before-clause-grown
returns-then-log_len-before-clause-grown c =
    let had : IsLogLength c.args.world.now c.in-Turn.node c.log_len-before.result = record { there = c.log_len-before.ensures.there; none = c.log_len-before.ensures.none } in
    let has : IsLogLength c.step-reply.new.self c.in-Turn.node c.log_len.result = record { there = c.log_len.ensures.there; none = c.log_len.ensures.none } in
    turn_grows_none c.args.world.now c.step-reply.new.self (Turn c.in-Turn.node) c.step-reply.result c.step-reply.ensures.reply c.step-reply.ensures.new
    c.in-Turn.node c.log_len-before.result c.log_len.result refl had has c.if-log_len-before.true

pub returns-else-log_len-before-clause-grown : goal.returns-else-log_len-before-clause-grown
returns-else-log_len-before-clause-grown c =
    let had : IsLogLength c.args.world.now c.in-Turn.node c.log_len-before.result = record { there = c.log_len-before.ensures.there; none = c.log_len-before.ensures.none } in
    let has : IsLogLength c.step-reply.new.self c.in-Turn.node c.log_len.result = record { there = c.log_len.ensures.there; none = c.log_len.ensures.none } in
    turn_grows c.args.world.now c.step-reply.new.self (Turn c.in-Turn.node) c.step-reply.result c.step-reply.ensures.reply c.step-reply.ensures.new
    c.in-Turn.node c.log_len-before.result c.log_len.result refl had has c.if-log_len-before.false
