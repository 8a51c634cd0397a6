use Rattle.std.proofs.Common.{◌∙◌, arith, length, refl, ap}
use Rattle.cany_node.specs.Asks.{asked_as, asks_of}
use Rattle.cany_node.proofs.AskFacts.{asking_more, asking_start, asks_made}
use Rattle.cany_node.proofs.asks.ask_due.Goals as goal

pub loop-kind-init : goal.loop-kind-init
loop-kind-init c = record { keeps = asking_start c.args.slot _ c.args.plan.now c.args.out.now.items; same = refl; spare = omega arith; room = refl }

pub ask-requires-clause-now : goal.ask-requires-clause-now
ask-requires-clause-now c = rw c.loop-kind.invariant.same c.requires.slot

pub ask-requires-clause-room : goal.ask-requires-clause-room
ask-requires-clause-room c =
    omega (arith, c.loop-kind.invariant.spare, c.loop-kind.invariant.room, c.requires.room, ap length (c.take_due.ensures.taken c.loop-kind-test.true))

pub loop-kind-preserved : goal.loop-kind-preserved
loop-kind-preserved c = record {
  keeps = asking_more c.args.slot _ c.args.plan.now c.loop-kind.plan c.take_due.new.self c.args.out.now.items c.loop-kind.out.items c.ask.new.out.items
      c.loop-kind.invariant.keeps (c.take_due.ensures.taken c.loop-kind-test.true) (rw c.loop-kind.invariant.same at c.ask.ensures.actions);
  same = c.ask.ensures.kept ∙ c.loop-kind.invariant.same;
  spare = omega (arith, c.ask.ensures.few, c.loop-kind.invariant.spare, ap length (c.take_due.ensures.taken c.loop-kind-test.true));
  room = c.ask.ensures.room ∙ c.loop-kind.invariant.room;
}

pub returns-clause-actions : goal.returns-clause-actions
returns-clause-actions c scenario is =
    let v = c.args.membership.now.views in
    asks_made scenario v.node c.args.slot (asks_of c.args.kind scenario) v.params.format (asked_as c.args.kind v.params 0 v.node c.args.slot v.members)
    c.args.plan.now c.loop-kind.plan c.args.out.now.items c.loop-kind.out.items c.loop-kind.invariant.keeps (c.take_due.ensures.later c.loop-kind-test.false) is
