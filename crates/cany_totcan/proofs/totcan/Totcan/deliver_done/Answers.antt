use Rattle.std.proofs.Common.{◌<◌, length, refl, sym, ◌∙◌, arith}
use Rattle.cany_totcan.specs.TotcanSteps.{due}
use Rattle.cany_totcan.proofs.DueFacts.{few_due, gone_end, gone_more, gone_none, some_due}
use Rattle.cany_totcan.proofs.KnownFacts.{first_can_deliver, known_gone, near_known, own_known}
use Rattle.cany_totcan.proofs.totcan.Totcan.deliver_done.Goals as goal

pub loop-frame-init : goal.loop-frame-init
loop-frame-init c = record { gone = gone_none c.args.slot c.args.self.now c.args.out.now.items; few = omega arith; room = refl }

pub next_accepted-requires : goal.next_accepted-requires
next_accepted-requires c = own_known c.loop-frame.self (known_gone c.args.slot c.args.self.now c.loop-frame.self _ _ c.requires.known c.loop-frame.invariant.gone)

pub deliver_next-requires-clause-next : goal.deliver_next-requires-clause-next
deliver_next-requires-clause-next c = sym c.next_accepted.ensures ∙ c.in-Some.is

pub deliver_next-requires-clause-deliver : goal.deliver_next-requires-clause-deliver
deliver_next-requires-clause-deliver c =
    first_can_deliver c.loop-frame.self c.in-Some.frame
    (known_gone c.args.slot c.args.self.now c.loop-frame.self _ _ c.requires.known c.loop-frame.invariant.gone) (sym c.next_accepted.ensures ∙ c.in-Some.is)

pub deliver_next-requires-clause-room : goal.deliver_next-requires-clause-room
deliver_next-requires-clause-room c =
    let some = some_due c.loop-frame.self c.in-Some.frame (sym c.next_accepted.ensures ∙ c.in-Some.is) in
    let below : length c.loop-frame.out.items < c.loop-frame.out.room =
    omega (arith, some, c.loop-frame.invariant.few, c.loop-frame.invariant.room, few_due c.args.self.now, c.requires.room) in
    below

pub loop-frame-preserved : goal.loop-frame-preserved
loop-frame-preserved c = record {
  gone =
      gone_more c.args.slot c.args.self.now c.loop-frame.self c.deliver_next.new.self c.args.out.now.items c.loop-frame.out.items c.deliver_next.new.out.items
      c.loop-frame.invariant.gone c.deliver_next.ensures.gone c.requires.known.once (near_known c.args.self.now c.requires.known);
  few = omega (arith, c.loop-frame.invariant.few, c.deliver_next.ensures.few, c.deliver_next.ensures.fewer);
  room = c.deliver_next.ensures.room ∙ c.loop-frame.invariant.room;
}

pub loop-frame-smaller : goal.loop-frame-smaller
loop-frame-smaller c =
    let fewer : length (due c.deliver_next.new.self) < length (due c.loop-frame.self) = omega (arith, c.deliver_next.ensures.fewer) in
    fewer

pub returns-clause-gone : goal.returns-clause-gone
returns-clause-gone c = c.loop-frame.invariant.gone

pub returns-clause-all : goal.returns-clause-all
returns-clause-all c = gone_end c.loop-frame.self (sym c.next_accepted.ensures ∙ c.in_default.is)

pub returns-clause-few : goal.returns-clause-few
returns-clause-few c = omega (arith, c.loop-frame.invariant.few, few_due c.args.self.now)

pub returns-clause-room : goal.returns-clause-room
returns-clause-room c = c.loop-frame.invariant.room
