use Rattle.std.proofs.Common.{◌∙◌, arith, length, refl, ap}
use Rattle.cany_node.proofs.GiveFacts.{all_given, gives-more, gives-start}
use Rattle.cany_node.proofs.SendFacts.{keeps-more, keeps-start, all_asked}
use Rattle.cany_node.proofs.sending.send_due.Goals as goal

pub loop-planned-init : goal.loop-planned-init
loop-planned-init c = record {
  keeps = keeps-start c.args.node c.args.slot c.args.agenda.now c.args.out.now.items;
  giving = gives-start c.args.node c.args.slot c.args.agenda.now c.args.totcan.now c.requires.given c.requires.own;
  spare = omega arith;
  room = refl;
  edcan = refl;
  relcan = refl;
}

pub send-requires-clause-room : goal.send-requires-clause-room
send-requires-clause-room c =
    omega (arith, c.loop-planned.invariant.spare, c.loop-planned.invariant.room, c.requires.room, ap length c.in-Some.ensures.some.0)

pub send-requires-clause-given : goal.send-requires-clause-given
send-requires-clause-given c = omega (arith, c.loop-planned.invariant.giving.spare, ap length c.in-Some.ensures.some.0)

pub send-requires-clause-own : goal.send-requires-clause-own
send-requires-clause-own c = (rw c.in-Some.ensures.some.0 at c.loop-planned.invariant.giving.own).0

pub loop-planned-preserved : goal.loop-planned-preserved
loop-planned-preserved c = record {
  keeps = keeps-more c.args.node c.args.slot c.args.agenda.now c.loop-planned.agenda c.take_due.new.self c.args.out.now.items c.loop-planned.out.items c.send.new.out.items
      c.in-Some.planned c.loop-planned.invariant.keeps c.in-Some.ensures.some.0 c.in-Some.ensures.some.1 c.take_due.ensures.planned c.send.ensures.asks;
  giving = gives-more c.args.node c.args.slot c.args.agenda.now c.loop-planned.agenda c.take_due.new.self c.args.totcan.now c.loop-planned.totcan c.send.new.totcan
      c.in-Some.planned c.loop-planned.invariant.giving c.in-Some.ensures.some.0 c.in-Some.ensures.some.1
      (record { gives = c.send.ensures.gives; given = c.send.ensures.given; spare = c.send.ensures.spare; own = c.send.ensures.own; node = c.send.ensures.node });
  spare = omega (arith, c.send.ensures.len, c.loop-planned.invariant.spare, ap length c.in-Some.ensures.some.0);
  room = c.send.ensures.room ∙ c.loop-planned.invariant.room;
  edcan = c.send.ensures.edcan ∙ c.loop-planned.invariant.edcan;
  relcan = c.send.ensures.relcan ∙ c.loop-planned.invariant.relcan;
}

pub returns-clause-asks : goal.returns-clause-asks
returns-clause-asks c scenario is =
    all_asked scenario c.args.node c.args.slot c.args.agenda.now c.loop-planned.agenda c.args.out.now.items c.loop-planned.out.items c.loop-planned.invariant.keeps
    (λ up. c.in_default.ensures.later c.args.slot refl up) is

pub returns-clause-gives : goal.returns-clause-gives
returns-clause-gives c scenario past messages count is stands =
    all_given scenario c.args.node c.args.slot c.args.agenda.now c.loop-planned.agenda c.args.totcan.now c.loop-planned.totcan c.loop-planned.invariant.giving
    (λ up. c.in_default.ensures.later c.args.slot refl (c.loop-planned.invariant.keeps.rising up)) is past messages count stands
