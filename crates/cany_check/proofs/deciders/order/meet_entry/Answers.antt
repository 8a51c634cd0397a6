use Rattle.std.proofs.Common.{◌≡◌, arith, sym, subst}
use Rattle.std.specs.Prelude.{None, Some, IfOk}
use Rattle.cany_check.specs.declared.deciders.findings.Parting.{Parting}
use Rattle.cany_check.specs.Accounts.AccountFields.{log_parts}
use Rattle.cany_check.specs.Deciding.Meeting.{ClashesBy, GoesOn}
use Rattle.cany_check.proofs.Deciding.MeetingFacts.{carried_before, carried_since, nothing_delivered, unmoved}
use Rattle.cany_check.proofs.deciders.order.meet_entry.Goals as goal

pub returns-in-None-clause-on : goal.returns-in-None-clause-on
returns-in-None-clause-on c none =
    unmoved c.args.log.now.from _ c.args.cursor.now c.args.reference.now.items
    (nothing_delivered c.args.messages.now (log_parts c.args.log.now) c.args.entry.now c.item_in.result c.item_in.ensures c.in-None.is) c.requires.within c.requires.behind

pub returns-then-item-log-clause-on : goal.returns-then-item-log-clause-on
returns-then-item-log-clause-on c none =
    unmoved c.args.log.now.from _ c.args.cursor.now c.args.reference.now.items
    (carried_before c.args.messages.now (log_parts c.args.log.now) c.args.entry.now c.item_in.result c.in-Some.item c.item_in.ensures c.in-Some.is (omega (arith, c.if-item-log.true)))
    c.requires.within c.requires.behind

pub returns-else-item-log-clause-on : goal.returns-else-item-log-clause-on
returns-else-item-log-clause-on c =
    let since = carried_since c.args.messages.now (log_parts c.args.log.now) c.args.entry.now c.item_in.result c.in-Some.item c.item_in.ensures c.in-Some.is (omega (arith, c.if-item-log.false)) in
    subst (λ l. IfOk c.meet.result (λ found. found ≡ None → GoesOn c.args.log.now.from l c.args.cursor.now c.meet.new.cursor c.args.reference.now.items c.meet.new.reference.items))
    (sym since) c.meet.ensures.on

pub returns-else-item-log-clause-off : goal.returns-else-item-log-clause-off
returns-else-item-log-clause-off c =
    let since = carried_since c.args.messages.now (log_parts c.args.log.now) c.args.entry.now c.item_in.result c.in-Some.item c.item_in.ensures c.in-Some.is (omega (arith, c.if-item-log.false)) in
    subst (λ l. IfOk c.meet.result (λ found. (p : Parting) → found ≡ Some p → ClashesBy c.args.log.now.from l c.args.cursor.now c.args.reference.now.items p))
    (sym since) c.meet.ensures.off
