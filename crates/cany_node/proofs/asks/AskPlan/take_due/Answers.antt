use Rattle.std.proofs.Common.{◌+◌, sym, subst, arith}
use Rattle.cany_node.specs.Asks.{IsRisingFrom}
use Rattle.cany_node.proofs.AskFacts.{rising_other, rising_past}
use Rattle.cany_node.proofs.asks.AskPlan.take_due.Goals as goal

pub returns-then-self-len-clause-later : goal.returns-then-self-len-clause-later
returns-then-self-len-clause-later c none up =
    subst (IsRisingFrom (c.args.slot + 1)) c.self.view_is
    (rising_past (c.args.slot + 1) c.self.inside.next c.self.inside.by_slot.items (omega (arith, c.if-self-len.true, c.len.ensures, c.self.inside.by_slot.ok.0)))

pub returns-then-index-slot-clause-later : goal.returns-then-index-slot-clause-later
returns-then-index-slot-clause-later c none up =
    subst (IsRisingFrom (c.args.slot + 1)) c.self.view_is
    (rising_other c.args.slot c.self.inside.next c.self.inside.by_slot.items c.index.result.now (omega (arith, c.if-self-len.false, c.len.ensures, c.self.inside.by_slot.ok.0))
    c.index.ensures c.if-index-slot.true (subst (IsRisingFrom c.args.slot) (sym c.self.view_is) up))
