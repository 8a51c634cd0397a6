use Rattle.std.proofs.Common.{sym, subst, arith}
use Rattle.cany_node.specs.Asks.{IsRisingFrom}
use Rattle.cany_node.proofs.AskFacts.{rising_late, rising_past}
use Rattle.cany_node.proofs.asks.AskPlan.take_before.Goals as goal

pub returns-then-self-len-clause-late : goal.returns-then-self-len-clause-late
returns-then-self-len-clause-late c none up =
    subst (IsRisingFrom c.args.slot) c.self.view_is
    (rising_past c.args.slot c.self.inside.next c.self.inside.by_slot.items (omega (arith, c.if-self-len.true, c.len.ensures, c.self.inside.by_slot.ok.0)))

pub returns-then-index-slot-clause-late : goal.returns-then-index-slot-clause-late
returns-then-index-slot-clause-late c none up =
    subst (IsRisingFrom c.args.slot) c.self.view_is
    (rising_late c.args.slot c.self.inside.next c.self.inside.by_slot.items c.index.result.now (omega (arith, c.if-self-len.false, c.len.ensures, c.self.inside.by_slot.ok.0))
    c.index.ensures c.if-index-slot.true (subst (IsRisingFrom 0) (sym c.self.view_is) up))
