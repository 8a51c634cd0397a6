use Rattle.std.proofs.Common.{◌+◌, sym, subst, arith}
use Rattle.cany_node.specs.Asks.{IsRisingFrom}
use Rattle.cany_node.proofs.AskFacts.{rising_other, rising_past}
use Rattle.cany_node.proofs.asks.AskPlan.wake.Goals as goal

pub returns-then-self-len : goal.returns-then-self-len
returns-then-self-len c n less up =
    subst (IsRisingFrom (n + 1)) c.self.view_is
    (rising_past (n + 1) c.self.inside.next c.self.inside.by_slot.items (omega (arith, c.if-self-len.true, c.len.ensures, c.self.inside.by_slot.ok.0)))

pub returns : goal.returns
returns c n less up =
    subst (IsRisingFrom (n + 1)) c.self.view_is
    (rising_other n c.self.inside.next c.self.inside.by_slot.items c.index.result.now
    (omega (arith, c.if-self-len.false, c.len.ensures, c.self.inside.by_slot.ok.0)) c.index.ensures (λ same. omega (arith, same, less))
    (subst (IsRisingFrom n) (sym c.self.view_is) up))
