use Rattle.std.proofs.Common.{◌+◌, subst, arith}
use Rattle.cany_node.specs.Agenda.{IsRising}
use Rattle.cany_node.specs.Asks.{IsRisingFrom}
use Rattle.cany_node.specs.Node.{NodeParts}
use Rattle.cany_node.proofs.node.Node.next_scripted.Goals as goal

pub returns-clause-sends : goal.returns-clause-sends
returns-clause-sends c = λ n early.
    subst (λ (v : NodeParts). IsRising n v.agenda.left → IsRising (n + 1) v.agenda.left) c.self.view_is
    (c.wake-sends.ensures n (omega (arith, early, c.min.ensures, c.min-2.ensures)))

pub returns-clause-joins : goal.returns-clause-joins
returns-clause-joins c = λ n early.
    subst (λ (v : NodeParts). IsRisingFrom n v.joins → IsRisingFrom (n + 1) v.joins) c.self.view_is
    (c.wake.ensures n (omega (arith, early, c.min.ensures, c.min-2.ensures)))

pub returns-clause-leaves : goal.returns-clause-leaves
returns-clause-leaves c = λ n early.
    subst (λ (v : NodeParts). IsRisingFrom n v.leaves → IsRisingFrom (n + 1) v.leaves) c.self.view_is
    (c.wake-2.ensures n (omega (arith, early, c.min.ensures, c.min-2.ensures)))
