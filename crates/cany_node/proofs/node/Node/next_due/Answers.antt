use Rattle.std.proofs.Common.{◌+◌, subst, sym, arith}
use Rattle.cany_node.specs.Agenda.{IsRising}
use Rattle.cany_node.specs.Asks.{IsRisingFrom}
use Rattle.cany_node.specs.Node.{NodeParts}
use Rattle.cany_node.specs.Resting.{IsIdleUntil}
use Rattle.cany_node.proofs.node.Node.next_due.Goals as goal

pub returns : goal.returns
returns c =
    let same = sym c.self.view_is in
    subst (IsIdleUntil _) c.self.view_is (record {
      totcan = λ scenario past messages count is early. c.wake.ensures.rests scenario past messages count is (omega (arith, early));
      membership = λ scenario i past is later early within. c.wake-membership.ensures.rests scenario i past is later (omega (arith, early)) within;
      sends = λ n early.
          subst (λ (v : NodeParts). IsRising n v.agenda.left → IsRising (n + 1) v.agenda.left) same (c.next_scripted.ensures.sends n (omega (arith, early)));
      joins = λ n early.
          subst (λ (v : NodeParts). IsRisingFrom n v.joins → IsRisingFrom (n + 1) v.joins) same (c.next_scripted.ensures.joins n (omega (arith, early)));
      leaves = λ n early.
          subst (λ (v : NodeParts). IsRisingFrom n v.leaves → IsRisingFrom (n + 1) v.leaves) same (c.next_scripted.ensures.leaves n (omega (arith, early)));
    })
