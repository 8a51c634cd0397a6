use Rattle.std.proofs.Common.{subst, sym, arith}
use Rattle.cany_node.specs.Resting.{MembershipRests}
use Rattle.cany_node.specs.Membership.{IsMembershipOf}
use Rattle.cany_node.proofs.Idle.MembershipRest.{history_now, life_now, site_rests}
use Rattle.cany_node.proofs.membership.Membership.wake.Goals as goal

pub returns : goal.returns
returns c = record {
  rests = λ scenario i past h later early within.
      let stands = subst (IsMembershipOf scenario i past) (sym c.self.view_is) h in
      let lives = c.wake-life.ensures.rests scenario past _ (life_now scenario i past _ stands) later (omega (arith, early)) within in
      let exchanges = c.wake.ensures.rests scenario past _ (history_now scenario i past _ stands) later (omega (arith, early)) in
      subst (MembershipRests scenario i past) c.self.view_is (site_rests scenario i past _ stands _ c.members.ensures.members lives exchanges);
}
