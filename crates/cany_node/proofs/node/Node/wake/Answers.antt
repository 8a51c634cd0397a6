use Rattle.std.proofs.Common.{refl, subst, arith}
use Rattle.cany_base.specs.declared.notice.NoticeKind.TheVariants.{Idle}
use Rattle.cany_node.specs.Resting.{RestsUntil}
use Rattle.cany_node.proofs.Idle.IdleFacts.{idle_rests}
use Rattle.cany_node.proofs.node.Node.wake.Goals as goal

pub returns : goal.returns
returns c = record {
  rests = subst (RestsUntil _) c.self.view_is
      (idle_rests c.self.inside.idle_until _ _ c.self.invariant.idle_until (omega (arith, c.min.ensures)) c.rests.ensures
      (λ scenario past h early. c.wake.ensures.rests scenario past Idle h (omega (arith, c.min.ensures, early)) refl));
}
