use Rattle.std.proofs.Common.{ℕ, List, ◌∙◌, ◌++◌, ap, refl, sym, arith, append-nil}
use Rattle.cany_base.specs.declared.notice.Notice.{Notice}
use Rattle.cany_base.specs.declared.notice.NoticeKind.{NoticeKind}
use Rattle.cany_base.specs.Scenario.{ScenarioParts}
use Rattle.cany_model.specs.Rules.Actions.{actions_of}
use Rattle.cany_node.specs.Membership.{IsMembershipOf, IsNextOf, MembershipParts}
use Rattle.cany_node.specs.Resting.{MembershipRests}
use Rattle.cany_node.proofs.TellsNothingOfTheSite.{none_unheard, site_unheard, unheard}
use Rattle.cany_node.proofs.membership.Membership.on.Goals as goal

abbrev RestsHere : Notice → MembershipParts → Type 0
RestsHere notice v =
    (scenario : ScenarioParts) (i : ℕ) (past : List NoticeKind) → IsMembershipOf scenario i past v → IsNextOf scenario i past notice → MembershipRests scenario i past v

pub returns-else-notice-wake : goal.returns-else-notice-wake
returns-else-notice-wake c =
    let notice = c.args.notice.now in
    let other = unheard notice.kind (sym c.if-tells_of_site.ensures) in
    let rests : RestsHere notice c.args.self.now =
    λ scenario i past h next. c.wake.ensures.rests scenario i past h (omega (arith, next.next.slot)) (omega (arith, next.next.slot)) (omega (arith, next.next.slot, next.next.within)) in
    record {
      actions = λ scenario i past h next.
          sym (append-nil c.args.out.now.items)
          ∙ sym (ap (λ effects. c.args.out.now.items ++ actions_of scenario.params.format effects) (none_unheard scenario i past notice.kind other _ (rests scenario i past h next)));
      stands = λ scenario i past h next. site_unheard scenario i past notice.kind other _ (rests scenario i past h next).stands;
      few = omega arith;
      room = refl;
    }
