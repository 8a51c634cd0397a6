use Rattle.std.proofs.Common.{subst, sym, arith}
use Rattle.cany_base.proofs.ParamsFacts.{few_slots}
use Rattle.cany_life.proofs.TurnFacts.{few_sent}
use Rattle.cany_node.specs.Membership.{IsMembershipOf}
use Rattle.cany_node.specs.Resting.{MembershipRests}
use Rattle.cany_node.proofs.ShowsLife.{lives_stand, nothing_done}
use Rattle.cany_node.proofs.TellsNothingOfTheSite.{none_unheard, site_unheard, unheard}
use Rattle.cany_node.proofs.TotcanAndLifeTurn.{life_at_most}
use Rattle.cany_node.proofs.membership.Membership.see.Goals as goal

-- a frame that accepts a message tells nothing of the site

pub returns-then-not-tells_of_site-clause-none : goal.returns-then-not-tells_of_site-clause-none
returns-then-not-tells_of_site-clause-none c = λ scenario i past h rests next.
    none_unheard scenario i past c.args.notice.now.kind (unheard c.args.notice.now.kind (sym c.if-not-tells_of_site.ensures)) _ rests

pub returns-then-not-tells_of_site-clause-stands : goal.returns-then-not-tells_of_site-clause-stands
returns-then-not-tells_of_site-clause-stands c = λ scenario i past h rests next.
    site_unheard scenario i past c.args.notice.now.kind (unheard c.args.notice.now.kind (sym c.if-not-tells_of_site.ensures)) _ rests.stands

pub returns-then-not-tells_of_site-clause-rests : goal.returns-then-not-tells_of_site-clause-rests
returns-then-not-tells_of_site-clause-rests c = λ scenario i past h later early within. c.requires.rests scenario i past h (omega (arith, later)) early within

pub returns-then-not-tells_of_site-clause-sooner : goal.returns-then-not-tells_of_site-clause-sooner
returns-then-not-tells_of_site-clause-sooner c = omega arith

-- any other frame shows life

pub see-requires : goal.see-requires
see-requires c =
    let at = c.requires.hears in
    let stands = subst (IsMembershipOf at.scenario at.node at.past) (sym c.self.view_is) at.stands in
    few_sent at.scenario at.node at.past _ c.args.notice.now c.self.inside.life stands.life at.next.next

pub returns-clause-none : goal.returns-clause-none
returns-clause-none c = λ scenario i past h rests next.
    nothing_done scenario i past c.args.notice.now.kind (life_at_most c.args.notice.now.kind c.requires.brings) c.args.self.now h rests

pub returns-clause-stands : goal.returns-clause-stands
returns-clause-stands c = λ scenario i past h rests next.
    let stands = subst (IsMembershipOf scenario i past) (sym c.self.view_is) h in
    let resting = subst (MembershipRests scenario i past) (sym c.self.view_is) rests in
    lives_stand scenario i past c.args.notice.now (life_at_most c.args.notice.now.kind c.requires.brings) _ stands resting next c.see.new.self c.see.ensures

pub returns-clause-rests : goal.returns-clause-rests
returns-clause-rests c = λ scenario i past h later early within. c.wake.ensures.rests scenario i past h later (omega (arith, early, c.min.ensures)) within

pub overflow_add-notice : goal.overflow_add-notice
overflow_add-notice c =
    let at = c.requires.hears in
    omega (arith, at.next.next.within, few_slots at.scenario.params at.stands.history.limits.legal.in_range)

pub returns-clause-sooner : goal.returns-clause-sooner
returns-clause-sooner c = omega (arith, c.min.ensures)
