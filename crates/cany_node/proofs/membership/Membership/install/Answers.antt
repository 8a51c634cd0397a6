use Rattle.std.proofs.Common.{subst, sym, ◌∙◌}
use Rattle.cany_node.specs.Membership.{KnowsOf}
use Rattle.cany_node.proofs.MembershipSteps.{known_life, known_views, none_installed, none_listed, view_installed, view_listed}
use Rattle.cany_node.proofs.membership.Membership.install.Goals as goal

pub returns-in-Some-clause-knows : goal.returns-in-Some-clause-knows
returns-in-Some-clause-knows c = λ scenario i past knowledge vector h is.
    let knows = subst (KnowsOf scenario i past knowledge) (sym c.self.view_is) h in
    view_installed scenario i past knowledge _ knows c.args.slot vector c.in-Some.ended (sym c.in-Some.is ∙ is)
    _ c.admit.new.self c.install-newly.new.self c.install-newly.ensures.newly
    (c.admit.ensures.stands scenario past knowledge (known_life scenario i past knowledge _ knows))
    (c.install-newly.ensures.stands scenario knowledge (known_views scenario i past knowledge _ knows))

pub returns-in-Some-clause-actions : goal.returns-in-Some-clause-actions
returns-in-Some-clause-actions c = λ scenario i past knowledge vector h is.
    let knows = subst (KnowsOf scenario i past knowledge) (sym c.self.view_is) h in
    view_listed scenario i past knowledge _ knows c.args.slot vector c.in-Some.ended (sym c.in-Some.is ∙ is)
    c.args.out.now.items c.install-newly.new.out.items
    (c.install-newly.ensures.actions scenario knowledge (known_views scenario i past knowledge _ knows))

pub returns-in_default-clause-knows : goal.returns-in_default-clause-knows
returns-in_default-clause-knows c = λ scenario i past knowledge vector h is.
    none_installed scenario i past knowledge _ h c.args.slot vector (sym c.in_default.is ∙ is)

pub returns-in_default-clause-actions : goal.returns-in_default-clause-actions
returns-in_default-clause-actions c = λ scenario i past knowledge vector h is.
    none_listed scenario i past knowledge _ h c.args.slot vector c.args.out.now.items (sym c.in_default.is ∙ is)
