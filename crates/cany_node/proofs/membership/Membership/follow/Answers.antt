use Rattle.std.proofs.Common.{◌∷◌, length, ap, subst, sym, ◌∙◌, arith}
use Rattle.cany_history.specs.History.{IsHistoryOf}
use Rattle.cany_model.specs.Rules.KnowledgeOf.{knowledge_of}
use Rattle.cany_node.specs.Membership.{IsMembershipOf, MembershipParts, met_by}
use Rattle.cany_node.proofs.MembershipSteps.{all_listed, ended_now, has_known, installed_then, known_exchanged, known_then, site_stands}
use Rattle.cany_node.proofs.membership.Membership.follow.Goals as goal

pub install-requires-clause-known : goal.install-requires-clause-known
install-requires-clause-known c =
    let at = c.requires.hears in
    let notice = c.args.notice.now in
    let exchanges = c.hear.ensures.exchanges at.scenario at.node at.past at.stands at.next in
    has_known at.scenario at.node at.past notice at.next (met_by at.scenario at.node notice at.past) c.exchange-ended.new.self
    (known_exchanged at.scenario at.node at.past notice at.next c.hear.new.self c.exchange-ended.new.self _ exchanges
    c.exchange-ended.ensures.state)

pub sign-requires-clause-known : goal.sign-requires-clause-known
sign-requires-clause-known c =
    let at = c.requires.hears in
    let exchanges = c.hear.ensures.exchanges at.scenario at.node at.past at.stands at.next in
    has_known at.scenario at.node at.past c.args.notice.now at.next _ c.install.new.self
    (known_then at.scenario at.node at.past c.args.notice.now at.next c.hear.new.self c.exchange-ended.new.self c.install.new.self _ _ exchanges c.exchange-ended.ensures.state
    (c.exchange-ended.ensures.ended at.scenario at.node at.past exchanges) (c.install.ensures.knows at.scenario at.node (c.args.notice.now.kind ∷ at.past) _))

pub returns : goal.returns
returns c =
    let notice = c.args.notice.now in
    record {
      actions = λ scenario i past h next.
          let read = notice.kind ∷ past in
          let exchanges = c.hear.ensures.exchanges scenario i past h next in
          let ended = c.exchange-ended.ensures.ended scenario i past exchanges in
          let known = known_exchanged scenario i past notice next c.hear.new.self c.exchange-ended.new.self _ exchanges c.exchange-ended.ensures.state in
          let installed =
          installed_then scenario i past notice next c.hear.new.self c.exchange-ended.new.self c.install.new.self _ _ exchanges c.exchange-ended.ensures.state ended
          (c.install.ensures.knows scenario i read _) in
          all_listed scenario i past notice next c.args.out.now.items c.hear.new.out.items c.exchange-ended.new.out.items
          c.install.new.out.items c.sign.new.out.items
          (c.hear.ensures.actions scenario i past h next)
          (c.exchange-ended.ensures.actions scenario i past exchanges)
          (c.install.ensures.actions scenario i read _ _ known (ended_now scenario i past notice next _ ended))
          (c.sign.ensures.actions scenario i read (knowledge_of scenario i read) installed);
      stands = λ scenario i past h next.
          let read = notice.kind ∷ past in
          let exchanges = c.hear.ensures.exchanges scenario i past h next in
          let history =
          subst (IsHistoryOf scenario i read (knowledge_of scenario i read).vector) (sym c.install.ensures.history) (c.exchange-ended.ensures.history scenario i past exchanges) in
          subst (IsMembershipOf scenario i read) (sym c.sign.ensures.state)
          (site_stands scenario i past notice next c.install.new.self
          (installed_then scenario i past notice next c.hear.new.self c.exchange-ended.new.self c.install.new.self _ _ exchanges c.exchange-ended.ensures.state
          (c.exchange-ended.ensures.ended scenario i past exchanges) (c.install.ensures.knows scenario i read _))
          history);
      few = omega (
        arith,
        c.hear.ensures.few,
        c.exchange-ended.ensures.few,
        c.install.ensures.few,
        c.sign.ensures.few,
        ap length c.hear.ensures.joins,
        ap length c.hear.ensures.leaves,
        ap (λ (v : MembershipParts). length v.views.joins) c.exchange-ended.ensures.state,
        ap (λ (v : MembershipParts). length v.views.leaves) c.exchange-ended.ensures.state,
      );
      room = c.sign.ensures.room ∙ c.install.ensures.room ∙ c.exchange-ended.ensures.room ∙ c.hear.ensures.room;
    }
