use Rattle.std.proofs.Common.{subst, sym}
use Rattle.cany_history.specs.History.{StartsWith}
use Rattle.cany_model.specs.Rules.KnowledgeOf.{knowledge_of}
use Rattle.cany_node.specs.Membership.{Exchanges, IsOfBus, MembershipParts}
use Rattle.cany_node.proofs.MembershipSteps.{ended_met, ended_of_bus, exchange_listed, exchanged, history_next, history_stands, start_fits}
use Rattle.cany_node.proofs.membership.Membership.exchange.Goals as goal

pub on-requires-clause-reads : goal.on-requires-clause-reads
on-requires-clause-reads c =
    let at = c.requires.exchanges in
    let h = subst (Exchanges at.scenario at.node at.past c.args.notice.now) (sym c.self.view_is) at.exchanges in
    record {
      scenario = at.scenario;
      past = at.past;
      vector = (knowledge_of at.scenario at.node at.past).vector;
      stands = history_stands at.scenario at.node at.past c.args.notice.now _ h;
      next = history_next at.scenario at.node at.past c.args.notice.now _ h;
    }

pub on-requires-clause-start : goal.on-requires-clause-start
on-requires-clause-start c =
    let at = c.requires.exchanges in
    subst (λ (v : MembershipParts). StartsWith v.history.params c.args.notice.now.slot c.start-start.result) (sym c.self.view_is)
    (start_fits at.scenario at.node at.past c.args.notice.now _ at.exchanges c.start-start.result c.start-start.ensures.none c.start-start.ensures.below)

pub returns-clause-below : goal.returns-clause-below
returns-clause-below c =
    let at = c.requires.exchanges in
    let h = subst (Exchanges at.scenario at.node at.past c.args.notice.now) (sym c.self.view_is) at.exchanges in
    subst (λ (v : MembershipParts). IsOfBus v.params c.on.result) c.self.view_is
    (ended_of_bus at.scenario at.node at.past c.args.notice.now _ h c.on.result c.on.ensures.below)

pub returns-clause-ended : goal.returns-clause-ended
returns-clause-ended c = λ scenario i past h.
    let notice = c.args.notice.now in
    let stands = subst (Exchanges scenario i past notice) (sym c.self.view_is) h in
    ended_met scenario i past notice _ stands c.on.result
    (c.on.ensures.ended scenario past _ (history_stands scenario i past notice _ stands) (history_next scenario i past notice _ stands))

pub returns-clause-actions : goal.returns-clause-actions
returns-clause-actions c = λ scenario i past h.
    let notice = c.args.notice.now in
    let stands = subst (Exchanges scenario i past notice) (sym c.self.view_is) h in
    exchange_listed scenario i past notice _ stands _ (c.start-start.ensures.exact scenario i _ _ h.knows) c.args.out.now.items c.on.new.out.items
    (c.on.ensures.actions scenario past _ (history_stands scenario i past notice _ stands) (history_next scenario i past notice _ stands))

pub returns-clause-history : goal.returns-clause-history
returns-clause-history c = λ scenario i past h.
    let notice = c.args.notice.now in
    let stands = subst (Exchanges scenario i past notice) (sym c.self.view_is) h in
    exchanged scenario i past notice _ stands _ (c.start-start.ensures.exact scenario i _ _ h.knows) c.on.new.self
    (c.on.ensures.stands scenario past _ (history_stands scenario i past notice _ stands) (history_next scenario i past notice _ stands))
