-- What a node knows of the site before its first turn.
use Rattle.std.proofs.Common.{◌≡◌, ℕ, List, [], None, replicate, ap, sym, subst, ◌∙◌}
use Rattle.cany_base.specs.declared.notice.NoticeKind.{NoticeKind}
use Rattle.cany_base.specs.declared.notice.NoticeKind.TheVariants.{Idle}
use Rattle.cany_base.specs.Nodes.{AllBelow, nobody}
use Rattle.cany_base.specs.Scenario.{ScenarioParts, IsLegalScenario}
use Rattle.cany_base.proofs.SetFacts.{below_nobody}
use Rattle.cany_model.specs.Bus.State.{Incarnation}
use Rattle.cany_model.specs.Rules.KnowledgeOf.{knowledge_of}
use Rattle.cany_model.specs.Rules.Knowledge.{Knowledge, knowledge_at_first}
use Rattle.cany_model.specs.Rules.Turn.{scenario_for}
use Rattle.cany_model.proofs.Rules.IdleBeforeTakingPart.{IsBegun}
use Rattle.cany_model.proofs.Rules.Site.KnowledgeFacts.{begun_knowledge}
use Rattle.cany_history.specs.History.{HistoryParts, IsHistoryOf}
use Rattle.cany_life.specs.Life.{IsLifeOf, LifeParts}
use Rattle.cany_views.specs.Views.{IsViewsOf, ViewsParts}
use Rattle.cany_node.specs.Membership.{IsMembershipAtRest, IsMembershipOf, MembershipParts}

-- at the node of the opening nobody has failed, and it has the members of the scenario
pub site_opens : (scenario : ScenarioParts) (i : ℕ) (v : MembershipParts) → IsMembershipAtRest scenario i v → IsMembershipOf scenario i [] v
unfolding knowledge_of
site_opens scenario i v rest = record {
  params = rest.params;
  failed = below_nobody scenario.params.nodes;
  life = rest.life 0 scenario.members;
  history = rest.history 0;
  views = rest.views;
}

-- ---- in the scenario as an incarnation follows it

-- a value of life signs and failure signs stands for the same
life_for : (scenario : ScenarioParts) (inc : Incarnation) (i : ℕ) (past : List NoticeKind) (knowledge : Knowledge) (v : LifeParts)
    → IsLegalScenario (scenario_for scenario inc) → IsLifeOf scenario i past knowledge v → IsLifeOf (scenario_for scenario inc) i past knowledge v
life_for scenario inc i past knowledge v legal h = record {
  limits = record { legal = legal; is_node = h.limits.is_node; are_params = h.limits.are_params };
  failed = h.failed;
  signs = record { cycles = h.signs.cycles; known = λ sign of. h.signs.known sign (record { node = of.node; cycle = of.cycle }) };
  copies = record {
    omit = h.copies.omit;
    room = h.copies.room;
    copies = h.copies.copies;
    signs = λ number there.
        let is = h.copies.signs number there in
        record { sign = is.sign; of = record { node = is.of.node; cycle = is.of.cycle }; stands = is.stands };
  };
  lives = record { nodes = h.lives.nodes; are_shown = h.lives.are_shown; is_last = h.lives.is_last; are_sent = h.lives.are_sent; few = h.lives.few };
}

-- a value of the exchange of vectors does too
history_for : (scenario : ScenarioParts) (inc : Incarnation) (i : ℕ) (past : List NoticeKind) (v : HistoryParts)
    → IsLegalScenario (scenario_for scenario inc) → IsHistoryOf scenario i past None v → IsHistoryOf (scenario_for scenario inc) i past None v
history_for scenario inc i past v legal h = record {
  limits = record { legal = legal; place = h.limits.place; is_node = h.limits.is_node; are_params = h.limits.are_params };
  vector = h.vector;
  below = h.below;
  few = h.few;
  unread = h.unread;
  exchange = h.exchange;
}

-- and so does one of the view
views_for : (scenario : ScenarioParts) (inc : Incarnation) (i : ℕ) (knowledge : Knowledge) (v : ViewsParts)
    → IsLegalScenario (scenario_for scenario inc) → IsViewsOf scenario i knowledge v → IsViewsOf (scenario_for scenario inc) i knowledge v
views_for scenario inc i knowledge v legal h = record {
  limits =
      let told = h.limits in
      record { legal = legal; is_node = told.is_node; are_params = told.are_params; are_joins = told.are_joins; are_leaves = told.are_leaves };
  members = h.members;
  joiners = h.joiners;
  leavers = h.leavers;
  below = h.below;
}

-- ---- a node that is at first no member

-- what becomes of its site
pub record IsOutside (old new : MembershipParts) : Type 0 where
  pub life : new.life ≡ old.life
  pub history : new.history ≡ old.history
  pub views : (scenario : ScenarioParts) (knowledge : Knowledge) → IsViewsOf scenario old.views.node knowledge old.views
      → IsViewsOf scenario old.views.node (knowledge_at_first nobody) new.views
  pub params : new.params ≡ old.params

-- it knows nothing of the site
pub site_begins : (scenario : ScenarioParts) (inc : Incarnation) (i n : ℕ) (old new : MembershipParts) → IsMembershipAtRest scenario i old
    → IsOutside old new → IsLegalScenario (scenario_for scenario inc) → (scenario_for scenario inc).members ≡ nobody
    → IsBegun (scenario_for scenario inc) (replicate n Idle)
    → IsMembershipOf (scenario_for scenario inc) i (replicate n Idle) new
site_begins scenario inc i n old new rest became legal outside begun = record {
  params = became.params ∙ rest.params;
  failed = subst (λ (st : Knowledge). AllBelow scenario.params.nodes st.failed) (sym known) (below_nobody scenario.params.nodes);
  life = subst (λ st. IsLifeOf followed i past st new.life) (sym known)
      (subst (IsLifeOf followed i past (knowledge_at_first nobody)) (sym became.life)
      (life_for scenario inc i past (knowledge_at_first nobody) old.life legal (rest.life n nobody)));
  history = subst (λ (st : Knowledge). IsHistoryOf followed i past st.vector new.history) (sym known)
      (subst (IsHistoryOf followed i past None) (sym became.history)
      (history_for scenario inc i past old.history legal (rest.history n)));
  views = subst (λ st. IsViewsOf followed i st new.views) (sym known)
      (views_for scenario inc i (knowledge_at_first nobody) new.views legal seen);
}
  where
    followed : ScenarioParts
    followed = scenario_for scenario inc

    past : List NoticeKind
    past = replicate n Idle

    known : knowledge_of followed i past ≡ knowledge_at_first nobody
    known = begun_knowledge followed i past begun ∙ ap knowledge_at_first outside

    seen : IsViewsOf scenario i (knowledge_at_first nobody) new.views
    seen = subst (λ k. IsViewsOf scenario k (knowledge_at_first nobody) new.views) rest.views.limits.is_node
        (became.views scenario (knowledge_at_first scenario.members)
        (subst (λ k. IsViewsOf scenario k (knowledge_at_first scenario.members) old.views) (sym rest.views.limits.is_node) rest.views))
