-- An idle slot that is nothing to life and to vectors is nothing to what a node keeps of the site.
use Rattle.std.proofs.Common.{◌≡◌, ℕ, List, [], ◌∷◌, ◌++◌, length, None, ap, sym, ◌∙◌, subst}
use Rattle.std.proofs.lemmas.Bool.{cond-false}
use Rattle.cany_base.specs.declared.notice.NoticeKind.{NoticeKind}
use Rattle.cany_base.specs.declared.notice.NoticeKind.TheVariants.{Idle}
use Rattle.cany_base.specs.Nodes.{AllBelow, Nodes}
use Rattle.cany_base.specs.Params.{Parameters}
use Rattle.cany_base.specs.Scenario.{ScenarioParts}
use Rattle.cany_history.specs.History as history
use Rattle.cany_history.specs.History.{IsHistoryOf}
use Rattle.cany_life.specs.Life as life
use Rattle.cany_life.specs.Life.{IsLifeOf}
use Rattle.cany_model.specs.Rules.Effect.{Effect}
use Rattle.cany_model.specs.Rules.Life.{failure_effects, life_sign, life_signs_sent}
use Rattle.cany_model.specs.Rules.Membership.{install_effects}
use Rattle.cany_model.specs.Rules.KnowledgeOf.{after_notice, after_installing, after_meeting, met_in, knowledge_of}
use Rattle.cany_model.specs.Rules.Knowledge.{Knowledge, after_finding, with_members}
use Rattle.cany_model.specs.Rules.Vectors.{exchange_at}
use Rattle.cany_base.specs.Cycles.{is_start}
use Rattle.cany_model.specs.Rules.Views.{after_ask, start_of, view_effects, with_ended}
use Rattle.cany_views.specs.Views.{IsViewsOf}
use Rattle.cany_node.specs.Resting.{MembershipRests}
use Rattle.cany_node.specs.Membership.{IsMembershipOf, MembershipParts, exchange_plain, life_plain, membership_effects}

pub both_none : (xs ys : List Effect) → xs ≡ [] → ys ≡ [] → xs ++ ys ≡ []
both_none xs ys first second = ap (λ es. es ++ ys) first ∙ second

module _ (scenario : ScenarioParts) (i : ℕ) (past : List NoticeKind) (v : MembershipParts) (h : IsMembershipOf scenario i past v) where
  abbrev known : Knowledge
  known = knowledge_of scenario i past

  abbrev idle : List NoticeKind
  idle = Idle ∷ past

  abbrev p : Parameters
  p = scenario.params

  -- as life names the node itself
  pub life_now : IsLifeOf scenario v.life.node past (knowledge_of scenario i past) v.life
  life_now = subst (λ n. IsLifeOf scenario n past known v.life) (sym h.life.limits.is_node) h.life

  pub history_now : IsHistoryOf scenario v.history.node past (knowledge_of scenario i past).vector v.history
  history_now = subst (λ n. IsHistoryOf scenario n past known.vector v.history) (sym h.history.limits.is_node) h.history

  module _ (members : Nodes) (are : members ≡ v.views.members)
      (lives : life.Rests scenario v.life.node past (with_members members (knowledge_of scenario i past)) v.life)
      (exchanges : history.Rests scenario v.history.node past (knowledge_of scenario i past).vector v.history) where
    own_members : with_members members known ≡ known
    own_members = ap (λ m. with_members m known) (are ∙ h.views.members)

    life_rests : life.Rests scenario i past known v.life
    life_rests =
        subst (λ st. life.Rests scenario i past st v.life) own_members
        (subst (λ n. life.Rests scenario n past (with_members members known) v.life) h.life.limits.is_node lives)

    history_rests : history.Rests scenario i past known.vector v.history
    history_rests = subst (λ n. history.Rests scenario n past known.vector v.history) h.history.limits.is_node exchanges

    -- ---- what the node knows

    found_same : after_finding p i (length past) Idle known ≡ known
    found_same = life_rests.found

    met_same : after_meeting p i (length past) Idle known ≡ known
    unfolding after_ask
    met_same =
        ap (λ (s : Knowledge). record s { vector = met_in p (length past) Idle known }) found_same
        ∙ ap (λ w. record known { vector = w }) history_rests.kept

    installed_same : after_installing p i (length past) Idle known ≡ known
    unfolding with_ended
    installed_same = ap (λ w. with_ended i (length past) w (after_meeting p i (length past) Idle known)) history_rests.none ∙ met_same

    pub knowledge_same : knowledge_of scenario i (Idle ∷ past) ≡ knowledge_of scenario i past
    unfolding knowledge_of after_notice
    knowledge_same =
        let installed : Knowledge = after_installing p i (length past) Idle known in
        cond-false (is_start p (length past)) (record installed { vector = start_of i installed }) installed history_rests.start ∙ installed_same

    -- ---- what is done

    no_failures : failure_effects scenario i idle ≡ []
    unfolding failure_effects
    no_failures = life_rests.failures

    no_exchange : exchange_plain scenario i idle ≡ []
    no_exchange =
        ap (λ w. exchange_at p 0 i Idle past known.vector w)
        (cond-false (is_start p (length past)) (start_of i (after_installing p i (length past) Idle known)) None history_rests.start)
        ∙ history_rests.effects

    no_view : install_effects scenario i idle ≡ []
    unfolding install_effects view_effects
    no_view = ap (λ w. view_effects p scenario.joins scenario.leaves i (length past) w) history_rests.none

    no_sign : life_plain scenario i idle ≡ []
    no_sign = ap (λ st. life_sign p.life 0 i (length past) st (life_signs_sent i idle)) knowledge_same ∙ life_rests.sign

    none_done : membership_effects scenario i idle ≡ []
    none_done =
        both_none (failure_effects scenario i idle) _ no_failures
        (both_none (exchange_plain scenario i idle) _ no_exchange
        (both_none (install_effects scenario i idle) (life_plain scenario i idle) no_view no_sign))

    -- ---- the value

    still : IsMembershipOf scenario i idle v
    still =
        let same : known ≡ knowledge_of scenario i idle = sym knowledge_same in
        record {
          params = h.params;
          failed = subst (λ (st : Knowledge). AllBelow p.nodes st.failed) same h.failed;
          life = subst (λ st. IsLifeOf scenario i idle st v.life) same life_rests.stands;
          history = subst (λ (st : Knowledge). IsHistoryOf scenario i idle st.vector v.history) same history_rests.stands;
          views = subst (λ st. IsViewsOf scenario i st v.views) same h.views;
        }

    pub site_rests : MembershipRests scenario i past v
    site_rests = record { stands = still; effects = none_done; knowledge = knowledge_same }
