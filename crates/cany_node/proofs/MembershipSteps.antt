-- The steps of a turn at what a node keeps of the site, one after another.
use Rattle.std.proofs.Common.{◌≡◌, ℕ, if◌then◌else◌, List, ◌∷◌, ◌++◌, length, false, IfSome, Option, Some, None, refl, ap, sym, ◌∙◌, subst, arith, append_assoc, append-nil}
use Rattle.std.proofs.lemmas.Bool.{cond_both}
use Rattle.std.proofs.lemmas.List.{map-append}
use Rattle.cany_base.specs.declared.actions.Action.{Action}
use Rattle.cany_base.specs.declared.format.Format.{Format}
use Rattle.cany_base.specs.declared.notice.Notice.{Notice}
use Rattle.cany_base.specs.declared.notice.NoticeKind.{NoticeKind}
use Rattle.cany_base.specs.Nodes.{AllBelow, Nodes, minus}
use Rattle.cany_base.specs.Params.{Parameters}
use Rattle.cany_base.specs.Scenario.{ScenarioParts}
use Rattle.cany_history.specs.declared.ended.Ended.{Ended}
use Rattle.cany_history.specs.History as history
use Rattle.cany_history.specs.History.{HistoryParts, IsHistoryOf}
use Rattle.cany_life.specs.Life as life
use Rattle.cany_life.specs.Life.{IsLifeOf, LifeParts}
use Rattle.cany_model.specs.Rules.Actions.{action_of, actions_of}
use Rattle.cany_model.specs.Rules.Effect.{Effect}
use Rattle.cany_model.specs.Rules.Life.{failure_effects, failures_at, life_sign, life_signs_sent}
use Rattle.cany_model.specs.Rules.Membership.{install_effects}
use Rattle.cany_model.specs.Rules.KnowledgeOf.{after_notice, ended_in, after_installing, start_in, knowledge_of}
use Rattle.cany_model.specs.Rules.Knowledge.{Knowledge, after_admitting, after_finding, with_members}
use Rattle.cany_model.specs.Rules.Vectors.{after_exchange, exchange_at}
use Rattle.cany_base.specs.Cycles.{is_start}
use Rattle.cany_model.specs.Rules.Views.{after_ask, start_of, view_effects, with_ended, with_view}
use Rattle.cany_model.proofs.Rules.Site.VectorFacts.{knowledge_vector}
use Rattle.cany_views.specs.Views.{IsViewsOf, ViewsParts}
use Rattle.cany_base.proofs.SetFacts.{below_minus}
use Rattle.cany_node.specs.Membership.{Exchanges, HasKnown, IsNextOf, IsMembershipOf, IsOfBus, KnowsOf, MembershipParts, ended_as, exchange_plain, life_plain, met_by, membership_effects}
use Rattle.cany_node.proofs.MembershipFacts.{asked_members, ended_none, ended_vector, found_failed, knows_moved, life_moved, met_life, met_views, starts_as_met, views_moved}

-- ---- who asks, who lives and who has failed

module _ (scenario : ScenarioParts) (i : ℕ) (past : List NoticeKind) (notice : Notice) (v : MembershipParts) (h : IsMembershipOf scenario i past v)
    (next : IsNextOf scenario i past notice) where
  abbrev before : Knowledge
  before = knowledge_of scenario i past

  pub life_stands : IsLifeOf scenario v.life.node past (knowledge_of scenario i past) v.life
  life_stands = subst (λ n. IsLifeOf scenario n past before v.life) (sym h.life.limits.is_node) h.life

  pub life_next : life.IsNextAt scenario v.life.node past notice
  life_next =
      let here : life.IsNextAt scenario i past notice = record { next = next.next; few = next.few } in
      subst (λ n. life.IsNextAt scenario n past notice) (sym h.life.limits.is_node) here

  pub views_stand : IsViewsOf scenario v.views.node (knowledge_of scenario i past) v.views
  views_stand = subst (λ n. IsViewsOf scenario n before v.views) (sym h.views.limits.is_node) h.views

  -- the views have heard who asks, and these are the members
  module _ (views : ViewsParts) (heard : IsViewsOf scenario v.views.node (after_ask notice.kind (knowledge_of scenario i past)) views)
      (members : Nodes) (are : members ≡ views.members) where
    own_members : with_members members before ≡ before
    own_members = ap (λ m. with_members m before) (are ∙ heard.members ∙ asked_members notice.kind before)

    pub failures_listed : (old new : List Action)
        → new ≡ old ++ actions_of scenario.params.format
        (failures_at scenario.params v.life.node notice.kind past (with_members members (knowledge_of scenario i past)))
        → new ≡ old ++ actions_of scenario.params.format (failure_effects scenario i (notice.kind ∷ past))
    unfolding failure_effects
    failures_listed old new acts =
        let listed : ℕ → Knowledge → List Action =
        λ n st. old ++ actions_of scenario.params.format (failures_at scenario.params n notice.kind past st) in
        acts ∙ ap (λ n. listed n (with_members members before)) h.life.limits.is_node ∙ ap (listed i) own_members

    -- life has heard the notice too, and so knows all that it tells but the vector
    pub all_heard : (heard_life : LifeParts)
        → IsLifeOf scenario v.life.node (notice.kind ∷ past)
        (after_finding scenario.params v.life.node (length past) notice.kind (with_members members (knowledge_of scenario i past))) heard_life
        → Exchanges scenario i past notice (record { params = v.params; life = heard_life; history = v.history; views = views })
    all_heard heard_life found =
        let p : Parameters = scenario.params in
        let slot : ℕ = length past in
        let read : List NoticeKind = notice.kind ∷ past in
        let stands : ℕ → Knowledge → Type 0 = λ n st. IsLifeOf scenario n read (after_finding p n slot notice.kind st) heard_life in
        let known = subst (stands i) own_members (subst (λ n. stands n (with_members members before)) h.life.limits.is_node found) in
        let seen = subst (λ n. IsViewsOf scenario n (after_ask notice.kind before) views) h.views.limits.is_node heard in
        record {
          knows = record {
            params = h.params;
            failed =
                subst (AllBelow p.nodes) (met_life p i slot notice.kind before).failed
                (found_failed scenario i slot notice.kind before notice.slot next.next.readable h.failed);
            life = life_moved scenario i (after_finding p i slot notice.kind before) (met_by scenario i notice past) read heard_life
                (met_life p i slot notice.kind before) known;
            views = views_moved scenario i (after_ask notice.kind before) (met_by scenario i notice past) views
                (met_views p i slot notice.kind before) seen;
          };
          history = h.history;
          next = next;
        }

-- ---- the exchange of vectors

module _ (scenario : ScenarioParts) (i : ℕ) (past : List NoticeKind) (notice : Notice) (v : MembershipParts)
    (h : Exchanges scenario i past notice v) where
  abbrev known : Knowledge
  known = knowledge_of scenario i past

  pub history_stands : IsHistoryOf scenario v.history.node past (knowledge_of scenario i past).vector v.history
  history_stands = subst (λ n. IsHistoryOf scenario n past known.vector v.history) (sym h.history.limits.is_node) h.history

  pub history_next : history.IsNextAt scenario v.history.node past (knowledge_of scenario i past).vector notice
  history_next =
      let here : history.IsNextAt scenario i past known.vector notice = record { next = h.next.next; vector = h.next.vector } in
      subst (λ n. history.IsNextAt scenario n past known.vector notice) (sym h.history.limits.is_node) here

  -- the vector with which a cycle ends
  pub ended_met : (result : Option Ended)
      → result ≡ ended_as scenario.params notice.slot (ended_in scenario.params notice.slot notice.kind (knowledge_of scenario i past))
      → result ≡ ended_as scenario.params (length past) (ended_in scenario.params (length past) notice.kind (knowledge_of scenario i past))
  ended_met result is =
      is ∙ ap (λ slot. ended_as scenario.params slot (ended_in scenario.params slot notice.kind known)) h.next.next.slot

  pub ended_of_bus : (result : Option Ended) → IfSome result (λ e. AllBelow v.history.params.nodes e.vector) → IsOfBus v.params result
  ended_of_bus result below = subst (λ p. IsOfBus p result) (h.history.limits.are_params ∙ sym h.knows.params) below

  -- what the node has found that it can start with, the exchange can be given
  pub start_fits : (start : Option Nodes) → (is_start v.params notice.slot ≡ false → start ≡ None) → IfSome start (AllBelow v.views.params.nodes)
      → history.StartsWith v.history.params notice.slot start
  start_fits start none below = record {
    none = λ no. none (ap (λ (p : Parameters). is_start p notice.slot) (h.knows.params ∙ sym h.history.limits.are_params) ∙ no);
    below = subst (λ (p : Parameters). IfSome start (AllBelow p.nodes)) (h.knows.views.limits.are_params ∙ sym h.history.limits.are_params) below;
  }

  -- what the node starts with
  module _ (start : Option Nodes)
      (starts : start ≡ (if is_start scenario.params notice.slot then start_of i (met_by scenario i notice past) else None)) where
    start_is : start ≡ start_in scenario.params i (length past) notice.kind known
    start_is =
        starts
        ∙ ap (λ slot. if is_start scenario.params slot then start_of i (met_by scenario i notice past) else None) h.next.next.slot
        ∙ starts_as_met scenario.params i (length past) notice.kind known (omega (arith, h.history.limits.legal.in_range.bound.0))

    pub exchange_listed : (old new : List Action)
        → new ≡ old ++ actions_of scenario.params.format
        (exchange_at scenario.params 0 v.history.node notice.kind past (knowledge_of scenario i past).vector start)
        → new ≡ old ++ actions_of scenario.params.format (exchange_plain scenario i (notice.kind ∷ past))
    exchange_listed old new acts =
        let listed : ℕ → Option Nodes → List Action =
        λ n s. old ++ actions_of scenario.params.format (exchange_at scenario.params 0 n notice.kind past known.vector s) in
        acts ∙ ap (λ n. listed n start) h.history.limits.is_node ∙ ap (listed i) start_is

    pub exchanged : (new : HistoryParts)
        → IsHistoryOf scenario v.history.node (notice.kind ∷ past)
        (after_exchange scenario.params (length past) notice.kind start (knowledge_of scenario i past).vector) new
        → IsHistoryOf scenario i (notice.kind ∷ past) (knowledge_of scenario i (notice.kind ∷ past)).vector new
    exchanged new stands =
        let read : List NoticeKind = notice.kind ∷ past in
        let after : Option Nodes → Option Nodes = λ s. after_exchange scenario.params (length past) notice.kind s known.vector in
        let here = subst (λ n. IsHistoryOf scenario n read (after start) new) h.history.limits.is_node stands in
        subst (λ own. IsHistoryOf scenario i read own new) (ap after start_is ∙ sym (knowledge_vector scenario i notice.kind past)) here

-- ---- the end of a cycle

module _ (scenario : ScenarioParts) (i : ℕ) (past : List NoticeKind) (knowledge : Knowledge) (v : MembershipParts)
    (h : KnowsOf scenario i past knowledge v) where
  pub known_life : IsLifeOf scenario v.life.node past knowledge v.life
  known_life = subst (λ n. IsLifeOf scenario n past knowledge v.life) (sym h.life.limits.is_node) h.life

  pub known_views : IsViewsOf scenario v.views.node knowledge v.views
  known_views = subst (λ n. IsViewsOf scenario n knowledge v.views) (sym h.views.limits.is_node) h.views

  module _ (slot : ℕ) (vector : Option Nodes) where
    -- none ended
    pub none_installed : None ≡ ended_as scenario.params slot vector → KnowsOf scenario i past (with_ended i slot vector knowledge) v
    unfolding with_ended
    none_installed is =
        subst (λ o. KnowsOf scenario i past (with_ended i slot o knowledge) v) (sym (ended_none scenario.params slot vector is)) h

    pub none_listed : (old : List Action) → None ≡ ended_as scenario.params slot vector
        → old ≡ old ++ actions_of scenario.params.format (view_effects scenario.params scenario.joins scenario.leaves i slot vector)
    unfolding view_effects
    none_listed old is =
        subst (λ o. old ≡ old ++ actions_of scenario.params.format (view_effects scenario.params scenario.joins scenario.leaves i slot o))
        (sym (ended_none scenario.params slot vector is)) (sym (append-nil old))

    -- one ended with this vector
    module _ (e : Ended) (is : Some e ≡ ended_as scenario.params slot vector) where
      pub view_installed : (newly : Nodes) (life : LifeParts) (views : ViewsParts) → newly ≡ minus e.vector v.views.members
          → IsLifeOf scenario v.life.node past (after_admitting v.life.node slot newly knowledge) life
          → IsViewsOf scenario v.views.node (with_view v.views.node slot e.vector knowledge) views
          → KnowsOf scenario i past (with_ended i slot vector knowledge)
          (record { params = v.params; life = life; history = v.history; views = views })
      unfolding with_ended
      view_installed newly life views new admitted seen =
          let admits : Nodes = minus e.vector knowledge.members in
          let stands : ℕ → Nodes → Type 0 = λ n nodes. IsLifeOf scenario n past (after_admitting n slot nodes knowledge) life in
          let here = subst (λ n. stands n newly) h.life.limits.is_node admitted in
          let lives = subst (stands i) (new ∙ ap (minus e.vector) h.views.members) here in
          let sees = subst (λ n. IsViewsOf scenario n (with_view n slot e.vector knowledge) views) h.views.limits.is_node seen in
          subst (λ o. KnowsOf scenario i past (with_ended i slot o knowledge)
          (record { params = v.params; life = life; history = v.history; views = views }))
          (sym (ended_vector scenario.params slot vector e is))
          (record {
            params = h.params;
            failed = below_minus scenario.params.nodes knowledge.failed admits h.failed;
            life = life_moved scenario i (after_admitting i slot admits knowledge) (with_view i slot e.vector knowledge) past life
                (record { failed = refl; signs = refl; shown = λ r. refl; last = refl }) lives;
            views = sees;
          })

      pub view_listed : (old new : List Action)
          → new ≡ old ++ actions_of scenario.params.format
          (view_effects scenario.params scenario.joins scenario.leaves v.views.node slot (Some e.vector))
          → new ≡ old ++ actions_of scenario.params.format (view_effects scenario.params scenario.joins scenario.leaves i slot vector)
      view_listed old new acts =
          let listed : ℕ → Option Nodes → List Action =
          λ n o. old ++ actions_of scenario.params.format (view_effects scenario.params scenario.joins scenario.leaves n slot o) in
          acts ∙ ap (λ n. listed n (Some e.vector)) h.views.limits.is_node ∙ ap (listed i) (sym (ended_vector scenario.params slot vector e is))

-- ---- the whole turn

module _ (scenario : ScenarioParts) (i : ℕ) (past : List NoticeKind) (notice : Notice) (next : IsNextOf scenario i past notice) where
  abbrev heard : List NoticeKind
  heard = notice.kind ∷ past

  pub has_known : (knowledge : Knowledge) (v : MembershipParts) → KnowsOf scenario i (notice.kind ∷ past) knowledge v → HasKnown v notice.slot
  has_known knowledge v knows = record {
    scenario = scenario;
    node = i;
    past = heard;
    knowledge = knowledge;
    knows = knows;
    within = next.next.within;
    newest = omega (arith, next.next.slot);
  }

  -- the vectors are exchanged: what is known besides stays
  pub known_exchanged : (old new : MembershipParts) (history : HistoryParts) → Exchanges scenario i past notice old
      → new ≡ record old { history = history } → KnowsOf scenario i (notice.kind ∷ past) (met_by scenario i notice past) new
  known_exchanged old new history h state =
      subst (KnowsOf scenario i heard (met_by scenario i notice past)) (sym state)
      (record { params = h.knows.params; failed = h.knows.failed; life = h.knows.life; views = h.knows.views })

  pub ended_now : (result : Option Ended)
      → result ≡ ended_as scenario.params (length past) (ended_in scenario.params (length past) notice.kind (knowledge_of scenario i past))
      → result ≡ ended_as scenario.params notice.slot (ended_in scenario.params (length past) notice.kind (knowledge_of scenario i past))
  ended_now result is =
      let ended : Option Nodes = ended_in scenario.params (length past) notice.kind (knowledge_of scenario i past) in
      is ∙ ap (λ slot. ended_as scenario.params slot ended) (sym next.next.slot)

  -- what ended is installed, and what the node starts with is a matter of its vector alone
  known_started : (v : MembershipParts)
      → KnowsOf scenario i heard (after_installing scenario.params i (length past) notice.kind (knowledge_of scenario i past)) v
      → KnowsOf scenario i heard (knowledge_of scenario i heard) v
  unfolding knowledge_of after_notice
  known_started v h =
      let st : Knowledge = after_installing scenario.params i (length past) notice.kind (knowledge_of scenario i past) in
      cond_both (is_start scenario.params (length past)) (record st { vector = start_of i st }) st (λ s. KnowsOf scenario i heard s v)
      (λ _. knows_moved scenario i st (record st { vector = start_of i st }) heard v
      (record { failed = refl; signs = refl; shown = λ r. refl; last = refl })
      (record { members = refl; joiners = refl; leavers = refl }) h)
      (λ _. h)

  pub known_installed : (v : MembershipParts)
      → KnowsOf scenario i (notice.kind ∷ past)
      (with_ended i notice.slot (ended_in scenario.params (length past) notice.kind (knowledge_of scenario i past))
      (met_by scenario i notice past)) v
      → KnowsOf scenario i (notice.kind ∷ past) (knowledge_of scenario i (notice.kind ∷ past)) v
  known_installed v h =
      let ended : Option Nodes = ended_in scenario.params (length past) notice.kind (knowledge_of scenario i past) in
      known_started v
      (subst (λ slot. KnowsOf scenario i heard (with_ended i slot ended (met_by scenario i notice past)) v) next.next.slot h)

  -- the exchange, and then the new view, as their contracts have them
  module _ (x y z : MembershipParts) (history : HistoryParts) (result : Option Ended) (h : Exchanges scenario i past notice x)
      (state : y ≡ record x { history = history })
      (ends : result ≡ ended_as scenario.params (length past) (ended_in scenario.params (length past) notice.kind (knowledge_of scenario i past)))
      (installs : (vector : Option Nodes) → KnowsOf scenario i (notice.kind ∷ past) (met_by scenario i notice past) y → result ≡ ended_as scenario.params notice.slot vector
      → KnowsOf scenario i (notice.kind ∷ past) (with_ended i notice.slot vector (met_by scenario i notice past)) z) where
    pub known_then : KnowsOf scenario i (notice.kind ∷ past)
        (with_ended i notice.slot (ended_in scenario.params (length past) notice.kind (knowledge_of scenario i past)) (met_by scenario i notice past)) z
    known_then =
        installs (ended_in scenario.params (length past) notice.kind (knowledge_of scenario i past)) (known_exchanged x y history h state) (ended_now result ends)

    pub installed_then : KnowsOf scenario i (notice.kind ∷ past) (knowledge_of scenario i (notice.kind ∷ past)) z
    installed_then = known_installed z known_then

  -- ---- what is listed

  four_listed : (format : Format) (a b c d e : List Action) (first second third fourth : List Effect) → b ≡ a ++ actions_of format first
      → c ≡ b ++ actions_of format second → d ≡ c ++ actions_of format third → e ≡ d ++ actions_of format fourth
      → e ≡ a ++ actions_of format (first ++ (second ++ (third ++ fourth)))
  four_listed format a b c d e first second third fourth is_b is_c is_d is_e =
      is_e ∙ ap (λ x. x ++ actions_of format fourth) is_d ∙ joined c third fourth
      ∙ ap (λ x. x ++ actions_of format (third ++ fourth)) is_c ∙ joined b second (third ++ fourth)
      ∙ ap (λ x. x ++ actions_of format (second ++ (third ++ fourth))) is_b ∙ joined a first (second ++ (third ++ fourth))
    where
      joined : (x : List Action) (y z : List Effect) → (x ++ actions_of format y) ++ actions_of format z ≡ x ++ actions_of format (y ++ z)
      joined x y z =
          append_assoc x (actions_of format y) (actions_of format z) ∙ ap (λ rest. x ++ rest) (sym (map-append (action_of format) y z))

  pub all_listed : (a b c d e : List Action) → b ≡ a ++ actions_of scenario.params.format (failure_effects scenario i (notice.kind ∷ past))
      → c ≡ b ++ actions_of scenario.params.format (exchange_plain scenario i (notice.kind ∷ past))
      → d ≡ c ++ actions_of scenario.params.format
      (view_effects scenario.params scenario.joins scenario.leaves i notice.slot
      (ended_in scenario.params (length past) notice.kind (knowledge_of scenario i past)))
      → e ≡ d ++ actions_of scenario.params.format
      (life_sign scenario.params.life 0 i notice.slot (knowledge_of scenario i (notice.kind ∷ past)) (life_signs_sent i (notice.kind ∷ past)))
      → e ≡ a ++ actions_of scenario.params.format (membership_effects scenario i (notice.kind ∷ past))
  unfolding install_effects
  all_listed a b c d e is_b is_c is_d is_e =
      let format : Format = scenario.params.format in
      let ended : Option Nodes = ended_in scenario.params (length past) notice.kind (knowledge_of scenario i past) in
      let views : ℕ → List Effect = λ slot. view_effects scenario.params scenario.joins scenario.leaves i slot ended in
      let sign : ℕ → List Effect = λ slot. life_sign scenario.params.life 0 i slot (knowledge_of scenario i heard) (life_signs_sent i heard) in
      four_listed format a b c d e (failure_effects scenario i heard) (exchange_plain scenario i heard) (install_effects scenario i heard)
      (life_plain scenario i heard) is_b is_c (is_d ∙ ap (λ slot. c ++ actions_of format (views slot)) next.next.slot)
      (is_e ∙ ap (λ slot. d ++ actions_of format (sign slot)) next.next.slot)

  -- the value stands for the notice too
  pub site_stands : (v : MembershipParts) → KnowsOf scenario i (notice.kind ∷ past) (knowledge_of scenario i (notice.kind ∷ past)) v
      → IsHistoryOf scenario i (notice.kind ∷ past) (knowledge_of scenario i (notice.kind ∷ past)).vector v.history
      → IsMembershipOf scenario i (notice.kind ∷ past) v
  site_stands v knows history = record {
    params = knows.params;
    failed = knows.failed;
    life = knows.life;
    history = history;
    views = knows.views;
  }
