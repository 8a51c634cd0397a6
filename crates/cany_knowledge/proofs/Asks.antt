-- Who has asked to join the view, and who to leave it.
use Rattle.std.proofs.Common.{inl, inr, ◌≡◌, ℕ, ◌<◌, ◌==◌, ◌&&◌, ◌||◌, ◌↔◌, Bool, true, false, not, if◌then◌else◌, List, [], ◌∷◌, length, Option, Some, None, refl, ap, sym, ◌∙◌}
use Rattle.std.proofs.lemmas.Bool.{cases_Bool, cond_both, eqb-true, false≢true}
use Rattle.cany_base.specs.Limits.{most_nodes}
use Rattle.cany_base.specs.declared.class.Class.{Class}
use Rattle.cany_base.specs.declared.class.Class.TheVariants as class
use Rattle.cany_base.specs.declared.notice.NoticeKind.{NoticeKind}
use Rattle.cany_base.specs.declared.notice.NoticeKind.TheVariants.{Idle, Got, Sent, Bad}
use Rattle.cany_base.specs.Frame.{FrameParts}
use Rattle.cany_base.specs.Nodes.{Nodes, has, with_node}
use Rattle.cany_base.specs.Params.{MeetsFormulas, Parameters}
use Rattle.cany_base.specs.Scenario.{ScenarioParts}
use Rattle.cany_base.proofs.NodesFacts.{has_none}
use Rattle.cany_model.specs.Bus.Frames.{same_class}
use Rattle.cany_model.specs.Rules.Knowledge.{Knowledge, after_finding}
use Rattle.cany_model.specs.Rules.KnowledgeOf.{after_asking, ended_in, knowledge_of}
use Rattle.cany_model.specs.Rules.Views.{after_ask, with_joiner, with_leaver}
use Rattle.cany_model.proofs.Bus.Notes.{placed_where}
use Rattle.cany_model.proofs.Rules.Site.KnowledgeSteps.{found_keeps, joiners_after, joiners_by, leavers_after, leavers_by, life_keeps}
use Rattle.cany_knowledge.specs.ClosedForms.{HoldsSince, hears_join, hears_leave, installed_in, is_with, is_without, joins_in, leaves_in, members_of}
use Rattle.cany_knowledge.proofs.Slots.{since}
use Rattle.cany_knowledge.proofs.Vector.{ended_is}

join_or_leave : (c : Class) → same_class c class.Join ≡ true → same_class c class.Leave ≡ false
unfolding same_class
join_or_leave class.Join h = refl
join_or_leave class.Accept h = absurd (false≢true h)
join_or_leave class.Rha h = absurd (false≢true h)
join_or_leave class.Els h = absurd (false≢true h)
join_or_leave class.Fda h = absurd (false≢true h)
join_or_leave class.Leave h = absurd (false≢true h)
join_or_leave class.Confirm h = absurd (false≢true h)
join_or_leave class.Tot h = absurd (false≢true h)
join_or_leave class.Rel h = absurd (false≢true h)
join_or_leave class.Ed h = absurd (false≢true h)

swap_or : (a b : Bool) → (a || b) ≡ (b || a)
swap_or true true = refl
swap_or true false = refl
swap_or false true = refl
swap_or false false = refl

swap_and : (a b : Bool) → (a && b) ≡ (b && a)
swap_and true true = refl
swap_and true false = refl
swap_and false true = refl
swap_and false false = refl

module _ (r : ℕ) (few : r < most_nodes) where
  -- what holds of the node that is named holds of this one, if it is the same
  of_named : (test : ℕ → Bool) (q : ℕ) → (test q && r == q) ≡ (r == q && test r)
  of_named test q = elim (cases_Bool (r == q)) [
    | inl same ↦
        let e : r ≡ q = eqb-true r q same in
        ap (λ b. test q && b) same ∙ swap_and (test q) true ∙ ap test (sym e) ∙ sym (ap (λ b. b && test r) same)
    | inr other ↦ ap (λ b. test q && b) other ∙ swap_and (test q) false ∙ sym (ap (λ b. b && test r) other)
  ]

  joiner : (q : ℕ) (st : Knowledge) → has (with_joiner q st).joiners r ≡ ((r == q && not (has st.members r)) || has st.joiners r)
  joiner q st =
      cond_both (has st.members q) st (record st { joiners = with_node q st.joiners })
      (λ (s : Knowledge). has s.joiners r ≡ ((not (has st.members q) && r == q) || has st.joiners r))
      (λ is. rw is refl)
      (λ out. rw out (placed_where (λ x. has st.joiners x || x == q) r few ∙ swap_or (has st.joiners r) (r == q)))
      ∙ ap (λ b. b || has st.joiners r) (of_named (λ x. not (has st.members x)) q)

  leaver : (q : ℕ) (st : Knowledge) → has (with_leaver q st).leavers r ≡ ((r == q && has st.members r) || has st.leavers r)
  leaver q st =
      cond_both (has st.members q) (record st { leavers = with_node q st.leavers }) st
      (λ (s : Knowledge). has s.leavers r ≡ ((has st.members q && r == q) || has st.leavers r))
      (λ is. rw is (placed_where (λ x. has st.leavers x || x == q) r few ∙ swap_or (has st.leavers r) (r == q)))
      (λ out. rw out refl)
      ∙ ap (λ b. b || has st.leavers r) (of_named (has st.members) q)

  leaver_joiners : (q : ℕ) (st : Knowledge) → has (with_leaver q st).joiners r ≡ has st.joiners r
  leaver_joiners q st =
      cond_both (has st.members q) (record st { leavers = with_node q st.leavers }) st (λ (s : Knowledge). has s.joiners r ≡ has st.joiners r)
      (λ _. refl) (λ _. refl)

  joiner_leavers : (q : ℕ) (st : Knowledge) → has (with_joiner q st).leavers r ≡ has st.leavers r
  joiner_leavers q st =
      cond_both (has st.members q) st (record st { joiners = with_node q st.joiners }) (λ (s : Knowledge). has s.leavers r ≡ has st.leavers r)
      (λ _. refl) (λ _. refl)

  asked_joiners : (e : NoticeKind) (st : Knowledge)
      → has (after_ask e st).joiners r ≡ ((hears_join r e && not (has st.members r)) || has st.joiners r)
  unfolding after_ask
  asked_joiners Idle st = refl
  asked_joiners Bad st = refl
  asked_joiners (Sent f) st =
      cond_both (same_class f.class class.Leave) (with_leaver f.node st) st (λ (s : Knowledge). has s.joiners r ≡ has st.joiners r)
      (λ _. leaver_joiners f.node st) (λ _. refl)
  asked_joiners (Got f) st =
      cond_both (same_class f.class class.Join) (with_joiner f.node st) (if same_class f.class class.Leave then with_leaver f.node st else st)
      (λ (s : Knowledge). has s.joiners r ≡ (((same_class f.class class.Join && r == f.node) && not (has st.members r)) || has st.joiners r))
      (λ join. rw join (joiner f.node st))
      (λ other. rw other (cond_both (same_class f.class class.Leave) (with_leaver f.node st) st (λ (s : Knowledge). has s.joiners r ≡ has st.joiners r)
      (λ _. leaver_joiners f.node st) (λ _. refl)))

  asked_leavers : (e : NoticeKind) (st : Knowledge)
      → has (after_ask e st).leavers r ≡ ((hears_leave r e && has st.members r) || has st.leavers r)
  unfolding after_ask
  asked_leavers Idle st = refl
  asked_leavers Bad st = refl
  asked_leavers (Sent f) st =
      cond_both (same_class f.class class.Leave) (with_leaver f.node st) st
      (λ (s : Knowledge). has s.leavers r ≡ (((same_class f.class class.Leave && r == f.node) && has st.members r) || has st.leavers r))
      (λ leave. rw leave (leaver f.node st)) (λ other. rw other refl)
  asked_leavers (Got f) st =
      cond_both (same_class f.class class.Join) (with_joiner f.node st) (if same_class f.class class.Leave then with_leaver f.node st else st)
      (λ (s : Knowledge). has s.leavers r ≡ (((same_class f.class class.Leave && r == f.node) && has st.members r) || has st.leavers r))
      (λ join. rw (join_or_leave f.class join) (joiner_leavers f.node st))
      (λ _. cond_both (same_class f.class class.Leave) (with_leaver f.node st) st
      (λ (s : Knowledge). has s.leavers r ≡ (((same_class f.class class.Leave && r == f.node) && has st.members r) || has st.leavers r))
      (λ leave. rw leave (leaver f.node st)) (λ other. rw other refl))

  left_joiners : (o : Option Nodes) (joiners : Nodes) → has (joiners_by o joiners) r ≡ (not (is_with r o) && has joiners r)
  left_joiners None joiners = refl
  left_joiners (Some v) joiners = placed_where (λ x. has joiners x && not (has v x)) r few ∙ swap_and (has joiners r) (not (has v r))

  left_leavers : (o : Option Nodes) (leavers : Nodes) → has (leavers_by o leavers) r ≡ (not (is_without r o) && has leavers r)
  left_leavers None leavers = refl
  left_leavers (Some v) leavers =
      placed_where (λ x. has leavers x && has v x) r few ∙ swap_and (has leavers r) (has v r) ∙ ap (λ b. b && has leavers r) (twice (has v r))
    where
      twice : (b : Bool) → b ≡ not (not b)
      twice true = refl
      twice false = refl

  module _ (scenario : ScenarioParts) (i : ℕ) (formulas : MeetsFormulas scenario.params) where
    found_members : (e : NoticeKind) (past : List NoticeKind)
        → (after_finding scenario.params i (length past) e (knowledge_of scenario i past)).members ≡ members_of scenario i past
    found_members e past =
        found_keeps Nodes (λ s. s.members) (λ sign s. refl) scenario.params i (length past) e (knowledge_of scenario i past)
        ∙ life_keeps Nodes (λ s. s.members) (record { shown = λ f s. refl; last = λ n s. refl }) i (length past) e (knowledge_of scenario i past)

    joiners_next : (e : NoticeKind) (past : List NoticeKind) → has (knowledge_of scenario i (e ∷ past)).joiners r
        ≡ (not (is_with r (installed_in scenario i (e ∷ past))) && (joins_in scenario i r (e ∷ past) || has (knowledge_of scenario i past).joiners r))
    unfolding knowledge_of joins_in
    joiners_next e past =
        let p : Parameters = scenario.params in
        let slot : ℕ = length past in
        let st : Knowledge = knowledge_of scenario i past in
        let found : Knowledge = after_finding p i slot e st in
        let joiners : found.joiners ≡ st.joiners =
        found_keeps Nodes (λ s. s.joiners) (λ sign s. refl) p i slot e st
        ∙ life_keeps Nodes (λ s. s.joiners) (record { shown = λ f s. refl; last = λ n s. refl }) i slot e st in
        ap (λ nodes. has nodes r) (joiners_after p i slot e st)
        ∙ left_joiners (ended_in p slot e st) (after_asking p i slot e st).joiners
        ∙ ap (λ o. not (is_with r o) && has (after_asking p i slot e st).joiners r) (ended_is scenario i e past formulas)
        ∙ ap (λ b. not (is_with r (installed_in scenario i (e ∷ past))) && b)
        (asked_joiners e found
        ∙ ap (λ (m : Nodes). (hears_join r e && not (has m r)) || has found.joiners r) (found_members e past)
        ∙ ap (λ (j : Nodes). (hears_join r e && not (has st.members r)) || has j r) joiners)

    leavers_next : (e : NoticeKind) (past : List NoticeKind) → has (knowledge_of scenario i (e ∷ past)).leavers r
        ≡ (not (is_without r (installed_in scenario i (e ∷ past))) && (leaves_in scenario i r (e ∷ past) || has (knowledge_of scenario i past).leavers r))
    unfolding knowledge_of leaves_in
    leavers_next e past =
        let p : Parameters = scenario.params in
        let slot : ℕ = length past in
        let st : Knowledge = knowledge_of scenario i past in
        let found : Knowledge = after_finding p i slot e st in
        let leavers : found.leavers ≡ st.leavers =
        found_keeps Nodes (λ s. s.leavers) (λ sign s. refl) p i slot e st
        ∙ life_keeps Nodes (λ s. s.leavers) (record { shown = λ f s. refl; last = λ n s. refl }) i slot e st in
        ap (λ nodes. has nodes r) (leavers_after p i slot e st)
        ∙ left_leavers (ended_in p slot e st) (after_asking p i slot e st).leavers
        ∙ ap (λ o. not (is_without r o) && has (after_asking p i slot e st).leavers r) (ended_is scenario i e past formulas)
        ∙ ap (λ b. not (is_without r (installed_in scenario i (e ∷ past))) && b)
        (asked_leavers e found
        ∙ ap (λ (m : Nodes). (hears_leave r e && has m r) || has found.leavers r) (found_members e past)
        ∙ ap (λ (l : Nodes). (hears_leave r e && has st.members r) || has l r) leavers)

    joiners_first : has (knowledge_of scenario i []).joiners r ≡ false
    unfolding knowledge_of
    joiners_first = has_none r

    leavers_first : has (knowledge_of scenario i []).leavers r ≡ false
    unfolding knowledge_of
    leavers_first = has_none r

pub joiners_are : (scenario : ScenarioParts) (i r : ℕ) (past : List NoticeKind) → MeetsFormulas scenario.params → r < most_nodes
    → (has (knowledge_of scenario i past).joiners r ≡ true)
    ↔ HoldsSince (joins_in scenario i r) (λ read. is_with r (installed_in scenario i read)) past
joiners_are scenario i r past formulas few =
    since (joins_in scenario i r) (λ read. is_with r (installed_in scenario i read)) (λ read. has (knowledge_of scenario i read).joiners r)
    (joiners_first r few scenario i formulas) (joiners_next r few scenario i formulas) past

pub leavers_are : (scenario : ScenarioParts) (i r : ℕ) (past : List NoticeKind) → MeetsFormulas scenario.params → r < most_nodes
    → (has (knowledge_of scenario i past).leavers r ≡ true)
    ↔ HoldsSince (leaves_in scenario i r) (λ read. is_without r (installed_in scenario i read)) past
leavers_are scenario i r past formulas few =
    since (leaves_in scenario i r) (λ read. is_without r (installed_in scenario i read)) (λ read. has (knowledge_of scenario i read).leavers r)
    (leavers_first r few scenario i formulas) (leavers_next r few scenario i formulas) past
