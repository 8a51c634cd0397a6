-- A member that is not heard for as long as the silence has failed, unless the sign of this cycle
-- was known before.
use Rattle.std.proofs.Common.{◌≡◌, ℕ, ◌+◌, ◌<◌, ◌≤◌, ◌==◌, ◌⊎◌, inl, inr, true, false, List, ◌∷◌, length, ap, sym, ◌∙◌, arith}
use Rattle.std.proofs.lemmas.Bool.{and_from, both_ways, cond-false, eq-eqb, or_cases}
use Rattle.cany_base.specs.Limits.{most_nodes}
use Rattle.cany_base.specs.declared.notice.NoticeKind.{NoticeKind}
use Rattle.cany_base.specs.Nodes.{has}
use Rattle.cany_base.specs.Scenario.{ScenarioParts}
use Rattle.cany_model.specs.Rules.Knowledge.{FailureSign, Knowledge, after_finding, after_hearing, after_learning, found_in, hears_life, knows, same_sign, shows_life, sign_in, told_in}
use Rattle.cany_model.specs.Rules.KnowledgeOf.{knowledge_of}
use Rattle.cany_model.proofs.Among.{Among, Among-append_cases, Among-from_any, Among-weaker}
use Rattle.cany_model.proofs.Rules.Site.KnowledgeFacts.{known_after, newly, same_sign-true, tells}
use Rattle.cany_model.proofs.Rules.Site.KnowledgeSteps.{failed_after, is_admitted, shown_after}
use Rattle.cany_model.proofs.Timed.Common.KnowledgeAges.{ended_at}
use Rattle.cany_model.proofs.Timed.Detector.SilentNode.{NoLifeOf, failed_by_still, learnt_no_life, learnt_still, no_life, not_admitted, silent_found, with_signs_named}

-- ---- life that is not shown

no_life_of : (r : ℕ) (e : NoticeKind) → hears_life r e ≡ false → NoLifeOf r e
no_life_of r e h f is life node =
    both_ways (hears_life r e) h (ap (hears_life r) is ∙ and_from (shows_life f) (r == f.node) life (eq-eqb r f.node (sym node)))

-- ---- one turn, of a node that had r in its view before it

module _ (scenario : ScenarioParts) (i r : ℕ) (e : NoticeKind) (past : List NoticeKind) (few : r < most_nodes)
    (member : has (knowledge_of scenario i past).members r ≡ true) where
  abbrev st : Knowledge
  st = knowledge_of scenario i past

  abbrev slot : ℕ
  slot = length past

  -- what has failed once it has found, has failed after the turn
  found_fails : has (after_finding scenario.params i slot e st).failed r ≡ true → has (knowledge_of scenario i (e ∷ past)).failed r ≡ true
  unfolding knowledge_of
  found_fails h =
      ap (λ m. has m r) (failed_after scenario.params i slot e st)
      ∙ failed_by_still (ended_at scenario i e past) st.members (after_finding scenario.params i slot e st).failed r few
      (not_admitted (ended_at scenario i e past) st.members r member) h

  pub shown_kept : hears_life r e ≡ false → (knowledge_of scenario i (e ∷ past)).shown r ≡ st.shown r
  unfolding knowledge_of
  shown_kept h =
      shown_after scenario.params i slot e st r
      ∙ cond-false (is_admitted (ended_at scenario i e past) st.members r) slot ((after_hearing i slot e st).shown r)
      (not_admitted (ended_at scenario i e past) st.members r member)
      ∙ no_life i slot r e st (no_life_of r e h)

  -- a sign of it that becomes known makes it fail
  named_fails : (sign : FailureSign) → sign.node ≡ r → Among (λ s. same_sign sign s ≡ true) (newly scenario.params i slot e st)
      → has (after_finding scenario.params i slot e st).failed r ≡ true
  named_fails sign node h =
      let named : (signs : List FailureSign) → Among (λ s. same_sign sign s ≡ true) signs → Among (λ s. s.node ≡ r) signs =
      λ signs a. Among-weaker (λ s. same_sign sign s ≡ true) (λ s. s.node ≡ r) (λ s same. ap (λ (x : FailureSign). x.node) (sym (same_sign-true sign s same)) ∙ node) signs a in
      elim (Among-append_cases (λ s. same_sign sign s ≡ true) (told_in i slot e st) (found_in scenario.params i slot e st) h) [
        | inl told ↦ learnt_still scenario.params i r slot e st few (with_signs_named r (told_in i slot e st) (after_hearing i slot e st) few (named (told_in i slot e st) told))
        | inr finds ↦
            with_signs_named r (found_in scenario.params i slot e st) (after_learning i slot e st) few (named (found_in scenario.params i slot e st) finds)
      ]

  pub known_or_fails : (sign : FailureSign) → sign.node ≡ r → knows sign (knowledge_of scenario i (e ∷ past)) ≡ true
      → (knows sign st ≡ true) ⊎ (has (knowledge_of scenario i (e ∷ past)).failed r ≡ true)
  known_or_fails sign node h = elim (or_cases (tells sign (newly scenario.params i slot e st)) (knows sign st) (sym (known_after scenario i e past sign) ∙ h)) [
    | inr before ↦ inl before
    | inl now ↦ inr (found_fails (named_fails sign node (Among-from_any (same_sign sign) (newly scenario.params i slot e st) now)))
  ]

  -- a member that was not heard since a slot, so long before this one, has failed after the turn,
  -- unless its sign was known
  pub silent_fails : r < scenario.params.nodes → (r ≡ i → ⊥) → hears_life r e ≡ false → (last : ℕ) → st.shown r ≤ last → last + scenario.params.silence ≤ slot
      → knows (sign_in scenario.params slot r) st ≡ false → has (knowledge_of scenario i (e ∷ past)).failed r ≡ true
  silent_fails below other nothing last old late unknown =
      found_fails (silent_found scenario.params i r slot last e st few below other unknown late member
      (omega (arith, learnt_no_life i slot r e st (no_life_of r e nothing), old)))
