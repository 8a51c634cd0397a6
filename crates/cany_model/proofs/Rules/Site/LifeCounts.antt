-- How many life signs a node has asked for: those of its turns lie more than a life interval apart.
use Rattle.std.proofs.Common.{◌≡◌, ℕ, suc, ◌+◌, ◌*◌, ◌<◌, ◌≤◌, ◌==◌, ◌&&◌, ◌⊎◌, inl, inr, Bool, true, cond, if◌then◌else◌, List, [], ◌∷◌, length, refl, ap, ◌∙◌, arith, suc-mul}
use Rattle.std.proofs.lemmas.Bool.{and_parts, cases_Bool, cond-false, cond-true, cond_both, eqb-true}
use Rattle.cany_base.specs.declared.notice.NoticeKind.{NoticeKind}
use Rattle.cany_base.specs.declared.notice.NoticeKind.TheVariants.{Idle, Got, Sent, Bad}
use Rattle.cany_base.specs.Nodes.{has}
use Rattle.cany_base.specs.Scenario.{ScenarioParts}
use Rattle.cany_model.specs.Rules.Life.{is_due}
use Rattle.cany_model.specs.Rules.KnowledgeOf.{ended_in, knowledge_of}
use Rattle.cany_model.specs.Rules.Knowledge.{Knowledge, after_life, after_hearing, shows_life, with_shown}
use Rattle.cany_model.proofs.Rules.Site.KnowledgeSteps.{is_admitted, last_after}

-- ---- the slot of the node's own last life

last_heard : (i slot : ℕ) (e : NoticeKind) (st : Knowledge) → ((after_hearing i slot e st).last ≡ st.last) ⊎ ((after_hearing i slot e st).last ≡ slot)
unfolding after_life
last_heard i slot Idle st = inl refl
last_heard i slot Bad st = inl refl
last_heard i slot (Got f) st =
    inl (cond_both (shows_life f) (with_shown f.node slot st) st (λ s. s.last ≡ st.last) (λ _. refl) (λ _. refl))
last_heard i slot (Sent f) st =
    cond_both (shows_life f && f.node == i) (record st { last = slot }) st (λ s. (s.last ≡ st.last) ⊎ (s.last ≡ slot)) (λ _. inr refl) (λ _. inl refl)

-- A turn leaves it, or it is that of the turn: where the node reads that it was heard, or is newly
-- admitted in it.
pub last_cases : (scenario : ScenarioParts) (i : ℕ) (e : NoticeKind) (past : List NoticeKind)
    → ((knowledge_of scenario i (e ∷ past)).last ≡ (knowledge_of scenario i past).last) ⊎ ((knowledge_of scenario i (e ∷ past)).last ≡ length past)
unfolding knowledge_of
last_cases scenario i e past =
    let slot : ℕ = length past in
    let st : Knowledge = knowledge_of scenario i past in
    let heard : Knowledge = after_hearing i slot e st in
    let after : (knowledge_of scenario i (e ∷ past)).last
    ≡ (if is_admitted (ended_in scenario.params slot e st) st.members i then slot else heard.last) = last_after scenario.params i slot e st in
    let cases : (n : ℕ) → (n ≡ st.last) ⊎ (n ≡ slot) → (knowledge_of scenario i (e ∷ past)).last ≡ n
    → ((knowledge_of scenario i (e ∷ past)).last ≡ st.last) ⊎ ((knowledge_of scenario i (e ∷ past)).last ≡ slot) =
    λ n is same. elim is [ inl kept ↦ inl (same ∙ kept) | inr now ↦ inr (same ∙ now) ] in
    cases (if is_admitted (ended_in scenario.params slot e st) st.members i then slot else heard.last)
    (cond_both (is_admitted (ended_in scenario.params slot e st) st.members i) slot heard.last (λ n. (n ≡ st.last) ⊎ (n ≡ slot))
    (λ _. inr refl) (λ _. last_heard i slot e st)) after

pub last_read : (scenario : ScenarioParts) (i : ℕ) (past : List NoticeKind) → (knowledge_of scenario i past).last ≤ length past
unfolding knowledge_of
last_read scenario i [] = omega arith
last_read scenario i (e ∷ past) = elim (last_cases scenario i e past) [
  | inl same ↦ omega (arith, same, last_read scenario i past)
  | inr now ↦ omega (arith, now)
]

-- ---- how many were asked for

abbrev pub due_in : ScenarioParts → ℕ → NoticeKind → List NoticeKind → Bool
due_in scenario i e past = is_due scenario.params.life i (length past) (knowledge_of scenario i (e ∷ past))

abbrev pub signs_asked : ScenarioParts → ℕ → List NoticeKind → ℕ
signs_asked scenario i [] = 0
signs_asked scenario i (e ∷ past) = cond (due_in scenario i e past) 1 0 + signs_asked scenario i past

-- a life sign that is due lies an interval after the last life
pub due_at : (scenario : ScenarioParts) (i : ℕ) (e : NoticeKind) (past : List NoticeKind) → due_in scenario i e past ≡ true
    → length past ≡ (knowledge_of scenario i (e ∷ past)).last + scenario.params.life
due_at scenario i e past due =
    let st : Knowledge = knowledge_of scenario i (e ∷ past) in
    eqb-true (length past) (st.last + scenario.params.life) (and_parts (has st.members i) (length past == st.last + scenario.params.life) due).1

-- Those that were asked for so far take as many intervals up to the last life, or up to one
-- interval after it, which has passed.
abbrev IsSpaced : ScenarioParts → ℕ → List NoticeKind → Type 0
IsSpaced scenario i past =
    let last = (knowledge_of scenario i past).last in
    (signs_asked scenario i past * scenario.params.life ≤ last)
    ⊎ ((last + scenario.params.life < length past) × (signs_asked scenario i past * scenario.params.life ≤ last + scenario.params.life))

-- where one is due, those before it take the intervals up to the last life
spaced_before : (scenario : ScenarioParts) (i : ℕ) (e : NoticeKind) (past : List NoticeKind) → IsSpaced scenario i past → due_in scenario i e past ≡ true
    → signs_asked scenario i past * scenario.params.life ≤ (knowledge_of scenario i (e ∷ past)).last
spaced_before scenario i e past h due =
    let at = due_at scenario i e past due in
    elim (last_cases scenario i e past) [
      | inl same ↦ elim h [ inl few ↦ omega (arith, same, few) | inr later ↦ absurd (omega (arith, same, at, later.0)) ]
      | inr now ↦ elim h [ inl few ↦ omega (arith, now, few, last_read scenario i past) | inr later ↦ omega (arith, now, later.0, later.1) ]
    ]

spaced : (scenario : ScenarioParts) (i : ℕ) (past : List NoticeKind) → IsSpaced scenario i past
unfolding knowledge_of
spaced scenario i [] = inl (omega arith)
spaced scenario i (e ∷ past) =
    let h : IsSpaced scenario i past = spaced scenario i past in
    let n : ℕ = signs_asked scenario i past in
    let life : ℕ = scenario.params.life in
    elim (cases_Bool (due_in scenario i e past)) [
      | inl due ↦
          let now : cond (due_in scenario i e past) 1 0 + n ≡ suc n = ap (λ k. k + n) (cond-true {A = ℕ} (due_in scenario i e past) 1 0 due) ∙ omega arith in
          let more : (cond (due_in scenario i e past) 1 0 + n) * life ≡ n * life + life = ap (λ k. k * life) now ∙ suc-mul n life in
          inr (omega (arith, due_at scenario i e past due), omega (arith, more, spaced_before scenario i e past h due))
      | inr idle ↦
          let none : cond (due_in scenario i e past) 1 0 + n ≡ n = ap (λ k. k + n) (cond-false {A = ℕ} (due_in scenario i e past) 1 0 idle) ∙ omega arith in
          let same : (cond (due_in scenario i e past) 1 0 + n) * life ≡ n * life = ap (λ k. k * life) none in
          elim (last_cases scenario i e past) [
            | inl kept ↦ elim h [
              | inl few ↦ inl (omega (arith, same, kept, few))
              | inr later ↦ inr (omega (arith, kept, later.0), omega (arith, same, kept, later.1))
            ]
            | inr set ↦ elim h [
              | inl few ↦ inl (omega (arith, same, set, few, last_read scenario i past))
              | inr later ↦ inl (omega (arith, same, set, later.0, later.1))
            ]
          ]
    ]

-- so those that were asked for take no more slots than the node has read
pub asked_few : (scenario : ScenarioParts) (i : ℕ) (past : List NoticeKind) → signs_asked scenario i past * scenario.params.life ≤ length past
asked_few scenario i past = elim (spaced scenario i past) [
  | inl few ↦ omega (arith, few, last_read scenario i past)
  | inr later ↦ omega (arith, later.0, later.1)
]
