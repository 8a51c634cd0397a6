-- What a turn makes of the view, of the node's own last life and of the life that others show; and
-- what a node would know if it had read all.
use Rattle.std.proofs.Common.{◌≡◌, ℕ, ◌<◌, ◌≤◌, ◌⊎◌, ◌==◌, ◌&&◌, not, inl, inr, if◌then◌else◌, true, false, List, [], ◌∷◌, ◌++◌, length, map, Option, Some, None, refl, ap, sym, ◌∙◌, arith}
use Rattle.std.proofs.lemmas.Bool.{and_from, and_parts, both_ways, cases_Bool, cond_both, eq-eqb, eqb-true, false≢true, not-true, not_from_false}
use Rattle.cany_base.specs.declared.notice.NoticeKind.{NoticeKind}
use Rattle.cany_base.specs.declared.notice.NoticeKind.TheVariants.{Idle, Got, Sent, Bad}
use Rattle.cany_base.specs.declared.slot_note.SlotNote.{SlotNote}
use Rattle.cany_base.specs.Frame.{FrameParts}
use Rattle.cany_base.specs.Limits.{most_nodes}
use Rattle.cany_base.specs.Nodes.{Nodes, has}
use Rattle.cany_base.specs.Scenario.{ScenarioParts}
use Rattle.cany_base.proofs.SetFacts.{has_where}
use Rattle.cany_model.specs.Bus.History.{given}
use Rattle.cany_model.specs.Rules.KnowledgeOf.{ended_in, knowledge_of}
use Rattle.cany_model.specs.Rules.Knowledge.{Knowledge, after_life, after_hearing, after_learning, shows_life, with_shown}
use Rattle.cany_model.proofs.Bus.Notes.{placed_where}
use Rattle.cany_model.proofs.Rules.Site.KnowledgeSteps.{is_admitted, last_after, learnt_keeps, life_keeps, members_after, members_by, shown_after}
use Rattle.cany_model.proofs.Timed.Windows.OwnLifeSigns.{last_grows}

-- what a node would know if it had read all these slots
abbrev pub full : ScenarioParts → ℕ → List SlotNote → Knowledge
full scenario i trace = knowledge_of scenario i (map (given i) trace)

-- the vector that becomes its view in the turn of a notice
abbrev pub ended_at : ScenarioParts → ℕ → NoticeKind → List NoticeKind → Option Nodes
ended_at scenario i e past = ended_in scenario.params (length past) e (knowledge_of scenario i past)

-- ---- what is heard

-- the node reads that it has shown life itself
abbrev pub IsOwnLife : ℕ → NoticeKind → Type 0
IsOwnLife i e = (f : FrameParts) × (e ≡ Sent f) × (shows_life f ≡ true) × (f.node ≡ i)

-- and that node r has
abbrev pub IsLifeOf : ℕ → NoticeKind → Type 0
IsLifeOf r e = (f : FrameParts) × (e ≡ Got f) × (shows_life f ≡ true) × (f.node ≡ r)

own_life : (i slot : ℕ) (e : NoticeKind) (st : Knowledge) → IsOwnLife i e → (after_hearing i slot e st).last ≡ slot
unfolding after_life
own_life i slot Idle st h = let e : Idle ≡ Sent h.0 = h.1 in absurd (cc)
own_life i slot Bad st h = let e : Bad ≡ Sent h.0 = h.1 in absurd (cc)
own_life i slot (Got g) st h = let e : Got g ≡ Sent h.0 = h.1 in absurd (cc)
own_life i slot (Sent g) st h =
    let e : Sent g ≡ Sent h.0 = h.1 in
    let same : g ≡ h.0 = cc in
    rw (ap (λ (f : FrameParts). shows_life f) same ∙ h.2, eq-eqb g.node i (ap (λ (f : FrameParts). f.node) same ∙ h.3)) refl

life_cases : (i slot : ℕ) (e : NoticeKind) (st : Knowledge) → IsOwnLife i e ⊎ ((after_hearing i slot e st).last ≡ st.last)
unfolding after_life
life_cases i slot Idle st = inr refl
life_cases i slot Bad st = inr refl
life_cases i slot (Got f) st =
    inr (cond_both (shows_life f) (with_shown f.node slot st) st (λ s. s.last ≡ st.last) (λ _. refl) (λ _. refl))
life_cases i slot (Sent f) st = elim (cases_Bool (shows_life f && f.node == i)) [
  | inl own ↦ let parts = and_parts (shows_life f) (f.node == i) own in inl (f, refl, parts.0, eqb-true f.node i parts.1)
  | inr other ↦ inr (rw other refl)
]

got_life : (i slot : ℕ) (e : NoticeKind) (st : Knowledge) (r : ℕ) → IsLifeOf r e → (after_hearing i slot e st).shown r ≡ slot
unfolding after_life
got_life i slot Idle st r h = let e : Idle ≡ Got h.0 = h.1 in absurd (cc)
got_life i slot Bad st r h = let e : Bad ≡ Got h.0 = h.1 in absurd (cc)
got_life i slot (Sent g) st r h = let e : Sent g ≡ Got h.0 = h.1 in absurd (cc)
got_life i slot (Got g) st r h =
    let e : Got g ≡ Got h.0 = h.1 in
    let same : g ≡ h.0 = cc in
    rw (ap (λ (f : FrameParts). shows_life f) same ∙ h.2, eq-eqb r g.node (sym (ap (λ (f : FrameParts). f.node) same ∙ h.3))) refl

shown_cases : (i slot : ℕ) (e : NoticeKind) (st : Knowledge) (r : ℕ)
    → ((after_hearing i slot e st).shown r ≡ slot) ⊎ ((after_hearing i slot e st).shown r ≡ st.shown r)
unfolding after_life
shown_cases i slot Idle st r = inr refl
shown_cases i slot Bad st r = inr refl
shown_cases i slot (Got f) st r =
    cond_both (shows_life f) (with_shown f.node slot st) st (λ s. (s.shown r ≡ slot) ⊎ (s.shown r ≡ st.shown r))
    (λ _. cond_both (r == f.node) slot (st.shown r) (λ n. (n ≡ slot) ⊎ (n ≡ st.shown r)) (λ _. inl refl) (λ _. inr refl)) (λ _. inr refl)
shown_cases i slot (Sent f) st r =
    cond_both (shows_life f && f.node == i) (record st { last = slot }) st (λ s. (s.shown r ≡ slot) ⊎ (s.shown r ≡ st.shown r))
    (λ _. inr refl) (λ _. inr refl)

-- ---- who comes into a view

-- a node stands in the new view, and not in the old one
abbrev pub ComesIn : ℕ → Nodes → Nodes → Type 0
ComesIn r old new = (has old r ≡ false) × (has new r ≡ true)

admitted_in : (v : Option Nodes) (old : Nodes) (r : ℕ) → r < most_nodes → ComesIn r old (members_by v old) → is_admitted v old r ≡ true
admitted_in None old r few h = absurd (both_ways (has old r) h.0 h.1)
admitted_in (Some v) old r few h =
    placed_where (λ x. has v x && not (has old x)) r few ∙ and_from (has v r) (not (has old r)) h.1 (not_from_false (has old r) h.0)

admitted_comes : (v : Option Nodes) (old : Nodes) (r : ℕ) → is_admitted v old r ≡ true → ComesIn r old (members_by v old)
admitted_comes None old r h = absurd (false≢true h)
admitted_comes (Some v) old r h =
    let parts = and_parts (has v r) (not (has old r)) (has_where (λ x. has v x && not (has old x)) r h) in
    (not-true (has old r) parts.1, parts.0)

-- ---- a turn

module _ (scenario : ScenarioParts) (i : ℕ) (e : NoticeKind) (past : List NoticeKind) where
  abbrev before : Knowledge
  before = knowledge_of scenario i past

  abbrev after : Knowledge
  after = knowledge_of scenario i (e ∷ past)

  pub members_next : (knowledge_of scenario i (e ∷ past)).members ≡ members_by (ended_at scenario i e past) (knowledge_of scenario i past).members
  unfolding knowledge_of
  members_next = members_after scenario.params i (length past) e before

  last_next : after.last
      ≡ (if is_admitted (ended_at scenario i e past) before.members i then length past else (after_hearing i (length past) e before).last)
  unfolding knowledge_of
  last_next = last_after scenario.params i (length past) e before

  shown_next : (r : ℕ) → after.shown r
      ≡ (if is_admitted (ended_at scenario i e past) before.members r then length past else (after_hearing i (length past) e before).shown r)
  unfolding knowledge_of
  shown_next r = shown_after scenario.params i (length past) e before r

  comes_in : (r : ℕ) → r < most_nodes → ComesIn r before.members after.members → is_admitted (ended_at scenario i e past) before.members r ≡ true
  comes_in r few h = admitted_in (ended_at scenario i e past) before.members r few (h.0, ap (λ m. has m r) (sym members_next) ∙ h.1)

  -- life that the node has shown, and its coming in, set the slot of its last life
  pub last_by_own : IsOwnLife i e → (knowledge_of scenario i (e ∷ past)).last ≡ length past
  last_by_own h =
      last_next
      ∙ cond_both (is_admitted (ended_at scenario i e past) before.members i) (length past) (after_hearing i (length past) e before).last
      (λ n. n ≡ length past) (λ _. refl) (λ _. own_life i (length past) e before h)

  pub last_comes : i < most_nodes → ComesIn i (knowledge_of scenario i past).members (knowledge_of scenario i (e ∷ past)).members
      → (knowledge_of scenario i (e ∷ past)).last ≡ length past
  last_comes few h = last_next ∙ rw (comes_in i few h) refl

  -- and nothing else changes it
  pub last_why : ((knowledge_of scenario i (e ∷ past)).last ≡ length past)
      × (IsOwnLife i e ⊎ ComesIn i (knowledge_of scenario i past).members (knowledge_of scenario i (e ∷ past)).members)
      ⊎ ((knowledge_of scenario i (e ∷ past)).last ≡ (knowledge_of scenario i past).last)
  last_why = elim (cases_Bool (is_admitted (ended_at scenario i e past) before.members i)) [
    | inl new ↦
        let comes = admitted_comes (ended_at scenario i e past) before.members i new in
        inl (last_next ∙ rw new refl, inr (comes.0, ap (λ m. has m i) members_next ∙ comes.1))
    | inr old ↦ elim (life_cases i (length past) e before) [
      | inl own ↦ inl (last_by_own own, inl own)
      | inr same ↦ inr (last_next ∙ rw old same)
    ]
  ]

  -- life that another node shows, and its coming in, set the slot of the life that it has shown
  pub shown_got : (r : ℕ) → IsLifeOf r e → (knowledge_of scenario i (e ∷ past)).shown r ≡ length past
  shown_got r h =
      shown_next r
      ∙ cond_both (is_admitted (ended_at scenario i e past) before.members r) (length past) ((after_hearing i (length past) e before).shown r)
      (λ n. n ≡ length past) (λ _. refl) (λ _. got_life i (length past) e before r h)

  pub shown_comes : (r : ℕ) → r < most_nodes → ComesIn r (knowledge_of scenario i past).members (knowledge_of scenario i (e ∷ past)).members
      → (knowledge_of scenario i (e ∷ past)).shown r ≡ length past
  shown_comes r few h = shown_next r ∙ rw (comes_in r few h) refl

  -- it is this slot, or as before
  pub shown_either : (r : ℕ) → ((knowledge_of scenario i (e ∷ past)).shown r ≡ length past)
      ⊎ ((knowledge_of scenario i (e ∷ past)).shown r ≡ (knowledge_of scenario i past).shown r)
  shown_either r = elim (cases_Bool (is_admitted (ended_at scenario i e past) before.members r)) [
    | inl new ↦ inl (shown_next r ∙ rw new refl)
    | inr old ↦ elim (shown_cases i (length past) e before r) [
      | inl now ↦ inl (shown_next r ∙ rw old now)
      | inr same ↦ inr (shown_next r ∙ rw old same)
    ]
  ]

  -- also where silence is looked for
  pub learnt_shown : (r : ℕ) → ((after_learning i (length past) e (knowledge_of scenario i past)).shown r ≡ length past)
      ⊎ ((after_learning i (length past) e (knowledge_of scenario i past)).shown r ≡ (knowledge_of scenario i past).shown r)
  learnt_shown r =
      let same = learnt_keeps ℕ (λ s. s.shown r) (λ sign s. refl) i (length past) e before in
      elim (shown_cases i (length past) e before r) [ inl now ↦ inl (same ∙ now) | inr kept ↦ inr (same ∙ kept) ]

  pub learnt_members : (after_learning i (length past) e (knowledge_of scenario i past)).members ≡ (knowledge_of scenario i past).members
  learnt_members =
      learnt_keeps Nodes (λ s. s.members) (λ sign s. refl) i (length past) e before
      ∙ life_keeps Nodes (λ s. s.members) (record { shown = λ f s. refl; last = λ n s. refl }) i (length past) e before

-- ---- over several slots

-- the last life lies in what was read
-- it only moves on
pub last_later : (scenario : ScenarioParts) (i : ℕ) (newer older : List SlotNote)
    → (full scenario i older).last ≤ (full scenario i (newer ++ older)).last
last_later scenario i [] older = omega arith
last_later scenario i (note ∷ newer) older =
    omega (arith, last_later scenario i newer older, last_grows scenario i (given i note) (map (given i) (newer ++ older)))
