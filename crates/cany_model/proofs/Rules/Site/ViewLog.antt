-- How many views the log of a node has: at most one of each membership cycle that ends in what it
-- has read.
use Rattle.std.proofs.Common.{◌≡◌, ℕ, ◌+◌, ◌-◌, ◌*◌, ◌%◌, ◌<◌, ◌≤◌, ◌==◌, inl, inr, Bool, true, false, nat_lt, cond, List, [], ◌∷◌, ◌++◌, length, count_by, Option, Some, None, refl, ◌∙◌, arith, mul-le-mul_left}
use Rattle.std.specs.List.{AllByRecursion}
use Rattle.std.proofs.Math.Nat.{div-add-mod}
use Rattle.std.proofs.lemmas.Bool.{and_parts, cases_Bool, cases_lt, cond-false, cond-true, cond_both, eqb-true, ltb-true}
use Rattle.std.proofs.lemmas.List.Sums.{sum_by-append}
use Rattle.cany_base.specs.declared.class.Class.TheVariants as class
use Rattle.cany_base.specs.declared.log_entry.LogEntry.{LogEntry}
use Rattle.cany_base.specs.declared.log_entry.LogEntry.TheVariants.{Deliver, Failed, View}
use Rattle.cany_base.specs.declared.message.NodeAsk.{NodeAsk}
use Rattle.cany_base.specs.declared.notice.NoticeKind.{NoticeKind}
use Rattle.cany_base.specs.Nodes.{Nodes, has}
use Rattle.cany_base.specs.Params.{Parameters}
use Rattle.cany_base.specs.Scenario.{ScenarioParts}
use Rattle.cany_model.specs.Rules.Effect.{Enter, entered}
use Rattle.cany_model.specs.Rules.Life.{failure_signs}
use Rattle.cany_model.specs.Rules.Log.{log_from}
use Rattle.cany_model.specs.Rules.Membership.{install_effects, views}
use Rattle.cany_model.specs.Rules.Rooms.{cycles}
use Rattle.cany_model.specs.Rules.KnowledgeOf.{met_in, knowledge_of}
use Rattle.cany_model.specs.Rules.Knowledge.{Knowledge}
use Rattle.cany_model.specs.Rules.Turn.{turn_effects}
use Rattle.cany_base.specs.Cycles.{cycle_of, is_end}
use Rattle.cany_model.specs.Rules.Views.{view_effects, withdrawn_asks}
use Rattle.cany_model.proofs.Among.{count-no}
use Rattle.cany_model.proofs.Rules.Site.MembershipEntries.{withdrawn_enter}
use Rattle.cany_model.proofs.Rules.Site.SignRooms.{div_grows, is_view}
use Rattle.cany_model.proofs.Rules.TurnEntries.{IsOfSign, failures_enter, turn_enters}

abbrev count : List LogEntry → ℕ
count entries = count_by is_view entries

-- ---- a turn

no_sign : (entries : List LogEntry) → AllByRecursion IsOfSign entries → count entries ≡ 0
no_sign [] h = refl
no_sign (Deliver slot by msg payload ∷ entries) h = absurd h.0
no_sign (Failed slot node cycle ∷ entries) h = count-no is_view (Failed slot node cycle) entries refl ∙ no_sign entries h.1
no_sign (View slot number members ∷ entries) h = absurd h.0

one_view : (p : Parameters) (joins leaves : List NodeAsk) (i slot : ℕ) (v : Nodes)
    → count (entered (view_effects p joins leaves i slot (Some v))) ≤ 1
unfolding view_effects entered
one_view p joins leaves i slot v =
    cond_both (has v i) (Enter (View slot (cycle_of p slot) v) ∷ withdrawn_asks class.Join p i joins) (withdrawn_asks class.Leave p i leaves)
    (λ effects. count (entered effects) ≤ 1)
    (λ _. rw (withdrawn_enter class.Join p i joins) (omega arith)) (λ _. rw (withdrawn_enter class.Leave p i leaves) (omega arith))

no_view : (p : Parameters) (joins leaves : List NodeAsk) (i slot : ℕ) → count (entered (view_effects p joins leaves i slot None)) ≡ 0
unfolding view_effects entered
no_view p joins leaves i slot = refl

-- a turn enters one view at most, and none but at the end of a cycle
turn_views : (scenario : ScenarioParts) (i : ℕ) (e : NoticeKind) (past : List NoticeKind)
    → count (entered (turn_effects scenario i (e ∷ past))) ≤ cond (is_end scenario.params (length past)) 1 0
unfolding install_effects
turn_views scenario i e past =
    let p : Parameters = scenario.params in
    let slot : ℕ = length past in
    let st : Knowledge = knowledge_of scenario i past in
    let viewed : count (entered (views.effects scenario i (e ∷ past))) ≤ cond (is_end p slot) 1 0 =
    by_end (is_end p slot) (met_in p slot e st) in
    omega (
      arith,
      turn_enters is_view (λ slot by msg payload. refl) scenario i e past,
      no_sign (entered (failure_signs.effects scenario i (e ∷ past))) (failures_enter scenario i (e ∷ past)),
      viewed,
    )
  where
    by_end : (end : Bool) (w : Option Nodes)
        → count (entered (view_effects scenario.params scenario.joins scenario.leaves i (length past) (cond end w None))) ≤ cond end 1 0
    by_end true None = omega (arith, no_view scenario.params scenario.joins scenario.leaves i (length past))
    by_end true (Some v) = one_view scenario.params scenario.joins scenario.leaves i (length past) v
    by_end false w = omega (arith, no_view scenario.params scenario.joins scenario.leaves i (length past))

-- ---- ends of cycles

-- a cycle ends as many slots after its start as the bound has
end_at : (p : Parameters) (slot : ℕ) → is_end p slot ≡ true → (slot ≡ p.cycle * cycle_of p slot + p.bound) × (0 < cycle_of p slot)
end_at p slot end =
    let parts = and_parts (slot % p.cycle == p.bound) (nat_lt 0 (cycle_of p slot)) end in
    (omega (arith, div-add-mod slot p.cycle, eqb-true (slot % p.cycle) p.bound parts.0), ltb-true 0 (cycle_of p slot) parts.1)

-- so a later end is that of a later cycle
later_end : (p : Parameters) (a b : ℕ) → a < b → is_end p a ≡ true → is_end p b ≡ true → cycle_of p a < cycle_of p b
later_end p a b l end_a end_b = elim (cases_lt (cycle_of p a) (cycle_of p b)) [
  | inl later ↦ later
  | inr not_later ↦
      absurd (omega (arith, l, (end_at p a end_a).0, (end_at p b end_b).0, mul-le-mul_left p.cycle not_later))
]

-- ---- a log

-- it has no more views than cycles have ended
views_until : (scenario : ScenarioParts) (i : ℕ) (past : List NoticeKind) (last : ℕ)
    → ((slot : ℕ) → slot < length past → is_end scenario.params slot ≡ true → cycle_of scenario.params slot ≤ last)
    → count_by is_view (log_from scenario i past) ≤ last
unfolding log_from
views_until scenario i [] last within = omega arith
views_until scenario i (e ∷ past) last within =
    let p : Parameters = scenario.params in
    let now : List LogEntry = entered (turn_effects scenario i (e ∷ past)) in
    let split : count (log_from scenario i past ++ now) ≡ count (log_from scenario i past) + count now =
    sum_by-append (λ entry. cond (is_view entry) 1 0) (log_from scenario i past) now in
    elim (cases_Bool (is_end p (length past))) [
      | inl end ↦
          let cycle : ℕ = cycle_of p (length past) in
          let before : count (log_from scenario i past) ≤ cycle - 1 =
          views_until scenario i past (cycle - 1) (λ slot l end'. omega (arith, later_end p slot (length past) l end' end)) in
          let one : cond (is_end p (length past)) 1 0 ≡ 1 = cond-true {A = ℕ} (is_end p (length past)) 1 0 end in
          let now_ends = end_at p (length past) end in
          omega (arith, split, turn_views scenario i e past, one, before, now_ends.1, within (length past) (omega arith) end)
      | inr other ↦
          let before = views_until scenario i past last (λ slot l end. within slot (omega (arith, l)) end) in
          let none : cond (is_end p (length past)) 1 0 ≡ 0 = cond-false {A = ℕ} (is_end p (length past)) 1 0 other in
          omega (arith, split, turn_views scenario i e past, none, before)
    ]

-- so one of each cycle of the run at most
pub few_views : (scenario : ScenarioParts) (i : ℕ) (past : List NoticeKind) → length past ≤ scenario.params.slots
    → count_by is_view (log_from scenario i past) ≤ cycles scenario
few_views scenario i past within =
    views_until scenario i past (cycles scenario)
    (λ slot l end. div_grows slot scenario.params.slots scenario.params.cycle (omega (arith, l, within)))
