-- A view in a node's log is the vector that the node installed at the end of the cycle.
use Rattle.std.proofs.Common.{◌≡◌, ℕ, ◌+◌, ◌*◌, ◌<◌, ◌==◌, ◌&&◌, inl, inr, Bool, true, false, List, [], ◌∷◌, length, Option, Some, None, Contains, count_by, refl, ap, sym, ◌∙◌, subst, arith}
use Rattle.std.specs.List.{AllByRecursion}
use Rattle.std.proofs.lemmas.Bool.{and_from, and_parts, cases_eq, cond_both, eq-eqb, eqb-true}
use Rattle.cany_base.specs.declared.class.Class.TheVariants as class
use Rattle.cany_base.specs.declared.log_entry.LogEntry.{LogEntry}
use Rattle.cany_base.specs.declared.log_entry.LogEntry.TheVariants.{Deliver, Failed, View}
use Rattle.cany_base.specs.declared.message.NodeAsk.{NodeAsk}
use Rattle.cany_base.specs.declared.notice.NoticeKind.{NoticeKind}
use Rattle.cany_base.specs.Nodes.{Nodes, has}
use Rattle.cany_base.specs.Params.{Parameters}
use Rattle.cany_base.specs.Scenario.{ScenarioParts}
use Rattle.cany_model.specs.Promises.OneView.{installed_of}
use Rattle.cany_model.specs.Rules.Effect.{Effect, Enter, entered}
use Rattle.cany_model.specs.Rules.Life.{failure_signs}
use Rattle.cany_model.specs.Rules.Log.{log_from}
use Rattle.cany_model.specs.Rules.Membership.{install_effects, views}
use Rattle.cany_model.specs.Rules.KnowledgeOf.{met_in, knowledge_of}
use Rattle.cany_model.specs.Rules.Turn.{turn_effects}
use Rattle.cany_base.specs.Cycles.{cycle_of, is_end}
use Rattle.cany_base.proofs.SetFacts.{same_bits}
use Rattle.cany_model.specs.Rules.Views.{view_effects, withdrawn_asks}
use Rattle.cany_model.proofs.Among.{Among, Among-append_cases, Among-from_Contains, Among-from_count, Among-weaker, count-from_Among, count-no}
use Rattle.cany_model.proofs.Rules.Site.MembershipEntries.{withdrawn_enter}
use Rattle.cany_model.proofs.Rules.TurnEntries.{IsOfSign, failures_enter, turn_enters}
use Rattle.cany_model.proofs.Timed.Views.OneVector.{installed_before, installed_here}
use Rattle.cany_model.proofs.Timed.Views.SameView.{end_place}
use Rattle.cany_model.proofs.Timed.Common.KnowledgeAges.{ended_at}

-- the entry is a view of this number with these members
abbrev is_view_of : (number : ℕ) (members : Nodes) → LogEntry → Bool
is_view_of number members (Deliver slot by msg payload) = false
is_view_of number members (Failed slot node cycle) = false
is_view_of number members (View slot k v) = k == number && v.bits == members.bits

-- a node that installs a vector has read the end of the cycle
pub installed_read : (scenario : ScenarioParts) (i k : ℕ) (past : List NoticeKind) (v : Nodes) → installed_of scenario i k past ≡ Some v
    → k * scenario.params.cycle + scenario.params.bound < length past
unfolding installed_of
installed_read scenario i k [] v h = absurd (cc)
installed_read scenario i k (e ∷ past) v h = elim (cases_eq (length past) (k * scenario.params.cycle + scenario.params.bound)) [
  | inl at ↦ omega (arith, at)
  | inr other ↦
      let before = installed_read scenario i k past v (sym (installed_before scenario i k e past other) ∙ h) in
      omega (arith, before)
]

-- ---- a turn

none_among : {X : Type 0} (P : X → Type 0) (xs : List X) → xs ≡ [] → Among P xs → ⊥
none_among P xs none h = subst (Among P) none h

module _ (p : Parameters) (joins leaves : List NodeAsk) (i slot number : ℕ) (members : Nodes) where
  abbrev Enters : List Effect → Type 0
  Enters effects = Among (λ entry. is_view_of number members entry ≡ true) (entered effects)

  entered_view : (w : Option Nodes) → Enters (view_effects p joins leaves i slot w) → (w ≡ Some members) × (cycle_of p slot ≡ number)
  unfolding view_effects entered
  entered_view None = λ h. absurd h
  entered_view (Some v) =
      cond_both (has v i) (Enter (View slot (cycle_of p slot) v) ∷ withdrawn_asks class.Join p i joins) (withdrawn_asks class.Leave p i leaves)
      (λ effects. Enters effects → (Some v ≡ Some members) × (cycle_of p slot ≡ number))
      (λ _ h. elim h [
        | inl this ↦
            let parts = and_parts (cycle_of p slot == number) (v.bits == members.bits) this in
            (ap (λ x. Some x) (same_bits v members (eqb-true v.bits members.bits parts.1)), eqb-true (cycle_of p slot) number parts.0)
        | inr later ↦ absurd (none_among (λ entry. is_view_of number members entry ≡ true) (entered (withdrawn_asks class.Join p i joins))
            (withdrawn_enter class.Join p i joins) later)
      ])
      (λ _ h. absurd (none_among (λ entry. is_view_of number members entry ≡ true) (entered (withdrawn_asks class.Leave p i leaves))
      (withdrawn_enter class.Leave p i leaves) h))

no_view : (number : ℕ) (members : Nodes) (entries : List LogEntry) → AllByRecursion IsOfSign entries
    → count_by (is_view_of number members) entries ≡ 0
no_view number members [] h = refl
no_view number members (Deliver slot by msg payload ∷ entries) h = absurd h.0
no_view number members (Failed slot node cycle ∷ entries) h =
    count-no (is_view_of number members) (Failed slot node cycle) entries refl ∙ no_view number members entries h.1
no_view number members (View slot k v ∷ entries) h = absurd h.0

-- where a vector becomes the view, the cycle ends
ended_ends : (scenario : ScenarioParts) (i : ℕ) (e : NoticeKind) (past : List NoticeKind) (v : Nodes) → ended_at scenario i e past ≡ Some v
    → is_end scenario.params (length past) ≡ true
ended_ends scenario i e past v h =
    cond_both (is_end scenario.params (length past)) (met_in scenario.params (length past) e (knowledge_of scenario i past)) None
    (λ o. o ≡ Some v → is_end scenario.params (length past) ≡ true) (λ end _. end) (λ _ never. absurd (cc)) h

record Logged (scenario : ScenarioParts) (i number : ℕ) (members : Nodes) (past : List NoticeKind) : Type 0 where
  some : 0 < number
  installs : installed_of scenario i number past ≡ Some members

logged_now : (scenario : ScenarioParts) (i : ℕ) (e : NoticeKind) (past : List NoticeKind) (number : ℕ) (members : Nodes)
    → Among (λ entry. is_view_of number members entry ≡ true) (entered (turn_effects scenario i (e ∷ past)))
    → Logged scenario i number members (e ∷ past)
unfolding install_effects
logged_now scenario i e past number members h =
    let is : LogEntry → Bool = is_view_of number members in
    let p : Parameters = scenario.params in
    let some = count-from_Among is (entered (turn_effects scenario i (e ∷ past))) h in
    let parts = turn_enters is (λ slot by msg payload. refl) scenario i e past in
    let none = no_view number members (entered (failure_signs.effects scenario i (e ∷ past))) (failures_enter scenario i (e ∷ past)) in
    let there = Among-from_count is (entered (views.effects scenario i (e ∷ past))) (omega (arith, some, parts, none)) in
    let view = entered_view p scenario.joins scenario.leaves i (length past) number members (ended_at scenario i e past) there in
    let place = end_place p (length past) (ended_ends scenario i e past members view.0) in
    let at : length past ≡ number * p.cycle + p.bound = place.1 ∙ ap (λ k. k * p.cycle + p.bound) view.1 in
    record { some = omega (arith, place.0, view.1); installs = installed_here scenario i number e past at ∙ view.0 }

-- ---- a log

logged : (scenario : ScenarioParts) (i : ℕ) (past : List NoticeKind) (number : ℕ) (members : Nodes)
    → Among (λ entry. is_view_of number members entry ≡ true) (log_from scenario i past) → Logged scenario i number members past
unfolding log_from
logged scenario i [] number members h = absurd h
logged scenario i (e ∷ past) number members h =
    elim (Among-append_cases (λ entry. is_view_of number members entry ≡ true) (log_from scenario i past)
    (entered (turn_effects scenario i (e ∷ past))) h) [
      | inr now ↦ logged_now scenario i e past number members now
      | inl before ↦
          let l = logged scenario i past number members before in
          let read = installed_read scenario i number past members l.installs in
          record { some = l.some; installs = installed_before scenario i number e past (λ at. omega (arith, read, at)) ∙ l.installs }
    ]

pub view_installed : (scenario : ScenarioParts) (i : ℕ) (past : List NoticeKind) (slot number : ℕ) (members : Nodes)
    → Contains (log_from scenario i past) (View slot number members) → (0 < number) × (installed_of scenario i number past ≡ Some members)
view_installed scenario i past slot number members c =
    let l = logged scenario i past number members
    (Among-weaker (λ entry. entry ≡ View slot number members) (λ entry. is_view_of number members entry ≡ true)
    (λ entry e. ap (is_view_of number members) e ∙ and_from (number == number) (members.bits == members.bits) (eq-eqb number number refl)
    (eq-eqb members.bits members.bits refl))
    (log_from scenario i past) (Among-from_Contains (log_from scenario i past) (View slot number members) c)) in
    (l.some, l.installs)
