-- A restarted node sends no vector before its first membership cycle.
use Rattle.std.proofs.Common.{◌≡◌, ℕ, ◌<◌, ◌≤◌, inl, inr, false, nat_lt, if◌then◌else◌, List, [], ◌∷◌, length, Option, Some, None, refl, ap, sym, ◌∙◌, arith}
use Rattle.std.specs.List.{AllByRecursion}
use Rattle.std.proofs.lemmas.Bool.{false≢true, and_from, and_parts, cases_lt, cond-false, cond_both, false_from_ne_true, lt-ltb, ltb-true}
use Rattle.cany_base.specs.declared.class.Class.TheVariants as class
use Rattle.cany_base.specs.declared.notice.NoticeKind.{NoticeKind}
use Rattle.cany_base.specs.declared.notice.NoticeKind.TheVariants.{Idle, Got, Sent, Bad}
use Rattle.cany_base.specs.Frame.{FrameParts}
use Rattle.cany_base.specs.Nodes.{Nodes, has, nobody}
use Rattle.cany_base.specs.Params.{Parameters}
use Rattle.cany_base.specs.Scenario.{ScenarioParts}
use Rattle.cany_base.proofs.NodesFacts.{has_none}
use Rattle.cany_model.specs.Bus.Frames.{same_class}
use Rattle.cany_model.specs.Rules.Notices.{is_early, is_early_frame}
use Rattle.cany_model.specs.Rules.KnowledgeOf.{after_notice, ended_in, after_installing, met_in, start_in, knowledge_of}
use Rattle.cany_model.specs.Rules.Knowledge.{Knowledge}
use Rattle.cany_model.specs.Rules.Vectors.{brought, met, vector_in}
use Rattle.cany_base.specs.Cycles.{cycle_of, is_end, is_exchange, is_start}
use Rattle.cany_model.specs.Rules.Views.{start_of, start_vector}
use Rattle.cany_model.proofs.Among.{Each-of}
use Rattle.cany_model.proofs.Bus.Identities.{same_class-true, same_class_self}
use Rattle.cany_model.proofs.Rules.ProtocolFacts.{IsExchanged, MayAsk, vector_asked}
use Rattle.cany_model.proofs.Rules.Site.SignRooms.{div_grows}
use Rattle.cany_model.proofs.Rules.Site.KnowledgeSteps.{members_after, members_by, start_keeps, vector_after}
use Rattle.cany_model.proofs.Rules.Site.VectorFacts.{carries_vector}

-- among what was read there is no vector of a cycle before this one
abbrev pub HasNoEarly : ℕ → List NoticeKind → Type 0
HasNoEarly cycle past = AllByRecursion (λ e. is_early cycle e ≡ false) past

not_early : (cycle : ℕ) (f : FrameParts) → f.class ≡ class.Rha → is_early_frame cycle f ≡ false → cycle ≤ f.number
not_early cycle f rha h = elim (cases_lt f.number cycle) [
  | inl early ↦
      absurd (false≢true (sym h ∙ and_from (same_class f.class class.Rha) (nat_lt f.number cycle)
      (ap (λ c. same_class c class.Rha) rha ∙ same_class_self class.Rha) (lt-ltb f.number cycle early)))
  | inr late ↦ late
]

-- so in an earlier cycle none brings one of that cycle
no_brought : (p : Parameters) (cycle slot : ℕ) (e : NoticeKind) → is_early cycle e ≡ false → cycle_of p slot < cycle
    → brought p slot e ≡ None
unfolding brought
no_brought p cycle slot Idle plain early = refl
no_brought p cycle slot Bad plain early = refl
no_brought p cycle slot (Sent f) plain early = refl
no_brought p cycle slot (Got f) plain early =
    cond_both (is_exchange p slot) (vector_in p.format (cycle_of p slot) f) None (λ o. o ≡ None)
    (λ _. carried (vector_in p.format (cycle_of p slot) f) refl) (λ _. refl)
  where
    carried : (o : Option Nodes) → vector_in p.format (cycle_of p slot) f ≡ o → o ≡ None
    carried None is = refl
    carried (Some w) is =
        let of = carries_vector p.format (cycle_of p slot) f w is in
        absurd (omega (arith, not_early cycle f of.0 plain, of.1, early))

-- Where a node that is at first no member has read slots of earlier cycles alone, it is none, and
-- has no vector.
record IsOutside (scenario : ScenarioParts) (i : ℕ) (past : List NoticeKind) : Type 0 where
  members : (knowledge_of scenario i past).members ≡ nobody
  vector : (knowledge_of scenario i past).vector ≡ None

meets_none : (p : Parameters) (slot : ℕ) (e : NoticeKind) (st : Knowledge) → st.vector ≡ None → brought p slot e ≡ None
    → met_in p slot e st ≡ None
unfolding met
meets_none p slot e st none plain = ap (λ o. met p o (brought p slot e)) none ∙ ap (met p None) plain

ends_none : (p : Parameters) (slot : ℕ) (e : NoticeKind) (st : Knowledge) → met_in p slot e st ≡ None → ended_in p slot e st ≡ None
ends_none p slot e st none = cond_both (is_end p slot) (met_in p slot e st) None (λ o. o ≡ None) (λ _. none) (λ _. refl)

outside_after : (p : Parameters) (i slot : ℕ) (e : NoticeKind) (st : Knowledge) → st.members ≡ nobody → met_in p slot e st ≡ None
    → (after_notice p i slot e st).members ≡ nobody
outside_after p i slot e st outside none =
    members_after p i slot e st ∙ ap (λ o. members_by o st.members) (ends_none p slot e st none) ∙ outside

starts_none : (p : Parameters) (i slot : ℕ) (e : NoticeKind) (st : Knowledge) → (after_notice p i slot e st).members ≡ nobody
    → start_in p i slot e st ≡ None
unfolding after_notice
starts_none p i slot e st outside =
    let now : Knowledge = after_installing p i slot e st in
    let view : now.members ≡ nobody = sym (start_keeps Nodes (λ s. s.members) (λ v s. refl) p i slot e st) ∙ outside in
    cond_both (is_start p slot) (start_of i now) None (λ o. o ≡ None)
    (λ _. cond-false (has now.members i) (Some (start_vector now)) None (ap (λ (nodes : Nodes). has nodes i) view ∙ has_none i)) (λ _. refl)

no_vector : (p : Parameters) (i slot : ℕ) (e : NoticeKind) (st : Knowledge) → start_in p i slot e st ≡ None → met_in p slot e st ≡ None
    → (after_notice p i slot e st).vector ≡ None
no_vector p i slot e st start none =
    vector_after p i slot e st
    ∙ cond_both (is_start p slot) (start_in p i slot e st) (if is_end p slot then None else met_in p slot e st) (λ o. o ≡ None) (λ _. start)
    (λ _. cond_both (is_end p slot) None (met_in p slot e st) (λ o. o ≡ None) (λ _. refl) (λ _. none))

outside_before : (scenario : ScenarioParts) (cycle i : ℕ) (past : List NoticeKind) → scenario.members ≡ nobody → HasNoEarly cycle past
    → ((slot : ℕ) → slot < length past → cycle_of scenario.params slot < cycle) → IsOutside scenario i past
unfolding knowledge_of
outside_before scenario cycle i [] outside plain early = record { members = outside; vector = refl }
outside_before scenario cycle i (e ∷ past) outside plain early =
    let p : Parameters = scenario.params in
    let slot : ℕ = length past in
    let st : Knowledge = knowledge_of scenario i past in
    let before : IsOutside scenario i past =
    outside_before scenario cycle i past outside plain.1 (λ k less. early k (omega (arith, less))) in
    let none : met_in p slot e st ≡ None =
    meets_none p slot e st before.vector (no_brought p cycle slot e plain.0 (early slot (omega arith))) in
    let view : (after_notice p i slot e st).members ≡ nobody = outside_after p i slot e st before.members none in
    record { members = view; vector = no_vector p i slot e st (starts_none p i slot e st view) none }

-- so a vector that it sends is of no such cycle
sends_late : (scenario : ScenarioParts) (cycle i : ℕ) (past : List NoticeKind) (slot : ℕ) (v : Nodes) → scenario.members ≡ nobody
    → HasNoEarly cycle past → IsExchanged scenario i past slot v → cycle ≤ cycle_of scenario.params slot
sends_late scenario cycle i past slot v outside plain sends = elim sends.during [
  | inr taken ↦
      let kept : is_early_frame cycle taken.frame ≡ false =
      Each-of (λ e. is_early cycle e ≡ false) (Got taken.frame) past plain taken.read in
      omega (arith, not_early cycle taken.frame taken.class kept, taken.number)
  | inl start ↦ elim (cases_lt (cycle_of scenario.params slot) cycle) [
    | inr late ↦ late
    | inl early ↦
        let none = outside_before scenario cycle i past outside plain
        (λ k less. omega (arith, early, div_grows k slot scenario.params.cycle (omega (arith, less, sends.now)))) in
        let some = sends.vector (inl start) in
        let has_none : (knowledge_of scenario i past).vector ≡ None = none.vector in
        absurd (cc)
  ]
]

-- nor is any frame of a vector that it asks for
pub asks_late : (scenario : ScenarioParts) (cycle i : ℕ) (past : List NoticeKind) (f : FrameParts) → scenario.members ≡ nobody
    → HasNoEarly cycle past → MayAsk scenario i past f → is_early_frame cycle f ≡ false
asks_late scenario cycle i past f outside plain may =
    false_from_ne_true (is_early_frame cycle f) (λ early.
    let parts = and_parts (same_class f.class class.Rha) (nat_lt f.number cycle) early in
    let asks = vector_asked scenario i past f may (same_class-true f.class class.Rha parts.0) in
    let late = sends_late scenario cycle i past asks.slot asks.what outside plain asks.sends in
    absurd (omega (arith, ltb-true f.number cycle parts.1, late, ap (λ (g : FrameParts). g.number) asks.frame)))
