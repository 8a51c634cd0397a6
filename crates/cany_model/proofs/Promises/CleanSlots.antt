-- More copies of a frame than there may be Partial slots include a Clean one.
use Rattle.std.proofs.Common.{◌≡◌, ℕ, ◌<◌, ◌≤◌, ◌⊎◌, ◌==◌, ◌&&◌, inl, inr, true, false, List, [], ◌∷◌, map, drop, refl, ap, sym, ◌∙◌, arith}
use Rattle.std.specs.List.{AllByRecursion}
use Rattle.std.proofs.lemmas.Bool.{and_from, cases_Bool, cond_both, eq-eqb, false≢true}
use Rattle.std.proofs.lemmas.List.Elements.{recursion_from_All}
use Rattle.cany_base.specs.declared.class.Class.TheVariants.{Rha}
use Rattle.cany_base.specs.declared.rule.Verdict.{Verdict}
use Rattle.cany_base.specs.declared.rule.Verdict.TheVariants.{Clean, Lost, Partial, Silent}
use Rattle.cany_base.specs.declared.slot_note.SlotNote.{SlotNote}
use Rattle.cany_base.specs.declared.notice.NoticeKind.TheVariants.{Got}
use Rattle.cany_base.specs.Frame.{FrameParts}
use Rattle.cany_base.specs.Params.{Parameters}
use Rattle.cany_model.specs.Bus.Frames.{Identity, identity_of, same_class, same_identity}
use Rattle.cany_model.specs.Bus.History.{given, is_got, copies}
use Rattle.cany_model.specs.Promises.Hypothesis.{IsWithin, is_partial, is_silent, is_silent_slot, is_partial_slot_of, partial_slots, count_together}
use Rattle.cany_model.specs.Bus.Slot.{carried, lets_accept, is_success}
use Rattle.cany_model.proofs.Among.{Among, Among-weaker, Among-with, Each-drop, count-yes, count-no, count-grows, count-drop, Among-drop}
use Rattle.cany_model.proofs.Bus.Carried.{Carries, Succeeds, CarriesClean, Carries-from_got, is_got-true}
use Rattle.cany_model.proofs.Bus.Identities.{same_identity_self}

-- the verdict of the slot let the node accept what it got there
abbrev pub Accepts : ℕ → SlotNote → Type 0
Accepts i note = (f : FrameParts) → given i note ≡ Got f → lets_accept note.verdict i ≡ true

pub verdict_cases : (v : Verdict) (i : ℕ) → lets_accept v i ≡ true → is_silent v ≡ false → (v ≡ Clean) ⊎ (is_partial v ≡ true)
verdict_cases Clean i h n = inl refl
verdict_cases Lost i h n = absurd (false≢true h)
verdict_cases (Partial reject) i h n = inr refl
verdict_cases (Silent reject) i h n = absurd (false≢true (sym n))

-- a slot that carried a frame is not Silent within the hypothesis
pub verdict_not_silent : (x : Identity) (note : SlotNote) → Carries x note → is_silent_slot note ≡ false → is_silent note.verdict ≡ false
verdict_not_silent x note c h =
    let was : carried (λ f. true) note ≡ true = rw c.frame refl in
    let and : (carried (λ f. true) note && is_silent note.verdict) ≡ is_silent note.verdict = rw was refl in
    sym and ∙ h

-- the Partial slots of an identity count for it
pub count_together-itself : (x : Identity) → count_together x x ≡ true
unfolding count_together
count_together-itself x =
    cond_both (same_class x.class Rha) (same_class x.class Rha && x.number == x.number) (same_identity x x) (λ b. b ≡ true)
    (λ rha. rw rha (eq-eqb x.number x.number refl)) (λ _. same_identity_self x)

partial_counts : (x : Identity) (note : SlotNote) → Carries x note → is_partial note.verdict ≡ true → is_partial_slot_of x note ≡ true
partial_counts x note c h =
    let same : count_together x (identity_of c.what) ≡ true = ap (count_together x) (sym c.identity) ∙ count_together-itself x in
    and_from (carried (λ f. count_together x (identity_of f)) note) (is_partial note.verdict) (rw c.frame same) h

got_in : (i : ℕ) (x : Identity) (note : SlotNote) → Accepts i note → is_silent_slot note ≡ false → is_got x (given i note) ≡ true
    → CarriesClean x note ⊎ (is_partial_slot_of x note ≡ true)
got_in i x note accepts quiet h =
    let c : Carries x note = Carries-from_got i x note h in
    let g = is_got-true x (given i note) h in
    elim (verdict_cases note.verdict i (accepts g.what g.was) (verdict_not_silent x note c quiet)) [
      | inl clean ↦ inl (record { carries = c; clean = clean })
      | inr partial ↦ inr (partial_counts x note c partial)
    ]

-- each copy that a node got was carried Clean, or by a Partial slot
counted : (i : ℕ) (x : Identity) (trace : List SlotNote) → AllByRecursion (Accepts i) trace → AllByRecursion (λ note. is_silent_slot note ≡ false) trace
    → Among (CarriesClean x) trace ⊎ (copies x (map (given i) trace) ≤ partial_slots x trace)
unfolding copies
counted i x [] accepts quiet = inr (omega arith)
counted i x (note ∷ trace) accepts quiet =
    elim (counted i x trace accepts.1 quiet.1) [
      | inl clean ↦ inl (inr clean)
      | inr few ↦ elim (cases_Bool (is_got x (given i note))) [
        | inl got ↦ elim (got_in i x note accepts.0 quiet.0 got) [
          | inl clean ↦ inl (inl clean)
          | inr partial ↦ inr (omega (arith, few, count-yes (is_got x) (given i note) (map (given i) trace) got, count-yes (is_partial_slot_of x) note trace partial))
        ]
        | inr other ↦ inr (omega (arith, few, count-no (is_got x) (given i note) (map (given i) trace) other, count-grows (is_partial_slot_of x) note trace))
      ]
    ]

-- a node that read more copies than there may be Partial slots read a Clean one
pub clean_from_copies : (p : Parameters) (i : ℕ) (x : Identity) (trace : List SlotNote) (unread : ℕ) → AllByRecursion (Accepts i) trace → IsWithin p trace
    → p.omit < copies x (map (given i) (drop unread trace)) → Among (CarriesClean x) trace
clean_from_copies p i x trace unread accepts within many =
    let quiet = recursion_from_All (λ note. is_silent_slot note ≡ false) trace within.silent in
    elim (counted i x (drop unread trace) (Each-drop (Accepts i) unread trace accepts) (Each-drop (λ note. is_silent_slot note ≡ false) unread trace quiet)) [
      | inl clean ↦ Among-drop (CarriesClean x) unread trace clean
      | inr few ↦ absurd (omega (arith, many, few, count-drop (is_partial_slot_of x) unread trace, within.omit x))
    ]

pub success_is_clean : (v : Verdict) → is_success v ≡ true → is_silent v ≡ false → v ≡ Clean
success_is_clean Clean s n = refl
success_is_clean Lost s n = absurd (false≢true s)
success_is_clean (Partial reject) s n = absurd (false≢true s)
success_is_clean (Silent reject) s n = absurd (false≢true (sym n))

-- within the hypothesis a slot whose senders saw success was Clean
pub clean_from_success : (p : Parameters) (x : Identity) (trace : List SlotNote) → IsWithin p trace → Among (Succeeds x) trace → Among (CarriesClean x) trace
clean_from_success p x trace within h =
    Among-weaker (λ note. Succeeds x note × (is_silent_slot note ≡ false)) (CarriesClean x)
    (λ note w. record { carries = w.0.carries; clean = success_is_clean note.verdict w.0.success (verdict_not_silent x note w.0.carries w.1) })
    trace
    (Among-with (Succeeds x) (λ note. is_silent_slot note ≡ false) trace (recursion_from_All (λ note. is_silent_slot note ≡ false) trace within.silent) h)
