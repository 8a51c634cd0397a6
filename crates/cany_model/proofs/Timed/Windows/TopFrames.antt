-- Frames of the classes that win arbitration: few slots of a window carried one, and where a slot
-- carried none, no running node waited with one.
use Rattle.std.proofs.Common.{◌≡◌, ℕ, ◌+◌, ◌*◌, ◌≤◌, ◌⊎◌, ◌==◌, ◌||◌, inl, inr, Bool, true, false, not, nat_lt, if◌then◌else◌, List, [], ◌∷◌, Option, Some, None, count_by, drop, length, take, refl, ap, sym, ◌∙◌, arith}
use Rattle.std.specs.List.{flat_map, list_any}
use Rattle.std.proofs.lemmas.Bool.{and_from, both_ways, cases_lt, cond_both, false_from_ne_true, or_cases, or_left, or_right}
use Rattle.std.proofs.lemmas.Bool.Decides.{nat_tests}
use Rattle.std.proofs.lemmas.List.{get_or_past}
use Rattle.std.proofs.lemmas.List.Elements.{All-drop, All-get_or, All-take, recursion_from_All}
use Rattle.cany_base.specs.declared.class.Class.{Class}
use Rattle.cany_base.specs.declared.class.Class.TheVariants as class
use Rattle.cany_base.specs.declared.rule.Verdict.{Verdict}
use Rattle.cany_base.specs.declared.rule.Verdict.TheVariants.{Clean, Lost, Partial, Silent}
use Rattle.cany_base.specs.declared.slot_note.SlotNote.{SlotNote}
use Rattle.cany_base.specs.Frame.{FrameParts, class_number}
use Rattle.cany_base.specs.Params.{Parameters, top_frames}
use Rattle.cany_model.specs.Bus.Frames.{is_before, same_class}
use Rattle.cany_model.specs.Bus.Slot.{FaultScript, better, carried, least_frame, offered, slot_note_of, winner, is_clean}
use Rattle.cany_model.specs.Bus.State.{NodeState, RunState, absent, node_at, runs}
use Rattle.cany_model.specs.Promises.Hypothesis.{IsWithin, any_frame, error_slots, is_error, is_error_slot, is_silent, is_silent_slot}
use Rattle.cany_model.specs.Promises.Quiet.{is_top}
use Rattle.cany_model.specs.Promises.Windows.{HasFew, HasFewAccepts, HasFewLifeSigns, HasFewVectors, is_clean_of}
use Rattle.cany_model.proofs.Among.{Among, Among-flat_map, Among-from_any, Among-get_or}
use Rattle.cany_model.proofs.Bus.Carried.{carried_frame, is_carried}
use Rattle.cany_model.proofs.Bus.Notes.{note_of-frame}
use Rattle.cany_model.proofs.Bus.States.{no_note, note_at, runs_within}
use Rattle.cany_model.proofs.Timed.Common.Pigeonhole.{count_either, count_or}
use Rattle.cany_model.proofs.Timed.Order.TotKept.{NoSilent}

-- the slot carried such a frame
abbrev pub is_top_slot : SlotNote → Bool
is_top_slot note = carried (λ f. is_top f.class) note

-- ---- a frame that was carried

-- a slot that carried a frame and is not Silent is Clean, or Lost or Partial
pub clean_or_error : (note : SlotNote) (f : FrameParts) → note.frame ≡ Some f → is_silent_slot note ≡ false
    → (is_clean note.verdict ≡ true) ⊎ (is_error_slot note ≡ true)
clean_or_error note f frame plain = by_verdict note.verdict refl
  where
    there : carried any_frame note ≡ true
    there = is_carried any_frame note f frame refl

    by_verdict : (v : Verdict) → note.verdict ≡ v → (is_clean note.verdict ≡ true) ⊎ (is_error_slot note ≡ true)
    by_verdict Clean e = inl (ap is_clean e)
    by_verdict Lost e = inr (and_from (carried any_frame note) (is_error note.verdict) there (ap is_error e))
    by_verdict (Partial reject) e = inr (and_from (carried any_frame note) (is_error note.verdict) there (ap is_error e))
    by_verdict (Silent reject) e =
        absurd (both_ways (is_silent_slot note) plain (and_from (carried any_frame note) (is_silent note.verdict) there (ap is_silent e)))

-- one of this class was carried Clean
pub is_carried_clean : (c : Class) (note : SlotNote) (f : FrameParts) → note.frame ≡ Some f → same_class f.class c ≡ true
    → is_clean note.verdict ≡ true → is_clean_of c note ≡ true
is_carried_clean c note f frame same clean =
    and_from (carried (λ g. same_class g.class c) note) (is_clean note.verdict) (is_carried (λ g. same_class g.class c) note f frame same) clean

-- ---- the slots of a window

abbrev pub is_clean_top : SlotNote → Bool
is_clean_top note = is_clean_of class.Accept note || (is_clean_of class.Rha note || is_clean_of class.Els note)

top_cases : (note : SlotNote) → is_silent_slot note ≡ false → is_top_slot note ≡ true → (is_error_slot note ≡ true) ⊎ (is_clean_top note ≡ true)
top_cases note plain h =
    let f = carried_frame (λ f. is_top f.class) note h in
    let accept : Bool = is_clean_of class.Accept note in
    let rha : Bool = is_clean_of class.Rha note in
    let els : Bool = is_clean_of class.Els note in
    let c : Class = f.what.class in
    elim (clean_or_error note f.what f.frame plain) [
      | inr error ↦ inl error
      | inl clean ↦ inr (elim (or_cases (same_class c class.Accept || same_class c class.Rha) (same_class c class.Els) f.passes) [
        | inr third ↦ or_right accept (rha || els) (or_right rha els (is_carried_clean class.Els note f.what f.frame third clean))
        | inl two ↦ elim (or_cases (same_class c class.Accept) (same_class c class.Rha) two) [
          | inl first ↦ or_left accept (rha || els) (is_carried_clean class.Accept note f.what f.frame first clean)
          | inr second ↦ or_right accept (rha || els) (or_left rha els (is_carried_clean class.Rha note f.what f.frame second clean))
        ]
      ])
    ]

-- no slot is Silent
pub never_silent : (p : Parameters) (trace : List SlotNote) → IsWithin p trace → (age : ℕ) → is_silent_slot (note_at trace age) ≡ false
never_silent p trace within age = elim (cases_lt age (length trace)) [
  | inl there ↦ All-get_or (λ note. is_silent_slot note ≡ false) trace age no_note there within.silent
  | inr over ↦ ap is_silent_slot (get_or_past trace age no_note over)
]

-- nor one of a window
pub plain_window : (p : Parameters) (trace : List SlotNote) → IsWithin p trace → (size newest : ℕ) → NoSilent (take size (drop newest trace))
plain_window p trace within size newest =
    let plain : SlotNote → Type 0 = λ note. is_silent_slot note ≡ false in
    recursion_from_All plain (take size (drop newest trace))
    (All-take plain size (drop newest trace) (All-drop plain newest trace within.silent))

-- few slots of a window are disturbed or carried Clean a frame of these classes
pub few_clean_tops : (p : Parameters) (trace : List SlotNote) → IsWithin p trace → HasFewAccepts p trace → HasFewVectors p trace → HasFewLifeSigns p trace
    → (newest : ℕ)
    → error_slots (take (p.bound + p.lag) (drop newest trace)) + count_by is_clean_top (take (p.bound + p.lag) (drop newest trace)) ≤ top_frames p.nodes + p.errors
few_clean_tops p trace within accepts vectors signs newest =
    let window : List SlotNote = take (p.bound + p.lag) (drop newest trace) in
    let two = count_or (is_clean_of class.Accept) (λ note. is_clean_of class.Rha note || is_clean_of class.Els note) window in
    let rest = count_or (is_clean_of class.Rha) (is_clean_of class.Els) window in
    let three : 3 * p.nodes * p.nodes ≡ 3 * (p.nodes * p.nodes) = grind arith in
    omega (arith, two, rest, within.errors newest, accepts newest, vectors newest, signs newest, three)

-- and so few carried a frame of these classes
pub few_top_slots : (p : Parameters) (trace : List SlotNote) → IsWithin p trace
    → HasFewAccepts p trace → HasFewVectors p trace → HasFewLifeSigns p trace → HasFew is_top_slot (top_frames p.nodes + p.errors) p trace
few_top_slots p trace within accepts vectors signs newest =
    let window : List SlotNote = take (p.bound + p.lag) (drop newest trace) in
    let plain = plain_window p trace within (p.bound + p.lag) newest in
    let all = count_either (λ note. is_silent_slot note ≡ false) is_top_slot is_error_slot is_clean_top top_cases window plain in
    omega (arith, all, few_clean_tops p trace within accepts vectors signs newest)

-- ---- arbitration

top_number : (c : Class) → is_top c ≡ nat_lt (class_number c) 3
unfolding same_class
top_number class.Accept = refl
top_number class.Rha = refl
top_number class.Els = refl
top_number class.Fda = refl
top_number class.Join = refl
top_number class.Leave = refl
top_number class.Confirm = refl
top_number class.Tot = refl
top_number class.Rel = refl
top_number class.Ed = refl

-- two numbers are compared, and where they are equal the rest decides
abbrev compared : ℕ → ℕ → Bool → Bool
compared a b rest = if not (a == b) then nat_lt a b else rest

low_before : (a b : ℕ) (rest : Bool) → compared a b rest ≡ true → nat_lt b 3 ≡ true → nat_lt a 3 ≡ true
low_before a b rest h low = grind (arith, nat_tests)

low_not_before : (a b : ℕ) (rest : Bool) → compared a b rest ≡ false → nat_lt a 3 ≡ true → nat_lt b 3 ≡ true
low_not_before a b rest h low = grind (arith, nat_tests)

top_before : (f g : FrameParts) → is_before g f ≡ true → is_top f.class ≡ true → is_top g.class ≡ true
unfolding is_before same_class
top_before f g h top =
    top_number g.class ∙ low_before (class_number g.class) (class_number f.class) _ h (sym (top_number f.class) ∙ top)

top_not_before : (f g : FrameParts) → is_before g f ≡ false → is_top g.class ≡ true → is_top f.class ≡ true
unfolding is_before same_class
top_not_before f g h top =
    top_number f.class ∙ low_not_before (class_number g.class) (class_number f.class) _ h (sym (top_number g.class) ∙ top)

-- a frame of these classes
record TopOf (o : Option FrameParts) : Type 0 where
  what : FrameParts
  is : o ≡ Some what
  top : is_top what.class ≡ true

abbrev Tops : List FrameParts → Type 0
Tops fs = Among (λ f. is_top f.class ≡ true) fs

better_first : (f : FrameParts) → is_top f.class ≡ true → (o : Option FrameParts) → is_top (better f o).class ≡ true
better_first f top None = top
better_first f top (Some g) =
    cond_both (is_before g f) g f (λ h. is_top h.class ≡ true) (λ before. top_before f g before top) (λ _. top)

better_later : (f g : FrameParts) → is_top g.class ≡ true → is_top (better f (Some g)).class ≡ true
better_later f g top = cond_both (is_before g f) g f (λ h. is_top h.class ≡ true) (λ _. top) (λ other. top_not_before f g other top)

-- so the least of some frames is of these classes where one of them is
least_top : (fs : List FrameParts) → Tops fs → TopOf (least_frame fs)
unfolding least_frame
least_top [] h = absurd h
least_top (f ∷ fs) (inl top) = record { what = better f (least_frame fs); is = refl; top = better_first f top (least_frame fs) }
least_top (f ∷ fs) (inr h) =
    let rest = least_top fs h in
    record {
      what = better f (Some rest.what);
      is = ap (λ o. Some (better f o)) rest.is;
      top = better_later f rest.what rest.top;
    }

offered_top : (nodes : List NodeState) (i : ℕ) → runs (node_at nodes i) ≡ true → Tops (node_at nodes i).waiting → Tops (flat_map offered nodes)
unfolding node_at
offered_top nodes i running top =
    Among-flat_map offered (λ f. is_top f.class ≡ true) nodes
    (Among-get_or (λ node. Tops (offered node)) nodes i absent (runs_within nodes i running) (rw running top))

-- where a slot carried none of them, no running node waited with one
pub none_waited : (rules : FaultScript) (s : RunState) → is_top_slot (slot_note_of rules s) ≡ false → (i : ℕ) → runs (node_at s.nodes i) ≡ true
    → list_any (λ f. is_top f.class) (node_at s.nodes i).waiting ≡ false
unfolding winner
none_waited rules s none i running = false_from_ne_true (list_any (λ f. is_top f.class) (node_at s.nodes i).waiting) (λ waits.
    let top = least_top (flat_map offered s.nodes)
    (offered_top s.nodes i running (Among-from_any (λ f. is_top f.class) (node_at s.nodes i).waiting waits)) in
    both_ways (is_top_slot (slot_note_of rules s)) none
    (is_carried (λ f. is_top f.class) (slot_note_of rules s) top.what (note_of-frame rules s ∙ top.is) top.top))
