-- While a running node waits with its life sign, each slot carries a frame of the classes that win
-- arbitration. So it waits fewer slots than the bound.
use Rattle.std.proofs.Common.{◌≡◌, ℕ, zero, suc, ◌+◌, ◌<◌, ◌≤◌, ◌||◌, inl, inr, Bool, true, false, List, [], ◌∷◌, count_by, drop, take, refl, arith}
use Rattle.std.specs.List.{list_any}
use Rattle.std.proofs.lemmas.Bool.{both_ways, cases_Bool, or_right}
use Rattle.cany_base.specs.declared.class.Class.TheVariants as class
use Rattle.cany_base.specs.declared.slot_note.SlotNote.{SlotNote}
use Rattle.cany_base.specs.Frame.{FrameParts}
use Rattle.cany_base.specs.Params.{MeetsFormulas, Parameters}
use Rattle.cany_model.specs.Bus.Frames.{same_class}
use Rattle.cany_model.specs.Bus.Slot.{FaultScript, slot_note_of}
use Rattle.cany_model.specs.Bus.State.{RunState, node_at, runs}
use Rattle.cany_model.specs.Promises.Hypothesis.{IsWithin}
use Rattle.cany_model.specs.Promises.Quiet.{is_top}
use Rattle.cany_model.specs.Promises.Windows.{HasFewAccepts, HasFewLifeSigns, HasFewVectors}
use Rattle.cany_model.proofs.Among.{Among-from_count, Among-weaker, any-from_Among, count-yes}
use Rattle.cany_model.proofs.Bus.States.{no_note}
use Rattle.cany_model.proofs.Promises.SignCounts.{is_els}
use Rattle.cany_model.proofs.Timed.Common.Counting.{Passes, window_back}
use Rattle.cany_model.proofs.Timed.Windows.TopFrames.{few_top_slots, is_top_slot, none_waited}

-- the slot of this age carried a frame of these classes
abbrev pub Top : List SlotNote → ℕ → Type 0
Top trace age = Passes is_top_slot trace age

-- fewer slots than the bound did, in any window
abbrev pub FewTops : Parameters → List SlotNote → Type 0
FewTops p trace = (newest : ℕ) → count_by is_top_slot (take (p.bound + p.lag) (drop newest trace)) < p.bound

pub few_tops : (p : Parameters) → MeetsFormulas p → (trace : List SlotNote) → IsWithin p trace → HasFewAccepts p trace → HasFewVectors p trace
    → HasFewLifeSigns p trace → FewTops p trace
few_tops p formulas trace within accepts vectors signs newest =
    omega (arith, few_top_slots p trace within accepts vectors signs newest, formulas.bound)

as_many : (t : SlotNote → Bool) → t no_note ≡ false → (n : ℕ) (trace : List SlotNote) → ((age : ℕ) → age < n → Passes t trace age)
    → n ≤ count_by t trace
as_many t none zero trace h = omega arith
as_many t none (suc n) [] h = absurd (both_ways (t no_note) none (h 0 (omega arith)))
as_many t none (suc n) (note ∷ trace) h =
    omega (arith, as_many t none n trace (λ age below. h (suc age) (omega (arith, below))), count-yes t note trace (h 0 (omega arith)))

-- so not so many carried one, one after another, as the bound has
pub no_crowd : (p : Parameters) (trace : List SlotNote) → FewTops p trace → (first : ℕ)
    → ((age : ℕ) → first ≤ age → age < first + p.bound → Top trace age) → ⊥
no_crowd p trace few first tops =
    let all = as_many is_top_slot refl p.bound (take (p.bound + p.lag) (drop first trace))
    (λ age below.
    let top = tops (first + age) (omega arith) (omega (arith, below)) in
    window_back (p.bound + p.lag) first age trace is_top_slot (omega (arith, below)) top) in
    omega (arith, all, few first)

-- ---- the slots through which a life sign waits

els_is_top : (f : FrameParts) → is_els f ≡ true → is_top f.class ≡ true
els_is_top f els = or_right (same_class f.class class.Accept || same_class f.class class.Rha) (same_class f.class class.Els) els

pub topped : (rules : FaultScript) (s : RunState) (i : ℕ) → runs (node_at s.nodes i) ≡ true → 0 < count_by is_els (node_at s.nodes i).waiting
    → is_top_slot (slot_note_of rules s) ≡ true
topped rules s i running some = elim (cases_Bool (is_top_slot (slot_note_of rules s))) [
  | inl top ↦ top
  | inr low ↦
      let waiting = (node_at s.nodes i).waiting in
      let one : list_any (λ f. is_top f.class) waiting ≡ true =
      any-from_Among (λ f. is_top f.class) waiting
      (Among-weaker (λ f. is_els f ≡ true) (λ f. is_top f.class ≡ true) els_is_top waiting (Among-from_count is_els waiting some)) in
      absurd (both_ways (list_any (λ f. is_top f.class) waiting) (none_waited rules s low i running) one)
]
