-- The slots in which a running node waits with a frame: each is disturbed, carries the frame, or
-- carries one that wins over it. So there are few of them.
use Rattle.std.proofs.Common.{◌≡◌, ℕ, suc, ◌+◌, ◌-◌, ◌*◌, ◌<◌, ◌≤◌, ◌⊎◌, ◌&&◌, ◌||◌, inl, inr, Bool, true, false, not, List, ◌∷◌, Contains, length, refl, ap, sym, ◌∙◌, subst, arith, add-zero, length-append}
use Rattle.std.specs.Prelude.{Some}
use Rattle.std.specs.List.{list_any}
use Rattle.std.proofs.lemmas.Bool.{and_from, and_parts, both_ways, cases_Bool, cases_lt, false≢true, false_from_ne_true, not_from_false, or_cases, or_left, or_right}
use Rattle.std.proofs.lemmas.List.{get_or-append-add, get_or_default, get_or_past}
use Rattle.std.proofs.lemmas.List.Elements.{Contains-get_or}
use Rattle.cany_base.specs.declared.class.Class.{Class}
use Rattle.cany_base.specs.declared.class.Class.TheVariants as class
use Rattle.cany_base.specs.declared.slot_note.SlotNote.{SlotNote}
use Rattle.cany_base.specs.declared.step.Step.{Step}
use Rattle.cany_base.specs.Frame.{FrameParts}
use Rattle.cany_base.specs.Params.{MeetsFormulas, Parameters}
use Rattle.cany_base.specs.Scenario.{IsLegalScenario, ScenarioParts}
use Rattle.cany_base.proofs.ParamsFacts.{few_nodes}
use Rattle.cany_model.specs.Bus.Frames.{Identity, bare, is_before, is_of, same_class}
use Rattle.cany_model.specs.Bus.Slot.{carried, is_clean, script, slot_note_of}
use Rattle.cany_model.specs.Bus.State.{RunState, slots_run}
use Rattle.cany_model.specs.Promises.Hypothesis.{IsWithin, is_error_slot, is_silent_slot}
use Rattle.cany_model.specs.Promises.Quiet.{is_top}
use Rattle.cany_model.specs.Promises.Windows.{is_clean_of}
use Rattle.cany_model.specs.Runs.Run.{run}
use Rattle.cany_model.proofs.Among.{Among-from_any, Among-get_or, Among-place, any-from_Among}
use Rattle.cany_model.proofs.Bus.Carried.{is_carried}
use Rattle.cany_model.proofs.Bus.States.{no_note, note_at}
use Rattle.cany_model.proofs.Runs.Runs.{orderly}
use Rattle.cany_model.proofs.Runs.SlotStates.{slot_state-trace, slot_state_is}
use Rattle.cany_model.proofs.Timed.Common.Counting.{window_at, window_back}
use Rattle.cany_model.proofs.Timed.Guarantees.{accepts_are_few, signs_are_few}
use Rattle.cany_model.proofs.Timed.Windows.FewVectors.{clean_is, few_vectors}
use Rattle.cany_model.proofs.Timed.Windows.TopFrames.{clean_or_error, is_carried_clean, never_silent}
use Rattle.cany_laws.specs.Waits.{IsAwaitedThrough, IsAwaitedUntilCarried, WasAwaited, WasCarriedIn, least_left, most_taken, interference, interferes, slots_from, window}
use Rattle.cany_laws.proofs.Waiting.WaitOrder.{NotAfterIt, carried_while}
use Rattle.cany_laws.proofs.Waiting.WaitWindows.{few_taken, is_taken, waits_at_most}

-- whether the slot carried a frame of this identity Clean
abbrev pub is_clean_frame : Identity → SlotNote → Bool
is_clean_frame x note = carried (is_of x) note && is_clean note.verdict

-- ---- one slot

taken_clean : (note : SlotNote) (f : FrameParts) → note.frame ≡ Some f → is_top f.class ≡ true → is_clean note.verdict ≡ true → is_taken note ≡ true
taken_clean note f frame top clean =
    let accept : Bool = is_clean_of class.Accept note in
    let rha : Bool = is_clean_of class.Rha note in
    let els : Bool = is_clean_of class.Els note in
    let c : Class = f.class in
    or_right (is_error_slot note) (accept || (rha || els)) (elim (or_cases (same_class c class.Accept || same_class c class.Rha) (same_class c class.Els) top) [
      | inr third ↦ or_right accept (rha || els) (or_right rha els (is_carried_clean class.Els note f frame third clean))
      | inl two ↦ elim (or_cases (same_class c class.Accept) (same_class c class.Rha) two) [
        | inl first ↦ or_left accept (rha || els) (is_carried_clean class.Accept note f frame first clean)
        | inr second ↦ or_right accept (rha || els) (or_left rha els (is_carried_clean class.Rha note f frame second clean))
      ]
    ])

-- a slot that carried no frame of the identity Clean, while a running node waited with one, is
-- taken, or carried Clean one that wins over it
taken_or_interferes : (x : Identity) (note : SlotNote) → is_silent_slot note ≡ false → is_clean_frame x note ≡ false → NotAfterIt x note
    → (is_taken note ≡ true) ⊎ (interferes x note ≡ true)
taken_or_interferes x note plain not_clean w = elim (clean_or_error note w.what w.frame plain) [
  | inr error ↦ inl (or_left (is_error_slot note) _ error)
  | inl clean ↦ elim (cases_Bool (is_top w.what.class)) [
    | inl top ↦ inl (taken_clean note w.what w.frame top clean)
    | inr low ↦ elim w.which [
      | inl own ↦ absurd (both_ways (is_clean_frame x note) not_clean
          (and_from (carried (is_of x) note) (is_clean note.verdict) (is_carried (is_of x) note w.what w.frame own) clean))
      | inr before ↦ inr (and_from (carried (λ f. not (is_top f.class) && is_before f (bare x)) note) (is_clean note.verdict)
          (is_carried (λ f. not (is_top f.class) && is_before f (bare x)) note w.what w.frame
          (and_from (not (is_top w.what.class)) (is_before w.what (bare x)) (not_from_false (is_top w.what.class) low) before)) clean)
    ]
  ]
]

-- ---- the note of a slot, by its age

pub record NoteOf (scenario : ScenarioParts) (journal : List Step) (s : RunState) (t : ℕ) : Type 0 where
  pub age : ℕ
  pub place : t + suc age ≡ slots_run (run scenario journal)
  pub is : note_at (run scenario journal).trace age ≡ slot_note_of (script scenario.rules) s

pub note_of : (scenario : ScenarioParts) (journal : List Step) (x : Identity) (t : ℕ) → (w : WasAwaited scenario journal x t)
    → NoteOf scenario journal w.state t
note_of scenario journal x t w =
    let s : RunState = w.state in
    let all : List SlotNote = (run scenario journal).trace in
    let older : List SlotNote = slot_note_of (script scenario.rules) s ∷ s.trace in
    let way = slot_state_is scenario t journal s w.ran in
    let split = slot_state-trace scenario t journal s w.ran in
    let newer : List SlotNote = split.0 in
    let size : length all ≡ length newer + suc (length s.trace) = ap length split.1 ∙ length-append newer older in
    record {
      age = length newer;
      place = omega (arith, size, way.number);
      is = ap (λ age. note_at all age) (sym (add-zero (length newer))) ∙ ap (λ trace. note_at trace (length newer + 0)) split.1
          ∙ get_or-append-add newer older 0 no_note;
    }

-- and the age of a note
pub record PlaceOf (scenario : ScenarioParts) (journal : List Step) (note : SlotNote) : Type 0 where
  pub age : ℕ
  pub number : note.slot + suc age ≡ slots_run (run scenario journal)
  pub is : note_at (run scenario journal).trace age ≡ note

place_of : (scenario : ScenarioParts) (journal : List Step) (note : SlotNote) → Contains (run scenario journal).trace note
    → PlaceOf scenario journal note
place_of scenario journal note stands =
    let trace : List SlotNote = (run scenario journal).trace in
    let age : ℕ = stands.0 in
    let is : note_at trace age ≡ note = get_or_default trace age no_note note stands.1 ∙ stands.2 in
    let slot : (note_at trace age).slot ≡ length trace - 1 - age = (orderly scenario journal).numbered age stands.1 in
    let named : (note_at trace age).slot ≡ note.slot = ap (λ (k : SlotNote). k.slot) is in
    record { age = age; number = omega (arith, slot, named, stands.1); is = is }

-- ---- one of these slots

-- the slot of an age carried it Clean
pub carried_at : (scenario : ScenarioParts) (journal : List Step) (x : Identity) (first n age : ℕ)
    → is_clean_frame x (note_at (run scenario journal).trace age) ≡ true → first + suc age ≤ slots_run (run scenario journal)
    → slots_run (run scenario journal) ≤ age + (first + n) → WasCarriedIn (run scenario journal).trace x first n
carried_at scenario journal x first n age clean from to =
    let trace : List SlotNote = (run scenario journal).trace in
    let note : SlotNote = note_at trace age in
    let number : note.slot ≡ length trace - 1 - age = (orderly scenario journal).numbered age (omega (arith, from)) in
    let parts = and_parts (carried (is_of x) note) (is_clean note.verdict) clean in
    record {
      note = note;
      stands = Contains-get_or trace age no_note (omega (arith, from));
      from = omega (arith, number, from);
      to = omega (arith, number, from, to);
      frame = parts.0;
      clean = clean_is note.verdict parts.1;
    }

-- a window that has such a slot
pub carried_in_window : (scenario : ScenarioParts) (journal : List Step) (x : Identity) (first n : ℕ) → first + n ≤ slots_run (run scenario journal)
    → list_any (is_clean_frame x) (slots_from (run scenario journal) first n) ≡ true → WasCarriedIn (run scenario journal).trace x first n
carried_in_window scenario journal x first n ran some =
    let s : RunState = run scenario journal in
    let slots : List SlotNote = slots_from s first n in
    let place = Among-place (λ note. is_clean_frame x note ≡ true) no_note 0 slots (Among-from_any (is_clean_frame x) slots some) in
    let at = window_at (is_clean_frame x) refl n (slots_run s - (first + n)) place.0 s.trace place.3 in
    carried_at scenario journal x first n at.0 at.3 (omega (arith, ran, at.1, at.2)) (omega (arith, ran, at.1, at.2))

-- and one that has none
none_in_window : (s : RunState) (x : Identity) (first n : ℕ) → list_any (is_clean_frame x) (slots_from s first n) ≡ false
    → (age : ℕ) → slots_run s - (first + n) ≤ age → age < slots_run s - (first + n) + n → is_clean_frame x (note_at s.trace age) ≡ false
none_in_window s x first n none age from to =
    let newest : ℕ = slots_run s - (first + n) in
    let place : ℕ = age - newest in
    let slots : List SlotNote = slots_from s first n in
    false_from_ne_true (is_clean_frame x (note_at s.trace age)) (λ clean.
    let same : age ≡ newest + place = omega (arith, from) in
    let here : is_clean_frame x (note_at slots place) ≡ true =
    window_back n newest place s.trace (is_clean_frame x) (omega (arith, from, to)) (ap (λ a. is_clean_frame x (note_at s.trace a)) (sym same) ∙ clean) in
    both_ways (list_any (is_clean_frame x) slots) none
    (any-from_Among (is_clean_frame x) slots
    (Among-get_or (λ note. is_clean_frame x note ≡ true) slots place no_note (within_window slots place here) here)))
  where
    within_window : (slots : List SlotNote) (place : ℕ) → is_clean_frame x (note_at slots place) ≡ true → place < length slots
    within_window slots place here = elim (cases_lt place (length slots)) [
      | inl below ↦ below
      | inr past ↦ absurd (false≢true (sym (ap (is_clean_frame x) (get_or_past slots place no_note past)) ∙ here))
    ]

-- ---- what is left of a window

pub some_left : (p : Parameters) → MeetsFormulas p → 0 < least_left p
some_left p formulas = omega (arith, formulas.bound)

-- ---- every run

-- none of the slots carried it Clean
abbrev pub IsNotCarriedIn : List SlotNote → Identity → (newest n : ℕ) → Type 0
IsNotCarriedIn trace x newest n = (age : ℕ) → newest ≤ age → age < newest + n → is_clean_frame x (note_at trace age) ≡ false

module _ (scenario : ScenarioParts) (journal : List Step) (legal : IsLegalScenario scenario)
    (within : IsWithin scenario.params (run scenario journal).trace) where
  abbrev s : RunState
  s = run scenario journal

  each_age : (x : Identity) (first n : ℕ) → first + n ≤ slots_run s → IsAwaitedThrough scenario journal x first n
      → IsNotCarriedIn s.trace x (slots_run s - (first + n)) n → (age : ℕ) → slots_run s - (first + n) ≤ age → age < slots_run s - (first + n) + n
      → (is_taken (note_at s.trace age) ≡ true) ⊎ (interferes x (note_at s.trace age) ≡ true)
  each_age x first n ran awaited none age from to =
      let t : ℕ = slots_run s - suc age in
      let w = awaited t (omega (arith, ran, from, to)) (omega (arith, ran, from, to)) in
      let note = note_of scenario journal x t w in
      let same : note.age ≡ age = omega (arith, note.place, ran, from, to) in
      let is : note_at s.trace age ≡ slot_note_of (script scenario.rules) w.state = ap (λ a. note_at s.trace a) (sym same) ∙ note.is in
      taken_or_interferes x (note_at s.trace age) (never_silent scenario.params s.trace within age) (none age from to)
      (subst (NotAfterIt x) (sym is) (carried_while (script scenario.rules) w.state x w.node w.running w.waits))

  pub few_waits : (x : Identity) (first n times : ℕ) → first + n ≤ slots_run s → IsAwaitedThrough scenario journal x first n
      → IsNotCarriedIn s.trace x (slots_run s - (first + n)) n → n ≤ times * window scenario.params
      → n ≤ interference x s first n + times * most_taken scenario.params
  few_waits x first n times ran awaited none short =
      let p : Parameters = scenario.params in
      let few = few_nodes p legal.in_range in
      waits_at_most p is_taken (most_taken p) s.trace refl
      (few_taken p s.trace within (accepts_are_few scenario journal few within) (few_vectors scenario journal few legal.formulas legal.members)
      (signs_are_few scenario journal few legal.formulas legal.members within))
      (interferes x) refl (slots_run s - (first + n)) n times short (each_age x first n ran awaited none)

  -- where none of the slots carried it Clean
  pub few_slots_of_waiting : (x : Identity) (first n times : ℕ) → first + n ≤ slots_run s → IsAwaitedThrough scenario journal x first n
      → (WasCarriedIn s.trace x first n → ⊥) → n ≤ times * window scenario.params → n ≤ interference x s first n + times * most_taken scenario.params
  few_slots_of_waiting x first n times ran awaited never short =
      few_waits x first n times ran awaited (λ age from to.
      false_from_ne_true (is_clean_frame x (note_at s.trace age)) (λ clean.
      never (carried_at scenario journal x first n age clean (omega (arith, ran, from, to)) (omega (arith, ran, from, to))))) short

  -- a frame that none of the slots carried Clean, and that waits up to the first that does, waits
  -- in all of them
  awaited_through : (x : Identity) (first n : ℕ) → IsAwaitedUntilCarried scenario journal x first n → (WasCarriedIn s.trace x first n → ⊥)
      → IsAwaitedThrough scenario journal x first n
  awaited_through x first n awaited never t from to =
      awaited t from to (λ w. never (record { note = w.note; stands = w.stands; from = w.from; to = sooner w; frame = w.frame; clean = w.clean }))
    where
      sooner : (w : WasCarriedIn s.trace x first (t - first)) → w.note.slot < first + n
      sooner w = let before = w.to in omega (arith, before, from, to)

  -- whether one of the slots carried it Clean is decided by their notes
  carried_or_not : (x : Identity) (first n : ℕ) → first + n ≤ slots_run s → WasCarriedIn s.trace x first n ⊎ (WasCarriedIn s.trace x first n → ⊥)
  carried_or_not x first n ran = elim (cases_Bool (list_any (is_clean_frame x) (slots_from s first n))) [
    | inl some ↦ inl (carried_in_window scenario journal x first n ran some)
    | inr none ↦ inr (λ w.
        let place = place_of scenario journal w.note w.stands in
        let number = place.number in
        let from = w.from in
        let to = w.to in
        let here = none_in_window s x first n none place.age (omega (arith, ran, number, from, to)) (omega (arith, ran, number, from, to)) in
        both_ways (is_clean_frame x (note_at s.trace place.age)) here (subst (λ note. is_clean_frame x note ≡ true) (sym place.is)
        (and_from (carried (is_of x) w.note) (is_clean w.note.verdict) w.frame (ap is_clean w.clean))))
  ]

  -- so one of so many windows did, where fewer frames win over it than slots are left
  pub carried_in_windows : (x : Identity) (first times : ℕ) → first + times * window scenario.params ≤ slots_run s
      → IsAwaitedUntilCarried scenario journal x first (times * window scenario.params)
      → interference x s first (times * window scenario.params) < times * least_left scenario.params
      → WasCarriedIn s.trace x first (times * window scenario.params)
  carried_in_windows x first times ran awaited few =
      let p : Parameters = scenario.params in
      let n : ℕ = times * window p in
      elim (carried_or_not x first n ran) [
        | inl there ↦ there
        | inr never ↦
            let most = few_slots_of_waiting x first n times ran (awaited_through x first n awaited never) never (omega arith) in
            absurd (too_many (window p) (most_taken p) times (interference x s first n) most few)
      ]
    where
      too_many : (size most times others : ℕ) → times * size ≤ others + times * most → others < times * (size - most) → ⊥
      too_many size most times others all few = elim (cases_lt most size) [
        | inr over ↦
            let nothing : size - most ≡ 0 = omega (arith, over) in
            let none : times * (size - most) ≡ 0 = ap (λ k. times * k) nothing ∙ omega arith in
            omega (arith, few, none)
        | inl below ↦
            let whole : most + (size - most) ≡ size = omega (arith, below) in
            let parts : times * size ≡ times * most + times * (size - most) = ap (λ k. times * k) (sym whole) ∙ grind arith in
            omega (arith, all, few, parts)
      ]
