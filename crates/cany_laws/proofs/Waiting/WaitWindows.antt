-- Counts over several windows of slots, and of slots each of which is of one of two kinds.
use Rattle.std.proofs.Common.{◌≡◌, ℕ, zero, suc, ◌+◌, ◌-◌, ◌*◌, ◌<◌, ◌≤◌, ◌⊎◌, inl, inr, Bool, true, false, List, count_by, ap, sym, ◌∙◌, arith}
use Rattle.std.specs.List.{range_with_len}
use Rattle.std.proofs.lemmas.Bool.{cases_lt}
use Rattle.cany_base.specs.declared.slot_note.SlotNote.{SlotNote}
use Rattle.cany_base.specs.Params.{Parameters}
use Rattle.cany_model.specs.Promises.Hypothesis.{IsWithin, is_error_slot}
use Rattle.cany_model.specs.Promises.Windows.{HasFew, HasFewAccepts, HasFewLifeSigns, HasFewVectors}
use Rattle.cany_model.proofs.Among.{count-cons, count-grows, count-yes}
use Rattle.cany_model.proofs.Bus.States.{no_note, note_at}
use Rattle.cany_model.proofs.Timed.Common.Pigeonhole.{count_ages, count_or, count_shorter}
use Rattle.cany_model.proofs.Timed.Windows.TopFrames.{few_clean_tops, is_clean_top}
use Rattle.cany_laws.specs.Waits.{most_taken, window}
use Rattle.std.specs.Prelude.{◌||◌, drop, take}

-- ---- consecutive numbers

-- each of them passes one of two tests
pub count_cover : (s t : ℕ → Bool) (first n : ℕ) → ((a : ℕ) → first ≤ a → a < first + n → (s a ≡ true) ⊎ (t a ≡ true))
    → n ≤ count_by s (range_with_len first n) + count_by t (range_with_len first n)
count_cover s t first zero covers = omega arith
count_cover s t first (suc n) covers =
    let rest : List ℕ = range_with_len (first + 1) n in
    let more = count_cover s t (first + 1) n (λ a from to. covers a (omega (arith, from)) (omega (arith, to))) in
    elim (covers first (omega arith) (omega arith)) [
      | inl one ↦ omega (arith, more, count-yes s first rest one, count-grows t first rest)
      | inr other ↦ omega (arith, more, count-grows s first rest, count-yes t first rest other)
    ]

-- the first of them, and the rest
pub count_parted : (t : ℕ → Bool) (first a b : ℕ)
    → count_by t (range_with_len first (a + b)) ≡ count_by t (range_with_len first a) + count_by t (range_with_len (first + a) b)
count_parted t first zero b =
    let same : count_by t (range_with_len first (0 + b)) ≡ count_by t (range_with_len (first + 0) b) =
    ap (λ n. count_by t (range_with_len first n)) (no_more b) ∙ ap (λ f. count_by t (range_with_len f b)) (sym (here first)) in
    omega (arith, same)
  where
    no_more : (n : ℕ) → 0 + n ≡ n
    no_more n = omega arith

    here : (n : ℕ) → n + 0 ≡ n
    here n = omega arith
count_parted t first (suc a) b =
    let rest = count_parted t (first + 1) a b in
    let size = ap (λ n. count_by t (range_with_len first n)) (sum_suc a b) in
    let later = ap (λ f. count_by t (range_with_len f b)) (next first a) in
    omega (arith, rest, size, later, count-cons t first (range_with_len (first + 1) (a + b)), count-cons t first (range_with_len (first + 1) a))
  where
    sum_suc : (m n : ℕ) → suc m + n ≡ suc (m + n)
    sum_suc m n = omega arith

    next : (m n : ℕ) → m + 1 + n ≡ m + suc n
    next m n = omega arith

-- what so many consecutive ones can have at most, so many times that have so many times that at
-- most
pub count_windows : (t : ℕ → Bool) (size most : ℕ) → ((d : ℕ) → count_by t (range_with_len d size) ≤ most)
    → (times first n : ℕ) → n ≤ times * size → count_by t (range_with_len first n) ≤ times * most
count_windows t size most few zero first n short =
    let none : n ≡ 0 = omega (arith, short) in
    omega (arith, ap (λ m. count_by t (range_with_len first m)) none)
count_windows t size most few (suc times) first n short =
    let sizes : suc times * size ≡ times * size + size = grind arith in
    let mosts : suc times * most ≡ times * most + most = grind arith in
    elim (cases_lt size n) [
      | inr fits ↦ omega (arith, mosts, few first, count_shorter t first n size fits)
      | inl longer ↦
          let rest = count_windows t size most few times (first + size) (n - size) (omega (arith, short, sizes)) in
          let whole : size + (n - size) ≡ n = omega (arith, longer) in
          omega (arith, mosts, rest, few first, count_parted t first size (n - size), ap (λ m. count_by t (range_with_len first m)) whole)
    ]

-- ---- the slots of a window that are taken

-- the slot is disturbed, or carried Clean a frame of the classes that win over all others
abbrev pub is_taken : SlotNote → Bool
is_taken note = is_error_slot note || is_clean_top note

pub few_taken : (p : Parameters) (trace : List SlotNote) → IsWithin p trace → HasFewAccepts p trace → HasFewVectors p trace → HasFewLifeSigns p trace
    → HasFew is_taken (most_taken p) p trace
few_taken p trace within accepts vectors signs newest =
    let slots : List SlotNote = take (p.bound + p.lag) (drop newest trace) in
    omega (arith, count_or is_error_slot is_clean_top slots, few_clean_tops p trace within accepts vectors signs newest)

-- ---- slots by their ages

-- of n ages each has a slot of one of two kinds, of which a window has few of the first
pub waits_at_most : (p : Parameters) (test : SlotNote → Bool) (most : ℕ) (trace : List SlotNote) → test no_note ≡ false → HasFew test most p trace
    → (other : SlotNote → Bool) → other no_note ≡ false → (newest n times : ℕ) → n ≤ times * window p
    → ((age : ℕ) → newest ≤ age → age < newest + n → (test (note_at trace age) ≡ true) ⊎ (other (note_at trace age) ≡ true))
    → n ≤ count_by other (take n (drop newest trace)) + times * most
waits_at_most p test most trace none few other never newest n times short each =
    let one = count_cover (λ age. test (note_at trace age)) (λ age. other (note_at trace age)) newest n each in
    let others = count_ages other no_note never trace newest n in
    let tests = count_windows (λ age. test (note_at trace age)) (p.bound + p.lag) most
    (λ d. omega (arith, few d, count_ages test no_note none trace d (p.bound + p.lag))) times newest n short in
    omega (arith, one, others, tests)
