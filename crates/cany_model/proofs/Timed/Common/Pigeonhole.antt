-- Of more consecutive numbers than pass a test one does not pass it. So where few slots of each
-- window are of two kinds, a slot can be found that is not of the first kind and follows none of
-- the second closely.
use Rattle.std.specs.Prelude.{slice_index_or}
use Rattle.std.proofs.Common.{◌≡◌, ℕ, zero, suc, ◌+◌, ◌*◌, ◌<◌, ◌≤◌, ◌⊎◌, ◌||◌, inl, inr, Bool, true, false, List, [], ◌∷◌, count_by, drop, length, take, refl, ap, sym, ◌∙◌, arith}
use Rattle.std.specs.List.{AllByRecursion, range_with_len}
use Rattle.std.proofs.Math.ListN.{drop_of_length-le}
use Rattle.std.proofs.lemmas.Bool.{cases_Bool, cases_eq, cases_lt, or_cases, or_parts}
use Rattle.std.proofs.lemmas.List.{drop_more, get_or_past}
use Rattle.cany_model.proofs.Among.{count-cons, count-grows, count-no, count-yes, one_if}

-- ---- counts of one list

-- what passes the first test and has the property, passes one of two others
pub count_either : {X : Type 0} (Q : X → Type 0) (s t u : X → Bool) → ((x : X) → Q x → s x ≡ true → (t x ≡ true) ⊎ (u x ≡ true))
    → (xs : List X) → AllByRecursion Q xs → count_by s xs ≤ count_by t xs + count_by u xs
count_either Q s t u gives [] all = omega arith
count_either Q s t u gives (x ∷ xs) all =
    let rest = count_either Q s t u gives xs all.1 in
    elim (cases_Bool (s x)) [
      | inr other ↦ omega (arith, rest, count-no s x xs other, count-grows t x xs, count-grows u x xs)
      | inl passes ↦ elim (gives x all.0 passes) [
        | inl first ↦ omega (arith, rest, count-yes s x xs passes, count-yes t x xs first, count-grows u x xs)
        | inr second ↦ omega (arith, rest, count-yes s x xs passes, count-grows t x xs, count-yes u x xs second)
      ]
    ]

always : {X : Type 0} (xs : List X) → AllByRecursion (λ x. Unit {0}) xs
always [] = tt
always (x ∷ xs) = (tt, always xs)

pub count_or : {X : Type 0} (t u : X → Bool) (xs : List X) → count_by (λ x. t x || u x) xs ≤ count_by t xs + count_by u xs
count_or t u xs = count_either (λ x. Unit {0}) (λ x. t x || u x) t u (λ x all passes. or_cases (t x) (u x) passes) xs (always xs)

pub count_weaker : {X : Type 0} (s t : X → Bool) → ((x : X) → s x ≡ true → t x ≡ true) → (xs : List X) → count_by s xs ≤ count_by t xs
count_weaker s t gives [] = omega arith
count_weaker s t gives (x ∷ xs) = elim (cases_Bool (s x)) [
  | inl passes ↦ omega (arith, count_weaker s t gives xs, count-yes s x xs passes, count-yes t x xs (gives x passes))
  | inr other ↦ omega (arith, count_weaker s t gives xs, count-no s x xs other, count-grows t x xs)
]

-- ---- counts of consecutive numbers

-- none of the numbers passes
count_none : (t : ℕ → Bool) (first n : ℕ) → ((a : ℕ) → first ≤ a → a < first + n → t a ≡ false) → count_by t (range_with_len first n) ≡ 0
count_none t first zero none = refl
count_none t first (suc n) none =
    count-no t first (range_with_len (first + 1) n) (none first (omega arith) (omega arith))
    ∙ count_none t (first + 1) n (λ a from to. none a (omega (arith, from)) (omega (arith, to)))

-- fewer of them count
pub count_shorter : (t : ℕ → Bool) (first k n : ℕ) → k ≤ n → count_by t (range_with_len first k) ≤ count_by t (range_with_len first n)
count_shorter t first zero n h = omega arith
count_shorter t first (suc k) zero h = absurd (omega (arith, h))
count_shorter t first (suc k) (suc n) h =
    omega (
      arith,
      count_shorter t (first + 1) k n (omega (arith, h)),
      count-cons t first (range_with_len (first + 1) k),
      count-cons t first (range_with_len (first + 1) n),
    )

-- the test of later numbers
pub count_later : (t : ℕ → Bool) (by first n : ℕ) → count_by (λ a. t (a + by)) (range_with_len first n) ≡ count_by t (range_with_len (first + by) n)
count_later t by first zero = refl
count_later t by first (suc n) =
    let next : first + 1 + by ≡ first + by + 1 = omega arith in
    omega (
      arith,
      count-cons (λ a. t (a + by)) first (range_with_len (first + 1) n),
      count-cons t (first + by) (range_with_len (first + by + 1) n),
      count_later t by (first + 1) n,
      ap (λ a. count_by t (range_with_len a n)) next,
    )

-- ---- one that does not pass

-- of so many numbers fewer pass, so one does not
pub pigeonhole : (t : ℕ → Bool) (first n : ℕ) → count_by t (range_with_len first n) < n
    → (a : ℕ) × (first ≤ a) × (a < first + n) × (t a ≡ false)
pigeonhole t first zero few = absurd (omega (arith, few))
pigeonhole t first (suc n) few = elim (cases_Bool (t first)) [
  | inr free ↦ (first, omega arith, omega arith, free)
  | inl passes ↦
      let yes' = count-yes t first (range_with_len (first + 1) n) passes in
      let r = pigeonhole t (first + 1) n (omega (arith, few, yes')) in
      (r.0, omega (arith, r.1), omega (arith, r.2), r.3)
]

-- whether one of so many next numbers passes
pub is_soon : (ℕ → Bool) → ℕ → ℕ → Bool
is_soon t zero a = false
is_soon t (suc span) a = t (a + suc span) || is_soon t span a

-- each that passes counts once for each number that it comes soon after
pub count_soon : (t : ℕ → Bool) (span first n most : ℕ) → ((d : ℕ) → count_by t (range_with_len d n) ≤ most)
    → count_by (is_soon t span) (range_with_len first n) ≤ span * most
unfolding is_soon
count_soon t zero first n most few = omega (arith, count_none (λ a. false) first n (λ a from to. refl))
count_soon t (suc span) first n most few =
    let more : suc span * most ≡ span * most + most = grind arith in
    omega (
      arith,
      more,
      count_or (λ a. t (a + suc span)) (is_soon t span) (range_with_len first n),
      count_later t (suc span) first n,
      few (first + suc span),
      count_soon t span first n most few,
    )

pub none_soon : (t : ℕ → Bool) (span a : ℕ) → is_soon t span a ≡ false → (k : ℕ) → k < span → t (a + suc k) ≡ false
unfolding is_soon
none_soon t zero a h k below = absurd (omega (arith, below))
none_soon t (suc span) a h k below =
    let parts = or_parts (t (a + suc span)) (is_soon t span a) h in
    elim (cases_eq k span) [
      | inl same ↦ ap (λ m. t (a + suc m)) same ∙ parts.0
      | inr other ↦ none_soon t span a parts.1 k (omega (arith, below, other))
    ]

-- Where any n consecutive numbers have few that pass the first test and few that pass the second,
-- each n of them have one that does not pass the first, and none of whose next ones passes the
-- second.
pub free_number : (s t : ℕ → Bool) (span n most_s most_t : ℕ) → most_s + span * most_t < n
    → ((d : ℕ) → count_by s (range_with_len d n) ≤ most_s) → ((d : ℕ) → count_by t (range_with_len d n) ≤ most_t)
    → (first : ℕ) → (a : ℕ) × (first ≤ a) × (a < first + n) × (s a ≡ false) × ((k : ℕ) → k < span → t (a + suc k) ≡ false)
free_number s t span n most_s most_t room few_s few_t first =
    let either = count_or s (is_soon t span) (range_with_len first n) in
    let soon = count_soon t span first n most_t few_t in
    let few : count_by (λ a. s a || is_soon t span a) (range_with_len first n) < n = omega (arith, room, few_s first, either, soon) in
    let r = pigeonhole (λ a. s a || is_soon t span a) first n few in
    let parts = or_parts (s r.0) (is_soon t span r.0) r.3 in
    (r.0, r.1, r.2, parts.0, none_soon t span r.0 parts.1)

-- ---- the ages of a list

-- of consecutive ages as many pass as of the elements there, where nothing passes past the end
pub count_ages : {X : Type 0} (t : X → Bool) (none : X) → t none ≡ false → (xs : List X) (first n : ℕ)
    → count_by (λ a. t (slice_index_or xs a none)) (range_with_len first n) ≡ count_by t (take n (drop first xs))
count_ages t none never xs first zero = refl
count_ages t none never xs first (suc n) = elim (cases_lt first (length xs)) [
  | inl there ↦
      let next = drop_more xs first none there in
      let rest = count_ages t none never xs (first + 1) n in
      let here = count-cons (λ a. t (slice_index_or xs a none)) first (range_with_len (first + 1) n) in
      let same = count-cons t (slice_index_or xs first none) (take n (drop (first + 1) xs)) in
      let all = ap (λ ys. count_by t (take (suc n) ys)) next in
      here ∙ ap (λ k. one_if (t (slice_index_or xs first none)) + k) rest ∙ sym same ∙ sym all
  | inr past ↦
      count_none (λ a. t (slice_index_or xs a none)) first (suc n)
      (λ a from to. ap t (get_or_past xs a none (omega (arith, past, from))) ∙ never)
      ∙ ap (λ ys. count_by t (take (suc n) ys)) (sym (drop_of_length-le xs past))
]
