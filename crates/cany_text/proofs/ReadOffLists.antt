-- Lists that are read off: by what their elements have, and where they end.
use Rattle.std.proofs.Common.{◌≡◌, ℕ, zero, suc, ◌+◌, ◌<◌, ◌≤◌, Bool, true, false, List, [], ◌∷◌, ◌++◌, refl, ap, sym, ◌∙◌, subst, inl, inr, arith, map}
use Rattle.std.specs.Prelude.{filter}
use Rattle.std.specs.List.{AllByRecursion, flat_map, list_all, range_with_len}
use Rattle.std.proofs.lemmas.Bool.{and_parts, cases_eq, cond_both, false≢true}
use Rattle.std.proofs.lemmas.List.Concat.{flat_map-append}
use Rattle.cany_model.proofs.Among.{Among, Each-of}

pub cons_same : {X : Type 0} (x y : X) (xs ys : List X) → x ∷ xs ≡ y ∷ ys → (x ≡ y) × (xs ≡ ys)
cons_same x y xs ys e = (cc, cc)

-- lists whose elements are told apart by what a function makes of them are told apart by the lists
-- that it makes
pub lists_same : {X Y : Type 0} (f : X → Y) (P : X → Type 0) → ((x y : X) → P x → P y → f x ≡ f y → x ≡ y) → (xs ys : List X)
    → AllByRecursion P xs → AllByRecursion P ys → map f xs ≡ map f ys → xs ≡ ys
lists_same f P one [] [] a b e = refl
lists_same f P one [] (y ∷ ys) a b e = absurd (cc)
lists_same f P one (x ∷ xs) [] a b e = absurd (cc)
lists_same f P one (x ∷ xs) (y ∷ ys) a b e =
    let parts = cons_same (f x) (f y) (map f xs) (map f ys) e in
    let first = one x y a.0 b.0 parts.0 in
    let rest = lists_same f P one xs ys a.1 b.1 parts.1 in
    cc

-- ---- lists of which the front has a property, and what comes next has not

-- the list is empty, or begins with an element of which the test fails
abbrev pub StopsAt : {X : Type 0} → (X → Bool) → List X → Type 0
StopsAt test [] = Unit {0}
StopsAt test (x ∷ xs) = test x ≡ false

abbrev pub Pass : {X : Type 0} → (X → Bool) → List X → Type 0
Pass test xs = AllByRecursion (λ x. test x ≡ true) xs

abbrev pub Fail : {X : Type 0} → (X → Bool) → List X → Type 0
Fail test xs = AllByRecursion (λ x. test x ≡ false) xs

pub stops-append : {X : Type 0} (test : X → Bool) (xs ys : List X) → Fail test xs → StopsAt test ys → StopsAt test (xs ++ ys)
stops-append test [] ys fail stop = stop
stops-append test (x ∷ xs) ys fail stop = fail.0

-- the front, and the rest
pub fronts_same : {X : Type 0} (test : X → Bool) (xs ys r s : List X) → Pass test xs → Pass test ys → StopsAt test r → StopsAt test s
    → xs ++ r ≡ ys ++ s → (xs ≡ ys) × (r ≡ s)
fronts_same test [] [] r s a b c d e = (refl, e)
fronts_same test [] (y ∷ ys) [] s a b c d e = absurd (cc)
fronts_same test [] (y ∷ ys) (x ∷ r) s a b c d e =
    absurd (false≢true (sym c ∙ ap test (cons_same x y r (ys ++ s) e).0 ∙ b.0))
fronts_same test (x ∷ xs) [] r [] a b c d e = absurd (cc)
fronts_same test (x ∷ xs) [] r (y ∷ s) a b c d e =
    absurd (false≢true (sym d ∙ ap test (sym (cons_same x y (xs ++ r) s e).0) ∙ a.0))
fronts_same test (x ∷ xs) (y ∷ ys) r s a b c d e =
    let same = cons_same x y (xs ++ r) (ys ++ s) e in
    let rest = fronts_same test xs ys r s a.1 b.1 c d same.1 in
    (cc, rest.1)

-- ---- what holds of each

pub always : {X : Type 0} (P : X → Type 0) → ((x : X) → P x) → (xs : List X) → AllByRecursion P xs
always P h [] = tt
always P h (x ∷ xs) = (h x, always P h xs)

pub among_numbers : (P : ℕ → Type 0) (first many i : ℕ) → first ≤ i → i < first + many → P i → Among P (range_with_len first many)
among_numbers P first zero i low high p = absurd (omega arith)
among_numbers P first (suc many) i low high p = elim (cases_eq i first) [
  | inl same ↦ inl (subst P same p)
  | inr other ↦ inr (among_numbers P (first + 1) many i (omega arith) (omega arith) p)
]

-- a number of the range that has the property
pub record AtNumber (P : ℕ → Type 0) (first many : ℕ) : Type 0 where
  pub at : ℕ
  pub low : first ≤ at
  pub high : at < first + many
  pub has : P at

pub number_among : (P : ℕ → Type 0) (first many : ℕ) → Among P (range_with_len first many) → AtNumber P first many
number_among P first zero h = absurd h
number_among P first (suc many) (inl p) = record { at = first; low = omega arith; high = omega arith; has = p }
number_among P first (suc many) (inr h) =
    let w = number_among P (first + 1) many h in
    record { at = w.at; low = omega (arith, w.low); high = omega (arith, w.high); has = w.has }

pub flat_map_alike : {X Y : Type 0} (f g : X → List Y) → ((x : X) → f x ≡ g x) → (xs : List X) → flat_map f xs ≡ flat_map g xs
flat_map_alike f g h [] = refl
flat_map_alike f g h (x ∷ xs) = ap (λ l. l ++ flat_map f xs) (h x) ∙ ap (λ l. g x ++ l) (flat_map_alike f g h xs)

pub flat_map_twice : {X Y Z : Type 0} (f : X → List Y) (h : Y → List Z) (xs : List X)
    → flat_map h (flat_map f xs) ≡ flat_map (λ x. flat_map h (f x)) xs
flat_map_twice f h [] = refl
flat_map_twice f h (x ∷ xs) = flat_map-append h (f x) (flat_map f xs) ∙ ap (λ l. flat_map h (f x) ++ l) (flat_map_twice f h xs)

-- a test that passes at each number of the range
pub at_number : (test : ℕ → Bool) (first many i : ℕ) → list_all test (range_with_len first many) ≡ true → first ≤ i → i < first + many
    → test i ≡ true
at_number test first zero i h low high = absurd (omega arith)
at_number test first (suc many) i h low high = elim (cases_eq i first) [
  | inl same ↦ ap test same ∙ (and_parts (test first) (list_all test (range_with_len (first + 1) many)) h).0
  | inr other ↦ at_number test (first + 1) many i (and_parts (test first) (list_all test (range_with_len (first + 1) many)) h).1
      (omega arith) (omega arith)
]

-- ---- what passes a test

passes_filter : (p : ℕ → Bool) (xs : List ℕ) → AllByRecursion (λ n. p n ≡ true) (filter p xs)
passes_filter p [] = tt
passes_filter p (x ∷ xs) =
    cond_both (p x) (x ∷ filter p xs) (filter p xs) (AllByRecursion (λ n. p n ≡ true)) (λ e. (e, passes_filter p xs))
    (λ _. passes_filter p xs)

among_filter : (p : ℕ → Bool) (xs : List ℕ) (i : ℕ) → p i ≡ true → Among (λ n. n ≡ i) xs → Among (λ n. n ≡ i) (filter p xs)
among_filter p [] i h a = a
among_filter p (x ∷ xs) i h (inl e) =
    cond_both (p x) (x ∷ filter p xs) (filter p xs) (Among (λ n. n ≡ i)) (λ _. inl e) (λ f. absurd (false≢true (sym f ∙ ap p e ∙ h)))
among_filter p (x ∷ xs) i h (inr a) =
    cond_both (p x) (x ∷ filter p xs) (filter p xs) (Among (λ n. n ≡ i)) (λ _. inr (among_filter p xs i h a)) (λ _. among_filter p xs i h a)

-- two tests that let through the same numbers
pub stands_in : (p q : ℕ → Bool) (xs : List ℕ) → filter p xs ≡ filter q xs → (i : ℕ) → Among (λ n. n ≡ i) xs → p i ≡ true → q i ≡ true
stands_in p q xs e i a h =
    Each-of (λ n. q n ≡ true) i (filter q xs) (passes_filter q xs) (subst (Among (λ n. n ≡ i)) e (among_filter p xs i h a))

pub tests_same : (a b : Bool) → (a ≡ true → b ≡ true) → (b ≡ true → a ≡ true) → a ≡ b
tests_same true b f g = sym (f refl)
tests_same false true f g = absurd (false≢true (g refl))
tests_same false false f g = refl
