-- What the search for the first item of which a test holds finds. The test is told the items
-- before, the newest first.
use Rattle.std.proofs.Common.{◌≡◌, ℕ, zero, suc, ◌<◌, ◌+◌, Bool, true, false, ◌||◌, List, [], ◌∷◌, ◌++◌, length, take, get_or, Option, Some, None, refl, ap, sym, ◌∙◌, append_assoc, arith}
use Rattle.std.specs.Prelude.{if◌then◌else◌, count_by, reverse}
use Rattle.std.specs.List.{list_any}
use Rattle.std.proofs.lemmas.List.{append-nil, reverse-append}
use Rattle.std.proofs.lemmas.List.Folds.{list_any-append}
use Rattle.std.proofs.lemmas.List.Sums.{sum_by-append, sum_by-cons}
use Rattle.std.specs.Prelude.{cond}
use Rattle.cany_text.specs.TomlKeys.{first_after}

-- the test at an item by its place, where these stand before all
abbrev pub holds_after : {A : Type 0} → (List A → A → Bool) → List A → List A → ℕ → A → Bool
holds_after test before items k d = test (reverse (take k items) ++ before) (get_or items k d)

-- the same where nothing stands before
abbrev pub holds_at : {A : Type 0} → (List A → A → Bool) → List A → ℕ → A → Bool
holds_at test items k d = test (reverse (take k items)) (get_or items k d)

passed_over : (test : Bool) (place : ℕ) (later : Option ℕ) → (if test then Some place else later) ≡ None → (test ≡ false) × (later ≡ None)
passed_over true place later h = cc h
passed_over false place later h = (refl, h)

-- the first of some items is not one, and none of the others is
pub none_after : {A : Type 0} (test : List A → A → Bool) (before : List A) (x : A) (rest : List A)
    → first_after test before (x ∷ rest) ≡ None
    → (test before x ≡ false) × (first_after test (x ∷ before) rest ≡ None)
none_after test before x rest h = passed_over (test before x) (length before) (first_after test (x ∷ before) rest) h

-- ---- by place, the first item apart

reverse-cons : {A : Type 0} (x : A) (xs before : List A) → reverse (x ∷ xs) ++ before ≡ reverse xs ++ x ∷ before
reverse-cons x xs before = ap (λ l. l ++ before) (reverse-append (x ∷ []) xs) ∙ append_assoc (reverse xs) (x ∷ []) before

-- the test at an item behind the first is the test among the others
shifted : {A : Type 0} (test : List A → A → Bool) (before : List A) (x : A) (rest : List A) (k : ℕ) (d : A)
    → holds_after test before (x ∷ rest) (suc k) d ≡ holds_after test (x ∷ before) rest k d
shifted test before x rest k d = ap (λ b. test b (get_or rest k d)) (reverse-cons x (take k rest) before)

fails_after : {A : Type 0} (test : List A → A → Bool) (before items : List A) → first_after test before items ≡ None
    → (k : ℕ) (d : A) → k < length items → holds_after test before items k d ≡ false
fails_after test before [] h k d within = absurd (omega arith)
fails_after test before (x ∷ rest) h zero d within = (none_after test before x rest h).0
fails_after test before (x ∷ rest) h (suc k) d within =
    shifted test before x rest k d ∙ fails_after test (x ∷ before) rest (none_after test before x rest h).1 k d (omega arith)

none_where : {A : Type 0} (test : List A → A → Bool) (before items : List A)
    → ((k : ℕ) (d : A) → k < length items → holds_after test before items k d ≡ false) → first_after test before items ≡ None
none_where test before [] fails = refl
none_where test before (x ∷ rest) fails =
    let first : test before x ≡ false = fails 0 x (omega arith) in
    rw first (none_where test (x ∷ before) rest (λ k d within. sym (shifted test before x rest k d) ∙ fails (suc k) d (omega arith)))

some_where : {A : Type 0} (test : List A → A → Bool) (before items : List A) (k : ℕ) (d : A) → k < length items
    → ((j : ℕ) → j < k → holds_after test before items j d ≡ false) → holds_after test before items k d ≡ true
    → first_after test before items ≡ Some (length before + k)
some_where test before [] k d within fails here = absurd (omega arith)
some_where test before (x ∷ rest) zero d within fails here = rw here (ap Some (omega arith))
some_where test before (x ∷ rest) (suc k) d within fails here =
    let first : test before x ≡ false = fails 0 (omega arith) in
    let later = some_where test (x ∷ before) rest k d (omega arith)
    (λ j below. sym (shifted test before x rest j d) ∙ fails (suc j) (omega arith)) (sym (shifted test before x rest k d) ∙ here) in
    rw first (later ∙ ap Some (omega arith))

-- ---- by place

nothing_before : {A : Type 0} (test : List A → A → Bool) (items : List A) (k : ℕ) (d : A)
    → holds_after test [] items k d ≡ holds_at test items k d
nothing_before test items k d = ap (λ b. test b (get_or items k d)) (append-nil (reverse (take k items)))

-- where nothing is found, the test holds of no item
pub first_after-fails : {A : Type 0} (test : List A → A → Bool) (items : List A) → first_after test [] items ≡ None
    → (k : ℕ) (d : A) → k < length items → holds_at test items k d ≡ false
first_after-fails test items h k d within = sym (nothing_before test items k d) ∙ fails_after test [] items h k d within

-- where the test holds of no item, nothing is found
pub first_after-none : {A : Type 0} (test : List A → A → Bool) (items : List A)
    → ((k : ℕ) (d : A) → k < length items → holds_at test items k d ≡ false)
    → first_after test [] items ≡ None
first_after-none test items fails = none_where test [] items (λ k d within. nothing_before test items k d ∙ fails k d within)

-- an item of which it holds, where it holds of none before, is found
pub first_after-some : {A : Type 0} (test : List A → A → Bool) (items : List A) (k : ℕ) (d : A) → k < length items
    → ((j : ℕ) → j < k → holds_at test items j d ≡ false) → holds_at test items k d ≡ true → first_after test [] items ≡ Some k
first_after-some test items k d within fails here =
    some_where test [] items k d within (λ j below. nothing_before test items j d ∙ fails j below) (nothing_before test items k d ∙ here)
    ∙ ap Some (omega arith)

-- ---- tests that do not ask for the order of the items before

or_last : (a b : Bool) → (a || (b || false)) ≡ (b || a)
or_last true true = refl
or_last true false = refl
or_last false true = refl
or_last false false = refl

pub list_any-reverse : {A : Type 0} (p : A → Bool) (xs : List A) → list_any p (reverse xs) ≡ list_any p xs
list_any-reverse p [] = refl
list_any-reverse p (x ∷ xs) =
    ap (list_any p) (reverse-append (x ∷ []) xs) ∙ list_any-append p (reverse xs) (x ∷ [])
    ∙ ap (λ b. b || (p x || false)) (list_any-reverse p xs) ∙ or_last (list_any p xs) (p x)

pub count_by-reverse : {A : Type 0} (p : A → Bool) (xs : List A) → count_by p (reverse xs) ≡ count_by p xs
count_by-reverse p [] = refl
count_by-reverse p (x ∷ xs) =
    let f : _ → ℕ = λ y. cond (p y) 1 0 in
    ap (count_by p) (reverse-append (x ∷ []) xs)
    ∙ omega (arith, sum_by-append f (reverse xs) (x ∷ []), sum_by-cons f x xs, count_by-reverse p xs)
