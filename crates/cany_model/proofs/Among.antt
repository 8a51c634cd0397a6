-- That some element of a list has a property, by cases on the list.
use Rattle.std.proofs.Common.{◌≡◌, ℕ, zero, suc, ◌+◌, ◌<◌, ◌≤◌, ◌⊎◌, inl, inr, Bool, true, false, cond, List, [], ◌∷◌, ◌++◌, map, filter, drop, length, get_or, Contains, count_by, refl, subst, arith, suc-le-suc, le_of_suc-le-suc}
use Rattle.std.specs.List.{AllByRecursion, flat_map, list_any}
use Rattle.std.proofs.lemmas.Bool.{or_cases, or_left, or_right, false≢true, cond-true, cond-false, cond_both, cases_Bool}
use Rattle.std.proofs.lemmas.List.Sums.{sum_by-cons}

abbrev pub Among : {X : Type 0} → (X → Type 0) → List X → Type 0
Among P [] = ⊥
Among P (x ∷ xs) = P x ⊎ Among P xs

pub Among-weaker : {X : Type 0} (P Q : X → Type 0) → ((x : X) → P x → Q x) → (xs : List X) → Among P xs → Among Q xs
Among-weaker P Q f [] h = h
Among-weaker P Q f (x ∷ xs) (inl p) = inl (f x p)
Among-weaker P Q f (x ∷ xs) (inr h) = inr (Among-weaker P Q f xs h)

-- an element that has the property, and what every element has
pub Among-with : {X : Type 0} (P Q : X → Type 0) (xs : List X) → AllByRecursion Q xs → Among P xs → Among (λ x. P x × Q x) xs
Among-with P Q [] all h = h
Among-with P Q (x ∷ xs) all (inl p) = inl (p, all.0)
Among-with P Q (x ∷ xs) all (inr h) = inr (Among-with P Q xs all.1 h)

pub Among-either : {X : Type 0} (P Q : X → Type 0) (xs : List X) → Among (λ x. P x ⊎ Q x) xs → Among P xs ⊎ Among Q xs
Among-either P Q [] h = absurd h
Among-either P Q (x ∷ xs) (inl (inl p)) = inl (inl p)
Among-either P Q (x ∷ xs) (inl (inr q)) = inr (inl q)
Among-either P Q (x ∷ xs) (inr h) = elim (Among-either P Q xs h) [ inl a ↦ inl (inr a) | inr b ↦ inr (inr b) ]

-- what follows from an element that has the property
pub Among-gives : {X : Type 0} (P : X → Type 0) (C : Type 0) → ((x : X) → P x → C) → (xs : List X) → Among P xs → C
Among-gives P C f [] h = absurd h
Among-gives P C f (x ∷ xs) (inl p) = f x p
Among-gives P C f (x ∷ xs) (inr h) = Among-gives P C f xs h

pub Among-drop : {X : Type 0} (P : X → Type 0) (n : ℕ) (xs : List X) → Among P (drop n xs) → Among P xs
Among-drop P zero xs h = h
Among-drop P (suc n) [] h = h
Among-drop P (suc n) (x ∷ xs) h = inr (Among-drop P n xs h)

pub Each-drop : {X : Type 0} (P : X → Type 0) (n : ℕ) (xs : List X) → AllByRecursion P xs → AllByRecursion P (drop n xs)
Each-drop P zero xs h = h
Each-drop P (suc n) [] h = h
Each-drop P (suc n) (x ∷ xs) h = Each-drop P n xs h.1

pub Each-weaker : {X : Type 0} (P Q : X → Type 0) → ((x : X) → P x → Q x) → (xs : List X) → AllByRecursion P xs → AllByRecursion Q xs
Each-weaker P Q f [] h = tt
Each-weaker P Q f (x ∷ xs) h = (f x h.0, Each-weaker P Q f xs h.1)

-- what every element has, one of them has
pub Each-of : {X : Type 0} (P : X → Type 0) (x : X) (xs : List X) → AllByRecursion P xs → Among (λ y. y ≡ x) xs → P x
Each-of P x [] all h = absurd h
Each-of P x (y ∷ xs) all (inl e) = subst P e all.0
Each-of P x (y ∷ xs) all (inr h) = Each-of P x xs all.1 h

pub Among-from_map : {X Y : Type 0} (f : X → Y) (P : Y → Type 0) (xs : List X) → Among P (map f xs) → Among (λ x. P (f x)) xs
Among-from_map f P [] h = h
Among-from_map f P (x ∷ xs) (inl p) = inl p
Among-from_map f P (x ∷ xs) (inr h) = inr (Among-from_map f P xs h)

pub Among-map : {X Y : Type 0} (f : X → Y) (P : Y → Type 0) (xs : List X) → Among (λ x. P (f x)) xs → Among P (map f xs)
Among-map f P [] h = h
Among-map f P (x ∷ xs) (inl p) = inl p
Among-map f P (x ∷ xs) (inr h) = inr (Among-map f P xs h)

pub Among-append_left : {X : Type 0} (P : X → Type 0) (xs ys : List X) → Among P xs → Among P (xs ++ ys)
Among-append_left P [] ys h = absurd h
Among-append_left P (x ∷ xs) ys (inl p) = inl p
Among-append_left P (x ∷ xs) ys (inr h) = inr (Among-append_left P xs ys h)

pub Among-append_right : {X : Type 0} (P : X → Type 0) (xs ys : List X) → Among P ys → Among P (xs ++ ys)
Among-append_right P [] ys h = h
Among-append_right P (x ∷ xs) ys h = inr (Among-append_right P xs ys h)

pub Among-append_cases : {X : Type 0} (P : X → Type 0) (xs ys : List X) → Among P (xs ++ ys) → Among P xs ⊎ Among P ys
Among-append_cases P [] ys h = inr h
Among-append_cases P (x ∷ xs) ys (inl p) = inl (inl p)
Among-append_cases P (x ∷ xs) ys (inr h) = elim (Among-append_cases P xs ys h) [ inl a ↦ inl (inr a) | inr b ↦ inr b ]

pub Each-append : {X : Type 0} (P : X → Type 0) (xs ys : List X) → AllByRecursion P xs → AllByRecursion P ys → AllByRecursion P (xs ++ ys)
Each-append P [] ys a b = b
Each-append P (x ∷ xs) ys a b = (a.0, Each-append P xs ys a.1 b)

-- what each of two lists one after another has, each of the first has, and each of the second
pub Each-first : {X : Type 0} (P : X → Type 0) (xs ys : List X) → AllByRecursion P (xs ++ ys) → AllByRecursion P xs
Each-first P [] ys h = tt
Each-first P (x ∷ xs) ys h = (h.0, Each-first P xs ys h.1)

pub Each-second : {X : Type 0} (P : X → Type 0) (xs ys : List X) → AllByRecursion P (xs ++ ys) → AllByRecursion P ys
Each-second P [] ys h = h
Each-second P (x ∷ xs) ys h = Each-second P xs ys h.1

-- of lists one after another
pub Among-from_flat_map : {X Y : Type 0} (f : X → List Y) (P : Y → Type 0) (xs : List X) → Among P (flat_map f xs) → Among (λ x. Among P (f x)) xs
Among-from_flat_map f P [] h = h
Among-from_flat_map f P (x ∷ xs) h = elim (Among-append_cases P (f x) (flat_map f xs) h) [ inl a ↦ inl a | inr b ↦ inr (Among-from_flat_map f P xs b) ]

pub Among-flat_map : {X Y : Type 0} (f : X → List Y) (P : Y → Type 0) (xs : List X) → Among (λ x. Among P (f x)) xs → Among P (flat_map f xs)
Among-flat_map f P [] h = h
Among-flat_map f P (x ∷ xs) (inl a) = Among-append_left P (f x) (flat_map f xs) a
Among-flat_map f P (x ∷ xs) (inr b) = Among-append_right P (f x) (flat_map f xs) (Among-flat_map f P xs b)

pub Each-flat_map : {X Y : Type 0} (f : X → List Y) (P : Y → Type 0) (xs : List X)
    → AllByRecursion (λ x. AllByRecursion P (f x)) xs → AllByRecursion P (flat_map f xs)
Each-flat_map f P [] h = tt
Each-flat_map f P (x ∷ xs) h = Each-append P (f x) (flat_map f xs) h.0 (Each-flat_map f P xs h.1)

pub Each-map : {X Y : Type 0} (f : X → Y) (P : Y → Type 0) (xs : List X) → AllByRecursion (λ x. P (f x)) xs → AllByRecursion P (map f xs)
Each-map f P [] h = tt
Each-map f P (x ∷ xs) h = (h.0, Each-map f P xs h.1)

pub Each-filter : {X : Type 0} (P : X → Type 0) (p : X → Bool) (xs : List X) → AllByRecursion P xs → AllByRecursion P (filter p xs)
Each-filter P p [] h = tt
Each-filter P p (x ∷ xs) h =
    cond_both (p x) (x ∷ filter p xs) (filter p xs) (AllByRecursion P) (λ _. (h.0, Each-filter P p xs h.1)) (λ _. Each-filter P p xs h.1)

-- between the test and the property
pub Among-from_any : {X : Type 0} (p : X → Bool) (xs : List X) → list_any p xs ≡ true → Among (λ x. p x ≡ true) xs
Among-from_any p [] h = absurd (false≢true h)
Among-from_any p (x ∷ xs) h = elim (or_cases (p x) (list_any p xs) h) [ inl a ↦ inl a | inr b ↦ inr (Among-from_any p xs b) ]

pub any-from_Among : {X : Type 0} (p : X → Bool) (xs : List X) → Among (λ x. p x ≡ true) xs → list_any p xs ≡ true
any-from_Among p [] h = absurd h
any-from_Among p (x ∷ xs) (inl a) = or_left (p x) (list_any p xs) a
any-from_Among p (x ∷ xs) (inr b) = or_right (p x) (list_any p xs) (any-from_Among p xs b)

-- between the count and the property
pub count-cons : {X : Type 0} (p : X → Bool) (x : X) (xs : List X) → count_by p (x ∷ xs) ≡ cond (p x) 1 0 + count_by p xs
count-cons p x xs = sum_by-cons (λ y. cond (p y) 1 0) x xs

pub count-yes : {X : Type 0} (p : X → Bool) (x : X) (xs : List X) → p x ≡ true → count_by p (x ∷ xs) ≡ suc (count_by p xs)
count-yes p x xs e = omega (arith, cond-true {A = ℕ} (p x) 1 0 e, count-cons p x xs)

pub count-no : {X : Type 0} (p : X → Bool) (x : X) (xs : List X) → p x ≡ false → count_by p (x ∷ xs) ≡ count_by p xs
count-no p x xs e = omega (arith, cond-false {A = ℕ} (p x) 1 0 e, count-cons p x xs)

pub count-grows : {X : Type 0} (p : X → Bool) (x : X) (xs : List X) → count_by p xs ≤ count_by p (x ∷ xs)
count-grows p x xs = omega (arith, count-cons p x xs)

pub count-from_Among : {X : Type 0} (p : X → Bool) (xs : List X) → Among (λ x. p x ≡ true) xs → 0 < count_by p xs
count-from_Among p [] h = absurd h
count-from_Among p (x ∷ xs) (inl a) = omega (arith, count-yes p x xs a)
count-from_Among p (x ∷ xs) (inr b) = omega (arith, count-grows p x xs, count-from_Among p xs b)

pub Among-from_count : {X : Type 0} (p : X → Bool) (xs : List X) → 0 < count_by p xs → Among (λ x. p x ≡ true) xs
Among-from_count p [] h = absurd (omega arith)
Among-from_count p (x ∷ xs) h = elim (cases_Bool (p x)) [
  | inl e ↦ inl e
  | inr e ↦ inr (Among-from_count p xs (omega (arith, count-no p x xs e)))
]

pub count-drop : {X : Type 0} (p : X → Bool) (n : ℕ) (xs : List X) → count_by p (drop n xs) ≤ count_by p xs
count-drop p zero xs = omega arith
count-drop p (suc n) [] = omega arith
count-drop p (suc n) (x ∷ xs) = omega (arith, count-drop p n xs, count-grows p x xs)

-- what one element adds to a count
abbrev pub one_if : Bool → ℕ
one_if b = cond b 1 0

pub one_at_most : (b : Bool) → one_if b ≤ 1
one_at_most true = omega arith
one_at_most false = omega arith

-- an element at a place that has the property
pub Among-get_or : {X : Type 0} (P : X → Type 0) (xs : List X) (k : ℕ) (d : X) → k < length xs → P (get_or xs k d) → Among P xs
Among-get_or P [] k d within p = absurd (omega arith)
Among-get_or P (x ∷ xs) zero d within p = inl p
Among-get_or P (x ∷ xs) (suc k) d within p = inr (Among-get_or P xs k d (omega arith) p)

-- the place of an element past the first n
pub Among-place : {X : Type 0} (P : X → Type 0) (d : X) (n : ℕ) (xs : List X) → Among P (drop n xs) → (k : ℕ) × (n ≤ k) × (k < length xs) × P (get_or xs k d)
Among-place P d zero [] h = absurd h
Among-place P d zero (x ∷ xs) (inl p) = (0, omega arith, omega arith, p)
Among-place P d zero (x ∷ xs) (inr h) = let w = Among-place P d zero xs h in (suc w.0, omega arith, suc-le-suc w.2, w.3)
Among-place P d (suc n) [] h = absurd h
Among-place P d (suc n) (x ∷ xs) h = let w = Among-place P d n xs h in (suc w.0, suc-le-suc w.1, suc-le-suc w.2, w.3)

-- ---- by `Contains`

pub Contains-cons : {X : Type 0} (x y : X) (xs : List X) → Contains xs y → Contains (x ∷ xs) y
Contains-cons x y xs c = (suc c.0, suc-le-suc c.1, c.2)

pub Contains-head : {X : Type 0} (x : X) (xs : List X) → Contains (x ∷ xs) x
Contains-head x xs = (0, omega arith, refl)

pub Contains-cons_cases : {X : Type 0} (x y : X) (xs : List X) → Contains (x ∷ xs) y → (x ≡ y) ⊎ Contains xs y
Contains-cons_cases {X} x y xs c = go c.0 c.1 c.2
  where
    go : (k : ℕ) → k < length (x ∷ xs) → get_or (x ∷ xs) k y ≡ y → (x ≡ y) ⊎ Contains xs y
    go zero h e = inl e
    go (suc k) h e = inr (k, le_of_suc-le-suc h, e)

pub Contains-none : {X : Type 0} (x : X) → Contains [] x → ⊥
Contains-none x c = omega (arith, c.1)

pub Contains-one : {X : Type 0} (x y : X) → Contains (x ∷ []) y → x ≡ y
Contains-one x y c = elim (Contains-cons_cases x y [] c) [ inl e ↦ e | inr none ↦ absurd (Contains-none y none) ]

pub Among-from_Contains : {X : Type 0} (xs : List X) (x : X) → Contains xs x → Among (λ y. y ≡ x) xs
Among-from_Contains xs x c = Among-get_or (λ y. y ≡ x) xs c.0 x c.1 c.2

pub Contains-from_Among : {X : Type 0} (xs : List X) (x : X) → Among (λ y. y ≡ x) xs → Contains xs x
Contains-from_Among [] x h = absurd h
Contains-from_Among (y ∷ ys) x (inl e) = (0, omega arith, e)
Contains-from_Among (y ∷ ys) x (inr h) = Contains-cons y x ys (Contains-from_Among ys x h)

-- the element that has the property
pub Among-which : {X : Type 0} (P : X → Type 0) (xs : List X) → Among P xs → (x : X) × Contains xs x × P x
Among-which P [] h = absurd h
Among-which P (x ∷ xs) (inl p) = (x, Contains-head x xs, p)
Among-which P (x ∷ xs) (inr h) = let w = Among-which P xs h in (w.0, Contains-cons x w.0 xs w.1, w.2)
