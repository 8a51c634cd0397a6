-- Lists: what holds of each element, and where nothing is made of them.
use Rattle.std.proofs.Common.{◌≡◌, List, [], ◌∷◌, Contains, inl, inr, refl, ap, sym, ◌∙◌}
use Rattle.std.specs.Prelude.{filter_map, option_map, Option, Some, None}
use Rattle.std.specs.List.{AllByRecursion, cons_option}
use Rattle.cany_model.proofs.Among.{Among, Contains-from_Among}

-- what holds of each that a list contains holds of each of a list within it
pub each_of_list : {X : Type 0} (P : X → Type 0) (all xs : List X) → ((x : X) → Among (λ y. y ≡ x) xs → Among (λ y. y ≡ x) all) → ((x : X) → Contains all x → P x) → AllByRecursion P xs
each_of_list P all [] within f = tt
each_of_list P all (x ∷ xs) within f = (f x (Contains-from_Among all x (within x (inl refl))), each_of_list P all xs (λ y c. within y (inr c)) f)

pub no_map : {X Y : Type 0} (f : X → Y) (o : Option X) → option_map f o ≡ None → o ≡ None
no_map f None e = refl
no_map f (Some x) e = absurd (cc)

-- a list that is made of options is empty exactly where each of them is None
pub none_made : {X Y : Type 0} (f : X → Option Y) (xs : List X) → AllByRecursion (λ x. f x ≡ None) xs → filter_map f xs ≡ []
none_made f [] h = refl
none_made f (x ∷ xs) h = ap (λ o. cons_option o (filter_map f xs)) h.0 ∙ none_made f xs h.1

pub made_none : {X Y : Type 0} (f : X → Option Y) (xs : List X) → filter_map f xs ≡ [] → AllByRecursion (λ x. f x ≡ None) xs
made_none f [] h = tt
made_none {X = X} {Y = Y} f (x ∷ xs) h = by_first (λ rest. made_none f xs rest) (f x) refl
  where
    cons_nil : (y : Y) (ys : List Y) → y ∷ ys ≡ [] → ⊥
    cons_nil y ys e = absurd (cc)

    by_first : (filter_map f xs ≡ [] → AllByRecursion (λ z. f z ≡ None) xs) → (o : Option Y) → f x ≡ o → AllByRecursion (λ z. f z ≡ None) (x ∷ xs)
    by_first later None e = (e, later (sym (ap (λ o. cons_option o (filter_map f xs)) e) ∙ h))
    by_first later (Some y) e = absurd (cons_nil y (filter_map f xs) (sym (ap (λ o. cons_option o (filter_map f xs)) e) ∙ h))
