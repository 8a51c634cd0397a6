-- What is found of the entries of a list, one after another, and all of it.
use Rattle.std.proofs.Common.{◌≡◌, ℕ, ◌+◌, ◌<◌, ◌≤◌, Bool, true, false, List, [], ◌∷◌, ◌++◌, Option, Some, None, length, get_or, map, take, refl, ap, sym, ◌∙◌, arith, append_assoc}
use Rattle.std.specs.Prelude.{if◌then◌else◌, option_map}
use Rattle.std.proofs.lemmas.List.{append-nil, map-append, length-take-le, take_all, take_more}
use Rattle.cany_check.specs.declared.unused_entries.unused_entry.Unused.{Unused}
use Rattle.cany_check.specs.declared.unused_entries.unused_entry.UnusedEntry.{UnusedEntry}
use Rattle.cany_check.specs.Idle.Unused.{as_list, with_places}

-- an entry for each reason
pub as_entries : {Y : Type 0} (g : Y → UnusedEntry) (place : ℕ) (o : Option Y)
    → map {B = Unused} (λ (e : UnusedEntry). record { place = place; entry = e }) (as_list (option_map g o)) ≡ map {B = Unused} (λ y. record { place = place; entry = g y }) (as_list o)
as_entries g place None = refl
as_entries g place (Some y) = refl

module _ {X Y : Type 0} (f : X → List Y) (g : Y → UnusedEntry) where
  abbrev at_place : ℕ → Y → Unused
  at_place place y = record { place = place; entry = g y }

  one_more : (place : ℕ) (xs : List X) (x : X) → with_places f g place (xs ++ x ∷ []) ≡ with_places f g place xs ++ map (at_place (place + length xs)) (f x)
  unfolding with_places
  one_more place [] x = append-nil (map (at_place place) (f x)) ∙ ap (λ n. map (at_place n) (f x)) (omega arith)
  one_more place (y ∷ xs) x =
      ap (λ l. map (at_place place) (f y) ++ l) (one_more (place + 1) xs x ∙ ap (λ n. with_places f g (place + 1) xs ++ map (at_place n) (f x)) (omega arith))
      ∙ sym (append_assoc (map (at_place place) (f y)) (with_places f g (place + 1) xs) (map (at_place (place + length (y ∷ xs))) (f x)))

  pub found_more : (xs : List X) (i : ℕ) (x : X) (old found found' : List Unused) → i < length xs → x ≡ get_or xs i x → found ≡ old ++ with_places f g 0 (take i xs)
      → found' ≡ found ++ map (λ y. record { place = i; entry = g y }) (f x) → found' ≡ old ++ with_places f g 0 (take (i + 1) xs)
  found_more xs i x old found found' below at so more =
      let here : take (i + 1) xs ≡ take i xs ++ x ∷ [] = take_more xs i x below ∙ ap (λ y. take i xs ++ y ∷ []) (sym at) in
      more ∙ ap (λ l. l ++ map (at_place i) (f x)) so ∙ append_assoc old (with_places f g 0 (take i xs)) (map (at_place i) (f x))
      ∙ ap (λ n. old ++ (with_places f g 0 (take i xs) ++ map (at_place n) (f x))) (omega (arith, length-take-le i xs (omega (arith, below))))
      ∙ ap (λ l. old ++ l) (sym (one_more 0 (take i xs) x))
      ∙ ap (λ l. old ++ with_places f g 0 l) (sym here)

  -- of all entries, where the list is that of the scenario
  pub all_found : (xs all : List X) (i : ℕ) (old found : List Unused) → length xs ≤ i → xs ≡ all → found ≡ old ++ with_places f g 0 (take i xs) → found ≡ old ++ with_places f g 0 all
  all_found xs all i old found past is so = so ∙ ap (λ l. old ++ with_places f g 0 l) (take_all i xs past ∙ is)

  pub none_found : (old : List Unused) → old ≡ old ++ with_places f g 0 []
  unfolding with_places
  none_found old = sym (append-nil old)

pub if_list : {Y : Type 0} (b : Bool) (y : Y) → as_list (if b then Some y else None) ≡ (if b then y ∷ [] else [])
if_list true y = refl
if_list false y = refl

-- five parts, found one after another
pub five_found : {X : Type 0} (a b c d e none first second third fourth all : List X) → none ≡ [] → first ≡ none ++ a → second ≡ first ++ b → third ≡ second ++ c
    → fourth ≡ third ++ d → all ≡ fourth ++ e → all ≡ (((a ++ b) ++ c) ++ d) ++ e
five_found a b c d e none first second third fourth all h0 h1 h2 h3 h4 h5 =
    h5 ∙ ap (λ l. l ++ e) (h4 ∙ ap (λ l. l ++ d) (h3 ∙ ap (λ l. l ++ c) (h2 ∙ ap (λ l. l ++ b) (h1 ∙ ap (λ l. l ++ a) h0))))

module _ {X Y : Type 0} (g : Y → UnusedEntry) (xs : List X) (i : ℕ) (x : X) where
  abbrev at_place_of : List UnusedEntry → List Unused
  at_place_of es = map {B = Unused} (λ (e : UnusedEntry). record { place = i; entry = e }) es

  abbrev reason_at : Y → Unused
  reason_at y = record { place = i; entry = g y }

  abbrev of_reasons : List Y → List Unused
  of_reasons ys = map reason_at ys

  -- where an entry has one reason at most
  pub found_next : (h : X → Option Y) (o : Option Y) (e : Option UnusedEntry) (old found found' : List Unused) → i < length xs → x ≡ get_or xs i x
      → found ≡ old ++ with_places (λ y. as_list (h y)) g 0 (take i xs) → o ≡ h x → e ≡ option_map g o → found' ≡ found ++ at_place_of (as_list e)
      → found' ≡ old ++ with_places (λ y. as_list (h y)) g 0 (take (i + 1) xs)
  found_next h o e old found found' below at so is made more =
      found_more (λ y. as_list (h y)) g xs i x old found found' below at so
      (more ∙ ap (λ z. found ++ at_place_of (as_list z)) (made ∙ ap (option_map g) is) ∙ ap (λ l. found ++ l) (as_entries g i (h x)))

  -- and where it has two
  pub found_two : (f : X → List Y) (v w : Option Y) (first second : Option UnusedEntry) (old found mid found' : List Unused) → i < length xs → x ≡ get_or xs i x
      → found ≡ old ++ with_places f g 0 (take i xs) → as_list v ++ as_list w ≡ f x → first ≡ option_map g v → second ≡ option_map g w
      → mid ≡ found ++ at_place_of (as_list first) → found' ≡ mid ++ at_place_of (as_list second) → found' ≡ old ++ with_places f g 0 (take (i + 1) xs)
  found_two f v w first second old found mid found' below at so is made made' more more' =
      found_more f g xs i x old found found' below at so
      (more' ∙ ap (λ l. l ++ at_place_of (as_list second)) more ∙ append_assoc found (at_place_of (as_list first)) (at_place_of (as_list second))
      ∙ ap (λ z. found ++ (at_place_of (as_list z) ++ at_place_of (as_list second))) made
      ∙ ap (λ l. found ++ (l ++ at_place_of (as_list second))) (as_entries g i v)
      ∙ ap (λ z. found ++ (of_reasons (as_list v) ++ at_place_of (as_list z))) made'
      ∙ ap (λ l. found ++ (of_reasons (as_list v) ++ l)) (as_entries g i w)
      ∙ ap (λ l. found ++ l) (sym (map-append reason_at (as_list v) (as_list w)))
      ∙ ap (λ ys. found ++ of_reasons ys) is)
