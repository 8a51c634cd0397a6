-- Texts that are written one after another.
use Rattle.std.proofs.Common.{◌≡◌, ℕ, ◌+◌, ◌<◌, ◌≤◌, List, [], ◌∷◌, ◌++◌, length, map, take, drop, get_or, Option, Some, None, Ok, Err, refl, sym, ◌∙◌, ap, append_assoc, append-nil, arith}
use Rattle.std.specs.Prelude.{Result}
use Rattle.std.specs.List.{concat, flat_map}
use Rattle.std.proofs.lemmas.List.{take_more, take_all, take-append-drop}
use Rattle.std.proofs.lemmas.List.Concat.{flat_map-append}
use Rattle.std.specs.Io.KnownBytes.{append_known}
use Rattle.cany_io.specs.declared.failed.Failed.{Failed}
-- no contract speaks of two writes, one after another
use Rattle.cany_io.proofs.SinkFacts.{Takes-append, TakesPrefix-append, TakesPrefix-after}
use Rattle.cany_io.proofs.FaultFacts.{HasRisen-after}
use Rattle.cany_log.specs.Written.{IsWritten}

append_known-nil : (known : Option (List ℕ)) → append_known known [] ≡ known
append_known-nil None = refl
append_known-nil (Some xs) = ap Some (append-nil xs)

-- nothing is written
pub IsWritten-nothing : (old : Option (List ℕ)) (n : ℕ) → IsWritten [] (Ok tt) old old n n
IsWritten-nothing old n = record {
  bytes = sym (append_known-nil old);
  prefix = (0, omega arith, sym (append_known-nil old));
  count = omega arith;
  failed = tt;
}

-- one text and then another
pub IsWritten-then : (a b : List ℕ) (r : Result (Unit {0}) Failed) (s0 s1 s2 : Option (List ℕ)) (n0 n1 n2 : ℕ)
    → IsWritten a (Ok tt) s0 s1 n0 n1 → IsWritten b r s1 s2 n1 n2 → IsWritten (a ++ b) r s0 s2 n0 n2
IsWritten-then a b (Ok u) s0 s1 s2 n0 n1 n2 first second = record {
  bytes = Takes-append s0 s1 s2 a b first.bytes second.bytes;
  prefix = TakesPrefix-after s0 s1 s2 a b first.bytes second.prefix;
  count = omega (arith, first.count, second.count);
  failed = tt;
}
IsWritten-then a b (Err e) s0 s1 s2 n0 n1 n2 first second = record {
  bytes = tt;
  prefix = TakesPrefix-after s0 s1 s2 a b first.bytes second.prefix;
  count = omega (arith, first.count, second.count);
  failed = HasRisen-after n0 n1 n2 first.count second.failed;
}

-- the first of two texts is cut short
pub IsWritten-short : (a b : List ℕ) (e : Failed) (s0 s1 : Option (List ℕ)) (n0 n1 : ℕ)
    → IsWritten a (Err e) s0 s1 n0 n1 → IsWritten (a ++ b) (Err e) s0 s1 n0 n1
IsWritten-short a b e s0 s1 n0 n1 first = record {
  bytes = tt;
  prefix = TakesPrefix-append s0 s1 a b first.prefix;
  count = first.count;
  failed = first.failed;
}

-- what the items of a list give, up to one more
pub next_item : {X A : Type 0} (f : X → List A) (xs : List X) (i : ℕ) (x : X) → i < length xs → x ≡ get_or xs i x
    → flat_map f (take (i + 1) xs) ≡ flat_map f (take i xs) ++ f x
next_item f xs i x inside is =
    ap (flat_map f) (take_more xs i x inside ∙ ap (λ y. take i xs ++ y ∷ []) (sym is))
    ∙ flat_map-append f (take i xs) (x ∷ [])
    ∙ ap (λ r. flat_map f (take i xs) ++ r) (append-nil (f x))

-- Texts of the items of a list, one after another.
module _ {X : Type 0} (f : X → List ℕ) where
  all_items : (xs : List X) (i : ℕ) (x : X) → i < length xs → x ≡ get_or xs i x
      → flat_map f xs ≡ flat_map f (take i xs) ++ (f x ++ flat_map f (drop (i + 1) xs))
  all_items xs i x inside is =
      ap (flat_map f) (sym (take-append-drop (i + 1) xs))
      ∙ flat_map-append f (take (i + 1) xs) (drop (i + 1) xs)
      ∙ ap (λ r. r ++ flat_map f (drop (i + 1) xs)) (next_item f xs i x inside is)
      ∙ append_assoc (flat_map f (take i xs)) (f x) (flat_map f (drop (i + 1) xs))

  -- one more item is written
  pub IsWritten-next : (xs : List X) (i : ℕ) (x : X) (s0 s1 s2 : Option (List ℕ)) (n0 n1 n2 : ℕ) → IsWritten (flat_map f (take i xs)) (Ok tt) s0 s1 n0 n1
      → i < length xs → x ≡ get_or xs i x → IsWritten (f x) (Ok tt) s1 s2 n1 n2 → IsWritten (flat_map f (take (i + 1) xs)) (Ok tt) s0 s2 n0 n2
  IsWritten-next xs i x s0 s1 s2 n0 n1 n2 before inside is this =
      rw (next_item f xs i x inside is) (IsWritten-then (flat_map f (take i xs)) (f x) (Ok tt) s0 s1 s2 n0 n1 n2 before this)

  -- an item is cut short
  pub IsWritten-cut : (xs : List X) (i : ℕ) (x : X) (e : Failed) (s0 s1 s2 : Option (List ℕ)) (n0 n1 n2 : ℕ) → IsWritten (flat_map f (take i xs)) (Ok tt) s0 s1 n0 n1
      → i < length xs → x ≡ get_or xs i x → IsWritten (f x) (Err e) s1 s2 n1 n2 → IsWritten (flat_map f xs) (Err e) s0 s2 n0 n2
  IsWritten-cut xs i x e s0 s1 s2 n0 n1 n2 before inside is this =
      rw (all_items xs i x inside is) (IsWritten-then (flat_map f (take i xs)) (f x ++ flat_map f (drop (i + 1) xs)) (Err e) s0 s1 s2 n0 n1 n2
      before (IsWritten-short (f x) (flat_map f (drop (i + 1) xs)) e s1 s2 n1 n2 this))

  -- all items are written
  pub IsWritten-all : (xs : List X) (i : ℕ) (s0 s1 : Option (List ℕ)) (n0 n1 : ℕ) → IsWritten (flat_map f (take i xs)) (Ok tt) s0 s1 n0 n1
      → length xs ≤ i → IsWritten (flat_map f xs) (Ok tt) s0 s1 n0 n1
  IsWritten-all xs i s0 s1 n0 n1 before past = rw take_all at before

-- lines joined are the texts of the items
pub concat-map : {X : Type 0} (f : X → List ℕ) (xs : List X) → concat (map f xs) ≡ flat_map f xs
concat-map f [] = refl
concat-map f (x ∷ xs) = ap (λ r. f x ++ r) (concat-map f xs)
