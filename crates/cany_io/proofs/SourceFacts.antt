-- What two reads give together, and what a read leaves of bytes in memory.
use Rattle.std.proofs.Common.{◌≡◌, ℕ, ◌+◌, ◌<◌, ◌≤◌, List, ◌++◌, length, take, drop, Option, Some, None, refl, append_assoc, sym, ap, arith, length-append}
use Rattle.std.proofs.lemmas.List.{take-append-drop, drop-drop, length-take-le}
use Rattle.std.proofs.lemmas.Option.{same_Some}
use Rattle.std.specs.Prelude.{IfSome}
use Rattle.std.specs.Io.KnownBytes.{prepend_known}
use Rattle.cany_io.specs.Source.{Gives}

prepend_known-append : (xs ys : List ℕ) (known : Option (List ℕ)) → prepend_known xs (prepend_known ys known) ≡ prepend_known (xs ++ ys) known
prepend_known-append xs ys None = refl
prepend_known-append xs ys (Some zs) = ap Some (sym (append_assoc xs ys zs))

-- bytes that were given, and then more
pub Gives-append : (old mid new : Option (List ℕ)) (xs ys : List ℕ) → Gives old xs mid → Gives mid ys new → Gives old (xs ++ ys) new
Gives-append old mid new xs ys first second = rw (first, second) (prepend_known-append xs ys new)

-- who gave more than n bytes had more than n left, where they are told
pub given_more : (old new : Option (List ℕ)) (bytes : List ℕ) (n : ℕ) → Gives old bytes new → n < length bytes → IfSome old (λ left. n < length left)
given_more None new bytes n e more = tt
given_more (Some left) None bytes n e more = let no : Some left ≡ None = e in cc
given_more (Some left) (Some rest) bytes n e more = let same : left ≡ bytes ++ rest = same_Some left (bytes ++ rest) e in omega (arith, length-append bytes rest, ap length same, more)

-- a list, and then the first n of another
pub length-append-take : (xs ys : List ℕ) (n : ℕ) → n ≤ length ys → length (xs ++ take n ys) ≡ length xs + n
length-append-take xs ys n within = omega (arith, length-append xs (take n ys), length-take-le n ys within)

-- what is left at a place: its first n bytes, and then what is left n places on
pub take-append-drop-add : (bytes : List ℕ) (i n : ℕ) → take n (drop i bytes) ++ drop (i + n) bytes ≡ drop i bytes
take-append-drop-add bytes i n = rw (← drop-drop n i bytes) (take-append-drop n (drop i bytes))
