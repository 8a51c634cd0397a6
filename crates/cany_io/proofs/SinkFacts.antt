-- What two writes take together.
use Rattle.std.proofs.Common.{◌≡◌, ℕ, ◌+◌, List, ◌++◌, length, take, drop, Option, Some, None, refl, append_assoc, ap, arith, length-append}
use Rattle.std.proofs.Math.Seq.{take-add, take-append-add}
use Rattle.std.proofs.lemmas.List.{take-append-le}
use Rattle.std.specs.Io.KnownBytes.{append_known}
use Rattle.cany_io.specs.Sink.{Takes, TakesPrefix}

append_known-append : (known : Option (List ℕ)) (xs ys : List ℕ) → append_known (append_known known xs) ys ≡ append_known known (xs ++ ys)
append_known-append None xs ys = refl
append_known-append (Some zs) xs ys = ap Some (append_assoc zs xs ys)

-- bytes that were taken, and then more
pub Takes-append : (old mid new : Option (List ℕ)) (xs ys : List ℕ) → Takes old xs mid → Takes mid ys new → Takes old (xs ++ ys) new
Takes-append old mid new xs ys first second = rw (second, first) (append_known-append old xs ys)

-- the first i bytes, and then the first n of the others
pub Takes-take-add : (old mid new : Option (List ℕ)) (bytes : List ℕ) (i n : ℕ) → Takes old (take i bytes) mid → Takes mid (take n (drop i bytes)) new → Takes old (take (i + n) bytes) new
Takes-take-add old mid new bytes i n first second = rw (take-add i n bytes) (Takes-append old mid new (take i bytes) (take n (drop i bytes)) first second)

-- a prefix of bytes is one of a longer list
pub TakesPrefix-append : (old new : Option (List ℕ)) (xs ys : List ℕ) → TakesPrefix old xs new → TakesPrefix old (xs ++ ys) new
TakesPrefix-append old new xs ys (n, within, taken) = (n, omega (arith, length-append xs ys), rw take-append-le taken)

-- bytes that were taken, and then a prefix of more
pub TakesPrefix-after : (old mid new : Option (List ℕ)) (xs ys : List ℕ) → Takes old xs mid → TakesPrefix mid ys new → TakesPrefix old (xs ++ ys) new
TakesPrefix-after old mid new xs ys first (n, within, taken) =
    (length xs + n, omega (arith, length-append xs ys), rw take-append-add (Takes-append old mid new xs (take n ys) first taken))
