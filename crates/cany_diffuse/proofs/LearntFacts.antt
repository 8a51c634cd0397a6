-- What a copy calls for, from the count of copies.
use Rattle.std.specs.Prelude.{nat_le}
use Rattle.std.proofs.Common.{◌≡◌, ℕ, ◌+◌, ◌==◌, ◌&&◌, Bool, true, false, if◌then◌else◌, not, refl, sym}
use Rattle.std.proofs.lemmas.Bool.{and_parts}
use Rattle.cany_diffuse.specs.declared.learnt.Learnt.TheVariants.{First, Again, Enough}
use Rattle.cany_diffuse.specs.Eager.{is_enough, is_first_copy, learnt_of}

-- the first copy is the one that was counted first
pub first_copy_is : (omit c : ℕ) (own : Bool) → is_first_copy (learnt_of omit c own) ≡ (c == 1)
first_copy_is omit c own = go (nat_le (omit + 1) c) (c == 1 && not own) (λ first. (and_parts (c == 1) (not own) first).0)
  where
    go : (t u : Bool) → (u ≡ true → (c == 1) ≡ true) → is_first_copy (if t then Enough c else if u then First else Again c) ≡ (c == 1)
    go true u one = refl
    go false true one = sym (one refl)
    go false false one = refl

-- there are enough copies where there are more than omissions
pub enough_is : (omit c : ℕ) (own : Bool) → is_enough (learnt_of omit c own) ≡ nat_le (omit + 1) c
enough_is omit c own = go (nat_le (omit + 1) c) (c == 1 && not own)
  where
    go : (t u : Bool) → is_enough (if t then Enough c else if u then First else Again c) ≡ t
    go true u = refl
    go false true = refl
    go false false = refl
