-- What is noted of the open messages once one was removed, placed or noted anew.
use Rattle.std.proofs.Common.{◌≡◌, ℕ, zero, suc, ◌+◌, ◌-◌, ◌<◌, ◌≤◌, ◌==◌, ◌||◌, Bool, true, false, if◌then◌else◌, inl, inr, List, [], ◌∷◌, ◌++◌, drop, length, Option, Some, None, refl, ap, sym, ◌∙◌, arith}
use Rattle.std.specs.Prelude.{IfSome, option_map, remove, slice_get, slice_index_or, slice_set}
use Rattle.std.specs.List.{list_any}
use Rattle.std.proofs.lemmas.Bool.{cases_Bool, false≢true, false_from_ne_true, or_parts}
use Rattle.std.proofs.lemmas.Bool.Decides.{nat_tests}
use Rattle.cany_base.specs.declared.message.MsgKey.{MsgKey}
use Rattle.cany_model.specs.Rules.Totcan.{message_in}
use Rattle.cany_totcan.specs.declared.queue.Noted.{Noted}
use Rattle.cany_totcan.specs.declared.queue.Open.{Open}
use Rattle.cany_totcan.specs.declared.queue.Placed.{Placed}
use Rattle.cany_totcan.specs.Acceptances.{IsNoted, forgotten, is_same, noted_of, nothing, placed_of}
use Rattle.cany_totcan.specs.Queue.{AreOnce, IsIndexOf, is_at, oldest_from}
use Rattle.cany_totcan.proofs.QueueFacts.{is_at-true, not_first, rest_at, same_key-true, same_key_self}

-- ---- the messages themselves

pub set_placed : (xs : List Open) (i : ℕ) (x : Open) (n : Noted) → i < length xs → x ≡ slice_index_or xs i x
    → placed_of (slice_set xs i (record { placed = x.placed; noted = n })) ≡ placed_of xs
set_placed [] i x n within is = absurd (omega (arith, within))
set_placed (y ∷ xs) zero x n within is = ap (λ (z : Open). z.placed ∷ placed_of xs) is
set_placed (y ∷ xs) (suc i) x n within is = ap (λ items. y.placed ∷ items) (set_placed xs i x n (omega (arith, within)) is)

pub removed_placed : (xs : List Open) (i : ℕ) → placed_of (remove xs i) ≡ remove (placed_of xs) i
removed_placed [] zero = refl
removed_placed [] (suc i) = refl
removed_placed (y ∷ xs) zero = refl
removed_placed (y ∷ xs) (suc i) = ap (λ items. y.placed ∷ items) (removed_placed xs i)

pub dropped_placed : (xs : List Open) → placed_of (drop 1 xs) ≡ drop 1 (placed_of xs)
dropped_placed [] = refl
dropped_placed (y ∷ xs) = refl

pub length-placed : (xs : List Open) → length (placed_of xs) ≡ length xs
length-placed [] = refl
length-placed (y ∷ xs) = omega (arith, length-placed xs)

pub got_placed : (xs : List Open) (i : ℕ) → option_map (λ e. e.placed.frame) (slice_get xs i) ≡ option_map (λ x. x.frame) (slice_get (placed_of xs) i)
got_placed [] zero = refl
got_placed [] (suc i) = refl
got_placed (y ∷ xs) zero = refl
got_placed (y ∷ xs) (suc i) = got_placed xs i

-- the message that was got stands at the index
pub got_index : (xs : List Open) (i : ℕ) (e : Open) → slice_get xs i ≡ Some e → IsIndexOf (message_in e.placed.frame) i (placed_of xs) × (e ≡ slice_index_or xs i e)
got_index [] zero e is = absurd (cc)
got_index [] (suc i) e is = absurd (cc)
got_index (y ∷ xs) zero e is =
    let same : y ≡ e = cc in
    (record { within = omega arith; is = λ d. ap (λ (z : Open). is_at (message_in e.placed.frame) z.placed) same ∙ same_key_self (message_in e.placed.frame) }, sym same)
got_index (y ∷ xs) (suc i) e is =
    let rest = got_index xs i e is in
    (record { within = omega (arith, rest.0.within); is = rest.0.is }, rest.1)

-- ---- what is noted

-- a message of another key than that at hand
apart : (key q : MsgKey) (y : Placed) → is_at key y ≡ false → is_at q y ≡ true → is_same q key ≡ false
apart key q y other here = false_from_ne_true (is_same q key) (λ same.
    false≢true (sym other ∙ ap (λ k. is_at k y) (sym (same_key-true q key same)) ∙ here))

-- it is that of the message
same_at : (key q : MsgKey) (y : Placed) → is_at key y ≡ true → is_same q key ≡ is_at q y
same_at key q y here = ap (is_same q) (is_at-true key y here)

pub absent_noted : (xs : List Open) (q : MsgKey) → list_any (is_at q) (placed_of xs) ≡ false → noted_of xs q ≡ nothing
unfolding noted_of
absent_noted [] q none = refl
absent_noted (y ∷ xs) q none =
    let parts = or_parts (is_at q y.placed) (list_any (is_at q) (placed_of xs)) none in
    ap (λ b. if b then y.noted else noted_of xs q) parts.0 ∙ absent_noted xs q parts.1

pub noted_is : (xs : List Open) (i : ℕ) (key : MsgKey) (x : Open) → AreOnce (placed_of xs) → IsIndexOf key i (placed_of xs) → x ≡ slice_index_or xs i x
    → x.noted ≡ noted_of xs key
unfolding noted_of
noted_is [] i key x once at is = absurd (omega (arith, at.within))
noted_is (y ∷ xs) zero key x once at is =
    ap (λ (z : Open). z.noted) is ∙ sym (ap (λ b. if b then y.noted else noted_of xs key) (at.is y.placed))
noted_is (y ∷ xs) (suc i) key x once at is =
    noted_is xs i key x once.1 (rest_at key y.placed (placed_of xs) i at) is
    ∙ sym (ap (λ b. if b then y.noted else noted_of xs key) (not_first key y.placed (placed_of xs) i once at))

pub set_noted : (xs : List Open) (i : ℕ) (key : MsgKey) (x : Open) (n : Noted) → AreOnce (placed_of xs) → IsIndexOf key i (placed_of xs)
    → x ≡ slice_index_or xs i x → (q : MsgKey)
    → noted_of (slice_set xs i (record { placed = x.placed; noted = n })) q ≡ (if is_same q key then n else noted_of xs q)
unfolding noted_of
set_noted [] i key x n once at is q = absurd (omega (arith, at.within))
set_noted (y ∷ xs) zero key x n once at is q =
    ap (λ (z : Open). if is_at q z.placed then n else noted_of xs q) is
    ∙ go (is_at q y.placed)
    ∙ sym (ap (λ b. if b then n else (if is_at q y.placed then y.noted else noted_of xs q)) (same_at key q y.placed (at.is y.placed)))
  where
    go : (b : Bool) → (if b then n else noted_of xs q) ≡ (if b then n else (if b then y.noted else noted_of xs q))
    go true = refl
    go false = refl
set_noted (y ∷ xs) (suc i) key x n once at is q = elim (cases_Bool (is_at q y.placed)) [
  | inl here ↦
      let other = apart key q y.placed (not_first key y.placed (placed_of xs) i once at) here in
      rw (here, other) refl
  | inr none ↦ rw none (set_noted xs i key x n once.1 (rest_at key y.placed (placed_of xs) i at) is q)
]

pub removed_noted : (xs : List Open) (i : ℕ) (key : MsgKey) → AreOnce (placed_of xs) → IsIndexOf key i (placed_of xs) → (q : MsgKey)
    → noted_of (remove xs i) q ≡ (if is_same q key then nothing else noted_of xs q)
unfolding noted_of
removed_noted [] i key once at q = absurd (omega (arith, at.within))
removed_noted (y ∷ xs) zero key once at q = rw (same_at key q y.placed (at.is y.placed)) (elim (cases_Bool (is_at q y.placed)) [
  | inl here ↦ rw here (absent_noted xs q (ap (λ k. list_any (is_at k) (placed_of xs)) (is_at-true q y.placed here) ∙ once.0))
  | inr other ↦ rw other refl
])
removed_noted (y ∷ xs) (suc i) key once at q = elim (cases_Bool (is_at q y.placed)) [
  | inl here ↦
      let other = apart key q y.placed (not_first key y.placed (placed_of xs) i once at) here in
      rw (here, other) refl
  | inr none ↦ rw none (removed_noted xs i key once.1 (rest_at key y.placed (placed_of xs) i at) q)
]

pub pushed_noted : (xs : List Open) (e : Open) (q : MsgKey) → e.noted ≡ nothing → noted_of (xs ++ e ∷ []) q ≡ noted_of xs q
unfolding noted_of
pushed_noted [] e q none = go (is_at q e.placed)
  where
    go : (b : Bool) → (if b then e.noted else nothing) ≡ nothing
    go true = none
    go false = refl
pushed_noted (y ∷ xs) e q none = ap (λ r. if is_at q y.placed then y.noted else r) (pushed_noted xs e q none)

-- nothing is noted of a message that is not there
pub none_forgotten : (xs : List Open) (key : MsgKey) → list_any (is_at key) (placed_of xs) ≡ false → IsNoted forgotten key xs xs
none_forgotten xs key none = record {
  noted = λ q. elim (cases_Bool (is_same q key)) [
    | inl same ↦ rw same (ap (noted_of xs) (same_key-true q key same) ∙ absent_noted xs key none)
    | inr other ↦ rw other refl
  ];
}

-- ---- the search

pub index_here : (xs : List Open) (i : ℕ) (key : MsgKey) (x : Open) → i < length xs → x ≡ slice_index_or xs i x → is_at key x.placed ≡ true
    → IsIndexOf key i (placed_of xs)
index_here [] i key x within is here = absurd (omega (arith, within))
index_here (y ∷ xs) zero key x within is here = record { within = omega arith; is = λ d. ap (λ (z : Open). is_at key z.placed) (sym is) ∙ here }
index_here (y ∷ xs) (suc i) key x within is here =
    let rest = index_here xs i key x (omega (arith, within)) is here in
    record { within = omega (arith, rest.within); is = rest.is }

-- it is not among those from an index on, if it is not at the index and not among those after it
pub none_from : (xs : List Open) (i : ℕ) (key : MsgKey) (x : Open) → i < length xs → x ≡ slice_index_or xs i x → is_at key x.placed ≡ false
    → list_any (is_at key) (drop (suc i) (placed_of xs)) ≡ false → list_any (is_at key) (drop i (placed_of xs)) ≡ false
none_from [] i key x within is other none = absurd (omega (arith, within))
none_from (y ∷ xs) zero key x within is other none =
    ap (λ b. b || list_any (is_at key) (placed_of xs)) (ap (λ (z : Open). is_at key z.placed) (sym is) ∙ other) ∙ none
none_from (y ∷ xs) (suc i) key x within is other none = none_from xs i key x (omega (arith, within)) is other none

pub none_past_all : (xs : List Open) (n : ℕ) (key : MsgKey) → length xs ≤ n → list_any (is_at key) (drop n (placed_of xs)) ≡ false
none_past_all [] zero key past = refl
none_past_all [] (suc n) key past = refl
none_past_all (y ∷ xs) zero key past = absurd (omega (arith, past))
none_past_all (y ∷ xs) (suc n) key past = none_past_all xs n key (omega (arith, past))

-- ---- what was got

pub got_noted : (xs : List Open) (i : ℕ) (e : Open) → AreOnce (placed_of xs) → slice_get xs i ≡ Some e → e.noted ≡ noted_of xs (message_in e.placed.frame)
got_noted xs i e once is =
    let at = got_index xs i e is in
    noted_is xs i (message_in e.placed.frame) e once at.0 at.1

pub any_noted : (xs : List Open) (i : ℕ) (r : Option Open) → AreOnce (placed_of xs) → r ≡ slice_get xs i
    → IfSome r (λ e. e.noted ≡ noted_of xs (message_in e.placed.frame))
any_noted xs i None once is = tt
any_noted xs i (Some e) once is = got_noted xs i e once (sym is)

pub front_oldest : (place : ℕ) (xs : List Open) (e : Open) → slice_get xs 0 ≡ Some e → (e.placed.place == place) ≡ true
    → Some e.placed.frame ≡ oldest_from place (placed_of xs)
front_oldest place [] e is at = absurd (cc)
front_oldest place (y ∷ xs) e is at =
    let same : y ≡ e = cc in
    sym (ap (λ (z : Open). if z.placed.place == place then Some z.placed.frame else None) same ∙ ap (λ b. if b then Some e.placed.frame else None) at)

pub front_other : (place : ℕ) (xs : List Open) (e : Open) → slice_get xs 0 ≡ Some e → (e.placed.place == place) ≡ false
    → oldest_from place (placed_of xs) ≡ None
front_other place [] e is other = refl
front_other place (y ∷ xs) e is other =
    let same : y ≡ e = cc in
    ap (λ (z : Open). if z.placed.place == place then Some z.placed.frame else None) same ∙ ap (λ b. if b then Some e.placed.frame else None) other

pub front_none : (place : ℕ) (xs : List Open) → slice_get xs 0 ≡ None → oldest_from place (placed_of xs) ≡ None
front_none place [] is = refl
front_none place (y ∷ xs) is = absurd (cc)

pub front_later : (bound slot : ℕ) (xs : List Open) (e : Open) → slice_get xs 0 ≡ Some e → slot < e.placed.place + bound → bound ≤ slot
    → oldest_from (slot - bound) (placed_of xs) ≡ None
front_later bound slot xs e is early late = front_other (slot - bound) xs e is (grind (arith, nat_tests, early, late))
