-- The witness of one order is found exactly where two correct nodes part.
use Rattle.std.proofs.Common.{◌≡◌, ◌↔◌, true, List, [], ◌∷◌, ◌++◌, refl, ap, sym, subst, ◌∙◌, arith, inl, inr, Contains}
use Rattle.std.specs.Prelude.{max, nat_le, option_map, Option, Some, None}
use Rattle.std.specs.List.{AllByRecursion}
use Rattle.std.specs.Option.{option_or}
use Rattle.std.proofs.lemmas.Bool.{cases_Bool}
use Rattle.cany_model.proofs.Among.{Among, Among-from_Contains, Contains-from_Among, Each-append, Each-of}
use Rattle.cany_check.specs.declared.deciders.findings.Delivery.{Delivery}
use Rattle.cany_check.specs.declared.deciders.findings.Parting.{Parting}
use Rattle.cany_check.specs.Accounts.Account.{AccountParts, LogParts}
use Rattle.cany_check.specs.Deciding.OneOrder.{Difference, NobodyParts, by_from, deliveries_from, difference, first_parting, one_later, parting, parting_from, parting_of, put_by_from}
use Rattle.cany_check.specs.Accounts.Words.{correct, same_key}
use Rattle.cany_check.proofs.Deciding.Decided.{same_key-self, same_key-true}
use Rattle.cany_check.proofs.ListFacts.{no_map}

-- ---- two lists

none_itself : (xs : List Delivery) → difference xs xs ≡ None
unfolding difference
none_itself [] = refl
none_itself (x ∷ xs) = rw (same_key-self x.msg x.msg refl) (ap (option_map one_later) (none_itself xs))

none_turned : (xs ys : List Delivery) → difference xs ys ≡ None → difference ys xs ≡ None
unfolding difference
none_turned [] [] h = refl
none_turned [] (y ∷ ys) h = refl
none_turned (x ∷ xs) [] h = refl
none_turned (x ∷ xs) (y ∷ ys) h = elim (cases_Bool (same_key x.msg y.msg)) [
  | inl same ↦
      let back : same_key y.msg x.msg ≡ true = same_key-self y.msg x.msg (sym (same_key-true x.msg y.msg same)) in
      rw back (ap (option_map one_later) (none_turned xs ys (no_map one_later (difference xs ys) (rw same at h))))
  | inr other ↦ absurd (some_none (record { place = 0; here = x; there = y }) (rw other at h))
]
  where
    some_none : (d : Difference) → Some d ≡ None → ⊥
    some_none d e = absurd (cc)

module _ (a : AccountParts) where
  abbrev Agree : LogParts → LogParts → Type 0
  Agree x y = parting_of a x y ≡ None

  abbrev as_parting : LogParts → LogParts → Difference → Parting
  as_parting x y d = record { first = x.node; second = y.node; place = d.place; here = d.here; there = d.there }

  itself : (x : LogParts) → Agree x x
  itself x = ap (option_map (as_parting x x)) (none_itself (deliveries_from a (max x.from x.from) x))

  turned : (x y : LogParts) → Agree x y → Agree y x
  turned x y h =
      let same : max x.from y.from ≡ max y.from x.from = omega arith in
      let none : difference (deliveries_from a (max x.from y.from) x) (deliveries_from a (max x.from y.from) y) ≡ None =
      no_map (as_parting x y) (difference (deliveries_from a (max x.from y.from) x) (deliveries_from a (max x.from y.from) y)) h in
      ap (option_map (as_parting y x))
      (subst (λ t. difference (deliveries_from a t y) (deliveries_from a t x) ≡ None) same
      (none_turned (deliveries_from a (max x.from y.from) x) (deliveries_from a (max x.from y.from) y) none))

  -- ---- all pairs

  left_none : {X : Type 0} (o p : Option X) → option_or o p ≡ None → (o ≡ None) × (p ≡ None)
  left_none None p h = (refl, h)
  left_none (Some x) p h = absurd (cc)

  from_all : (before : List LogParts) (y : LogParts) → parting_from a before y ≡ None → AllByRecursion (λ x. Agree x y) before
  unfolding parting_from
  from_all [] y h = tt
  from_all (x ∷ before) y h = let both = left_none (parting_of a x y) (parting_from a before y) h in (both.0, from_all before y both.1)

  all_from : (before : List LogParts) (y : LogParts) → AllByRecursion (λ x. Agree x y) before → parting_from a before y ≡ None
  unfolding parting_from
  all_from [] y h = refl
  all_from (x ∷ before) y h = ap (λ o. option_or o (parting_from a before y)) h.0 ∙ all_from before y h.1

  -- each agrees with those after it
  unfoldable Pairs : List LogParts → Type 0
  Pairs [] = Unit {0}
  Pairs (x ∷ xs) = AllByRecursion (Agree x) xs × Pairs xs

  split_last : (before : List LogParts) (y : LogParts) (P : LogParts → Type 0) → AllByRecursion P (before ++ y ∷ []) → AllByRecursion P before × P y
  split_last [] y P h = (tt, h.0)
  split_last (x ∷ before) y P h = let rest = split_last before y P h.1 in ((h.0, rest.0), rest.1)

  both_lists : (before logs : List LogParts) (y : LogParts) → AllByRecursion (λ x. Agree x y) before → AllByRecursion (λ x. AllByRecursion (Agree x) logs) before
      → AllByRecursion (λ x. AllByRecursion (Agree x) (y ∷ logs)) before
  both_lists [] logs y h k = tt
  both_lists (x ∷ before) logs y h k = ((h.0, k.0), both_lists before logs y h.1 k.1)

  nothing_yet : (before : List LogParts) → AllByRecursion (λ x. AllByRecursion (Agree x) []) before
  nothing_yet [] = tt
  nothing_yet (x ∷ before) = (tt, nothing_yet before)

  pairs_of : (before logs : List LogParts) → first_parting a before logs ≡ None → AllByRecursion (λ x. AllByRecursion (Agree x) logs) before × Pairs logs
  unfolding first_parting Pairs
  pairs_of before [] h = (nothing_yet before, tt)
  pairs_of before (y ∷ logs) h =
      let both = left_none (parting_from a before y) (first_parting a (before ++ y ∷ []) logs) h in
      let rest = pairs_of (before ++ y ∷ []) logs both.1 in
      let parts = split_last before y (λ x. AllByRecursion (Agree x) logs) rest.0 in
      (both_lists before logs y (from_all before y both.0) parts.0, (parts.1, rest.1))

  in_pairs : (logs : List LogParts) → Pairs logs → (x y : LogParts) → Among (λ z. z ≡ x) logs → Among (λ z. z ≡ y) logs → Agree x y
  unfolding Pairs
  in_pairs [] h x y here there = absurd here
  in_pairs (z ∷ logs) h x y (inl e) (inl f) = subst (λ w. Agree w y) e (subst (λ w. Agree z w) f (itself z))
  in_pairs (z ∷ logs) h x y (inl e) (inr there) = subst (λ w. Agree w y) e (Each-of (Agree z) y logs h.0 there)
  in_pairs (z ∷ logs) h x y (inr here) (inl f) = turned y x (subst (λ w. Agree w x) f (Each-of (Agree z) x logs h.0 here))
  in_pairs (z ∷ logs) h x y (inr here) (inr there) = in_pairs logs h.1 x y here there

  -- ---- in the order of from

  put_has : (x z : LogParts) (logs : List LogParts) → Among (λ w. w ≡ z) (x ∷ logs) → Among (λ w. w ≡ z) (put_by_from x logs)
  unfolding put_by_from
  put_has x z [] h = h
  put_has x z (y ∷ logs) h = elim (cases_Bool (nat_le x.from y.from)) [
    | inl first ↦ rw first h
    | inr later ↦ rw later (elim h [
      | inl e ↦ inr (put_has x z logs (inl e))
      | inr rest ↦ elim rest [ inl e ↦ inl e | inr more ↦ inr (put_has x z logs (inr more)) ]
    ])
  ]

  by_from_has : (z : LogParts) (logs : List LogParts) → Among (λ w. w ≡ z) logs → Among (λ w. w ≡ z) (by_from logs)
  unfolding by_from
  by_from_has z [] h = h
  by_from_has z (x ∷ logs) (inl e) = put_has x z (by_from logs) (inl e)
  by_from_has z (x ∷ logs) (inr h) = put_has x z (by_from logs) (inr (by_from_has z logs h))

  -- what holds of each of a list holds of each of it in that order
  put_each : (P : LogParts → Type 0) (x : LogParts) (logs : List LogParts) → P x → AllByRecursion P logs → AllByRecursion P (put_by_from x logs)
  unfolding put_by_from
  put_each P x [] p h = (p, tt)
  put_each P x (y ∷ logs) p h = elim (cases_Bool (nat_le x.from y.from)) [
    | inl first ↦ rw first (p, h)
    | inr later ↦ rw later (h.0, put_each P x logs p h.1)
  ]

  by_from_each : (P : LogParts → Type 0) (logs : List LogParts) → AllByRecursion P logs → AllByRecursion P (by_from logs)
  unfolding by_from
  by_from_each P [] h = tt
  by_from_each P (x ∷ logs) h = put_each P x (by_from logs) h.0 (by_from_each P logs h.1)

  -- ---- the witness

  module _ (P : LogParts → Type 0) (all : (x y : LogParts) → P x → P y → Agree x y) where
    with_one : (before : List LogParts) (y : LogParts) → AllByRecursion P before → P y → AllByRecursion (λ x. Agree x y) before
    with_one [] y h p = tt
    with_one (x ∷ before) y h p = (all x y h.0 p, with_one before y h.1 p)

    none_first : (before logs : List LogParts) → AllByRecursion P before → AllByRecursion P logs → first_parting a before logs ≡ None
    unfolding first_parting
    none_first before [] h k = refl
    none_first before (y ∷ logs) h k =
        ap (λ o. option_or o (first_parting a (before ++ y ∷ []) logs)) (all_from before y (with_one before y h k.0))
        ∙ none_first (before ++ y ∷ []) logs (Each-append P before (y ∷ []) h (k.0, tt)) k.1

    pub none_of_all : AllByRecursion P (correct a) → parting a ≡ None
    none_of_all h = none_first [] (by_from (correct a)) tt (by_from_each P (correct a) h)

  each_there : (all logs : List LogParts) → ((x : LogParts) → Among (λ y. y ≡ x) logs → Among (λ y. y ≡ x) all) → AllByRecursion (λ x. Contains all x) logs
  each_there all [] within = tt
  each_there all (x ∷ logs) within = (Contains-from_Among all x (within x (inl refl)), each_there all logs (λ y c. within y (inr c)))

  pub parting_found : (parting a ≡ None) ↔ NobodyParts a
  parting_found = (
    λ h x y here there.
        in_pairs (by_from (correct a)) (pairs_of [] (by_from (correct a)) h).1 x y (by_from_has x (correct a) (Among-from_Contains (correct a) x here))
        (by_from_has y (correct a) (Among-from_Contains (correct a) y there)),
    λ h. none_of_all (λ x. Contains (correct a) x) h (each_there (correct a) (correct a) (λ x c. c)),
  )
