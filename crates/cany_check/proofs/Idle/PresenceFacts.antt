-- The incarnations of a node by how many began after them, and what one after another of them says
-- of all.
use Rattle.std.proofs.Common.{◌≡◌, ℕ, zero, suc, ◌+◌, ◌≤◌, ◌==◌, Bool, true, false, List, [], ◌∷◌, length, drop, refl, ap, sym, ◌∙◌, arith}
use Rattle.std.specs.Prelude.{find, option_map, slice_get, IsSomeAnd, Option, Some, None}
use Rattle.std.specs.List.{list_any}
use Rattle.std.proofs.lemmas.Bool.{eq-eqb, ne_eqb}
use Rattle.std.proofs.lemmas.List.{drop_more}
use Rattle.std.proofs.lemmas.Option.{get_or_from_slice_get, slice_get_within}
use Rattle.cany_base.specs.declared.step.Step.{Step}
use Rattle.cany_base.specs.Scenario.{ScenarioParts}
use Rattle.cany_model.specs.Bus.State.{EndedIncarnation, Incarnation, node_at, reads}
use Rattle.cany_model.specs.Runs.Incarnations.{incarnation_of, incarnations, span_from, span_of}
use Rattle.cany_model.specs.Runs.Run.{run}
use Rattle.cany_world.specs.Incarnations.{takes_part_since}
use Rattle.cany_world.proofs.InOrder.{AreInOrder, in_order}
use Rattle.cany_check.specs.declared.unused_entries.presence.Stay.{Stay}
use Rattle.cany_check.specs.Idle.Presence.{IsStay}

-- ---- one after another

next_at : {X : Type 0} (xs : List X) (k : ℕ) (x : X) → slice_get xs k ≡ Some x → drop k xs ≡ x ∷ drop (k + 1) xs
next_at xs k x at =
    drop_more xs k x (slice_get_within xs k x at) ∙ ap (λ y. y ∷ drop (k + 1) xs) (get_or_from_slice_get xs k x x at)

none_left : {X : Type 0} (xs : List X) (k : ℕ) → length xs ≤ k → drop k xs ≡ []
none_left [] zero h = refl
none_left [] (suc k) h = refl
none_left (x ∷ xs) zero h = absurd (omega (arith, h))
none_left (x ∷ xs) (suc k) h = none_left xs k (omega (arith, h))

module _ {X : Type 0} (t : X → Bool) (xs : List X) (k : ℕ) where
  pub any_next : (x : X) → slice_get xs k ≡ Some x → t x ≡ false → list_any t (drop k xs) ≡ list_any t xs → list_any t (drop (k + 1) xs) ≡ list_any t xs
  any_next x at fails so = let here : list_any t (drop k xs) ≡ list_any t (drop (k + 1) xs) = rw (next_at xs k x at, fails) refl in sym here ∙ so

  pub any_found : (x : X) → slice_get xs k ≡ Some x → t x ≡ true → list_any t (drop k xs) ≡ list_any t xs → true ≡ list_any t xs
  any_found x at passes so = let here : list_any t (drop k xs) ≡ true = rw (next_at xs k x at, passes) refl in sym here ∙ so

  pub any_done : length xs ≤ k → list_any t (drop k xs) ≡ list_any t xs → false ≡ list_any t xs
  any_done past so = sym (ap (list_any t) (none_left xs k past)) ∙ so

  pub find_next : (x : X) → slice_get xs k ≡ Some x → t x ≡ false → find t (drop k xs) ≡ find t xs → find t (drop (k + 1) xs) ≡ find t xs
  find_next x at fails so = let here : find t (drop k xs) ≡ find t (drop (k + 1) xs) = rw (next_at xs k x at, fails) refl in sym here ∙ so

  pub find_found : (x : X) → slice_get xs k ≡ Some x → t x ≡ true → find t (drop k xs) ≡ find t xs → Some x ≡ find t xs
  find_found x at passes so = let here : find t (drop k xs) ≡ Some x = rw (next_at xs k x at, passes) refl in sym here ∙ so

  pub find_done : length xs ≤ k → find t (drop k xs) ≡ find t xs → None ≡ find t xs
  find_done past so = sym (ap (find t) (none_left xs k past)) ∙ so

-- ---- the incarnations of a node

by_place : (first : EndedIncarnation) (ended : List EndedIncarnation) → AreInOrder first.incarnation ended → (back number : ℕ) → back + number ≡ first.incarnation.number
    → find (λ e. e.incarnation.number == number) (first ∷ ended) ≡ slice_get (first ∷ ended) back
unfolding AreInOrder
by_place first ended order zero number e = rw (eq-eqb first.incarnation.number number (omega (arith, e))) refl
by_place first [] order (suc back) number e = absurd (omega (arith, e, ap (λ (x : Incarnation). x.number) order))
by_place first (x ∷ ended) order (suc back) number e =
    rw (ne_eqb first.incarnation.number number (λ same. absurd (omega (arith, same, e, order.0))))
    (by_place x ended order.1 back number (omega (arith, e, order.0)))

how_many : (first : EndedIncarnation) (ended : List EndedIncarnation) → AreInOrder first.incarnation ended → length (first ∷ ended) ≡ first.incarnation.number + 1
unfolding AreInOrder
how_many first [] order = omega (arith, ap (λ (x : Incarnation). x.number) order)
how_many first (x ∷ ended) order = omega (arith, order.0, how_many x ended order.1)

told : (o : Option EndedIncarnation) (stay : Stay) → Some stay.span ≡ option_map span_from o → Some stay.from ≡ option_map (λ e. e.incarnation.from) o → IsSomeAnd o (IsStay stay)
told None stay span from = absurd (cc)
told (Some e) stay span from = record {
  span = let same : stay.span ≡ span_from e = cc in same;
  from = let same : stay.from ≡ e.incarnation.from = cc in same;
}

module _ (scenario : ScenarioParts) (journal : List Step) (i : ℕ) where
  pub incarnations_count : length (incarnations (run scenario journal) i) ≡ (node_at (run scenario journal).nodes i).present.number + 1
  incarnations_count =
      let s = run scenario journal in
      how_many (record { incarnation = (node_at s.nodes i).present; next = reads s i; stopped = (node_at s.nodes i).stopped }) (node_at s.nodes i).ended ((in_order scenario journal i).order)

  pub stay_is : (stay : Stay) (back number : ℕ) → back + number ≡ (node_at (run scenario journal).nodes i).present.number → Some stay.span ≡ span_of (run scenario journal) i number
      → Some stay.from ≡ takes_part_since (run scenario journal) i number → IsSomeAnd (slice_get (incarnations (run scenario journal) i) back) (IsStay stay)
  unfolding incarnation_of
  stay_is stay back number e span from =
      let s = run scenario journal in
      let first : EndedIncarnation = record { incarnation = (node_at s.nodes i).present; next = reads s i; stopped = (node_at s.nodes i).stopped } in
      let at : incarnation_of s i number ≡ slice_get (incarnations s i) back = by_place first (node_at s.nodes i).ended ((in_order scenario journal i).order) back number e in
      told (slice_get (incarnations s i) back) stay (span ∙ ap (option_map span_from) at) (from ∙ ap (option_map (λ e. e.incarnation.from)) at)

-- ---- what is said of one of them

-- the element at a place, and what it has
record HasAt {X : Type 0} (xs : List X) (k : ℕ) (P : X → Type 0) : Type 0 where
  what : X
  at : slice_get xs k ≡ Some what
  has : P what

has_at : {X : Type 0} (xs : List X) (k : ℕ) (P : X → Type 0) → IsSomeAnd (slice_get xs k) P → HasAt xs k P
has_at {X = X} xs k P h = by_case (slice_get xs k) refl h
  where
    by_case : (o : Option X) → slice_get xs k ≡ o → IsSomeAnd o P → HasAt xs k P
    by_case None e p = absurd p
    by_case (Some x) e p = record { what = x; at = e; has = p }

module _ (t : EndedIncarnation → Bool) (xs : List EndedIncarnation) (k : ℕ) (stay : Stay) (answer : Bool) (is : IsSomeAnd (slice_get xs k) (IsStay stay))
    (law : (e : EndedIncarnation) → IsStay stay e → answer ≡ t e) where
  it : HasAt xs k (IsStay stay)
  it = has_at xs k (IsStay stay) is

  pub next_of_any : answer ≡ false → list_any t (drop k xs) ≡ list_any t xs → list_any t (drop (k + 1) xs) ≡ list_any t xs
  next_of_any fails so = any_next t xs k it.what it.at (sym (law it.what it.has) ∙ fails) so

  pub any_of_one : answer ≡ true → list_any t (drop k xs) ≡ list_any t xs → true ≡ list_any t xs
  any_of_one passes so = any_found t xs k it.what it.at (sym (law it.what it.has) ∙ passes) so

  pub next_of_find : answer ≡ false → find t (drop k xs) ≡ find t xs → find t (drop (k + 1) xs) ≡ find t xs
  next_of_find fails so = find_next t xs k it.what it.at (sym (law it.what it.has) ∙ fails) so

  pub found_since : answer ≡ true → find t (drop k xs) ≡ find t xs → Some stay.from ≡ option_map (λ e. e.incarnation.from) (find t xs)
  found_since passes so =
      ap (λ n. Some n) it.has.from ∙ ap (option_map (λ (e : EndedIncarnation). e.incarnation.from)) (find_found t xs k it.what it.at (sym (law it.what it.has) ∙ passes) so)
