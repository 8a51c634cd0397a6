-- No number is apart in the account of a run exactly where correct nodes hold one view of each
-- number.
use Rattle.std.proofs.Common.{◌≡◌, ℕ, ◌↔◌, ◌==◌, true, false, not, List, [], ◌∷◌, map, refl, ap, sym, subst, ◌∙◌, arith, inl, inr, Contains}
use Rattle.std.specs.Prelude.{find, nat_lt, option_map, Option, Some, None}
use Rattle.std.specs.List.{AllByRecursion, flat_map}
use Rattle.std.proofs.lemmas.Bool.{cases_Bool, eq-eqb, eqb-true, ltb-false}
use Rattle.cany_base.specs.declared.log_entry.LogEntry.{LogEntry}
use Rattle.cany_base.specs.declared.log_entry.LogEntry.TheVariants.{Deliver, Failed, View}
use Rattle.cany_base.specs.declared.step.Step.{Step}
use Rattle.cany_base.specs.Nodes.{Nodes}
use Rattle.cany_base.specs.Scenario.{ScenarioParts}
use Rattle.cany_model.specs.Bus.State.{RunState}
use Rattle.cany_model.specs.Promises.OneView.{HasOneView}
use Rattle.cany_model.specs.Promises.Settled.{IsCorrect}
use Rattle.cany_model.specs.Rules.Log.{log}
use Rattle.cany_model.specs.Runs.Run.{run}
use Rattle.cany_model.proofs.Among.{Among, Among-flat_map, Among-from_Contains, Among-map, Among-weaker, Contains-from_Among, Each-flat_map, Each-of}
use Rattle.cany_check.specs.Accounts.Account.{AccountParts, LogParts, account_of}
use Rattle.cany_check.specs.Deciding.Views.{HeldView, as_parting, held_views, parting_in, same_members, view_in, view_numbers, view_partings, views_of_number}
use Rattle.cany_check.specs.Accounts.Words.{correct}
use Rattle.cany_check.proofs.Deciding.CorrectLogs.{IsLogOfCorrect, among_filter, each_correct, each_filter, has_correct, log_at, unread_fits}
use Rattle.cany_check.proofs.InOrderFacts.{among_ascending}
use Rattle.cany_check.proofs.ListFacts.{made_none, none_made}

-- ---- one number

pub same_members-true : (v w : Nodes) → same_members v w ≡ true → v ≡ w
same_members-true v w h = λ k. record { bits = (eqb-true v.bits w.bits h) k }

pub same_members-from : (v w : Nodes) → v ≡ w → same_members v w ≡ true
same_members-from v w e = eq-eqb v.bits w.bits (ap (λ (x : Nodes). x.bits) e)

-- none of these has other members
none_other : (v : HeldView) (views : List HeldView) → find (λ w. not (same_members v.members w.members)) views ≡ None → AllByRecursion (λ w. v.members ≡ w.members) views
none_other v [] h = tt
none_other v (w ∷ views) h = elim (cases_Bool (same_members v.members w.members)) [
  | inl same ↦ (same_members-true v.members w.members same, none_other v views (rw same at h))
  | inr other ↦ absurd (some_none w (rw other at h))
]
  where
    some_none : (x : HeldView) → Some x ≡ None → ⊥
    some_none x e = absurd (cc)

others_none : (v : HeldView) (views : List HeldView) → AllByRecursion (λ w. v.members ≡ w.members) views → find (λ w. not (same_members v.members w.members)) views ≡ None
others_none v [] h = refl
others_none v (w ∷ views) h = rw (same_members-from v.members w.members h.0) (others_none v views h.1)

pub none_parts : (views : List HeldView) → parting_in views ≡ None → (x y : HeldView) → Among (λ w. w ≡ x) views → Among (λ w. w ≡ y) views → x.members ≡ y.members
none_parts [] h x y here there = absurd here
none_parts (v ∷ views) h x y here there =
    sym (first_has x here) ∙ first_has y there
  where
    all : AllByRecursion (λ w. v.members ≡ w.members) views
    all = none_other v views (no_map (find (λ w. not (same_members v.members w.members)) views) h)
      where
        no_map : (o : Option HeldView) → option_map (as_parting v) o ≡ None → o ≡ None
        no_map None e = refl
        no_map (Some w) e = absurd (cc)

    first_has : (z : HeldView) → Among (λ w. w ≡ z) (v ∷ views) → v.members ≡ z.members
    first_has z (inl e) = ap (λ (w : HeldView). w.members) e
    first_has z (inr later) = Each-of (λ w. v.members ≡ w.members) z views all later

pub parts_none : (views : List HeldView) → AllByRecursion (λ x. AllByRecursion (λ y. x.members ≡ y.members) views) views → parting_in views ≡ None
parts_none [] h = refl
parts_none (v ∷ views) h = ap (option_map (as_parting v)) (others_none v views h.0.1)

-- ---- all numbers

module _ (scenario : ScenarioParts) (journal : List Step) where
  abbrev s : RunState
  s = run scenario journal

  abbrev a : AccountParts
  a = account_of scenario s

  -- it is in the log of this node
  record IsHeld (v : HeldView) : Type 0 where
    correct_is : IsCorrect scenario s v.node
    slot : ℕ
    stands : Contains (log scenario s v.node) (View slot v.number v.members)

  held_by : (i : ℕ) → IsCorrect scenario s i → (entry : LogEntry) → Contains (log scenario s i) entry → AllByRecursion IsHeld (view_in i entry)
  held_by i c (Deliver slot by msg payload) stands = tt
  held_by i c (Failed slot node cycle) stands = tt
  held_by i c (View slot number members) stands = (record { correct_is = c; slot = slot; stands = stands }, tt)

  each_entry : {X : Type 0} (P : X → Type 0) (xs : List X) → ((x : X) → Contains xs x → P x) → AllByRecursion P xs
  each_entry {X = X} P xs h = along xs (λ x c. h x (Contains-from_Among xs x c))
    where
      along : (ys : List X) → ((x : X) → Among (λ y. y ≡ x) ys → P x) → AllByRecursion P ys
      along [] f = tt
      along (y ∷ ys) f = (f y (inl refl), along ys (λ x c. f x (inr c)))

  each_held : AllByRecursion IsHeld (held_views a)
  each_held =
      Each-flat_map (λ (log : LogParts). flat_map (view_in log.node) log.entries) IsHeld (correct a) (of_logs (correct a) (each_correct scenario s (unread_fits scenario journal)))
    where
      of_logs : (logs : List LogParts) → AllByRecursion (IsLogOfCorrect scenario s (unread_fits scenario journal)) logs → AllByRecursion (λ (x : LogParts). AllByRecursion IsHeld (flat_map (view_in x.node) x.entries)) logs
      of_logs [] h = tt
      of_logs (x ∷ logs) h = (
        subst (λ (y : LogParts). AllByRecursion IsHeld (flat_map (view_in y.node) y.entries)) (sym h.0.2)
            (Each-flat_map (view_in h.0.0) IsHeld (log scenario s h.0.0)
            (each_entry (λ entry. AllByRecursion IsHeld (view_in h.0.0 entry)) (log scenario s h.0.0) (held_by h.0.0 h.0.1))),
        of_logs logs h.1,
      )

  has_held : (i slot number : ℕ) (members : Nodes) → IsCorrect scenario s i → Contains (log scenario s i) (View slot number members)
      → Among (λ v. v ≡ record { node = i; number = number; members = members }) (held_views a)
  has_held i slot number members c stands =
      let v : HeldView = record { node = i; number = number; members = members } in
      Among-flat_map (λ (log : LogParts). flat_map (view_in log.node) log.entries) (λ w. w ≡ v) (correct a)
      (Among-weaker (λ x. x ≡ log_at scenario s i) (λ (x : LogParts). Among (λ w. w ≡ v) (flat_map (view_in x.node) x.entries))
      (λ x e. subst (λ (y : LogParts). Among (λ w. w ≡ v) (flat_map (view_in y.node) y.entries)) (sym e)
      (Among-flat_map (view_in i) (λ w. w ≡ v) (log scenario s i)
      (Among-weaker (λ y. y ≡ View slot number members) (λ y. Among (λ w. w ≡ v) (view_in i y))
      (λ y e'. subst (λ entry. Among (λ w. w ≡ v) (view_in i entry)) (sym e') (inl refl)) (log scenario s i)
      (Among-from_Contains (log scenario s i) (View slot number members) stands))))
      (correct a) (has_correct scenario s (unread_fits scenario journal) i c))

  -- of a number
  each_of_number : (number : ℕ) → AllByRecursion (λ v. IsHeld v × (v.number ≡ number)) (views_of_number a number)
  each_of_number number = each_filter (λ v. IsHeld v × (v.number ≡ number)) (λ v. v.number == number) (held_views a) (passing (held_views a) each_held)
    where
      passing : (views : List HeldView) → AllByRecursion IsHeld views → AllByRecursion (λ v. (v.number == number) ≡ true → IsHeld v × (v.number ≡ number)) views
      passing [] h = tt
      passing (v ∷ views) h = (λ passes. (h.0, eqb-true v.number number passes), passing views h.1)

  one_members : HasOneView scenario s → (number : ℕ) → parting_in (views_of_number a number) ≡ None
  one_members one number =
      parts_none (views_of_number a number) (pairs (views_of_number a number) (each_of_number number))
    where
      with_all : (v : HeldView) → IsHeld v × (v.number ≡ number) → (views : List HeldView) → AllByRecursion (λ w. IsHeld w × (w.number ≡ number)) views
          → AllByRecursion (λ w. v.members ≡ w.members) views
      with_all v held [] h = tt
      with_all v held (w ∷ views) h = (
        one v.node w.node held.0.correct_is h.0.0.correct_is number held.0.slot h.0.0.slot v.members w.members
            (subst (λ n. Contains (log scenario s v.node) (View held.0.slot n v.members)) held.1 held.0.stands)
            (subst (λ n. Contains (log scenario s w.node) (View h.0.0.slot n w.members)) h.0.1 h.0.0.stands),
        with_all v held views h.1,
      )

      each_with : (views all : List HeldView) → AllByRecursion (λ w. IsHeld w × (w.number ≡ number)) all → AllByRecursion (λ w. IsHeld w × (w.number ≡ number)) views
          → AllByRecursion (λ v. AllByRecursion (λ w. v.members ≡ w.members) all) views
      each_with [] all h each = tt
      each_with (v ∷ views) all h each = (with_all v each.0 all h, each_with views all h each.1)

      pairs : (views : List HeldView) → AllByRecursion (λ w. IsHeld w × (w.number ≡ number)) views → AllByRecursion (λ v. AllByRecursion (λ w. v.members ≡ w.members) views) views
      pairs views h = each_with views views h h

  pub none_apart : (view_partings a ≡ []) ↔ HasOneView scenario s
  none_apart = (to, from)
    where
      from : HasOneView scenario s → view_partings a ≡ []
      from one = none_made (λ n. parting_in (views_of_number a n)) (view_numbers a) (all_numbers (view_numbers a))
        where
          all_numbers : (numbers : List ℕ) → AllByRecursion (λ n. parting_in (views_of_number a n) ≡ None) numbers
          all_numbers [] = tt
          all_numbers (n ∷ numbers) = (one_members one n, all_numbers numbers)

      to : view_partings a ≡ [] → HasOneView scenario s
      to none i j c d number here there members others stands stands' =
          let v : HeldView = record { node = i; number = number; members = members } in
          let w : HeldView = record { node = j; number = number; members = others } in
          let first = has_held i here number members c stands in
          let second = has_held j there number others d stands' in
          let listed : Among (λ n. n ≡ number) (view_numbers a) =
          among_ascending nat_lt same_unless_less number (map (λ (x : HeldView). x.number) (held_views a))
          (Among-map (λ (x : HeldView). x.number) (λ n. n ≡ number) (held_views a)
          (Among-weaker (λ x. x ≡ v) (λ (x : HeldView). x.number ≡ number) (λ x e. ap (λ (y : HeldView). y.number) e) (held_views a) first)) in
          let quiet = Each-of (λ n. parting_in (views_of_number a n) ≡ None) number (view_numbers a) (made_none (λ n. parting_in (views_of_number a n)) (view_numbers a) none) listed in
          none_parts (views_of_number a number) quiet v w (of_number v first refl) (of_number w second refl)
        where
          same_unless_less : (x y : ℕ) → nat_lt x y ≡ false → nat_lt y x ≡ false → x ≡ y
          same_unless_less x y p q = omega (arith, ltb-false x y p, ltb-false y x q)

          of_number : (x : HeldView) → Among (λ y. y ≡ x) (held_views a) → x.number ≡ number → Among (λ y. y ≡ x) (views_of_number a number)
          of_number x h e = among_filter (λ y. y ≡ x) (λ y. y.number == number) (held_views a)
              (λ y same. eq-eqb y.number number (ap (λ (z : HeldView). z.number) same ∙ e)) h
