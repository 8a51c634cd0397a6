-- What contracts read of the copies that are kept, from the entries.
use Rattle.std.proofs.Common.{◌≡◌, ◌≢◌, ℕ, ◌+◌, ◌-◌, ◌<◌, ◌≤◌, ◌⊎◌, inl, inr, ◌==◌, nat_eq, ◌||◌, Bool, true, false, if◌then◌else◌, List, [], ◌∷◌, length, Option, Some, None, refl, ap, sym, ◌∙◌, arith, eq-eqb}
use Rattle.std.specs.Option.{is_some, option_map, unwrap_or}
use Rattle.std.specs.List.{AllByRecursion, IsDistinct}
use Rattle.std.specs.Map.{keys_of as map_keys}
use Rattle.std.proofs.lemmas.Bool.{cases_eq, ne_eqb, false≢true}
use Rattle.std.proofs.lemmas.List.{length-map}
use Rattle.cany_base.specs.Bounded.{Bounded}
use Rattle.cany_diffuse.specs.declared.counts.Noted.{Noted}
use Rattle.cany_diffuse.specs.Counts.{nothing, entry_in, noted_in, MayEnter, IsEntered, IsCleared}
use Rattle.cany_diffuse.specs.Eager.{EagerParts, copies_of, is_owned, is_there, keys_of, spare_of, is_among, AllDistinct, IsCounted, HasRoomFor, raised, learnt_of, IsFresh, IsPut, IsLearnt, IsOwned, IsForgotten}

abbrev pub kept : ℕ → Bounded (ℕ × Noted) → EagerParts
kept omit counts = record { omit = omit; room = counts.room; entries = counts.items }

-- the keys that are there

among_keys : (es : List (ℕ × Noted)) (q : ℕ) → is_some (entry_in es q) ≡ is_among q (map_keys es)
among_keys [] q = refl
among_keys (e ∷ es) q = elim (cases_eq q e.0) [
  | inl same ↦ rw (eq-eqb q e.0 same) refl
  | inr other ↦ rw (ne_eqb q e.0 other) (among_keys es q)
]

none_among : (key : ℕ) (keys : List ℕ) → AllByRecursion (λ k. nat_eq key k ≡ false) keys → is_among key keys ≡ false
none_among key [] none = refl
none_among key (k ∷ keys) none = rw (none.0) (none_among key keys none.1)

distinct_keys : (keys : List ℕ) → IsDistinct nat_eq keys → AllDistinct keys
unfolding IsDistinct
distinct_keys [] once = tt
distinct_keys (k ∷ keys) once = (none_among k keys once.0, distinct_keys keys once.1)

pub length-keys_of : (omit : ℕ) (counts : Bounded (ℕ × Noted)) → length (keys_of (kept omit counts)) ≡ length counts.items
unfolding keys_of
length-keys_of omit counts = length-map counts.items (λ e. e.0)

pub counted : (omit : ℕ) (counts : Bounded (ℕ × Noted)) → IsDistinct nat_eq (map_keys counts.items) → length counts.items ≤ counts.room
    → IsCounted (kept omit counts)
unfolding keys_of is_there
counted omit counts once fits = record {
  once = distinct_keys (map_keys counts.items) once;
  there = λ q. among_keys counts.items q;
  fits = omega (arith, fits, length-keys_of omit counts);
}

pub spare-kept : (omit : ℕ) (counts : Bounded (ℕ × Noted)) (n : ℕ) → n + length counts.items ≡ counts.room → n ≡ spare_of (kept omit counts)
spare-kept omit counts n h = omega (arith, h, length-keys_of omit counts)

pub room_for : (omit : ℕ) (counts : Bounded (ℕ × Noted)) (key : ℕ) → HasRoomFor key (kept omit counts) → MayEnter key counts
unfolding is_there
room_for omit counts key (inl some) = inl (omega (arith, some, length-keys_of omit counts))
room_for omit counts key (inr there) = inr there

pub IsFresh-build : (omit room : ℕ) → IsFresh omit room (record { omit = omit; room = room; entries = [] })
unfolding copies_of is_owned is_there keys_of
IsFresh-build omit room = record {
  omit = refl;
  room = refl;
  copies = λ q. refl;
  owned = λ q. refl;
  there = λ q. refl;
  spare = omega arith;
}

spare-some : (room old new : ℕ) (t : Bool) → new ≡ old + (if t then 0 else 1) → (old < room) ⊎ (t ≡ true) → (room - new) + (if t then 0 else 1) ≡ room - old
spare-some room old new true e h = omega (arith, e)
spare-some room old new false e (inl h) = omega (arith, e, h)
spare-some room old new false e (inr h) = absurd (false≢true h)

-- after a key is entered
module _ (omit : ℕ) (old new : Bounded (ℕ × Noted)) (key : ℕ) (noted : Noted) (put : IsEntered key noted old new) where
  noted_here : (q : ℕ) → q ≡ key → noted_in new.items q ≡ noted
  noted_here q same =
      let there : entry_in new.items q ≡ Some noted = put.entries q ∙ (rw (eq-eqb q key same) refl) in
      rw there refl

  noted_there : (q : ℕ) → q ≢ key → noted_in new.items q ≡ noted_in old.items q
  noted_there q other =
      let there : entry_in new.items q ≡ entry_in old.items q = put.entries q ∙ (rw (ne_eqb q key other) refl) in
      rw there refl

  is_there-put : (q : ℕ) → is_some (entry_in new.items q) ≡ (q == key || is_some (entry_in old.items q))
  is_there-put q = elim (cases_eq q key) [
    | inl same ↦
        let there : entry_in new.items q ≡ Some noted = put.entries q ∙ (rw (eq-eqb q key same) refl) in
        rw (there, eq-eqb q key same) refl
    | inr other ↦
        let there : entry_in new.items q ≡ entry_in old.items q = put.entries q ∙ (rw (ne_eqb q key other) refl) in
        rw (there, ne_eqb q key other) refl
  ]

  IsPut-entered : MayEnter key old → IsPut key (kept omit old) (kept omit new)
  unfolding is_there
  IsPut-entered room = record {
    omit = refl;
    room = put.room;
    there = is_there-put;
    spare =
        rw (length-keys_of omit old, length-keys_of omit new, put.room)
        (spare-some old.room (length old.items) (length new.items) (is_some (entry_in old.items key)) put.grown room);
  }

  pub IsLearnt-entered : HasRoomFor key (kept omit old) → noted.copies ≡ raised (noted_in old.items key).copies → noted.owned ≡ (noted_in old.items key).owned
      → IsLearnt key (kept omit old) (kept omit new)
  unfolding copies_of is_owned
  IsLearnt-entered room copies owned = record {
    put = IsPut-entered (room_for omit old key room);
    copies = λ q. elim (cases_eq q key) [
      | inl same ↦
          rw (eq-eqb q key same)
          (ap (λ (x : Noted). x.copies) (noted_here q same) ∙ copies ∙ ap (λ k. raised (noted_in old.items k).copies) (sym same))
      | inr other ↦ rw (ne_eqb q key other) (ap (λ (x : Noted). x.copies) (noted_there q other))
    ];
    owned = λ q. elim (cases_eq q key) [
      | inl same ↦ ap (λ (x : Noted). x.owned) (noted_here q same) ∙ owned ∙ ap (λ k. (noted_in old.items k).owned) (sym same)
      | inr other ↦ ap (λ (x : Noted). x.owned) (noted_there q other)
    ];
  }

  pub IsOwned-entered : HasRoomFor key (kept omit old) → noted.copies ≡ (noted_in old.items key).copies → noted.owned ≡ true
      → IsOwned key (kept omit old) (kept omit new)
  unfolding copies_of is_owned
  IsOwned-entered room copies owned = record {
    put = IsPut-entered (room_for omit old key room);
    copies = λ q. elim (cases_eq q key) [
      | inl same ↦ ap (λ (x : Noted). x.copies) (noted_here q same) ∙ copies ∙ ap (λ k. (noted_in old.items k).copies) (sym same)
      | inr other ↦ ap (λ (x : Noted). x.copies) (noted_there q other)
    ];
    owned = λ q. elim (cases_eq q key) [
      | inl same ↦ rw (eq-eqb q key same) (ap (λ (x : Noted). x.owned) (noted_here q same) ∙ owned)
      | inr other ↦ rw (ne_eqb q key other) (ap (λ (x : Noted). x.owned) (noted_there q other))
    ];
  }

  -- what a copy calls for goes by what is noted of it then
  pub learnt-entered : noted.owned ≡ (noted_in old.items key).owned
      → learnt_of omit noted.copies noted.owned ≡ learnt_of omit (copies_of (kept omit new) key) (is_owned (kept omit old) key)
  unfolding copies_of is_owned
  learnt-entered owned =
      ap (λ o. learnt_of omit noted.copies o) owned
      ∙ ap (λ (x : Noted). learnt_of omit x.copies (noted_in old.items key).owned) (sym (noted_here key refl))

nothing_of : (o : Option Noted) → unwrap_or (option_map (λ _. nothing) o) nothing ≡ nothing
nothing_of None = refl
nothing_of (Some noted) = refl

still_some : (o : Option Noted) → is_some (option_map (λ _. nothing) o) ≡ is_some o
still_some None = refl
still_some (Some noted) = refl

-- after a key is cleared
module _ (omit : ℕ) (old new : Bounded (ℕ × Noted)) (key : ℕ) (cleared : IsCleared key old new) where
  cleared_here : (q : ℕ) → q ≡ key → entry_in new.items q ≡ option_map (λ _. nothing) (entry_in old.items q)
  cleared_here q same = cleared.entries q ∙ (rw (eq-eqb q key same) refl)

  cleared_there : (q : ℕ) → q ≢ key → entry_in new.items q ≡ entry_in old.items q
  cleared_there q other = cleared.entries q ∙ (rw (ne_eqb q key other) refl)

  pub IsForgotten-cleared : IsForgotten key (kept omit old) (kept omit new)
  unfolding copies_of is_owned is_there
  IsForgotten-cleared = record {
    omit = refl;
    room = cleared.room;
    copies = λ q. elim (cases_eq q key) [
      | inl same ↦ rw (eq-eqb q key same, cleared_here q same) (ap (λ (x : Noted). x.copies) (nothing_of (entry_in old.items q)))
      | inr other ↦ rw (ne_eqb q key other, cleared_there q other) refl
    ];
    owned = λ q. elim (cases_eq q key) [
      | inl same ↦ rw (eq-eqb q key same, cleared_here q same) (ap (λ (x : Noted). x.owned) (nothing_of (entry_in old.items q)))
      | inr other ↦ rw (ne_eqb q key other, cleared_there q other) refl
    ];
    there = λ q. elim (cases_eq q key) [
      | inl same ↦ rw (cleared_here q same) (still_some (entry_in old.items q))
      | inr other ↦ rw (cleared_there q other) refl
    ];
    spare = rw (length-keys_of omit old, length-keys_of omit new, cleared.room, cleared.same_length) refl;
  }
