-- Room for a key, where all keys that may come are in one list.
use Rattle.std.proofs.Common.{◌≡◌, ◌≢◌, ℕ, ◌+◌, ◌≤◌, inl, inr, ◌==◌, true, false, if◌then◌else◌, List, [], ◌∷◌, length, refl, ap, sym, ◌∙◌, arith, eq-eqb}
use Rattle.std.proofs.lemmas.Bool.{cases_eq, ne_eqb, cases_Bool, false≢true}
use Rattle.cany_diffuse.specs.Eager.{EagerParts, is_there, keys_of, is_among, AllDistinct, IsCounted, HasRoomFor}

-- the list without one key
without : ℕ → List ℕ → List ℕ
without key [] = []
without key (k ∷ keys) = if key == k then keys else k ∷ without key keys

length-without : (key : ℕ) (keys : List ℕ) → is_among key keys ≡ true → length (without key keys) + 1 ≡ length keys
unfolding without
length-without key [] h = absurd (false≢true h)
length-without key (k ∷ keys) h = elim (cases_eq key k) [
  | inl same ↦ rw (eq-eqb key k same) (omega arith)
  | inr other ↦
      let rest : is_among key keys ≡ true = rw (ne_eqb key k other) at h in
      rw (ne_eqb key k other) (omega (arith, length-without key keys rest))
]

is_among-without : (q key : ℕ) (keys : List ℕ) → q ≢ key → is_among q keys ≡ true → is_among q (without key keys) ≡ true
unfolding without
is_among-without q key [] other h = h
is_among-without q key (k ∷ keys) other h = elim (cases_eq key k) [
  | inl same ↦
      let far : q ≢ k = λ at. other (at ∙ sym same) in
      let rest : is_among q keys ≡ true = rw (ne_eqb q k far) at h in
      rw (eq-eqb key k same) rest
  | inr apart ↦ elim (cases_eq q k) [
    | inl here ↦ rw (ne_eqb key k apart, eq-eqb q k here) refl
    | inr far ↦
        let rest : is_among q keys ≡ true = rw (ne_eqb q k far) at h in
        rw (ne_eqb key k apart, ne_eqb q k far) (is_among-without q key keys other rest)
  ]
]

-- distinct keys that all stand in a list are no more than it has
pub few_distinct : (keys all : List ℕ) → AllDistinct keys → ((q : ℕ) → is_among q keys ≡ true → is_among q all ≡ true) → length keys ≤ length all
few_distinct [] all distinct within = omega arith
few_distinct (k ∷ keys) all distinct within =
    let here : is_among k all ≡ true = within k (rw (eq-eqb k k refl) refl) in
    let rest : length keys ≤ length (without k all) = few_distinct keys (without k all) distinct.1 (λ q h.
    let other : q ≢ k = λ at. false≢true (sym distinct.0 ∙ ap (λ n. is_among n keys) (sym at) ∙ h) in
    is_among-without q k all other (within q (rw (ne_eqb q k other) h))) in
    omega (arith, rest, length-without k all here)

-- where all keys that are there, and this one, stand in a list of at most as many as there is room
-- for, this one may come
pub room_within : (parts : EagerParts) (all : List ℕ) (key : ℕ) → IsCounted parts → length all ≤ parts.room
    → ((q : ℕ) → is_there parts q ≡ true → is_among q all ≡ true) → is_among key all ≡ true → HasRoomFor key parts
room_within parts all key counted few within here = elim (cases_Bool (is_there parts key)) [
  | inl there ↦ inr there
  | inr absent ↦
      let new : is_among key (keys_of parts) ≡ false = sym (counted.there key) ∙ absent in
      let count : length (key ∷ keys_of parts) ≤ length all = few_distinct (key ∷ keys_of parts) all (new, counted.once) (λ q h. elim (cases_eq q key) [
        | inl same ↦ ap (λ n. is_among n all) same ∙ here
        | inr other ↦
            let rest : is_among q (keys_of parts) ≡ true = rw (ne_eqb q key other) at h in
            within q (counted.there q ∙ rest)
      ]) in
      inl (omega (arith, count, few))
]
