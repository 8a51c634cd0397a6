-- Counts of gates over several calls.
use Rattle.std.proofs.Common.{◌≡◌, ℕ, zero, suc, ◌<◌, ◌≤◌, true, List, [], ◌∷◌, ◌++◌, length, map, refl, sym, ap, ◌∙◌, subst, inl, inr, arith}
use Rattle.std.specs.Prelude.{slice_index, slice_index_or, slice_set, Option, Some, None, Result, Ok, Err, IfOk, IsOkAnd, is_some}
use Rattle.std.proofs.lemmas.Bool.{cases_eq, false≢true}
use Rattle.std.proofs.lemmas.Grind.{get_or-set_at}
use Rattle.std.proofs.lemmas.List.{get_or-set_other, length-map, length-set, map-set, set-get_or}
use Rattle.cany_io.specs.Faults.{HasRisen}
use Rattle.cany_command.proofs.PerformedFacts.{rose}
use Rattle.cany_crew.specs.Gates.{HasAnyRefused, HasRefused, IsHeldAt, IsOutcome, NoneFell, NoneRefused}

-- ---- one count

pub risen_later : (old middle new : ℕ) → old ≤ middle → HasRisen middle new → HasRisen old new
risen_later old middle new h risen last = let r : middle < new = risen last in omega arith

pub risen_before : (old middle new : ℕ) → old ≤ middle → HasRisen old middle → middle ≤ new → HasRisen old new
risen_before old middle new h risen le last = elim (cases_eq new middle) [
  | inl same ↦ let r : old < middle = risen (λ e. last (same ∙ e)) in omega (arith, same)
  | inr other ↦ omega arith
]

-- ---- the counts of all gates

pub none_fell : (old new : List ℕ) → new ≡ old → NoneFell old new
none_fell old new e = record { len = ap length e; each = λ node. omega (arith, ap (λ xs. slice_index xs node) e) }

pub fell_then : (old middle new : List ℕ) → NoneFell old middle → NoneFell middle new → NoneFell old new
fell_then old middle new h k = record {
  len = k.len ∙ h.len;
  each = λ node. let a = h.each node in let b = k.each node in omega arith;
}

pub refused_later : (node : ℕ) (old middle new : List ℕ) → NoneFell old middle → HasRefused node middle new → HasRefused node old new
refused_later node old middle new h refused =
    (refused.0, risen_later (slice_index old node) (slice_index middle node) (slice_index new node) (h.each node) refused.1)

pub refused_before : (node : ℕ) (old middle new : List ℕ) → NoneFell old middle → HasRefused node old middle → NoneFell middle new → HasRefused node old new
refused_before node old middle new h refused k = (
  let e = k.len in let below = refused.0 in omega arith,
  risen_before (slice_index old node) (slice_index middle node) (slice_index new node) (h.each node) refused.1 (k.each node),
)

-- ---- what it came to

pub outcome_held : (old middle new : List ℕ) (last : List (Option ℕ)) (found : ℕ × ℕ) → middle ≡ old → NoneFell middle new → IsHeldAt found.0 found.1 middle new last
    → IsOutcome old new last (Some found)
outcome_held old middle new last found same fell refused =
    subst (λ (counts : List ℕ). IsOutcome counts new last (Some found)) same (record { fell = fell; passed = tt; refused = refused })

-- steps after others of which none was held
pub outcome_then : (old middle new : List ℕ) (between last : List (Option ℕ)) (first second : Option (ℕ × ℕ)) → first ≡ None → IsOutcome old middle between first
    → IsOutcome middle new last second → IsOutcome old new last second
outcome_then old middle new between last None second none before after = subst (λ (counts : List ℕ). IsOutcome counts new last second) before.passed after
outcome_then old middle new between last (Some found) second none before after = absurd (grind arith)

pub all_passed : {E : Type 0} (old new : List ℕ) (last : List (Option ℕ)) (ending : Result (Option (ℕ × ℕ)) E) → ending ≡ Ok None
    → IfOk ending (λ held. IsOutcome old new last held) → new ≡ old
all_passed {E} old new last ending is outcome =
    let ended : IsOutcome old new last None = subst (λ (e : Result (Option (ℕ × ℕ)) E). IfOk e (λ held. IsOutcome old new last held)) is outcome in
    ended.passed

pub any_refused : {E : Type 0} (old new : List ℕ) (last : List (Option ℕ)) (ending : Result (Option (ℕ × ℕ)) E) → IsOkAnd ending (λ held. is_some held ≡ true)
    → IfOk ending (λ held. IsOutcome old new last held) → HasAnyRefused old new
any_refused old new last (Ok None) held outcome = absurd (false≢true held)
any_refused old new last (Ok (Some found)) held outcome = (found.0, outcome.refused.refused)
any_refused old new last (Err fault) held outcome = absurd held

-- no gate refused where the counts stand
pub none_rose : (old new : List ℕ) → NoneRefused old new → HasAnyRefused old new → ⊥
none_rose old new none any =
    rose (slice_index old any.0) (slice_index new any.0) any.1.1 (ap (λ (xs : List ℕ). slice_index xs any.0) none.0, none.1 any.0 0 any.1.0)

-- ---- more gates behind

front_index : (xs zs : List ℕ) (i : ℕ) → i < length xs → slice_index (xs ++ zs) i ≡ slice_index xs i
front_index [] zs i h = absurd (omega arith)
front_index (x ∷ xs) zs zero h = refl
front_index (x ∷ xs) zs (suc i) h = front_index xs zs i (omega arith)

pub fell_with : (xs ys zs : List ℕ) → NoneFell xs ys → NoneFell (xs ++ zs) (ys ++ zs)
fell_with [] [] zs h = none_fell zs zs refl
fell_with [] (y ∷ ys) zs h = absurd (let e = h.len in omega arith)
fell_with (x ∷ xs) [] zs h = absurd (let e = h.len in omega arith)
fell_with (x ∷ xs) (y ∷ ys) zs h =
    let rest = fell_with xs ys zs (record { len = let e = h.len in omega arith; each = λ i. h.each (suc i) }) in
    record { len = ap suc rest.len; each = go rest }
  where
    go : NoneFell (xs ++ zs) (ys ++ zs) → (i : ℕ) → slice_index (x ∷ xs ++ zs) i ≤ slice_index (y ∷ ys ++ zs) i
    go rest zero = h.each 0
    go rest (suc i) = rest.each i

pub refused_with : (node : ℕ) (xs ys zs : List ℕ) → length ys ≡ length xs → HasRefused node xs ys → HasRefused node (xs ++ zs) (ys ++ zs)
refused_with node xs ys zs len refused = (
  more ys zs refused.0,
  (λ last. rw (front_index xs zs node (let b = refused.0 in omega arith), front_index ys zs node refused.0)
      (refused.1 (λ e. last (front_index ys zs node refused.0 ∙ e)))),
)
  where
    length_of : (front back : List ℕ) → length front ≤ length (front ++ back)
    length_of [] back = omega arith
    length_of (a ∷ front) back = let r = length_of front back in omega arith

    more : (front back : List ℕ) → node < length front → node < length (front ++ back)
    more front back h = let e = length_of front back in omega arith

slot_with : (node slot : ℕ) (last others : List (Option ℕ)) → slice_index_or last node None ≡ Some slot → slice_index_or (last ++ others) node None ≡ Some slot
slot_with node slot [] others e = absurd (let none : None ≡ Some slot = e in cc)
slot_with zero slot (x ∷ last) others e = e
slot_with (suc node) slot (x ∷ last) others e = slot_with node slot last others e

pub held_with : (node slot : ℕ) (xs ys zs : List ℕ) (last others : List (Option ℕ)) → length ys ≡ length xs → IsHeldAt node slot xs ys last
    → IsHeldAt node slot (xs ++ zs) (ys ++ zs) (last ++ others)
held_with node slot xs ys zs last others len held = record {
  refused = refused_with node xs ys zs len held.refused;
  slot_is = slot_with node slot last others held.slot_is;
  least = λ lesser less.
      let within = held.refused.0 in
      front_index ys zs lesser (omega (arith, within, less)) ∙ held.least lesser less ∙ sym (front_index xs zs lesser (omega (arith, within, less, len)));
}

-- ---- one gate was asked

count_at : {X : Type 0} (refusals : X → ℕ) (gates : List X) (i : ℕ) (d : X) → i < length gates
    → slice_index (map refusals gates) i ≡ refusals (slice_index_or gates i d)
count_at refusals [] i d within = absurd (omega arith)
count_at refusals (x ∷ gates) zero d within = refl
count_at refusals (x ∷ gates) (suc i) d within = count_at refusals gates i d (omega arith)

pub asked_fell : (counts : List ℕ) (i new : ℕ) → i < length counts → slice_index counts i ≤ new → NoneFell counts (slice_set counts i new)
asked_fell counts i new within le = record {
  len = length-set counts i new;
  each = λ j. elim (cases_eq j i) [
    | inl same ↦ omega (arith, get_or-set_at counts i j new 0 same within, ap (λ k. slice_index counts k) same)
    | inr other ↦ omega (arith, get_or-set_other counts i j new 0 other)
  ];
}

pub asked_refused : (counts : List ℕ) (i new : ℕ) → i < length counts → HasRisen (slice_index counts i) new → HasRefused i counts (slice_set counts i new)
asked_refused counts i new within risen =
    let at = get_or-set_at counts i i new 0 refl within in
    (omega (arith, length-set counts i new), (λ last. subst (λ n. slice_index counts i < n) (sym at) (risen (λ e. last (at ∙ e)))))

pub asked_same : (counts : List ℕ) (i new : ℕ) → new ≡ slice_index counts i → slice_set counts i new ≡ counts
asked_same counts i new e = ap (λ n. slice_set counts i n) e ∙ set-get_or counts i 0

asked_others : (counts : List ℕ) (i new : ℕ) (lesser : ℕ) → lesser < i → slice_index (slice_set counts i new) lesser ≡ slice_index counts lesser
asked_others counts i new lesser less = get_or-set_other counts i lesser new 0 (λ same. omega (arith, less, same))

-- the counts before and after one gate was asked, and the slot of the last pass that it refused
pub record IsAsked {X : Type 0} (refusals : X → ℕ) (refused_at : X → Option ℕ) (gates : List X) (node : ℕ) (gate after : X) (new : List X) : Type 0 where
  pub counts : map refusals new ≡ slice_set (map refusals gates) node (refusals after)
  pub before : slice_index (map refusals gates) node ≡ refusals gate
  pub within : node < length (map refusals gates)
  pub slot : slice_index_or (map refused_at new) node None ≡ refused_at after

pub asked : {X : Type 0} (refusals : X → ℕ) (refused_at : X → Option ℕ) (gates : List X) (node i : ℕ) (d after : X) → i ≡ node → node < length gates
    → IsAsked refusals refused_at gates node (slice_index_or gates i d) after (slice_set gates i after)
asked refusals refused_at gates node i d after e within = record {
  counts = map-set refusals gates i after ∙ ap (λ k. slice_set (map refusals gates) k (refusals after)) e;
  before = ap (λ k. slice_index (map refusals gates) k) (sym e) ∙ count_at refusals gates i d (omega (arith, e));
  within = omega (arith, length-map gates refusals);
  slot = ap (λ (slots : List (Option ℕ)). slice_index_or slots node None) (map-set refused_at gates i after)
      ∙ get_or-set_at (map refused_at gates) i node (refused_at after) None (sym e) (omega (arith, e, length-map gates refused_at));
}

pub asked_held : (node slot new : ℕ) (counts after : List ℕ) (last : List (Option ℕ)) → node < length counts → HasRisen (slice_index counts node) new
    → after ≡ slice_set counts node new → slice_index_or last node None ≡ Some slot → IsHeldAt node slot counts after last
asked_held node slot new counts after last within risen e at =
    subst (λ (now : List ℕ). IsHeldAt node slot counts now last) (sym e) (record {
      refused = asked_refused counts node new within risen;
      slot_is = at;
      least = asked_others counts node new;
    })

-- ---- gates that count nothing

none_counted : {X : Type 0} (refusals : X → ℕ) → ((gate : X) → refusals gate ≡ 0) → (gates : List X) (i : ℕ) → slice_index (map refusals gates) i ≡ 0
none_counted refusals free [] i = refl
none_counted refusals free (gate ∷ gates) zero = free gate
none_counted refusals free (gate ∷ gates) (suc i) = none_counted refusals free gates i

pub free_refuse_none : {X : Type 0} (refusals : X → ℕ) → ((gate : X) → refusals gate ≡ 0) → (old new : List X) (node : ℕ)
    → HasRefused node (map refusals old) (map refusals new) → ⊥
free_refuse_none refusals free old new node refused =
    let was = none_counted refusals free old node in
    let now = none_counted refusals free new node in
    let risen = refused.1 (λ last. absurd (omega arith)) in
    omega arith
