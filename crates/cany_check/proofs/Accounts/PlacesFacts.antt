-- The places of messages by their keys: what a table of them has, and that it finds the first
-- message of a key.
use Rattle.std.proofs.Common.{◌≡◌, ℕ, zero, suc, ◌+◌, ◌<◌, ◌==◌, inl, inr, Bool, true, false, List, [], ◌∷◌, ◌++◌, length, take, count_by, cond, refl, ap, sym, subst, ◌∙◌, arith, append_assoc}
use Rattle.std.specs.Prelude.{if◌then◌else◌, Option, None, Some, IfSome, find, is_some, nat_lt, replicate, slice_get, slice_index_or, slice_set, Vec}
use Rattle.std.specs.Borrow.{Bor}
use Rattle.std.specs.Global.{Global}
use Rattle.std.specs.List.{position_from, position_or_len}
use Rattle.std.specs.Option.{option_copied}
use Rattle.std.proofs.lemmas.Bool.{and_parts, cases_Bool, cases_eq, cases_lt, cond-true, cond-false, eq-eqb, eqb-true, le-ltb, lt-ltb, ltb-false, ltb-true, ne_eqb}
use Rattle.std.proofs.lemmas.List.{get_or-map, get_or-replicate, get_or-set_other, get_or-set_same, length-map, length-replicate, map-set, take_at}
use Rattle.std.proofs.lemmas.List.Folds.{find_at}
use Rattle.std.proofs.lemmas.List.Sums.{sum_by-append}
use Rattle.std.proofs.lemmas.Option.{slice_get-get_or, slice_get_past}
use Rattle.std.proofs.lemmas.Iterator.Adapters.{position_from-zero}
use Rattle.cany_base.specs.declared.message.MsgKey.{MsgKey}
use Rattle.cany_base.specs.Limits.{most_nodes}
use Rattle.cany_check.specs.declared.account.record.MessageRecord.{MessageRecord}
use Rattle.cany_check.specs.Accounts.Account.{AccountParts}
use Rattle.cany_check.specs.Accounts.Orderly.{IsNextAfter, IsOrderly, is_of_origin}
use Rattle.cany_check.specs.Accounts.Places.{AreNumbered, AreRows, lists_of, place_of, places_from}
use Rattle.cany_check.specs.Accounts.Words.{same_key}

-- ---- sequence numbers

-- the messages of an account are numbered
pub numbered_messages : (a : AccountParts) → IsOrderly a → (ms : List MessageRecord) → ms ≡ a.messages → AreNumbered ms
numbered_messages a orderly ms are = subst AreNumbered (sym are) orderly.numbered

-- those of the messages of an origin are this number and the next ones
abbrev AreNumberedFrom : (origin n : ℕ) → List MessageRecord → Type 0
AreNumberedFrom origin n [] = Unit {0}
AreNumberedFrom origin n (m ∷ ms) =
    (is_of_origin origin m ≡ true → m.key.seq ≡ n) × AreNumberedFrom origin (n + cond (is_of_origin origin m) 1 0) ms

get_at : (before : List MessageRecord) (m : MessageRecord) (ms : List MessageRecord) → slice_get (before ++ m ∷ ms) (length before) ≡ Some m
get_at [] m ms = refl
get_at (x ∷ before) m ms = get_at before m ms

numbered_after : (origin : ℕ) (before ms : List MessageRecord) → AreNumbered (before ++ ms) → AreNumberedFrom origin (count_by (is_of_origin origin) before) ms
numbered_after origin before [] h = tt
numbered_after origin before (m ∷ ms) h =
    let later : AreNumberedFrom origin (count_by (is_of_origin origin) (before ++ m ∷ [])) ms =
    numbered_after origin (before ++ m ∷ []) ms (subst AreNumbered (sym (append_assoc before (m ∷ []) ms)) h) in
    let more : count_by (is_of_origin origin) (before ++ m ∷ []) ≡ count_by (is_of_origin origin) before + cond (is_of_origin origin m) 1 0 =
    sum_by-append (λ (x : MessageRecord). cond (is_of_origin origin x) 1 0) before (m ∷ []) ∙ omega arith in
    (here, subst (λ n. AreNumberedFrom origin n ms) more later)
  where
    next : IsNextAfter before m
    next = subst (λ l. IsNextAfter l m) (take_at before (m ∷ ms) (length before) refl) (h (length before) m (get_at before m ms))

    here : is_of_origin origin m ≡ true → m.key.seq ≡ count_by (is_of_origin origin) before
    here e = next ∙ ap (λ o. count_by (is_of_origin o) before) (eqb-true m.key.origin origin e)

-- ---- a row of the table

abbrev key : ℕ → ℕ → MsgKey
key origin seq = record { origin = origin; seq = seq }

abbrev has_key : MsgKey → MessageRecord → Bool
has_key k m = same_key m.key k

row_finds : (origin n seq place : ℕ) (ms : List MessageRecord) → AreNumberedFrom origin n ms
    → slice_get (places_from origin place ms) seq ≡ position_from (has_key (key origin (n + seq))) place ms
unfolding places_from
row_finds origin n seq place [] h = refl
row_finds origin n zero place (m ∷ ms) h = elim (cases_Bool (is_of_origin origin m)) [
  | inl is ↦
      let same : (m.key.seq == n + 0) ≡ true = eq-eqb m.key.seq (n + 0) (omega (arith, h.0 is)) in
      rw (is, same) refl
  | inr other ↦
      let later = row_finds origin (n + 0) zero (place + 1) ms (subst (λ b. AreNumberedFrom origin (n + cond b 1 0) ms) other h.1) in
      let same : n + 0 + 0 ≡ n + 0 = omega arith in
      rw other (later ∙ ap (λ s. position_from (has_key (key origin s)) (place + 1) ms) same)
]
row_finds origin n (suc seq) place (m ∷ ms) h = elim (cases_Bool (is_of_origin origin m)) [
  | inl is ↦
      let other : (m.key.seq == n + suc seq) ≡ false = ne_eqb m.key.seq (n + suc seq) (λ e. absurd (omega (arith, h.0 is, e))) in
      let later = row_finds origin (n + 1) seq (place + 1) ms (subst (λ b. AreNumberedFrom origin (n + cond b 1 0) ms) is h.1) in
      let same : n + 1 + seq ≡ n + suc seq = omega arith in
      rw (is, other) (later ∙ ap (λ s. position_from (has_key (key origin s)) (place + 1) ms) same)
  | inr other ↦
      let later = row_finds origin (n + 0) (suc seq) (place + 1) ms (subst (λ b. AreNumberedFrom origin (n + cond b 1 0) ms) other h.1) in
      let same : n + 0 + suc seq ≡ n + suc seq = omega arith in
      rw other (later ∙ ap (λ s. position_from (has_key (key origin s)) (place + 1) ms) same)
]

pub found_in_row : (ms : List MessageRecord) → AreNumbered ms → (k : MsgKey) → slice_get (places_from k.origin 0 ms) k.seq ≡ place_of k ms
found_in_row ms h k =
    row_finds k.origin 0 k.seq 0 ms (numbered_after k.origin [] ms h)
    ∙ ap (λ s. position_from (has_key (key k.origin s)) 0 ms) (omega arith)
    ∙ sym (position_from-zero (has_key k) ms)

-- in the row of its origin each message stands at its sequence number
stands_at : (origin place k : ℕ) (ms : List MessageRecord) (m : MessageRecord) → slice_get ms k ≡ Some m → is_of_origin origin m ≡ true
    → slice_get (places_from origin place ms) (count_by (is_of_origin origin) (take k ms)) ≡ Some (place + k)
unfolding places_from
stands_at origin place k [] m at is = absurd (cc)
stands_at origin place zero (x ∷ ms) m at is =
    let here : x ≡ m = cc in
    let first : is_of_origin origin x ≡ true = ap (is_of_origin origin) here ∙ is in
    rw first (ap Some (omega arith))
stands_at origin place (suc k) (x ∷ ms) m at is =
    let later = stands_at origin (place + 1) k ms m at is in
    let count : count_by (is_of_origin origin) (take (suc k) (x ∷ ms)) ≡ cond (is_of_origin origin x) 1 0 + count_by (is_of_origin origin) (take k ms) =
    sum_by-append (λ (y : MessageRecord). cond (is_of_origin origin y) 1 0) (x ∷ []) (take k ms) ∙ omega arith in
    ap (slice_get (places_from origin place (x ∷ ms))) count
    ∙ by_first (is_of_origin origin x) (count_by (is_of_origin origin) (take k ms)) (places_from origin (place + 1) ms) ∙ later ∙ ap Some (omega arith)
  where
    by_first : (b : Bool) (n : ℕ) (l : List ℕ) → slice_get (if b then place ∷ l else l) (cond b 1 0 + n) ≡ slice_get l n
    by_first true n l = let e : 1 + n ≡ suc n = omega arith in ap (slice_get (place ∷ l)) e
    by_first false n l = let e : 0 + n ≡ n = omega arith in ap (slice_get l) e

-- so a key is that of one message alone
pub place_is : (ms : List MessageRecord) → AreNumbered ms → (k : MsgKey) (place : ℕ) (m : MessageRecord) → slice_get ms place ≡ Some m → same_key m.key k ≡ true → place_of k ms ≡ Some place
place_is ms h k place m at same =
    let parts = and_parts (m.key.origin == k.origin) (m.key.seq == k.seq) same in
    let origin : m.key.origin ≡ k.origin = eqb-true m.key.origin k.origin parts.0 in
    let seq : k.seq ≡ count_by (is_of_origin k.origin) (take place ms) =
    sym (eqb-true m.key.seq k.seq parts.1) ∙ h place m at ∙ ap (λ o. count_by (is_of_origin o) (take place ms)) origin in
    sym (found_in_row ms h k) ∙ ap (slice_get (places_from k.origin 0 ms)) seq ∙ stands_at k.origin 0 place ms m at parts.0 ∙ ap Some (omega arith)

-- one message more
pub row_more : (origin place : ℕ) (ms : List MessageRecord) (m : MessageRecord) → places_from origin place (ms ++ m ∷ [])
    ≡ (if m.key.origin == origin then places_from origin place ms ++ (place + length ms) ∷ [] else places_from origin place ms)
unfolding places_from
row_more origin place [] m = ap (λ p. if m.key.origin == origin then p ∷ [] else []) (omega arith)
row_more origin place (x ∷ ms) m =
    ap (λ l. if x.key.origin == origin then place ∷ l else l) (row_more origin (place + 1) ms m)
    ∙ by_tests (x.key.origin == origin) (m.key.origin == origin) (places_from origin (place + 1) ms)
    ∙ ap (λ p. if m.key.origin == origin then places_from origin place (x ∷ ms) ++ p ∷ [] else places_from origin place (x ∷ ms)) (omega arith)
  where
    by_tests : (a b : Bool) (l : List ℕ) → (if a then place ∷ (if b then l ++ (place + 1 + length ms) ∷ [] else l) else (if b then l ++ (place + 1 + length ms) ∷ [] else l))
        ≡ (if b then (if a then place ∷ l else l) ++ (place + 1 + length ms) ∷ [] else (if a then place ∷ l else l))
    by_tests true true l = refl
    by_tests true false l = refl
    by_tests false true l = refl
    by_tests false false l = refl

-- ---- what the place of a key is

-- the message at the place is the first of the key
pub at_place : (k : MsgKey) (ms : List MessageRecord) (place : ℕ) → place_of k ms ≡ Some place → slice_get ms place ≡ find (λ m. same_key m.key k) ms
at_place k ms place e = elim (cases_lt (position_or_len (has_key k) ms) (length ms)) [
  | inl below ↦
      let is : place ≡ position_or_len (has_key k) ms = cc (cond-true _ (Some (position_or_len (has_key k) ms)) None (lt-ltb _ _ below)) in
      ap (slice_get ms) is ∙ sym (find_at (has_key k) ms)
  | inr over ↦ absurd (cc (cond-false _ (Some (position_or_len (has_key k) ms)) None (le-ltb _ _ over)))
]

-- where there is none, no message has the key
pub no_place : (k : MsgKey) (ms : List MessageRecord) → place_of k ms ≡ None → find (λ m. same_key m.key k) ms ≡ None
no_place k ms e = elim (cases_lt (position_or_len (has_key k) ms) (length ms)) [
  | inl below ↦ absurd (cc (cond-true _ (Some (position_or_len (has_key k) ms)) None (lt-ltb _ _ below)))
  | inr over ↦ find_at (has_key k) ms ∙ slice_get_past ms (position_or_len (has_key k) ms) over
]

pub place_within : (k : MsgKey) (ms : List MessageRecord) → IfSome (place_of k ms) (λ place. place < length ms)
place_within k ms = elim (cases_lt (position_or_len (has_key k) ms) (length ms)) [
  | inl below ↦ rw (lt-ltb _ _ below) below
  | inr over ↦ rw (le-ltb _ _ over) tt
]

-- ---- the rows of a table

-- what is at an index of a row
pub copied_at : (o : Option (Bor ℕ)) (xs : List ℕ) (i : ℕ) → is_some o ≡ nat_lt i (length xs) → IfSome o (λ x. x.now ≡ slice_index_or xs i x.now) → option_copied o ≡ slice_get xs i
copied_at None xs i some h = sym (slice_get_past xs i (ltb-false i (length xs) (sym some)))
copied_at (Some x) xs i some h = ap Some h ∙ sym (slice_get-get_or xs i x.now (ltb-true i (length xs) (sym some)))

pub row_items : (rows : List (Vec ℕ Global)) (i : ℕ) (row : Vec ℕ Global) → i < length rows → row ≡ slice_index_or rows i row → row.items ≡ slice_index_or (lists_of rows) i []
row_items rows i row within is = ap (λ (r : Vec ℕ Global). r.items) is ∙ sym (get_or-map (λ (r : Vec ℕ Global). r.items) rows i row [] within)

-- one place more in one of them
pub row_set : (rows : List (Vec ℕ Global)) (at place : ℕ) (old new : Vec ℕ Global) → at < length rows → old ≡ slice_index_or rows at old → new.items ≡ old.items ++ place ∷ []
    → (o : ℕ) → slice_index_or (lists_of (slice_set rows at new)) o [] ≡ (if o == at then slice_index_or (lists_of rows) o [] ++ place ∷ [] else slice_index_or (lists_of rows) o [])
row_set rows at place old new within is more o =
    let sets : lists_of (slice_set rows at new) ≡ slice_set (lists_of rows) at new.items = map-set (λ (r : Vec ℕ Global). r.items) rows at new in
    elim (cases_eq o at) [
      | inl same ↦
          let test : (o == at) ≡ true = eq-eqb o at same in
          let here : slice_index_or (lists_of rows) o [] ≡ old.items = ap (λ k. slice_index_or (lists_of rows) k []) same ∙ sym (row_items rows at old within is) in
          let inside : at < length (lists_of rows) = omega (arith, length-map rows (λ (r : Vec ℕ Global). r.items)) in
          let there : slice_index_or (slice_set (lists_of rows) at new.items) o [] ≡ new.items =
          ap (λ k. slice_index_or (slice_set (lists_of rows) at new.items) k []) same ∙ get_or-set_same (lists_of rows) at new.items [] inside in
          ap (λ l. slice_index_or l o []) sets ∙ there ∙ more ∙ ap (λ l. l ++ place ∷ []) (sym here)
          ∙ ap (λ b. if b then slice_index_or (lists_of rows) o [] ++ place ∷ [] else slice_index_or (lists_of rows) o []) (sym test)
      | inr other ↦
          let test : (o == at) ≡ false = ne_eqb o at other in
          ap (λ l. slice_index_or l o []) sets ∙ get_or-set_other (lists_of rows) at o new.items [] other
          ∙ ap (λ b. if b then slice_index_or (lists_of rows) o [] ++ place ∷ [] else slice_index_or (lists_of rows) o []) (sym test)
    ]

pub no_rows : (rows : List (List ℕ)) → rows ≡ replicate most_nodes [] → AreRows [] rows
unfolding places_from
no_rows rows are = record {
  number = ap length are ∙ length-replicate {A = List ℕ} most_nodes [];
  each = λ o below. ap (λ l. slice_index_or l o []) are ∙ get_or-replicate most_nodes o [] [] below;
}

pub rows_more : (ms : List MessageRecord) (m : MessageRecord) (old new : List (List ℕ)) → AreRows ms old → length new ≡ length old
    → ((o : ℕ) → slice_index_or new o [] ≡ (if o == m.key.origin then slice_index_or old o [] ++ length ms ∷ [] else slice_index_or old o [])) → AreRows (ms ++ m ∷ []) new
rows_more ms m old new are same step = record {
  number = same ∙ are.number;
  each = λ o below.
      step o ∙ ap (λ l. if o == m.key.origin then l ++ length ms ∷ [] else l) (are.each o below)
      ∙ ap (λ b. if b then places_from o 0 ms ++ length ms ∷ [] else places_from o 0 ms) (turned o m.key.origin)
      ∙ ap (λ n. if m.key.origin == o then places_from o 0 ms ++ n ∷ [] else places_from o 0 ms) (omega arith)
      ∙ sym (row_more o 0 ms m);
}
  where
    turned : (a b : ℕ) → (a == b) ≡ (b == a)
    turned a b = elim (cases_eq a b) [
      | inl e ↦ eq-eqb a b e ∙ sym (eq-eqb b a (sym e))
      | inr e ↦ ne_eqb a b e ∙ sym (ne_eqb b a (λ f. e (sym f)))
    ]
