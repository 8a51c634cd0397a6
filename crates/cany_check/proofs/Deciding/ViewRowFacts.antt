-- The table of the views that correct nodes hold, one view after another, and all of them.
use Rattle.std.proofs.Common.{◌≡◌, ℕ, zero, suc, ◌+◌, ◌<◌, ◌≤◌, ◌==◌, ◌||◌, ◌⊎◌, Bool, true, false, List, [], ◌∷◌, ◌++◌, map, length, get_or, count_by, take, drop, refl, ap, sym, subst, ◌∙◌, arith, inl, inr}
use Rattle.std.specs.Prelude.{filter, filter_map, find, if◌then◌else◌, is_some, nat_lt, option_map, Option, None, Some, unwrap_or}
use Rattle.std.specs.List.{cons_option, flat_map, list_any, range_with_len}
use Rattle.std.specs.Option.{option_or}
use Rattle.std.proofs.lemmas.Bool.{cases_Bool, cases_eq, cases_lt, eq-eqb, false≢true, le-ltb, lt-ltb, ne_eqb}
use Rattle.std.proofs.lemmas.List.{append-nil, append_assoc, drop_more, ext_get_or, flat_map_more, get_or_past, get_or_read, map-append, take_more}
use Rattle.std.proofs.lemmas.List.Concat.{flat_map-append}
use Rattle.std.proofs.lemmas.List.Elements.{filter-append}
use Rattle.std.proofs.lemmas.List.FromFn.{get_or-map-range_with_len, length-map-range_with_len}
use Rattle.std.proofs.lemmas.List.Sums.{length-filter}
use Rattle.cany_base.specs.declared.log_entry.LogEntry.{LogEntry}
use Rattle.cany_base.specs.Nodes.{Nodes}
use Rattle.cany_check.specs.declared.deciders.findings.ViewParting.{ViewParting}
use Rattle.cany_check.specs.declared.account.record.LogRecord.{LogRecord}
use Rattle.cany_check.specs.Accounts.Account.{AccountParts, LogParts, running}
use Rattle.cany_check.specs.Accounts.AccountFields.{log_parts}
use Rattle.cany_check.specs.InOrder.{ascending, put_once}
use Rattle.cany_check.specs.Deciding.ViewRows.{HasRows, has_other_members, of_number, row_parting, row_of, views_in, with_view}
use Rattle.cany_check.specs.Deciding.Views.{HeldView, as_parting, held_views, parting_in, same_members, view_in, view_numbers, view_partings, views_of_number}

-- ---- one row

find_append : {X : Type 0} (t : X → Bool) (xs ys : List X) → find t (xs ++ ys) ≡ option_or (find t xs) (find t ys)
find_append t [] ys = refl
find_append t (x ∷ xs) ys = elim (cases_Bool (t x)) [
  | inl passes ↦ rw passes refl
  | inr fails ↦ rw fails (find_append t xs ys)
]

found_passes : {X : Type 0} (t : X → Bool) (xs : List X) (x : X) → find t xs ≡ Some x → t x ≡ true
found_passes t [] x e = absurd (cc)
found_passes t (y ∷ xs) x e = elim (cases_Bool (t y)) [
  | inl passes ↦ let here : Some y ≡ Some x = rw passes at e in let same : y ≡ x = cc in subst (λ z. t z ≡ true) same passes
  | inr fails ↦ found_passes t xs x (rw fails at e)
]

same_self : (v : Nodes) → same_members v v ≡ true
same_self v = eq-eqb v.bits v.bits refl

-- with one view more
pub row_more : (views : List HeldView) (v : HeldView) → row_of (views ++ v ∷ []) ≡ with_view (row_of views) v
row_more [] v = refl
row_more (u ∷ views) v = by_find (find (has_other_members u) views) refl
  where
    more : (o : Option HeldView) → find (has_other_members u) views ≡ o → row_of ((u ∷ views) ++ v ∷ []) ≡ Some (as_parting u (unwrap_or (option_or o (find (has_other_members u) (v ∷ []))) u))
    more o e =
        ap (λ p. Some (as_parting u (unwrap_or p u))) (find_append (has_other_members u) views (v ∷ []) ∙ ap (λ p. option_or p (find (has_other_members u) (v ∷ []))) e)

    alone : Some (as_parting u (unwrap_or (find (has_other_members u) (v ∷ [])) u)) ≡ with_view (Some (as_parting u u)) v
    alone = elim (cases_Bool (same_members u.members v.members)) [
      | inl same ↦ rw (same_self u.members, same) refl
      | inr other ↦ rw (same_self u.members, other) refl
    ]

    stays : (w : HeldView) → has_other_members u w ≡ true → Some (as_parting u w) ≡ with_view (Some (as_parting u w)) v
    stays w apart = rw apart refl

    by_find : (o : Option HeldView) → find (has_other_members u) views ≡ o → row_of ((u ∷ views) ++ v ∷ []) ≡ with_view (row_of (u ∷ views)) v
    by_find None e = more None e ∙ alone ∙ ap (λ p. with_view (Some (as_parting u (unwrap_or p u))) v) (sym e)
    by_find (Some w) e =
        more (Some w) e ∙ stays w (found_passes (has_other_members u) views w e) ∙ ap (λ p. with_view (Some (as_parting u (unwrap_or p u))) v) (sym e)

pub row_parts : (views : List HeldView) → row_parting (row_of views) ≡ parting_in views
row_parts [] = refl
row_parts (u ∷ views) = by_find (find (has_other_members u) views) refl
  where
    by_find : (o : Option HeldView) → find (has_other_members u) views ≡ o → row_parting (row_of (u ∷ views)) ≡ parting_in (u ∷ views)
    by_find None e = ap (λ p. row_parting (Some (as_parting u (unwrap_or p u)))) e ∙ rw (same_self u.members) refl ∙ ap (option_map (as_parting u)) (sym e)
    by_find (Some w) e =
        ap (λ p. row_parting (Some (as_parting u (unwrap_or p u)))) e ∙ apart w (found_passes (has_other_members u) views w e) ∙ ap (option_map (as_parting u)) (sym e)
      where
        apart : (x : HeldView) → has_other_members u x ≡ true → row_parting (Some (as_parting u x)) ≡ Some (as_parting u x)
        apart x other = rw other refl

-- ---- the table

of_number_more : (k : ℕ) (views : List HeldView) (v : HeldView) → row_of (of_number k (views ++ v ∷ [])) ≡ (if k == v.number then with_view (row_of (of_number k views)) v else row_of (of_number k views))
of_number_more k views v = elim (cases_eq k v.number) [
  | inl same ↦
      ap row_of (filter-append (λ (w : HeldView). w.number == k) views (v ∷ []) ∙ ap (λ l. of_number k views ++ l) (rw (eq-eqb v.number k (sym same)) refl))
      ∙ row_more (of_number k views) v
      ∙ sym (ap (λ b. if b then with_view (row_of (of_number k views)) v else row_of (of_number k views)) (eq-eqb k v.number same))
  | inr other ↦
      ap row_of (filter-append (λ (w : HeldView). w.number == k) views (v ∷ []) ∙ ap (λ l. of_number k views ++ l) (rw (ne_eqb v.number k (λ e. other (sym e))) refl) ∙ append-nil (of_number k views))
      ∙ sym (ap (λ b. if b then with_view (row_of (of_number k views)) v else row_of (of_number k views)) (ne_eqb k v.number other))
]

-- one view more
pub rows_more : (views : List HeldView) (v : HeldView) (old new : List (Option ViewParting)) → HasRows views old
    → ((k : ℕ) → get_or new k None ≡ (if k == v.number then with_view (get_or old k None) v else get_or old k None)) → HasRows (views ++ v ∷ []) new
rows_more views v old new has step = record {
  each = λ k. step k ∙ ap (λ row. if k == v.number then with_view row v else row) (has.each k) ∙ sym (of_number_more k views v);
}

pub no_rows : HasRows [] []
no_rows = record { each = λ k. get_or_past [] k None (omega arith) }

-- a row more of no view
pub row_pushed : (rows : List (Option ViewParting)) (k : ℕ) → get_or (rows ++ None ∷ []) k None ≡ get_or rows k None
row_pushed [] zero = refl
row_pushed [] (suc k) = refl
row_pushed (row ∷ rows) zero = refl
row_pushed (row ∷ rows) (suc k) = row_pushed rows k

-- the views of an entry more, and of a log more
pub entries_more : (views : List HeldView) (node : ℕ) (entries : List LogEntry) (i : ℕ) (d : LogEntry) → i < length entries
    → (views ++ flat_map (view_in node) (take i entries)) ++ view_in node (get_or entries i d) ≡ views ++ flat_map (view_in node) (take (i + 1) entries)
entries_more views node entries i d within =
    flat_map_more (view_in node) views (take i entries) (get_or entries i d) ∙ ap (λ l. views ++ flat_map (view_in node) l) (sym (take_more entries i d within))

module _ (logs : List LogRecord) (i : ℕ) (d : LogRecord) (within : i < length logs) where
  abbrev views_before : ℕ → List HeldView
  views_before n = flat_map views_in (running (map log_parts (take n logs)))

  logs_more : views_before (i + 1) ≡ views_before i ++ flat_map views_in (running (log_parts (get_or logs i d) ∷ []))
  logs_more =
      ap (λ l. flat_map views_in (running l)) (ap (map log_parts) (take_more logs i d within) ∙ map-append log_parts (take i logs) (get_or logs i d ∷ []))
      ∙ ap (flat_map views_in) (filter-append (λ (l : LogParts). l.runs) (map log_parts (take i logs)) (log_parts (get_or logs i d) ∷ []))
      ∙ flat_map-append views_in (running (map log_parts (take i logs))) (running (log_parts (get_or logs i d) ∷ []))

  pub of_log_that_runs : (x : LogRecord) → (get_or logs i d).runs ≡ true → x ≡ get_or logs i x → views_before (i + 1) ≡ views_before i ++ views_in (log_parts x)
  of_log_that_runs x runs is =
      let one : flat_map views_in (running (log_parts (get_or logs i d) ∷ [])) ≡ views_in (log_parts (get_or logs i d)) =
      rw runs (append-nil (views_in (log_parts (get_or logs i d)))) in
      logs_more ∙ ap (λ l. views_before i ++ l) (one ∙ ap (λ (y : LogRecord). views_in (log_parts y)) (sym (get_or_read logs i x within is d)))

  pub of_log_that_stopped : (get_or logs i d).runs ≡ false → views_before (i + 1) ≡ views_before i
  of_log_that_stopped stopped =
      let none : running (log_parts (get_or logs i d) ∷ []) ≡ [] = rw stopped refl in
      logs_more ∙ ap (λ l. views_before i ++ flat_map views_in l) none ∙ append-nil (views_before i)

-- the partings of a row more
pub partings_more : (found : List ViewParting) (rows : List (Option ViewParting)) (i : ℕ) (d : Option ViewParting) → i < length rows
    → (found ++ cons_option (row_parting (get_or rows i d)) []) ++ filter_map row_parting (drop (i + 1) rows) ≡ found ++ filter_map row_parting (drop i rows)
partings_more found rows i d within =
    append_assoc found (cons_option (row_parting row) []) (filter_map row_parting (drop (i + 1) rows))
    ∙ ap (λ l. found ++ l) (one (row_parting row) (filter_map row_parting (drop (i + 1) rows)) ∙ ap (filter_map row_parting) (sym (drop_more rows i d within)))
  where
    row : Option ViewParting
    row = get_or rows i d

    one : (o : Option ViewParting) (rest : List ViewParting) → cons_option o [] ++ rest ≡ cons_option o rest
    one None rest = refl
    one (Some p) rest = refl

-- ---- the numbers

-- numbers from s on that pass a test
abbrev passing : (ℕ → Bool) → ℕ → ℕ → List ℕ
passing p s n = filter p (range_with_len s n)

put_first : (p : ℕ → Bool) (x s n : ℕ) → x < s → put_once nat_lt x (passing p s n) ≡ x ∷ passing p s n
unfolding put_once
put_first p x s zero before = refl
put_first p x s (suc n) before = elim (cases_Bool (p s)) [
  | inl passes ↦ rw (passes, lt-ltb x s before) refl
  | inr fails ↦ rw fails (put_first p x (s + 1) n (omega arith))
]

-- where a number is none of these
passing_past : (p : ℕ → Bool) (x s n : ℕ) → x < s → passing (λ k. x == k || p k) s n ≡ passing p s n
passing_past p x s zero before = refl
passing_past p x s (suc n) before =
    ap (λ b. if b || p s then s ∷ passing (λ k. x == k || p k) (s + 1) n else passing (λ k. x == k || p k) (s + 1) n) (ne_eqb x s (λ e. absurd (omega (arith, e, before))))
    ∙ ap (λ l. if p s then s ∷ l else l) (passing_past p x (s + 1) n (omega arith))

put_in : (p : ℕ → Bool) (x s n : ℕ) → s ≤ x → x < s + n → put_once nat_lt x (passing p s n) ≡ passing (λ k. x == k || p k) s n
unfolding put_once
put_in p x s zero from below = absurd (omega (arith, from, below))
put_in p x s (suc n) from below = elim (cases_eq x s) [
  | inl here ↦
      first here (cases_Bool (p s))
      ∙ ap (λ l. s ∷ l) (sym (passing_past p x (s + 1) n (omega (arith, here))))
      ∙ sym (ap (λ b. if b || p s then s ∷ passing (λ k. x == k || p k) (s + 1) n else passing (λ k. x == k || p k) (s + 1) n) (eq-eqb x s here))
  | inr other ↦
      let after : s < x = omega (arith, other, from) in
      rest after (put_in p x (s + 1) n (omega (arith, after)) (omega (arith, below))) (cases_Bool (p s))
      ∙ sym (ap (λ b. if b || p s then s ∷ passing (λ k. x == k || p k) (s + 1) n else passing (λ k. x == k || p k) (s + 1) n) (ne_eqb x s other))
]
  where
    first : x ≡ s → (p s ≡ true) ⊎ (p s ≡ false) → put_once nat_lt x (passing p s (suc n)) ≡ s ∷ passing p (s + 1) n
    first here (inl passes) = rw (passes, le-ltb x s (omega (arith, here)), le-ltb s x (omega (arith, here))) refl
    first here (inr fails) = rw fails (put_first p x (s + 1) n (omega (arith, here)) ∙ ap (λ k. k ∷ passing p (s + 1) n) here)

    rest : s < x → put_once nat_lt x (passing p (s + 1) n) ≡ passing (λ k. x == k || p k) (s + 1) n → (p s ≡ true) ⊎ (p s ≡ false)
        → put_once nat_lt x (passing p s (suc n)) ≡ (if p s then s ∷ passing (λ k. x == k || p k) (s + 1) n else passing (λ k. x == k || p k) (s + 1) n)
    rest after later (inl passes) = rw (passes, le-ltb x s (omega (arith, after)), lt-ltb s x after) (ap (λ l. s ∷ l) later)
    rest after later (inr fails) = rw fails later

-- the numbers of a list, ascending, where all are small
ascending_is : (ns : List ℕ) (n : ℕ) → ((x : ℕ) → list_any (λ y. y == x) ns ≡ true → x < n) → ascending nat_lt ns ≡ passing (λ k. list_any (λ y. y == k) ns) 0 n
unfolding ascending
ascending_is [] n small = sym (none_pass 0 n)
  where
    none_pass : (s m : ℕ) → passing (λ k. false) s m ≡ []
    none_pass s zero = refl
    none_pass s (suc m) = none_pass (s + 1) m
ascending_is (x ∷ ns) n small =
    ap (put_once nat_lt x) (ascending_is ns n (λ y h. small y (ap (λ b. (x == y) || b) h ∙ or_true (x == y))))
    ∙ put_in (λ k. list_any (λ y. y == k) ns) x 0 n (omega arith) (omega (arith, small x (ap (λ b. b || list_any (λ y. y == x) ns) (eq-eqb x x refl))))
  where
    or_true : (b : Bool) → (b || true) ≡ true
    or_true true = refl
    or_true false = refl

-- ---- all of it

-- a list by its places
by_place : {X : Type 0} (d : X) (f : ℕ → X) (s : ℕ) (xs : List X) → ((k : ℕ) → k < length xs → get_or xs k d ≡ f (s + k)) → xs ≡ map f (range_with_len s (length xs))
by_place d f s xs at =
    ext_get_or d xs (map f (range_with_len s (length xs))) (sym (length-map-range_with_len f s (length xs)))
    (λ k within. at k within ∙ sym (get_or-map-range_with_len f s (length xs) k (s + k) d within refl))

filter_same : {X : Type 0} (p q : X → Bool) (xs : List X) → ((x : X) → p x ≡ q x) → filter p xs ≡ filter q xs
filter_same p q [] h = refl
filter_same p q (x ∷ xs) h = ap (λ b. if b then x ∷ filter p xs else filter p xs) (h x) ∙ ap (λ l. if q x then x ∷ l else l) (filter_same p q xs h)

filtered_map : {X Y : Type 0} (p : Y → Bool) (f : X → Y) (xs : List X) → length (filter p (map f xs)) ≡ length (filter (λ x. p (f x)) xs)
filtered_map p f [] = refl
filtered_map p f (x ∷ xs) = elim (cases_Bool (p (f x))) [
  | inl passes ↦ rw passes (ap suc (filtered_map p f xs))
  | inr fails ↦ rw fails (filtered_map p f xs)
]

-- there is a row of a number where there is a view of it
is_held : (k : ℕ) (views : List HeldView) → is_some (row_of (of_number k views)) ≡ list_any (λ y. y == k) (map (λ (v : HeldView). v.number) views)
is_held k [] = refl
is_held k (v ∷ views) = elim (cases_Bool (v.number == k)) [
  | inl of_it ↦ rw of_it refl
  | inr other ↦ rw other (is_held k views)
]

module _ (a : AccountParts) (rows : List (Option ViewParting)) (has : HasRows (held_views a) rows) where
  abbrev numbers : List ℕ
  numbers = map (λ (v : HeldView). v.number) (held_views a)

  abbrev is_number : ℕ → Bool
  is_number k = list_any (λ y. y == k) numbers

  abbrev row_at : ℕ → Option ViewParting
  row_at k = row_of (of_number k (held_views a))

  abbrev places : List ℕ
  places = range_with_len 0 (length rows)

  rows_are : rows ≡ map row_at places
  rows_are = by_place None row_at 0 rows (λ k within. has.each k ∙ ap row_at (omega arith))

  small : (k : ℕ) → is_number k ≡ true → k < length rows
  small k h = elim (cases_lt k (length rows)) [
    | inl within ↦ within
    | inr past ↦
        let none : row_at k ≡ None = sym (has.each k) ∙ get_or_past rows k None past in
        absurd (false≢true (ap (λ (o : Option ViewParting). is_some o) (sym none) ∙ is_held k (held_views a) ∙ h))
  ]

  numbers_by_place : view_numbers a ≡ filter is_number places
  numbers_by_place = ascending_is numbers (length rows) small

  pub numbers_are : count_by is_some rows ≡ length (view_numbers a)
  numbers_are =
      sym (length-filter is_some rows) ∙ ap (λ (l : List (Option ViewParting)). length (filter is_some l)) rows_are ∙ filtered_map is_some row_at places
      ∙ ap length (filter_same (λ k. is_some (row_at k)) is_number places (λ k. is_held k (held_views a))) ∙ ap length (sym numbers_by_place)

  by_numbers : (ks : List ℕ) → filter_map row_parting (map row_at ks) ≡ filter_map (λ k. parting_in (views_of_number a k)) (filter is_number ks)
  by_numbers [] = refl
  by_numbers (k ∷ ks) =
      ap (λ o. cons_option o (filter_map row_parting (map row_at ks))) (row_parts (of_number k (held_views a)))
      ∙ ap (cons_option (parting_in (views_of_number a k))) (by_numbers ks)
      ∙ one (cases_Bool (is_number k))
    where
      no_parting : (o : Option ViewParting) → is_some o ≡ false → row_parting o ≡ None
      no_parting None e = refl
      no_parting (Some p) e = absurd (false≢true (sym e))

      one : (is_number k ≡ true) ⊎ (is_number k ≡ false)
          → cons_option (parting_in (views_of_number a k)) (filter_map (λ n. parting_in (views_of_number a n)) (filter is_number ks))
          ≡ filter_map (λ n. parting_in (views_of_number a n)) (filter is_number (k ∷ ks))
      one (inl held) = rw held refl
      one (inr none) =
          rw none (ap (λ o. cons_option o (filter_map (λ n. parting_in (views_of_number a n)) (filter is_number ks)))
          (sym (row_parts (of_number k (held_views a))) ∙ no_parting (row_at k) (is_held k (held_views a) ∙ none)))

  pub partings_are : filter_map row_parting rows ≡ view_partings a
  partings_are = ap (filter_map row_parting) rows_are ∙ by_numbers places ∙ ap (filter_map (λ k. parting_in (views_of_number a k))) (sym numbers_by_place)

-- one more is found, where there is one
pub one_found : {X : Type 0} (so_far later : List X) (o : Option X) → (so_far ++ cons_option o []) ++ later ≡ so_far ++ cons_option o later
one_found so_far later None = ap (λ l. l ++ later) (append-nil so_far)
one_found so_far later (Some x) = append_assoc so_far (x ∷ []) later
