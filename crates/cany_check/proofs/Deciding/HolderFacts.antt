-- The holders of what entries tell of: one entry after another, and what is told of all that count.
use Rattle.std.proofs.Common.{◌≡◌, ◌≢◌, ℕ, suc, zero, ◌<◌, ◌≤◌, ◌==◌, ◌&&◌, ◌||◌, Bool, true, false, not, List, [], ◌∷◌, ◌++◌, length, map, All, refl, ap, sym, subst, ◌∙◌, arith, inl, inr}
use Rattle.std.specs.Prelude.{AllPairs, filter, if◌then◌else◌, nat_lt, replicate, slice_get, slice_index_or, slice_set, Option, None, Some}
use Rattle.std.specs.List.{AllByRecursion, flat_map, fold, list_any}
use Rattle.std.proofs.lemmas.Bool.{cases_Bool, cases_eq, cases_lt, eq-eqb, false≢true, le-ltb, lt-ltb, ne_eqb}
use Rattle.std.proofs.lemmas.List.{append-nil, get_or-replicate, length-replicate, length-set, map-append}
use Rattle.std.proofs.lemmas.Option.{get_or_from_slice_get, slice_get-get_or}
use Rattle.std.proofs.lemmas.List.Concat.{flat_map-append}
use Rattle.std.proofs.lemmas.List.Elements.{All-head, All-tail, filter-append}
use Rattle.std.proofs.lemmas.List.Folds.{list_any-append}
use Rattle.std.proofs.lemmas.List.Sums.{fold-append}
use Rattle.cany_base.specs.declared.log_entry.LogEntry.{LogEntry}
use Rattle.cany_base.specs.Limits.{most_nodes}
use Rattle.cany_base.specs.Nodes.{Nodes, has, has as is_in, minus, nobody, those_where, with_node}
use Rattle.cany_base.proofs.NodesFacts.{has-those_where, has_none, same_as_those_where, those_where-ext}
use Rattle.cany_base.proofs.SetFacts.{with_node_twice}
use Rattle.cany_check.specs.declared.deciders.holders.Holders.{Holders}
use Rattle.cany_check.specs.Accounts.Account.{AccountParts, LogParts}
use Rattle.cany_check.specs.Deciding.Fates.{least_and_greatest, with_slot}
use Rattle.cany_check.specs.Deciding.Holders.{AreHolders, IsOnly, counts_since, log_with, holders_in, no_holders, tells_in, with_entry}
use Rattle.cany_check.specs.Accounts.Orderly.{IsLogIn, IsOrderly}
use Rattle.cany_check.specs.Accounts.Words.{entry_slot, nodes_of}

-- ---- the nodes of some logs

is_among : List LogParts → ℕ → Bool
is_among logs i = list_any (λ log. log.node == i) logs

eq_turned : (m n : ℕ) → (m == n) ≡ (n == m)
eq_turned m n = elim (cases_eq m n) [
  | inl same ↦ eq-eqb m n same ∙ sym (eq-eqb n m (sym same))
  | inr other ↦ ne_eqb m n other ∙ sym (ne_eqb n m (λ e. other (sym e)))
]

or_no : (b : Bool) → (b || false) ≡ b
or_no true = refl
or_no false = refl

-- with the node of one more
nodes_push : (logs : List LogParts) (x : LogParts) → nodes_of (logs ++ x ∷ []) ≡ with_node x.node (nodes_of logs)
unfolding nodes_of is_among
nodes_push logs x =
    those_where-ext (is_among (logs ++ x ∷ [])) (λ i. has (those_where (is_among logs)) i || i == x.node) (λ i below.
    list_any-append (λ (log : LogParts). log.node == i) logs (x ∷ [])
    ∙ ap (λ b. is_among logs i || b) (or_no (x.node == i) ∙ eq_turned x.node i)
    ∙ ap (λ b. b || i == x.node) (sym (has-those_where (is_among logs) i ∙ ap (λ b. b && is_among logs i) (lt-ltb i most_nodes below))))

pub nodes_more : (p : LogParts → Bool) (logs : List LogParts) (x : LogParts)
    → nodes_of (filter p (logs ++ x ∷ [])) ≡ (if p x then with_node x.node (nodes_of (filter p logs)) else nodes_of (filter p logs))
nodes_more p logs x = ap nodes_of (filter-append p logs (x ∷ [])) ∙ elim (cases_Bool (p x)) [
  | inl passes ↦ rw passes (nodes_push (filter p logs) x)
  | inr fails ↦ rw fails (ap nodes_of (append-nil (filter p logs)))
]

pub no_nodes : nodes_of [] ≡ nobody
unfolding nodes_of
no_nodes = sym (same_as_those_where nobody (λ i. false) (λ i. has_none i ∙ no_and (nat_lt i most_nodes)))
  where
    no_and : (b : Bool) → false ≡ (b && false)
    no_and true = refl
    no_and false = refl

-- ---- one log more

pub both_tests : (p q : LogParts → Bool) (logs : List LogParts) → filter p (filter q logs) ≡ filter (λ x. q x && p x) logs
both_tests p q [] = refl
both_tests p q (x ∷ logs) = elim (cases_Bool (q x)) [
  | inl passes ↦ rw passes (ap (λ l. if p x then x ∷ l else l) (both_tests p q logs))
  | inr fails ↦ rw fails (both_tests p q logs)
]

abbrev slots_in : (LogEntry → Bool) → List LogParts → List ℕ
slots_in tells logs = flat_map (λ (log : LogParts). map entry_slot (filter tells log.entries)) logs

slots_more : (tells : LogEntry → Bool) (p : LogParts → Bool) (logs : List LogParts) (x : LogParts) → least_and_greatest (slots_in tells (filter p (logs ++ x ∷ [])))
    ≡ (if p x then fold with_slot (least_and_greatest (slots_in tells (filter p logs))) (map entry_slot (filter tells x.entries)) else least_and_greatest (slots_in tells (filter p logs)))
unfolding least_and_greatest
slots_more tells p logs x =
    ap (λ l. fold with_slot None (slots_in tells l)) (filter-append p logs (x ∷ []))
    ∙ ap (fold with_slot None) (flat_map-append (λ (log : LogParts). map entry_slot (filter tells log.entries)) (filter p logs) (filter p (x ∷ [])))
    ∙ fold-append with_slot None (slots_in tells (filter p logs)) (slots_in tells (filter p (x ∷ [])))
    ∙ elim (cases_Bool (p x)) [
      | inl passes ↦ rw passes (ap (fold with_slot (fold with_slot None (slots_in tells (filter p logs)))) (append-nil (map entry_slot (filter tells x.entries))))
      | inr fails ↦ rw fails refl
    ]

-- by whether its node counts, whether it tells of it, and the slots of the entries that do
abbrev with_log : Holders → (node : ℕ) → (counts tells : Bool) → List ℕ → Holders
with_log h node counts tells slots = record {
  has = if counts && tells then with_node node h.has else h.has;
  had = if tells then with_node node h.had else h.had;
  slots = if counts && tells then fold with_slot h.slots slots else h.slots;
}

pub one_log : (tells : LogEntry → Bool) (since : Option ℕ) (logs : List LogParts) (x : LogParts) → holders_in tells since (logs ++ x ∷ [])
    ≡ with_log (holders_in tells since logs) x.node (counts_since since x) (tells_in tells x) (map entry_slot (filter tells x.entries))
unfolding holders_in
one_log tells since logs x =
    let q : LogParts → Bool = λ y. counts_since since y && tells_in tells y in
    let both = both_tests (tells_in tells) (counts_since since) in
    let has = ap nodes_of (both (logs ++ x ∷ [])) ∙ nodes_more q logs x ∙ ap (λ l. if q x then with_node x.node (nodes_of l) else nodes_of l) (sym (both logs)) in
    let slots = ap (λ l. least_and_greatest (slots_in tells l)) (both (logs ++ x ∷ [])) ∙ slots_more tells q logs x
    ∙ ap (λ l. if q x then fold with_slot (least_and_greatest (slots_in tells l)) (map entry_slot (filter tells x.entries)) else least_and_greatest (slots_in tells l)) (sym (both logs)) in
    let had = nodes_more (tells_in tells) logs x in
    λ k. record { has = has k; had = had k; slots = slots k }

-- ---- one entry more

-- where no entry tells of it, none is of the slots of those that do
no_slots : (tells : LogEntry → Bool) (entries : List LogEntry) → list_any tells entries ≡ false → map entry_slot (filter tells entries) ≡ []
no_slots tells [] none = refl
no_slots tells (e ∷ entries) none = elim (cases_Bool (tells e)) [
  | inl here ↦ absurd (false≢true (sym none ∙ ap (λ b. b || list_any tells entries) here))
  | inr other ↦
      let rest : list_any tells entries ≡ false = ap (λ b. b || list_any tells entries) (sym other) ∙ none in
      rw other (no_slots tells entries rest)
]

-- an entry after others, by whether the node counts and one of them tells of it
by_tests : (h : Holders) (node slot : ℕ) (counts any : Bool) (slots : List ℕ) → (any ≡ false → slots ≡ [])
    → with_log h node counts true (slots ++ slot ∷ []) ≡ record {
      has = if counts then with_node node (with_log h node counts any slots).has else (with_log h node counts any slots).has;
      had = with_node node (with_log h node counts any slots).had;
      slots = if counts then with_slot (with_log h node counts any slots).slots slot else (with_log h node counts any slots).slots;
    }
by_tests h node slot true true slots none = λ k. record {
  has = sym (with_node_twice node h.has) k;
  had = sym (with_node_twice node h.had) k;
  slots = fold-append with_slot h.slots slots (slot ∷ []) k;
}
by_tests h node slot true false slots none = ap (λ l. record { has = with_node node h.has; had = with_node node h.had; slots = fold with_slot h.slots (l ++ slot ∷ []) }) (none refl)
by_tests h node slot false true slots none = λ k. record { has = h.has; had = sym (with_node_twice node h.had) k; slots = h.slots }
by_tests h node slot false false slots none = refl

module _ (tells : LogEntry → Bool) (since : Option ℕ) (before : List LogParts) (log : LogParts) (entries : List LogEntry) (e : LogEntry) where
  abbrev with_these : List LogEntry → Holders
  with_these es = with_log (holders_in tells since before) log.node (counts_since since log) (list_any tells es) (map entry_slot (filter tells es))

  with_them : (es : List LogEntry) → holders_in tells since (before ++ log_with log es ∷ []) ≡ with_these es
  with_them es = one_log tells since before (log_with log es)

  -- one that does not tell of it
  pub entry_of_another : tells e ≡ false → holders_in tells since (before ++ log_with log (entries ++ e ∷ []) ∷ []) ≡ holders_in tells since (before ++ log_with log entries ∷ [])
  entry_of_another other = with_them (entries ++ e ∷ []) ∙ same ∙ sym (with_them entries)
    where
      kept : filter tells (entries ++ e ∷ []) ≡ filter tells entries
      kept = filter-append tells entries (e ∷ []) ∙ rw other (append-nil (filter tells entries))

      any : list_any tells (entries ++ e ∷ []) ≡ list_any tells entries
      any = list_any-append tells entries (e ∷ []) ∙ rw other (or_no (list_any tells entries))

      same : with_these (entries ++ e ∷ []) ≡ with_these entries
      same =
          ap (λ b. with_log (holders_in tells since before) log.node (counts_since since log) b (map entry_slot (filter tells (entries ++ e ∷ [])))) any
          ∙ ap (λ l. with_log (holders_in tells since before) log.node (counts_since since log) (list_any tells entries) (map entry_slot l)) kept

  -- one that does
  pub entry_of_it : tells e ≡ true → holders_in tells since (before ++ log_with log (entries ++ e ∷ []) ∷ [])
      ≡ with_entry (holders_in tells since (before ++ log_with log entries ∷ [])) since log (entry_slot e)
  entry_of_it here = with_them (entries ++ e ∷ []) ∙ more ∙ ap (λ h. with_entry h since log (entry_slot e)) (sym (with_them entries))
    where
      slots : map entry_slot (filter tells (entries ++ e ∷ [])) ≡ map entry_slot (filter tells entries) ++ entry_slot e ∷ []
      slots = ap (map entry_slot) (filter-append tells entries (e ∷ []) ∙ rw here refl) ∙ map-append entry_slot (filter tells entries) (e ∷ [])

      or_yes : (b : Bool) → (b || true) ≡ true
      or_yes true = refl
      or_yes false = refl

      any : list_any tells (entries ++ e ∷ []) ≡ true
      any = list_any-append tells entries (e ∷ []) ∙ rw here (or_yes (list_any tells entries))

      more : with_these (entries ++ e ∷ []) ≡ with_entry (with_these entries) since log (entry_slot e)
      more =
          ap (λ b. with_log (holders_in tells since before) log.node (counts_since since log) b (map entry_slot (filter tells (entries ++ e ∷ [])))) any
          ∙ ap (λ l. with_log (holders_in tells since before) log.node (counts_since since log) true l) slots
          ∙ by_tests (holders_in tells since before) log.node (entry_slot e) (counts_since since log) (list_any tells entries) (map entry_slot (filter tells entries)) (no_slots tells entries)

-- a log of which no entry was looked at
no_entry : (tells : LogEntry → Bool) (since : Option ℕ) (before : List LogParts) (log : LogParts) → holders_in tells since (before ++ log_with log [] ∷ []) ≡ holders_in tells since before
no_entry tells since before log = one_log tells since before (log_with log []) ∙ by_count (holders_in tells since before) log.node (counts_since since log)
  where
    by_count : (h : Holders) (node : ℕ) (counts : Bool) → with_log h node counts false [] ≡ h
    by_count h node true = refl
    by_count h node false = refl

-- ---- all of them, one entry after another

get_set_same : (xs : List Holders) (i : ℕ) (y : Holders) → i < length xs → slice_get (slice_set xs i y) i ≡ Some y
get_set_same [] i y h = absurd (omega arith)
get_set_same (x ∷ xs) zero y h = refl
get_set_same (x ∷ xs) (suc i) y h = get_set_same xs i y (omega arith)

get_set_other : (xs : List Holders) (i j : ℕ) (y : Holders) → j ≢ i → slice_get (slice_set xs i y) j ≡ slice_get xs j
get_set_other [] i j y h = refl
get_set_other (x ∷ xs) zero zero y h = absurd (h refl)
get_set_other (x ∷ xs) zero (suc j) y h = refl
get_set_other (x ∷ xs) (suc i) zero y h = refl
get_set_other (x ∷ xs) (suc i) (suc j) y h = get_set_other xs i j y (λ e. h (ap suc e))

-- of each by its index, where there are so many
module _ (number : ℕ) (tells : ℕ → LogEntry → Bool) (since : ℕ → Option ℕ) where
  pub none_yet : (holders : List Holders) → holders ≡ replicate number no_holders → AreHolders number tells since [] holders
  unfolding holders_in least_and_greatest
  none_yet holders are = record {
    count = ap length are ∙ length-replicate number no_holders;
    each = λ k below.
        ap (λ l. slice_get l k) are ∙ slice_get-get_or (replicate number no_holders) k no_holders (omega (arith, length-replicate number no_holders))
        ∙ ap Some (get_or-replicate number k no_holders no_holders below ∙ empty (tells k) (since k));
  }
    where
      empty : (t : LogEntry → Bool) (from : Option ℕ) → no_holders ≡ holders_in t from []
      empty t from = λ k. record { has = sym no_nodes k; had = sym no_nodes k; slots = None }

  -- those of the one at a place
  pub held_at : (logs : List LogParts) (holders : List Holders) (k : ℕ) (h : Holders) → AreHolders number tells since logs holders → k < number → h ≡ slice_index_or holders k h
      → h ≡ holders_in (tells k) (since k) logs
  held_at logs holders k h are below is = is ∙ get_or_from_slice_get holders k (holders_in (tells k) (since k) logs) h (are.each k below)

  module _ (before : List LogParts) (log : LogParts) where
    pub with_no_entry : (holders : List Holders) → AreHolders number tells since before holders → AreHolders number tells since (before ++ log_with log [] ∷ []) holders
    with_no_entry holders are = record { count = are.count; each = λ k below. are.each k below ∙ ap Some (sym (no_entry (tells k) (since k) before log)) }

    module _ (entries : List LogEntry) (e : LogEntry) (holders : List Holders) (are : AreHolders number tells since (before ++ log_with log entries ∷ []) holders) where
      pub tells_of_none : IsOnly number (λ k. tells k e) None → AreHolders number tells since (before ++ log_with log (entries ++ e ∷ []) ∷ []) holders
      tells_of_none only = record {
        count = are.count;
        each = λ k below. are.each k below ∙ ap Some (sym (entry_of_another (tells k) (since k) before log entries e (only.only k below)));
      }

      pub tells_of_one : (index : ℕ) (old new : Holders) → IsOnly number (λ k. tells k e) (Some index) → old ≡ slice_index_or holders index old
          → new ≡ with_entry old (since index) log (entry_slot e) → AreHolders number tells since (before ++ log_with log (entries ++ e ∷ []) ∷ []) (slice_set holders index new)
      tells_of_one index old new only is more = record { count = length-set holders index new ∙ are.count; each = at }
        where
          there : old ≡ holders_in (tells index) (since index) (before ++ log_with log entries ∷ [])
          there = is ∙ get_or_from_slice_get holders index (holders_in (tells index) (since index) (before ++ log_with log entries ∷ [])) old (are.each index only.within)

          at : (k : ℕ) → k < number → slice_get (slice_set holders index new) k ≡ Some (holders_in (tells k) (since k) (before ++ log_with log (entries ++ e ∷ []) ∷ []))
          at k below = elim (cases_eq k index) [
            | inl same ↦
                let told : tells index e ≡ true = only.only index only.within ∙ eq-eqb index index refl in
                ap (slice_get (slice_set holders index new)) same ∙ get_set_same holders index new (omega (arith, are.count, only.within))
                ∙ ap Some (more ∙ ap (λ h. with_entry h (since index) log (entry_slot e)) there ∙ sym (entry_of_it (tells index) (since index) before log entries e told))
                ∙ ap (λ j. Some (holders_in (tells j) (since j) (before ++ log_with log (entries ++ e ∷ []) ∷ []))) (sym same)
            | inr other ↦
                let not_told : tells k e ≡ false = only.only k below ∙ ne_eqb k index other in
                get_set_other holders index k new other ∙ are.each k below ∙ ap Some (sym (entry_of_another (tells k) (since k) before log entries e not_told))
          ]

-- ---- those that lack it

-- of the logs of a node only the last one runs: so after one that runs there is none of its node
abbrev OneRuns : List LogParts → Type 0
OneRuns [] = Unit {0}
OneRuns (x ∷ logs) = (x.runs ≡ true → AllByRecursion (λ y. x.node ≢ y.node) logs) × OneRuns logs

none_of_node : (k : ℕ) (p : LogParts → Bool) (logs : List LogParts) → AllByRecursion (λ y. k ≢ y.node) logs → is_among (filter p logs) k ≡ false
unfolding is_among
none_of_node k p [] h = refl
none_of_node k p (x ∷ logs) h = elim (cases_Bool (p x)) [
  | inl passes ↦ rw passes (ap (λ b. b || is_among (filter p logs) k) (ne_eqb x.node k (λ e. h.0 (sym e))) ∙ none_of_node k p logs h.1)
  | inr fails ↦ rw fails (none_of_node k p logs h.1)
]

module _ (counts has : LogParts → Bool) (run : (x : LogParts) → counts x ≡ true → x.runs ≡ true) where
  lacking_among : (k : ℕ) (logs : List LogParts) → OneRuns logs
      → is_among (filter (λ x. counts x && not (has x)) logs) k ≡ (is_among (filter counts logs) k && not (is_among (filter (λ x. counts x && has x) logs) k))
  unfolding is_among
  lacking_among k [] one = refl
  lacking_among k (x ∷ logs) one = elim (cases_Bool (counts x)) [
    | inr not_counted ↦ rw not_counted (lacking_among k logs one.1)
    | inl counted ↦ elim (cases_eq x.node k) [
      | inl here ↦
          let others : AllByRecursion (λ y. k ≢ y.node) logs = subst (λ n. AllByRecursion (λ y. n ≢ y.node) logs) here (one.0 (run x counted)) in
          let at : (x.node == k) ≡ true = eq-eqb x.node k here in
          let lacking = none_of_node k (λ y. counts y && not (has y)) logs others in
          let having = none_of_node k (λ y. counts y && has y) logs others in
          elim (cases_Bool (has x)) [
            | inl had ↦ rw (counted, had, at) lacking
            | inr not_had ↦ rw (counted, not_had, at) (ap not (sym having))
          ]
      | inr other ↦
          let away : (x.node == k) ≡ false = ne_eqb x.node k other in
          elim (cases_Bool (has x)) [
            | inl had ↦ rw (counted, had, away) (lacking_among k logs one.1)
            | inr not_had ↦ rw (counted, not_had, away) (lacking_among k logs one.1)
          ]
    ]
  ]

  -- of a set of nodes that count, those that are not in the set of the nodes that have it
  pub lacking_nodes : (logs : List LogParts) → OneRuns logs → minus (nodes_of (filter counts logs)) (nodes_of (filter has (filter counts logs))) ≡ nodes_of (filter (λ x. not (has x)) (filter counts logs))
  unfolding nodes_of is_among
  lacking_nodes logs one =
      those_where-ext (λ r. is_in (nodes_of (filter counts logs)) r && not (is_in (nodes_of (filter has (filter counts logs))) r)) (is_among (filter (λ x. not (has x)) (filter counts logs))) (λ k below.
      ap (λ b. b && not (is_in (nodes_of (filter has (filter counts logs))) k)) (member k below (filter counts logs))
      ∙ ap (λ b. is_among (filter counts logs) k && not b) (member k below (filter has (filter counts logs)) ∙ ap (λ l. is_among l k) (both_tests has counts logs))
      ∙ sym (lacking_among k logs one)
      ∙ ap (λ l. is_among l k) (sym (both_tests (λ x. not (has x)) counts logs)))
    where
      member : (k : ℕ) → k < most_nodes → (l : List LogParts) → is_in (nodes_of l) k ≡ is_among l k
      member k below l = has-those_where (is_among l) k ∙ ap (λ b. b && is_among l k) (lt-ltb k most_nodes below)

-- ---- the logs of an account

-- the nodes that count, by logs and a slot that are those of the account
pub counting_by : (logs kept : List LogParts) (slot since : Option ℕ) (counting : Nodes) → counting ≡ nodes_of (filter (counts_since slot) logs) → logs ≡ kept → slot ≡ since
    → counting ≡ nodes_of (filter (counts_since since) kept)
counting_by logs kept slot since counting is same_logs same_slot =
    is ∙ ap (λ l. nodes_of (filter (counts_since slot) l)) same_logs ∙ ap (λ n. nodes_of (filter (counts_since n) kept)) same_slot

one_runs : (logs : List LogParts) → AllPairs (λ x y. x.node ≡ y.node → x.runs ≡ false) logs → OneRuns logs
one_runs [] last = tt
one_runs (x ∷ logs) last = (λ runs. later logs (λ k d below. last zero (suc k) d (omega arith) (omega arith)) runs, one_runs logs (λ i j d before below. last (suc i) (suc j) d (omega arith) (omega arith)))
  where
    later : (ys : List LogParts) → ((k : ℕ) (d : LogParts) → k < length ys → x.node ≡ (slice_index_or ys k d).node → x.runs ≡ false) → x.runs ≡ true → AllByRecursion (λ y. x.node ≢ y.node) ys
    later [] each runs = tt
    later (y ∷ ys) each runs = (λ same. absurd (false≢true (sym (each zero y (omega arith) same) ∙ runs)), later ys (λ k d below. each (suc k) d (omega arith)) runs)

pub one_runs_of : (a : AccountParts) → IsOrderly a → OneRuns a.logs
one_runs_of a orderly = one_runs a.logs orderly.last_runs

none_beyond : (k : ℕ) (p : LogParts → Bool) (logs : List LogParts) → most_nodes ≤ k → AllByRecursion (λ (x : LogParts). x.node < most_nodes) logs → is_among (filter p logs) k ≡ false
none_beyond k p logs over small = none_of_node k p logs (others logs small)
  where
    others : (ls : List LogParts) → AllByRecursion (λ (x : LogParts). x.node < most_nodes) ls → AllByRecursion (λ y. k ≢ y.node) ls
    others [] h = tt
    others (x ∷ ls) h = (λ e. absurd (omega (arith, e, over, h.0)), others ls h.1)

all_small : (a : AccountParts) (logs : List LogParts) → a.params.nodes ≤ most_nodes → All (IsLogIn a) logs → AllByRecursion (λ (x : LogParts). x.node < most_nodes) logs
all_small a [] few all = tt
all_small a (x ∷ logs) few all = (omega (arith, (All-head (IsLogIn a) x logs all).node, few), all_small a logs few (All-tail (IsLogIn a) x logs all))

-- a node is in the set of those of some logs exactly where a log is its
pub has_node : (a : AccountParts) → IsOrderly a → (p : LogParts → Bool) (k : ℕ) → is_in (nodes_of (filter p a.logs)) k ≡ list_any (λ log. log.node == k) (filter p a.logs)
unfolding nodes_of is_among
has_node a orderly p k = has-those_where (is_among (filter p a.logs)) k ∙ elim (cases_lt k most_nodes) [
  | inl below ↦ ap (λ b. b && is_among (filter p a.logs) k) (lt-ltb k most_nodes below)
  | inr over ↦ ap (λ b. b && is_among (filter p a.logs) k) (le-ltb k most_nodes over) ∙ sym (none_beyond k p a.logs over (all_small a a.logs orderly.few_nodes orderly.logs))
]
