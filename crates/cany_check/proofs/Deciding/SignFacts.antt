-- The signs of an account ascend, and of which one an entry tells.
use Rattle.std.proofs.Common.{Ordering, Less, Equal, Greater, ◌≡◌, ℕ, suc, zero, ◌+◌, ◌<◌, ◌≤◌, ◌==◌, ◌&&◌, ◌||◌, true, false, not, List, [], ◌∷◌, length, map, filter, refl, ap, sym, subst, ◌∙◌, arith, inl, inr}
use Rattle.std.specs.Prelude.{Option, None, Some, if◌then◌else◌, is_none, nat_lt, slice_get, slice_index_or, option_map}
use Rattle.std.specs.Cmp.{IsTotalOrder}
use Rattle.std.specs.List.{AllByRecursion, flat_map}
use Rattle.std.specs.List.Sorted.{IsNonDecreasingBy, IsPartitionPoint}
use Rattle.std.specs.Option.{option_and_then, option_map_or}
use Rattle.std.specs.Ordering.{is_lt, nat_cmp, ordering_index, ordering_then}
use Rattle.std.proofs.lemmas.Bool.Decides.{nat_tests}
use Rattle.std.proofs.lemmas.Bool.{and_parts, cases_Bool, cases_eq, cases_lt, cases_order, eq-eqb, eqb-true, le-ltb, ltb-true, ne_eqb, or_cases}
use Rattle.std.proofs.lemmas.Cmp.{nat_cmp_total, on_total, ranked, then_total}
use Rattle.std.proofs.lemmas.List.Sorted.{searchable_from_sorted}
use Rattle.std.proofs.lemmas.Option.{get_or_from_slice_get, slice_get-get_or, slice_get_read}
use Rattle.cany_base.specs.Nodes.{Nodes, minus, nobody, is_nobody}
use Rattle.cany_check.specs.declared.deciders.holders.Holders.{Holders}
use Rattle.cany_check.specs.declared.account.record.SignRecord.{SignRecord}
use Rattle.cany_check.specs.declared.account.record.FirstAndLast.{FirstAndLast}
use Rattle.cany_model.specs.Rules.Knowledge.{FailureSign}
use Rattle.cany_check.specs.Accounts.Account.{AccountParts, LogParts, is_sign_before, running, sign_in}
use Rattle.cany_check.specs.Deciding.Fates.{sign_fate, sign_fate_by, sign_has, sign_lacks, sign_told, slots_where}
use Rattle.cany_check.specs.Deciding.Holders.{AreHolders, IsOnly, counts_since, holders_in}
use Rattle.cany_check.specs.InOrder.{ascending, put_once}
use Rattle.cany_check.specs.Accounts.Orderly.{IsOrderly, sign_named}
use Rattle.cany_check.specs.Deciding.SignSubjects.{DoAscend, names_at, sign_since, sign_since_at, tells_at}
use Rattle.cany_check.specs.Accounts.Words.{counting_for_sign, counts_for_sign, knows, nodes_of, takes_part, takes_part_for, tells_sign}
use Rattle.cany_check.proofs.Deciding.HolderFacts.{both_tests, held_at, lacking_nodes, one_runs_of}

-- ---- one before another

before_trans : (a b c d e f : ℕ) → (nat_lt a c || (a == c && nat_lt b d)) ≡ true → (nat_lt c e || (c == e && nat_lt d f)) ≡ true → (nat_lt a e || (a == e && nat_lt b f)) ≡ true
before_trans a b c d e f p q = grind (arith, nat_tests)

-- not both, by cycle and node
not_both : (x y : SignRecord) → is_sign_before (sign_named x) (sign_named y) ≡ true → x.cycle ≡ y.cycle → x.node ≡ y.node → ⊥
not_both x y before cycle node = elim (or_cases (nat_lt x.cycle y.cycle) (x.cycle == y.cycle && nat_lt x.node y.node) before) [
  | inl earlier ↦ absurd (omega (arith, ltb-true x.cycle y.cycle earlier, cycle))
  | inr same ↦ absurd (omega (arith, ltb-true x.node y.node (and_parts (x.cycle == y.cycle) (nat_lt x.node y.node) same).1, node))
]

after_is_greater : (a b c d : ℕ) → (nat_lt a c || (a == c && nat_lt b d)) ≡ true → is_lt (ordering_then (nat_cmp c a) (nat_cmp d b)) ≡ false
after_is_greater a b c d before = grind (arith, nat_tests)

-- an order of pairs: by the first, and then by the second
abbrev pair_cmp : ℕ × ℕ → ℕ × ℕ → Ordering
pair_cmp a b = ordering_then (nat_cmp a.0 b.0) (nat_cmp a.1 b.1)

pairs_total : IsTotalOrder pair_cmp
pairs_total = then_total (on_total (λ (p : ℕ × ℕ). p.0) nat_cmp_total) (on_total (λ (p : ℕ × ℕ). p.1) nat_cmp_total)

abbrev pair_of : SignRecord → ℕ × ℕ
pair_of sign = (sign.cycle, sign.node)

-- how the sign stands to this node and cycle
abbrev pub stands : (node cycle : ℕ) → SignRecord → Ordering
stands node cycle sign = ordering_then (nat_cmp sign.cycle cycle) (nat_cmp sign.node node)

equal_parts : (o p : Ordering) → ordering_then o p ≡ Equal → (o ≡ Equal) × (p ≡ Equal)
equal_parts Less p e = absurd (cc)
equal_parts Equal p e = (refl, e)
equal_parts Greater p e = absurd (cc)

is_same : (sign : SignRecord) (node cycle : ℕ) → stands node cycle sign ≡ Equal → (node == sign.node && cycle == sign.cycle) ≡ true
is_same sign node cycle e =
    let parts = equal_parts (nat_cmp sign.cycle cycle) (nat_cmp sign.node node) e in
    let c : sign.cycle ≡ cycle = ranked sign.cycle cycle Equal (sym parts.0) in
    let n : sign.node ≡ node = ranked sign.node node Equal (sym parts.1) in
    rw (eq-eqb node sign.node (sym n), eq-eqb cycle sign.cycle (sym c)) refl

cmp_same : (m n : ℕ) → m ≡ n → nat_cmp n m ≡ Equal
cmp_same m n e = rw (le-ltb n m (omega (arith, e)), eq-eqb n m (sym e)) refl

same_stands : (sign : SignRecord) (node cycle : ℕ) → (node == sign.node && cycle == sign.cycle) ≡ true → stands node cycle sign ≡ Equal
same_stands sign node cycle same =
    let parts = and_parts (node == sign.node) (cycle == sign.cycle) same in
    rw (cmp_same cycle sign.cycle (eqb-true cycle sign.cycle parts.1)) (cmp_same node sign.node (eqb-true node sign.node parts.0))

-- ---- signs that ascend

before_at : (signs : List SignRecord) → DoAscend signs → (i j : ℕ) (x y : SignRecord) → i < j → slice_get signs i ≡ Some x → slice_get signs j ≡ Some y → is_sign_before (sign_named x) (sign_named y) ≡ true
before_at [] h i j x y before at there = absurd (cc)
before_at (z ∷ signs) h zero zero x y before at there = absurd (omega arith)
before_at (z ∷ signs) h zero (suc j) x y before at there = let here : z ≡ x = cc in along signs j h.0 there
  where
    along : (l : List SignRecord) (k : ℕ) → AllByRecursion (λ w. is_sign_before (sign_named z) (sign_named w) ≡ true) l → slice_get l k ≡ Some y → is_sign_before (sign_named x) (sign_named y) ≡ true
    along [] k all e = absurd (cc)
    along (w ∷ l) zero all e = let first : z ≡ x = cc in let second : w ≡ y = cc in subst (λ u. is_sign_before (sign_named u) (sign_named y) ≡ true) first (subst (λ u. is_sign_before (sign_named z) (sign_named u) ≡ true) second all.0)
    along (w ∷ l) (suc k) all e = along l k all.1 e
before_at (z ∷ signs) h (suc i) zero x y before at there = absurd (omega arith)
before_at (z ∷ signs) h (suc i) (suc j) x y before at there = before_at signs h.1 i j x y (omega arith) at there

sorted : (signs : List SignRecord) → DoAscend signs → (k : ℕ) (d : SignRecord) → k + 1 < length signs → is_lt (pair_cmp (pair_of (slice_index_or signs (k + 1) d)) (pair_of (slice_index_or signs k d))) ≡ false
sorted signs h k d within =
    let x = slice_index_or signs k d in
    let y = slice_index_or signs (k + 1) d in
    after_is_greater x.cycle x.node y.cycle y.node
    (before_at signs h k (k + 1) x y (omega arith) (slice_get-get_or signs k d (omega arith)) (slice_get-get_or signs (k + 1) d within))

-- so no two are of one node and cycle
one_place : (signs : List SignRecord) → DoAscend signs → (node cycle i j : ℕ) (x y : SignRecord) → slice_get signs i ≡ Some x → slice_get signs j ≡ Some y
    → stands node cycle x ≡ Equal → stands node cycle y ≡ Equal → i ≡ j
one_place signs h node cycle i j x y at there e f =
    let ps = equal_parts (nat_cmp x.cycle cycle) (nat_cmp x.node node) e in
    let qs = equal_parts (nat_cmp y.cycle cycle) (nat_cmp y.node node) f in
    let same_cycle : x.cycle ≡ y.cycle = ranked x.cycle cycle Equal (sym ps.0) ∙ sym (ranked y.cycle cycle Equal (sym qs.0)) in
    let same_node : x.node ≡ y.node = ranked x.node node Equal (sym ps.1) ∙ sym (ranked y.node node Equal (sym qs.1)) in
    elim (cases_order i j) [
      | inl same ↦ same
      | inr (inl before) ↦ absurd (not_both x y (before_at signs h i j x y before at there) same_cycle same_node)
      | inr (inr after) ↦ absurd (not_both y x (before_at signs h j i y x after there at) (sym same_cycle) (sym same_node))
    ]

some_at : (signs : List SignRecord) (k : ℕ) → k < length signs → slice_get signs k ≡ None → ⊥
some_at [] k below e = omega arith
some_at (x ∷ signs) zero below e = cc
some_at (x ∷ signs) (suc k) below e = some_at signs k (omega arith) e

module _ (signs : List SignRecord) (ascend : DoAscend signs) (node cycle : ℕ) where
  pub names_one : (i : ℕ) → i < length signs → ((d : SignRecord) → stands node cycle (slice_index_or signs i d) ≡ Equal) → IsOnly (length signs) (λ k. names_at signs k node cycle) (Some i)
  names_one i within equal = record { within = within; only = λ k below. only k (slice_get signs k) refl }
    where
      only : (k : ℕ) (o : Option SignRecord) → slice_get signs k ≡ o → names_at signs k node cycle ≡ (k == i)
      only k None at = elim (cases_eq k i) [
        | inl same ↦ absurd (some_at signs k (omega (arith, same, within)) at)
        | inr other ↦ ap (λ o. option_map_or (λ sign. node == sign.node && cycle == sign.cycle) o false) at ∙ sym (ne_eqb k i other)
      ]
      only k (Some x) at = ap (λ o. option_map_or (λ sign. node == sign.node && cycle == sign.cycle) o false) at ∙ elim (cases_eq k i) [
        | inl same ↦
            let here : slice_index_or signs i x ≡ x = get_or_from_slice_get signs i x x (ap (slice_get signs) (sym same) ∙ at) in
            is_same x node cycle (subst (λ y. stands node cycle y ≡ Equal) here (equal x)) ∙ sym (eq-eqb k i same)
        | inr other ↦ elim (cases_Bool (node == x.node && cycle == x.cycle)) [
          | inl named ↦
              let y = slice_index_or signs i x in
              let there : slice_get signs i ≡ Some y = slice_get-get_or signs i x within in
              absurd (other (one_place signs ascend node cycle k i x y at there (same_stands x node cycle named) (equal x)))
          | inr not_named ↦ not_named ∙ sym (ne_eqb k i other)
        ]
      ]

  pub names_none : (i : ℕ) → (IsNonDecreasingBy (λ sign. ordering_index (stands node cycle sign)) signs → IsPartitionPoint (λ sign. stands node cycle sign ≡ Less) (λ sign. stands node cycle sign ≡ Greater) signs i)
      → i ≤ length signs → IsOnly (length signs) (λ k. names_at signs k node cycle) None
  names_none i parted bound = record { within = tt; only = λ k below. not_named k below }
    where
      parts : IsPartitionPoint (λ sign. stands node cycle sign ≡ Less) (λ sign. stands node cycle sign ≡ Greater) signs i
      parts = parted (searchable_from_sorted pairs_total pair_of signs (cycle, node) (λ k d low within. sorted signs ascend k d within))

      not_equal : (sign : SignRecord) (o : Ordering) → stands node cycle sign ≡ o → (o ≡ Equal → ⊥) → (node == sign.node && cycle == sign.cycle) ≡ false
      not_equal sign o is other = elim (cases_Bool (node == sign.node && cycle == sign.cycle)) [
        | inl same ↦ absurd (other (sym is ∙ same_stands sign node cycle same))
        | inr none ↦ none
      ]

      not_named : (k : ℕ) → k < length signs → names_at signs k node cycle ≡ false
      not_named k below = at (slice_get signs k) refl
        where
          at : (o : Option SignRecord) → slice_get signs k ≡ o → option_map_or (λ sign. node == sign.node && cycle == sign.cycle) o false ≡ false
          at None e = refl
          at (Some x) e =
              let here : slice_index_or signs k x ≡ x = get_or_from_slice_get signs k x x e in
              elim (cases_lt k i) [
                | inl before ↦ not_equal x Less (subst (λ y. stands node cycle y ≡ Less) here (parts.0 k x (omega arith) before)) (λ f. absurd (cc))
                | inr after ↦ not_equal x Greater (subst (λ y. stands node cycle y ≡ Greater) here (parts.1 k x after below)) (λ f. absurd (cc))
              ]

-- ---- the signs of an account

put_after : (x y : FailureSign) (ys : List FailureSign) → is_sign_before y x ≡ true → AllByRecursion (λ z. is_sign_before y z ≡ true) ys → AllByRecursion (λ z. is_sign_before y z ≡ true) (put_once is_sign_before x ys)
unfolding put_once
put_after x y [] p all = (p, tt)
put_after x y (z ∷ ys) p all = elim (cases_Bool (is_sign_before x z)) [
  | inl here ↦ rw here (p, all)
  | inr later ↦ elim (cases_Bool (is_sign_before z x)) [
    | inl after ↦ rw (later, after) (all.0, put_after x y ys p all.1)
    | inr equal ↦ rw (later, equal) all
  ]
]

abbrev InAscent : List FailureSign → Type 0
InAscent [] = Unit {0}
InAscent (x ∷ xs) = AllByRecursion (λ y. is_sign_before x y ≡ true) xs × InAscent xs

all_after : (x y : FailureSign) (ys : List FailureSign) → is_sign_before x y ≡ true → AllByRecursion (λ z. is_sign_before y z ≡ true) ys → AllByRecursion (λ z. is_sign_before x z ≡ true) ys
all_after x y [] p all = tt
all_after x y (z ∷ ys) p all = (before_trans x.cycle x.node y.cycle y.node z.cycle z.node p all.0, all_after x y ys p all.1)

put_ascends : (x : FailureSign) (ys : List FailureSign) → InAscent ys → InAscent (put_once is_sign_before x ys)
unfolding put_once
put_ascends x [] h = (tt, tt)
put_ascends x (y ∷ ys) h = elim (cases_Bool (is_sign_before x y)) [
  | inl here ↦ rw here ((here, all_after x y ys here h.0), h)
  | inr later ↦ elim (cases_Bool (is_sign_before y x)) [
    | inl after ↦ rw (later, after) (put_after x y ys after h.0, put_ascends x ys h.1)
    | inr equal ↦ rw (later, equal) h
  ]
]

ascending_ascends : (xs : List FailureSign) → InAscent (ascending is_sign_before xs)
unfolding ascending
ascending_ascends [] = tt
ascending_ascends (x ∷ xs) = put_ascends x (ascending is_sign_before xs) (ascending_ascends xs)

by_names : (signs : List SignRecord) → InAscent (map sign_named signs) → DoAscend signs
by_names [] h = tt
by_names (x ∷ signs) h = (each signs h.0, by_names signs h.1)
  where
    each : (l : List SignRecord) → AllByRecursion (λ y. is_sign_before (sign_named x) y ≡ true) (map sign_named l) → AllByRecursion (λ y. is_sign_before (sign_named x) (sign_named y) ≡ true) l
    each [] all = tt
    each (y ∷ l) all = (all.0, each l all.1)

pub signs_ascend : (a : AccountParts) → IsOrderly a → (signs : List SignRecord) → signs ≡ a.signs → DoAscend signs
signs_ascend a orderly signs are =
    subst DoAscend (sym are) (by_names a.signs (subst InAscent (sym orderly.signs) (ascending_ascends (flat_map (λ log. flat_map sign_in log.entries) (running a.logs)))))

-- ---- what is told of a sign

module _ (a : AccountParts) (orderly : IsOrderly a) (sign : SignRecord) (holders : Holders) (are : holders ≡ holders_in (tells_sign sign) (sign_since sign) a.logs) where
  as_counted : (x : LogParts) → counts_since (sign_since sign) x ≡ counts_for_sign sign x
  as_counted x = by_slots sign.carried
    where
      by_slots : (o : Option FirstAndLast) → (x.runs && option_map_or (λ slot. takes_part slot x) (option_map (λ slots. slots.first) o) true) ≡ (x.runs && option_map_or (λ slots. takes_part slots.first x) o true)
      by_slots None = refl
      by_slots (Some slots) = refl

  counted : filter (counts_since (sign_since sign)) a.logs ≡ counting_for_sign a sign
  counted = each a.logs ∙ sym (both_tests (takes_part_for sign) (λ (x : LogParts). x.runs) a.logs)
    where
      each : (logs : List LogParts) → filter (counts_since (sign_since sign)) logs ≡ filter (counts_for_sign sign) logs
      each [] = refl
      each (x ∷ logs) = ap (λ b. if b then x ∷ filter (counts_since (sign_since sign)) logs else filter (counts_since (sign_since sign)) logs) (as_counted x)
          ∙ ap (λ l. if counts_for_sign sign x then x ∷ l else l) (each logs)

  has_is : holders.has ≡ nodes_of (sign_has a sign)
  unfolding holders_in
  has_is = ap (λ (h : Holders). h.has) are ∙ ap (λ l. nodes_of (filter (knows sign) l)) counted

  lacks_is : (nodes : Nodes) → nodes ≡ nodes_of (filter (counts_since (sign_since sign)) a.logs) → minus nodes holders.has ≡ nodes_of (sign_lacks a sign)
  unfolding holders_in
  lacks_is nodes is =
      let runs : (x : LogParts) → counts_since (sign_since sign) x ≡ true → x.runs ≡ true = λ x counts. (and_parts x.runs (option_map_or (λ slot. takes_part slot x) (sign_since sign) true) counts).0 in
      ap (λ n. minus n holders.has) is ∙ ap (λ (h : Holders). minus (nodes_of (filter (counts_since (sign_since sign)) a.logs)) h.has) are
      ∙ lacking_nodes (counts_since (sign_since sign)) (knows sign) runs a.logs (one_runs_of a orderly)
      ∙ ap (λ l. nodes_of (filter (λ x. not (knows sign x)) l)) counted

  pub told_is : (counting lacks none : Nodes) → counting ≡ nodes_of (filter (counts_since (sign_since sign)) a.logs) → lacks ≡ minus counting holders.has → none ≡ nobody
      → record { fate = sign_fate_by (not (is_nobody sign.waits)) (not (is_none sign.carried)) holders.has lacks; has = holders.has; lacks = lacks; had = none; slots = holders.slots } ≡ sign_told a sign
  unfolding holders_in sign_fate
  told_is counting lacks none c l n =
      let lacking = l ∙ lacks_is counting c in
      let slots = ap (λ (h : Holders). h.slots) are ∙ ap (λ logs. slots_where (tells_sign sign) (filter (knows sign) logs)) counted in
      λ k. record { fate = sign_fate_by (not (is_nobody sign.waits)) (not (is_none sign.carried)) (has_is k) (lacking k); has = has_is k; lacks = lacking k; had = n k; slots = slots k }

-- the holders of the sign at a place
pub holders_of_one : (a : AccountParts) (signs : List SignRecord) (holders : List Holders) (i : ℕ) (x : SignRecord) (h : Holders) → signs ≡ a.signs
    → AreHolders (length a.signs) (tells_at a.signs) (sign_since_at a.signs) a.logs holders → i < length signs → x ≡ slice_index_or signs i x → h ≡ slice_index_or holders i h
    → h ≡ holders_in (tells_sign x) (sign_since x) a.logs
holders_of_one a signs holders i x h is are below x_is h_is =
    let own : Option SignRecord → Holders = λ o. holders_in (λ e. option_map_or (λ y. tells_sign y e) o false) (option_and_then sign_since o) a.logs in
    let at : slice_get a.signs i ≡ Some x = ap (λ (l : List SignRecord). slice_get l i) (sym is) ∙ slice_get_read signs (length signs) i x refl below x_is in
    held_at (length a.signs) (tells_at a.signs) (sign_since_at a.signs) a.logs holders i h are (subst (λ (l : List SignRecord). i < length l) is below) h_is ∙ ap own at
