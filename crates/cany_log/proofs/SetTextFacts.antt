-- A set of nodes as text, run by run, the greatest one first.
use Rattle.std.proofs.Common.{◌≡◌, ℕ, zero, suc, ◌+◌, ◌*◌, ◌-◌, ◌<◌, ◌≤◌, true, false, cond, List, [], ◌∷◌, ◌++◌, length, refl, sym, ◌∙◌, ap, append_assoc, length-append, drop, arith, inl, inr}
use Rattle.std.specs.Prelude.{filter, decimal}
use Rattle.std.specs.List.{flat_map, range_with_len}
use Rattle.std.proofs.lemmas.Bool.{cases_lt}
use Rattle.std.proofs.lemmas.Fmt.{length-decimal-le}
use Rattle.cany_base.specs.Limits.{most_nodes}
use Rattle.std.proofs.lemmas.List.Concat.{flat_map-append}
use Rattle.std.proofs.lemmas.List.Elements.{filter-append}
use Rattle.cany_base.specs.Nodes.{Nodes, has}
use Rattle.cany_log.specs.Numbers.{with_comma}
use Rattle.cany_log.proofs.NumbersFacts.{numbers_text-cons, range_split, with_commas}
use Rattle.cany_text.specs.ReportLines.{set_text, numbers_text}

-- the nodes of the set among the n numbers from k on
abbrev pub nodes_from : Nodes → ℕ → ℕ → List ℕ
nodes_from nodes k n = filter (has nodes) (range_with_len k n)

-- numbers as text, and nothing where there are none
abbrev pub some_text : List ℕ → List ℕ
some_text [] = []
some_text (n ∷ ns) = numbers_text (n ∷ ns)

-- ---- how long a set's text is

digits : (k : ℕ) → k < most_nodes → length (decimal k) + (10 - k) ≤ 2 + (10 - (k + 1))
digits k small = elim (cases_lt k 10) [
  | inl one ↦ omega (arith, length-decimal-le 1 k (omega arith) one (omega arith))
  | inr two ↦ omega (arith, length-decimal-le 2 k (omega arith) (omega arith) (omega arith))
]

-- with its comma a number below 10 takes two bytes, and a greater one three
with_commas-short : (nodes : Nodes) (k n : ℕ) → k + n ≡ most_nodes → length (flat_map with_comma (nodes_from nodes k n)) ≤ 3 * n - (10 - k)
with_commas-short nodes k zero e = omega arith
with_commas-short nodes k (suc n) e =
    let rest = with_commas-short nodes (k + 1) n (omega arith) in
    elim (has nodes k) as (λ b. length (flat_map with_comma (cond b (k ∷ nodes_from nodes (k + 1) n) (nodes_from nodes (k + 1) n))) ≤ 3 * suc n - (10 - k)) [
      | true ↦ omega (arith, rest, digits k (omega arith), length-append (decimal k) (flat_map with_comma (nodes_from nodes (k + 1) n)))
      | false ↦ omega (arith, rest)
    ]

some_text-short : (ns : List ℕ) → length (flat_map with_comma ns) ≤ 182 → length (some_text ns) ≤ 181
some_text-short [] h = omega arith
some_text-short (n ∷ ns) h = rw (numbers_text-cons n ns) (omega (arith, h))

pub set_text-short : (nodes : Nodes) → length (set_text nodes) ≤ 181
unfolding set_text
set_text-short nodes = of_numbers (nodes_from nodes 0 most_nodes) (some_text-short _ (omega (arith, with_commas-short nodes 0 most_nodes (omega arith))))
  where
    of_numbers : (ns : List ℕ) → length (some_text ns) ≤ 181 → length (numbers_text ns) ≤ 181
    of_numbers [] h = omega arith
    of_numbers (n ∷ ns) h = h

-- ---- a row that had some bytes, and before them the numbers of the set were put from k on

-- the numbers of the set from k on, each with a comma before it
abbrev pub listed : Nodes → ℕ → List ℕ
listed nodes k = flat_map with_comma (nodes_from nodes k (most_nodes - k))

-- the comma before them is there too, where there are more to come
pub record HasListed (nodes : Nodes) (k : ℕ) (after row : List ℕ) : Type 0 where
  pub more : 0 < k → row ≡ listed nodes k ++ after
  pub all : k ≡ 0 → row ≡ set_text nodes ++ after

pub listed-short : (nodes : Nodes) (k : ℕ) → k ≤ most_nodes → length (listed nodes k) + (10 - k) ≤ 3 * (most_nodes - k)
listed-short nodes k few = omega (arith, with_commas-short nodes k (most_nodes - k) (omega (arith, few)))

nodes_split : (nodes : Nodes) (k m n : ℕ) → nodes_from nodes k (m + n) ≡ nodes_from nodes k m ++ nodes_from nodes (k + m) n
nodes_split nodes k m n = ap (filter (has nodes)) (range_split k m n) ∙ filter-append (has nodes) (range_with_len k m) (range_with_len (k + m) n)

-- a part of which the set has all, or none
all_from : (nodes : Nodes) (k n : ℕ) → ((i : ℕ) → k ≤ i → i < k + n → has nodes i ≡ true) → nodes_from nodes k n ≡ range_with_len k n
all_from nodes k zero has_all = refl
all_from nodes k (suc n) has_all =
    ap (λ b. cond b (k ∷ nodes_from nodes (k + 1) n) (nodes_from nodes (k + 1) n)) (has_all k (omega arith) (omega arith))
    ∙ ap (λ r. k ∷ r) (all_from nodes (k + 1) n (λ i past near. has_all i (omega (arith, past)) (omega (arith, near))))

none_from : (nodes : Nodes) (k n : ℕ) → ((i : ℕ) → k ≤ i → i < k + n → has nodes i ≡ false) → nodes_from nodes k n ≡ []
none_from nodes k zero has_none = refl
none_from nodes k (suc n) has_none =
    ap (λ b. cond b (k ∷ nodes_from nodes (k + 1) n) (nodes_from nodes (k + 1) n)) (has_none k (omega arith) (omega arith))
    ∙ none_from nodes (k + 1) n (λ i past near. has_none i (omega (arith, past)) (omega (arith, near)))

-- from k on, by the part before e
listed-split : (nodes : Nodes) (k e : ℕ) → k ≤ e → e ≤ most_nodes → listed nodes k ≡ flat_map with_comma (nodes_from nodes k (e - k)) ++ listed nodes e
listed-split nodes k e order few =
    let sum_is : most_nodes - k ≡ (e - k) + (most_nodes - e) = omega (arith, order, few) in
    let at : k + (e - k) ≡ e = omega (arith, order) in
    ap (λ n. flat_map with_comma (nodes_from nodes k n)) sum_is
    ∙ ap (flat_map with_comma) (nodes_split nodes k (e - k) (most_nodes - e))
    ∙ flat_map-append with_comma (nodes_from nodes k (e - k)) (nodes_from nodes (k + (e - k)) (most_nodes - e))
    ∙ ap (λ p. flat_map with_comma (nodes_from nodes k (e - k)) ++ flat_map with_comma (nodes_from nodes p (most_nodes - e))) at

pub listed-none : (nodes : Nodes) (k e : ℕ) → k ≤ e → e ≤ most_nodes → ((i : ℕ) → k ≤ i → i < e → has nodes i ≡ false) → listed nodes k ≡ listed nodes e
listed-none nodes k e order few has_none =
    listed-split nodes k e order few
    ∙ ap (λ ns. flat_map with_comma ns ++ listed nodes e) (none_from nodes k (e - k) (λ i past near. has_none i past (omega (arith, near, order))))

listed-run : (nodes : Nodes) (k e : ℕ) → k < e → e ≤ most_nodes → ((i : ℕ) → k ≤ i → i < e → has nodes i ≡ true)
    → listed nodes k ≡ 44 ∷ (numbers_text (range_with_len k (e - k)) ++ listed nodes e)
listed-run nodes k e order few has_all =
    listed-split nodes k e (omega (arith, order)) few
    ∙ ap (λ ns. flat_map with_comma ns ++ listed nodes e) (all_from nodes k (e - k) (λ i past near. has_all i past (omega (arith, near, order))))
    ∙ ap (λ r. r ++ listed nodes e) (with_commas k (e - k) (omega (arith, order)))

-- nothing is put yet
pub HasListed-start : (nodes : Nodes) (e : ℕ) (after : List ℕ) → e ≤ most_nodes → 0 < e → ((i : ℕ) → e ≤ i → i < most_nodes → has nodes i ≡ false) → HasListed nodes e after after
HasListed-start nodes e after few some has_none = record {
  more = λ (h : 0 < e). ap (λ r. r ++ after) (sym (listed-none nodes e most_nodes few (omega arith) has_none));
  all = λ (h : e ≡ 0). absurd (omega (arith, h, some));
}

-- no number of the set is put, where it has none
pub nobody_text : (nodes : Nodes) → ((i : ℕ) → 0 ≤ i → i < most_nodes → has nodes i ≡ false) → set_text nodes ≡ 45 ∷ []
unfolding set_text
nobody_text nodes has_none = ap numbers_text (none_from nodes 0 most_nodes has_none)

-- a run is put before what is there
pub record HasRun (nodes : Nodes) (k : ℕ) (after row : List ℕ) : Type 0 where
  pub text : List ℕ
  pub listed_is : listed nodes k ≡ 44 ∷ text
  pub row_is : row ≡ text ++ after

pub HasListed-run : (nodes : Nodes) (k e : ℕ) (after row row' : List ℕ) → HasListed nodes e after row → k < e → e ≤ most_nodes
    → ((i : ℕ) → k ≤ i → i < e → has nodes i ≡ true) → row' ≡ numbers_text (range_with_len k (e - k)) ++ row → HasRun nodes k after row'
HasListed-run nodes k e after row row' h order few has_all put =
    let run = numbers_text (range_with_len k (e - k)) in record {
      text = run ++ listed nodes e;
      listed_is = listed-run nodes k e order few has_all;
      row_is = put ∙ ap (λ r. run ++ r) (h.more (omega (arith, order))) ∙ sym (append_assoc run (listed nodes e) after);
    }

pub HasRun-short : (nodes : Nodes) (k : ℕ) (after row : List ℕ) → HasRun nodes k after row → k ≤ most_nodes → length row + 1 + (10 - k) ≤ length after + 3 * (most_nodes - k)
HasRun-short nodes k after row h few = omega (arith, ap length h.row_is, ap length h.listed_is, length-append h.text after, listed-short nodes k few)

-- there are more to come: a comma
HasListed-comma : (nodes : Nodes) (k e : ℕ) (after row : List ℕ) → HasRun nodes k after row → 0 < e → e ≤ k → k ≤ most_nodes
    → ((i : ℕ) → e ≤ i → i < k → has nodes i ≡ false) → HasListed nodes e after (44 ∷ row)
HasListed-comma nodes k e after row h some order few has_none = record {
  more = λ (more : 0 < e). ap (λ r. 44 ∷ r) h.row_is ∙ ap (λ r. r ++ after) (sym h.listed_is) ∙ ap (λ r. r ++ after) (sym (listed-none nodes e k order few has_none));
  all = λ (none : e ≡ 0). absurd (omega (arith, none, some));
}

-- there are none
HasListed-last : (nodes : Nodes) (k e : ℕ) (after row : List ℕ) → HasRun nodes k after row → e ≡ 0 → k ≤ most_nodes
    → ((i : ℕ) → e ≤ i → i < k → has nodes i ≡ false) → HasListed nodes e after row
unfolding set_text
HasListed-last nodes k e after row h first few has_none =
    let whole : listed nodes 0 ≡ 44 ∷ h.text = ap (listed nodes) (sym first) ∙ listed-none nodes e k (omega (arith, first)) few has_none ∙ h.listed_is in
    record {
      more = λ (some : 0 < e). absurd (omega (arith, some, first));
      all = λ (none : e ≡ 0). h.row_is ∙ ap (λ r. r ++ after) (sym (of_numbers (nodes_from nodes 0 most_nodes) h.text whole));
    }
  where
    of_numbers : (ns text : List ℕ) → flat_map with_comma ns ≡ 44 ∷ text → numbers_text ns ≡ text
    of_numbers [] text e = absurd (cc)
    of_numbers (n ∷ ns) text e = numbers_text-cons n ns ∙ ap (drop 1) e

-- one run more, with a comma before it
pub HasListed-more : (nodes : Nodes) (k b e : ℕ) (after row row' : List ℕ) → HasListed nodes e after row → k < e → e ≤ most_nodes
    → ((i : ℕ) → k ≤ i → i < e → has nodes i ≡ true) → row' ≡ numbers_text (range_with_len k (e - k)) ++ row
    → 0 < b → b ≤ k → ((i : ℕ) → b ≤ i → i < k → has nodes i ≡ false) → HasListed nodes b after (44 ∷ row')
HasListed-more nodes k b e after row row' h order few has_all put some within has_none =
    HasListed-comma nodes k b after row' (HasListed-run nodes k e after row row' h order few has_all put) some within (omega (arith, order, few)) has_none

-- and the first run of all
pub HasListed-first : (nodes : Nodes) (k b e : ℕ) (after row row' : List ℕ) → HasListed nodes e after row → k < e → e ≤ most_nodes
    → ((i : ℕ) → k ≤ i → i < e → has nodes i ≡ true) → row' ≡ numbers_text (range_with_len k (e - k)) ++ row
    → b ≡ 0 → ((i : ℕ) → b ≤ i → i < k → has nodes i ≡ false) → HasListed nodes b after row'
HasListed-first nodes k b e after row row' h order few has_all put first has_none =
    HasListed-last nodes k b after row' (HasListed-run nodes k e after row row' h order few has_all put) first (omega (arith, order, few)) has_none
