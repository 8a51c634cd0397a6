-- The lines of a journal that repeats itself.
use Rattle.std.proofs.Common.{◌≡◌, ℕ, zero, suc, ◌+◌, ◌*◌, ◌-◌, ◌<◌, ◌≤◌, inl, inr, List, ◌∷◌, ◌++◌, length, take, drop, refl, sym, ap, ◌∙◌, subst, arith}
use Rattle.std.specs.Prelude.{replicate}
use Rattle.std.specs.List.{concat, flat_map, range_with_len}
use Rattle.std.proofs.lemmas.Bool.{cases_lt}
use Rattle.std.proofs.lemmas.List.{drop-drop, drop-take, drop_all, take-take, take_all}
use Rattle.std.proofs.lemmas.List.Concat.{flat_map-append}
use Rattle.cany_base.specs.declared.step.Step.{Step}
use Rattle.cany_world.specs.Journal.{Repeats}

-- ---- after some periods

repeats_again : (journal : List Step) (p q : ℕ) → Repeats p journal → Repeats q journal → p + q ≤ length journal → Repeats (p + q) journal
repeats_again journal p q first then within =
    let left : length journal - p ≡ q + (length journal - (p + q)) = omega (arith, within) in
    sym (drop-drop q p journal)
    ∙ ap (drop q) first
    ∙ ap (λ n. drop q (take n journal)) left
    ∙ drop-take q (length journal - (p + q)) journal
    ∙ ap (take (length journal - (p + q))) then
    ∙ take-take (length journal - (p + q)) (length journal - q) journal (omega arith)

-- past the end nothing is left
repeats_past : (journal : List Step) (p : ℕ) → length journal ≤ p → Repeats p journal
repeats_past journal p past =
    let none : length journal - p ≡ 0 = omega (arith, past) in
    drop_all p journal past ∙ ap (λ n. take n journal) (sym none)

pub repeats_after : (journal : List Step) (period times : ℕ) → Repeats period journal → Repeats (times * period) journal
repeats_after journal period zero again =
    let none : 0 * period ≡ 0 = omega arith in
    ap (λ n. drop n journal) none ∙ sym (take_all (length journal - 0 * period) journal (omega (arith, none)))
repeats_after journal period (suc times) again =
    let next : period + times * period ≡ suc times * period = omega arith in
    subst (λ n. Repeats n journal) next (elim (cases_lt (length journal) (period + times * period)) [
      | inl past ↦ repeats_past journal (period + times * period) (omega (arith, past))
      | inr within ↦ repeats_again journal period (times * period) again (repeats_after journal period times again) (omega (arith, within))
    ])

-- ---- the texts of numbers in a row

same_texts : (f : ℕ → List ℕ) (a b n : ℕ) → ((k : ℕ) → k < n → f (a + k) ≡ f (b + k)) → flat_map f (range_with_len a n) ≡ flat_map f (range_with_len b n)
same_texts f a b zero same = refl
same_texts f a b (suc n) same =
    let at : (c : ℕ) → c + 0 ≡ c = λ c. omega arith in
    let past : (c k : ℕ) → c + 1 + k ≡ c + (k + 1) = λ c k. omega arith in
    let here : f a ≡ f b = ap f (sym (at a)) ∙ same 0 (omega arith) ∙ ap f (at b) in
    let rest : flat_map f (range_with_len (a + 1) n) ≡ flat_map f (range_with_len (b + 1) n) =
    same_texts f (a + 1) (b + 1) n (λ k below. ap f (past a k) ∙ same (k + 1) (omega (arith, below)) ∙ ap f (sym (past b k))) in
    ap (λ l. l ++ flat_map f (range_with_len (a + 1) n)) here ∙ ap (λ l. f b ++ l) rest

numbers_split : (a m n : ℕ) → range_with_len a (m + n) ≡ range_with_len a m ++ range_with_len (a + m) n
numbers_split a zero n =
    let none : 0 + n ≡ n = omega arith in
    let same : a ≡ a + 0 = omega arith in
    ap (range_with_len a) none ∙ ap (λ k. range_with_len k n) same
numbers_split a (suc m) n =
    let next : suc m + n ≡ suc (m + n) = omega arith in
    let start : a + 1 + m ≡ a + suc m = omega arith in
    ap (range_with_len a) next ∙ ap (λ l. a ∷ l) (numbers_split (a + 1) m n ∙ ap (λ k. range_with_len (a + 1) m ++ range_with_len k n) start)

-- ---- pages of so many lines, each of 64 steps

module _ (line : List Step → List ℕ) (journal : List Step) (lines : ℕ) (again : Repeats (64 * lines) journal) where
  -- what is written of a line
  abbrev text : ℕ → List ℕ
  text k = line (take 64 (drop (64 * k) journal))

  next_page : (k : ℕ) → 64 * (lines + k + 1) ≤ length journal → text (lines + k) ≡ text k
  next_page k within =
      let at : 64 * (lines + k) ≡ 64 * lines + 64 * k = omega arith in
      let left : length journal - 64 * lines ≡ 64 * k + (length journal - 64 * lines - 64 * k) = omega (arith, within) in
      ap line (
      ap (λ n. take 64 (drop n journal)) at
      ∙ ap (take 64) (sym (drop-drop (64 * k) (64 * lines) journal))
      ∙ ap (λ l. take 64 (drop (64 * k) l)) again
      ∙ ap (λ n. take 64 (drop (64 * k) (take n journal))) left
      ∙ ap (take 64) (drop-take (64 * k) (length journal - 64 * lines - 64 * k) journal)
      ∙ take-take 64 (length journal - 64 * lines - 64 * k) (drop (64 * k) journal) (omega (arith, within))
      )

  pub same_pages : (pages : ℕ) → 64 * (lines * pages) ≤ length journal
      → flat_map text (range_with_len 0 (lines * pages)) ≡ concat (replicate pages (flat_map text (range_with_len 0 lines)))
  same_pages zero within =
      let none : lines * 0 ≡ 0 = omega arith in
      ap (λ n. flat_map text (range_with_len 0 n)) none
  same_pages (suc pages) within =
      let more : lines * suc pages ≡ lines + lines * pages = omega arith in
      let shifted : (k : ℕ) → 0 + lines + k ≡ lines + k = λ k. omega arith in
      let same : (k : ℕ) → k ≡ 0 + k = λ k. omega arith in
      let page : List ℕ = flat_map text (range_with_len 0 lines) in
      ap (λ n. flat_map text (range_with_len 0 n)) more
      ∙ ap (flat_map text) (numbers_split 0 lines (lines * pages))
      ∙ flat_map-append text (range_with_len 0 lines) (range_with_len (0 + lines) (lines * pages))
      ∙ ap (λ l. page ++ l) (same_texts text (0 + lines) 0 (lines * pages)
      (λ k below. ap text (shifted k) ∙ next_page k (omega (arith, below, within, more)) ∙ ap text (same k)))
      ∙ ap (λ l. page ++ l) (same_pages pages (omega (arith, within, more)))

-- lines of which there is a page
pub first_page : (lines pages : ℕ) → 0 < pages → lines ≤ lines * pages
first_page lines zero some = absurd (omega (arith, some))
first_page lines (suc pages) some = omega arith
