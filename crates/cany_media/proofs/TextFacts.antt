-- Texts that are put together field by field.
use Rattle.std.proofs.Common.{◌≡◌, ℕ, zero, suc, ◌+◌, Bool, true, false, List, [], ◌∷◌, ◌++◌, refl, ap, sym, ◌∙◌, inl, inr, append_assoc, append-nil, arith, cond}
use Rattle.std.specs.Prelude.{codes, decimal, filter, if◌then◌else◌}
use Rattle.std.specs.List.{join_with_byte, range_with_len}
use Rattle.std.proofs.lemmas.Bool.{cases_Bool}
use Rattle.cany_base.specs.Limits.{most_nodes}
use Rattle.cany_base.specs.Nodes.{Nodes, has}
use Rattle.cany_text.specs.ReportLines.{line_of, numbers_text, set_text}
use Rattle.cany_media.specs.MediaText.{medium_line, state_fields}
use Rattle.cany_media.specs.Plan.{FaultParts}
use Rattle.cany_media.specs.Spaced.{spaced}

-- ---- lines

joined : (word : List ℕ) (fields : List (List ℕ)) → join_with_byte 32 (word ∷ fields) ≡ word ++ spaced fields
joined word [] = sym (append-nil word)
joined word (field ∷ fields) = ap (λ r. word ++ 32 ∷ r) (joined field fields)

pub numbered : (words digits : List ℕ) → ((words ++ 32 ∷ []) ++ digits) ++ 10 ∷ [] ≡ line_of (words ∷ digits ∷ [])
unfolding line_of
numbered words digits = simp append_assoc

seven_parts : (o w x y z s e : List ℕ) → (((((o ++ w) ++ x) ++ y) ++ z) ++ s) ++ e ≡ o ++ ((w ++ (x ++ (y ++ (z ++ s)))) ++ e)
seven_parts o w x y z s e = simp append_assoc

pub medium_is : (old : List ℕ) (fault : FaultParts)
    → (((((old ++ codes "medium") ++ 32 ∷ decimal fault.line) ++ 32 ∷ decimal fault.from) ++ 32 ∷ decimal fault.to) ++ spaced (state_fields fault.state)) ++ 10 ∷ []
    ≡ old ++ medium_line fault
unfolding medium_line line_of
medium_is old fault =
    let fields = decimal fault.line ∷ decimal fault.from ∷ decimal fault.to ∷ state_fields fault.state in
    seven_parts old (codes "medium") (32 ∷ decimal fault.line) (32 ∷ decimal fault.from) (32 ∷ decimal fault.to) (spaced (state_fields fault.state)) (10 ∷ [])
    ∙ ap (λ r. old ++ (r ++ 10 ∷ [])) (sym (joined (codes "medium") fields))

-- ---- sets

abbrev pub is_nil : List ℕ → Bool
is_nil [] = true
is_nil (n ∷ ns) = false

-- numbers as text, and nothing where there are none
abbrev pub some_text : List ℕ → List ℕ
some_text [] = []
some_text (n ∷ ns) = numbers_text (n ∷ ns)

-- those of the set below a number
abbrev pub nodes_below : Nodes → ℕ → List ℕ
nodes_below nodes i = filter (has nodes) (range_with_len 0 i)

abbrev if_has : Nodes → ℕ → List ℕ
if_has nodes i = cond (has nodes i) (i ∷ []) []

filter_more : (nodes : Nodes) (n a : ℕ) → filter (has nodes) (range_with_len a (suc n)) ≡ filter (has nodes) (range_with_len a n) ++ if_has nodes (a + n)
filter_more nodes zero a = let e : a + 0 ≡ a = omega arith in rw e refl
filter_more nodes (suc n) a =
    let e : a + suc n ≡ (a + 1) + n = omega arith in
    let more = filter_more nodes n (a + 1) in
    elim (cases_Bool (has nodes a)) [
      | inl in_set ↦ rw (in_set, e) (ap (λ r. a ∷ r) more)
      | inr out ↦ rw (out, e) more
    ]

pub nodes_more : (nodes : Nodes) (i : ℕ) (b : Bool) → has nodes i ≡ b → nodes_below nodes (i + 1) ≡ nodes_below nodes i ++ cond b (i ∷ []) []
nodes_more nodes i b is =
    let e : i + 1 ≡ suc i = omega arith in
    let z : 0 + i ≡ i = omega arith in
    rw (e, sym is) (rw z at (filter_more nodes i 0))

with_comma : (n m : ℕ) (ns : List ℕ) → numbers_text ((m ∷ ns) ++ n ∷ []) ≡ numbers_text (m ∷ ns) ++ 44 ∷ decimal n
with_comma n m [] = refl
with_comma n m (k ∷ ns) = ap (λ r. decimal m ++ 44 ∷ r) (with_comma n k ns) ∙ sym (append_assoc (decimal m) (44 ∷ numbers_text (k ∷ ns)) (44 ∷ decimal n))

-- one number more
pub some_first : (old : List ℕ) (ns : List ℕ) (n : ℕ) → is_nil ns ≡ true → (old ++ some_text ns) ++ decimal n ≡ old ++ some_text (ns ++ n ∷ [])
some_first old [] n nil = rw (append-nil old) refl
some_first old (m ∷ ns) n nil = cc

pub some_next : (old : List ℕ) (ns : List ℕ) (n : ℕ) → is_nil ns ≡ false → ((old ++ some_text ns) ++ 44 ∷ []) ++ decimal n ≡ old ++ some_text (ns ++ n ∷ [])
some_next old [] n nil = cc
some_next old (m ∷ ns) n nil = regroup old (numbers_text (m ∷ ns)) (decimal n) ∙ ap (λ r. old ++ r) (sym (with_comma n m ns))
  where
    regroup : (a b d : List ℕ) → ((a ++ b) ++ 44 ∷ []) ++ d ≡ a ++ (b ++ 44 ∷ d)
    regroup a b d = simp append_assoc

pub not_nil : (ns : List ℕ) (n : ℕ) → false ≡ is_nil (ns ++ n ∷ [])
not_nil [] n = refl
not_nil (m ∷ ns) n = refl

-- all numbers were looked at
pub set_none : (old : List ℕ) (nodes : Nodes) → is_nil (nodes_below nodes most_nodes) ≡ true → (old ++ some_text (nodes_below nodes most_nodes)) ++ codes "-" ≡ old ++ set_text nodes
unfolding set_text
set_none old nodes nil = go (nodes_below nodes most_nodes) nil
  where
    go : (ns : List ℕ) → is_nil ns ≡ true → (old ++ some_text ns) ++ codes "-" ≡ old ++ numbers_text ns
    go [] h = rw (append-nil old) refl
    go (n ∷ ns) h = cc

pub set_some : (old : List ℕ) (nodes : Nodes) → is_nil (nodes_below nodes most_nodes) ≡ false → old ++ some_text (nodes_below nodes most_nodes) ≡ old ++ set_text nodes
unfolding set_text
set_some old nodes some = go (nodes_below nodes most_nodes) some
  where
    go : (ns : List ℕ) → is_nil ns ≡ false → old ++ some_text ns ≡ old ++ numbers_text ns
    go [] h = cc
    go (n ∷ ns) h = refl

-- one number more is listed
pub next_listed : (old text new : List ℕ) (ns : List ℕ) (n : ℕ) (first : Bool) → text ≡ old ++ some_text ns → first ≡ is_nil ns
    → new ≡ (if first then text else text ++ 44 ∷ []) ++ decimal n → new ≡ old ++ some_text (ns ++ n ∷ [])
next_listed old text new ns n first is nil more = by_first (is_nil ns) refl
  where
    by_first : (b : Bool) → is_nil ns ≡ b → new ≡ old ++ some_text (ns ++ n ∷ [])
    by_first true e = more ∙ rw (nil, e, is) (some_first old ns n e)
    by_first false e = more ∙ rw (nil, e, is) (some_next old ns n e)
