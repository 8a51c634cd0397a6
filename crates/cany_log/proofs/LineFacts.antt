-- Fields and lines that are put before what is there.
use Rattle.std.proofs.Common.{◌≡◌, ℕ, List, [], ◌∷◌, ◌++◌, ◌+◌, ◌≤◌, length, refl, sym, ◌∙◌, ap, append_assoc, append-nil, length-append, arith}
use Rattle.std.specs.List.{join_with_byte}
use Rattle.cany_log.specs.Fields.{spaced}
use Rattle.cany_text.specs.ReportLines.{line_of}

pub joined : (x : List ℕ) (xs : List (List ℕ)) → join_with_byte 32 (x ∷ xs) ≡ x ++ spaced xs
joined x [] = sym (append-nil x)
joined x (y ∷ ys) = ap (λ r. x ++ 32 ∷ r) (joined y ys)

-- the fields before some bytes, each with the space before it
abbrev pub fields_before : List (List ℕ) → List ℕ → List ℕ
fields_before [] after = after
fields_before (t ∷ ts) after = 32 ∷ (t ++ fields_before ts after)

pub spaced_before : (ts : List (List ℕ)) (after : List ℕ) → spaced ts ++ after ≡ fields_before ts after
spaced_before [] after = refl
spaced_before (t ∷ ts) after = ap (λ r. 32 ∷ r) (append_assoc t (spaced ts) after ∙ ap (λ r. t ++ r) (spaced_before ts after))

pub fields_before-append : (ts us : List (List ℕ)) (after : List ℕ) → fields_before (ts ++ us) after ≡ fields_before ts (fields_before us after)
fields_before-append [] us after = refl
fields_before-append (t ∷ ts) us after = ap (λ r. 32 ∷ (t ++ r)) (fields_before-append ts us after)

-- a line before some bytes
pub line_before : (word : List ℕ) (fields : List (List ℕ)) (after : List ℕ) → line_of (word ∷ fields) ++ after ≡ word ++ fields_before fields (10 ∷ after)
unfolding line_of
line_before word fields after =
    ap (λ r. (r ++ 10 ∷ []) ++ after) (joined word fields)
    ∙ append_assoc (word ++ spaced fields) (10 ∷ []) after
    ∙ append_assoc word (spaced fields) (10 ∷ after)
    ∙ ap (λ r. word ++ r) (spaced_before fields (10 ∷ after))

-- some bytes, and before them some fields
pub record HasFieldsBefore (fields : List (List ℕ)) (after row : List ℕ) : Type 0 where
  pub text : row ≡ fields_before fields after

pub fields_none : (after row : List ℕ) → row ≡ after → HasFieldsBefore [] after row
fields_none after row is = record { text = is }

-- one field more
pub field_put : (field : List ℕ) (fields : List (List ℕ)) (after row row' : List ℕ) → HasFieldsBefore fields after row → row' ≡ (32 ∷ field) ++ row
    → HasFieldsBefore (field ∷ fields) after row'
field_put field fields after row row' h put = record { text = put ∙ ap (λ r. 32 ∷ (field ++ r)) h.text }

-- three fields, put one after another from the last one on, before some bytes
pub three_put : (first second third after row row1 row2 row3 : List ℕ) → row ≡ after → row1 ≡ (32 ∷ third) ++ row → row2 ≡ (32 ∷ second) ++ row1
    → row3 ≡ (32 ∷ first) ++ row2 → HasFieldsBefore (first ∷ second ∷ third ∷ []) after row3
three_put first second third after row row1 row2 row3 none last middle front =
    field_put _ _ _ _ _ (field_put _ _ _ _ _ (field_put _ _ _ _ _ (fields_none _ _ none) last) middle) front

-- some fields more
pub fields_put : (fields more : List (List ℕ)) (after row row' : List ℕ) → HasFieldsBefore more after row → row' ≡ spaced fields ++ row
    → HasFieldsBefore (fields ++ more) after row'
fields_put fields more after row row' h put =
    record { text = put ∙ spaced_before fields row ∙ ap (fields_before fields) h.text ∙ sym (fields_before-append fields more after) }

-- the fields at the end of a line
pub last_fields : (fields : List (List ℕ)) (after row row' : List ℕ) → HasFieldsBefore [] after row → row' ≡ spaced fields ++ row → HasFieldsBefore fields after row'
last_fields fields after row row' h put = record { text = put ∙ spaced_before fields row ∙ ap (fields_before fields) h.text }

-- and the word at the front
pub word_put : (word : List ℕ) (fields : List (List ℕ)) (after row row' : List ℕ) → HasFieldsBefore fields (10 ∷ after) row → row' ≡ word ++ row
    → row' ≡ line_of (word ∷ fields) ++ after
word_put word fields after row row' h put = put ∙ ap (λ r. word ++ r) h.text ∙ sym (line_before word fields after)

-- a field of so many bytes at most
pub length_put : (field row row' : List ℕ) (most : ℕ) → row' ≡ (32 ∷ field) ++ row → length field ≤ most → length row' ≤ length row + (1 + most)
length_put field row row' most put short = omega (arith, short, ap length put, length-append field row)

-- a piece of one field
pub one_spaced : (field row row' : List ℕ) → row' ≡ (32 ∷ field) ++ row → row' ≡ spaced (field ∷ []) ++ row
one_spaced field row row' put = put ∙ ap (λ r. 32 ∷ (r ++ row)) (sym (append-nil field))

pub one_short : (field : List ℕ) (most : ℕ) → length field ≤ most → length (spaced (field ∷ [])) ≤ 1 + most
one_short field most h = omega (arith, h, ap length (append-nil field))
