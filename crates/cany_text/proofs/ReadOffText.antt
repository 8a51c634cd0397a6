-- Texts that lack a byte, and that a text is read off one way where it is parted by a byte that its
-- parts lack.
use Rattle.std.proofs.Common.{◌≡◌, ℕ, zero, suc, ◌/◌, ◌%◌, ◌<◌, ◌≢◌, ◌==◌, Bool, true, false, not, List, [], ◌∷◌, ◌++◌, map, refl, ap, sym, ◌∙◌, subst, arith, append_assoc}
use Rattle.std.specs.Prelude.{if◌then◌else◌, slice_index, decimal}
use Rattle.std.specs.Fmt.{digits, digits_onto, digit_glyph}
use Rattle.std.specs.List.{AllByRecursion, concat, list_all, join_with_byte}
use Rattle.std.proofs.lemmas.Bool.{and_parts, and_from, false≢true, eq-eqb, ne_eqb}
use Rattle.std.proofs.lemmas.Bool.Decides.{nat_tests}
use Rattle.std.proofs.lemmas.List.{append_cancel_right}
use Rattle.cany_text.specs.ReportLines.{line_of}
use Rattle.cany_model.proofs.Among.{Each-append}
use Rattle.cany_text.proofs.ReadOffLists.{cons_same}

-- ---- texts that lack a byte

-- no byte of the text is this one
abbrev pub lacks : ℕ → List ℕ → Bool
lacks c text = list_all (λ b. not (b == c)) text

abbrev pub Lacks : ℕ → List ℕ → Type 0
Lacks c text = lacks c text ≡ true

other_byte : (b c : ℕ) → b ≢ c → not (b == c) ≡ true
other_byte b c h = ap not (ne_eqb b c h)

pub lacks-cons : (c b : ℕ) (text : List ℕ) → b ≢ c → Lacks c text → Lacks c (b ∷ text)
lacks-cons c b text h rest = and_from (not (b == c)) (lacks c text) (other_byte b c h) rest

pub lacks-append : (c : ℕ) (u v : List ℕ) → Lacks c u → Lacks c v → Lacks c (u ++ v)
lacks-append c [] v a b = b
lacks-append c (x ∷ u) v a b =
    let parts = and_parts (not (x == c)) (lacks c u) a in
    and_from (not (x == c)) (lacks c (u ++ v)) parts.0 (lacks-append c u v parts.1 b)

-- a byte of a table lacks what the table lacks, and 0 stands past its end
pub byte_lacks : (c : ℕ) (table : List ℕ) (place : ℕ) → 0 < c → Lacks c table → Lacks c (slice_index table place ∷ [])
byte_lacks c [] place some h = lacks-cons c 0 [] (omega arith) refl
byte_lacks c (b ∷ table) zero some h = and_from (not (b == c)) true (and_parts (not (b == c)) (lacks c table) h).0 refl
byte_lacks c (b ∷ table) (suc place) some h = byte_lacks c table place some (and_parts (not (b == c)) (lacks c table) h).1

pub choice_lacks : (c : ℕ) (b : Bool) (u v : List ℕ) → Lacks c u → Lacks c v → Lacks c (if b then u else v)
choice_lacks c true u v x y = x
choice_lacks c false u v x y = y

glyph_other : (c d : ℕ) → c < 48 → digit_glyph false d ≢ c
glyph_other c d h = grind (arith, nat_tests)

digits_lack : (c : ℕ) → c < 48 → (k n : ℕ) (text : List ℕ) → Lacks c text → Lacks c (digits_onto k 10 false n text)
digits_lack c h zero n text lack = lack
digits_lack c h (suc k) n text lack =
    let more : Lacks c (digit_glyph false (n % 10) ∷ text) = lacks-cons c (digit_glyph false (n % 10)) text
    (glyph_other c (n % 10) h) lack in
    choice_lacks c (n / 10 == 0) (digit_glyph false (n % 10) ∷ text)
    (digits_onto k 10 false (n / 10) (digit_glyph false (n % 10) ∷ text)) more
    (digits_lack c h k (n / 10) (digit_glyph false (n % 10) ∷ text) more)

-- a number has digits alone
pub decimal_lacks : (c n : ℕ) → c < 48 → Lacks c (decimal n)
unfolding digits
decimal_lacks c n h = digits_lack c h 64 n [] refl

pub join_lacks : (c by : ℕ) → by ≢ c → (texts : List (List ℕ)) → AllByRecursion (Lacks c) texts → Lacks c (join_with_byte by texts)
join_lacks c by other [] all = refl
join_lacks c by other (x ∷ []) all = all.0
join_lacks c by other (x ∷ y ∷ texts) all =
    lacks-append c x (by ∷ join_with_byte by (y ∷ texts)) all.0
    (lacks-cons c by (join_with_byte by (y ∷ texts)) other (join_lacks c by other (y ∷ texts) all.1))

pub no_space : (n : ℕ) → Lacks 32 (decimal n)
no_space n = decimal_lacks 32 n (omega arith)

pub decimals_lack : (c : ℕ) → c < 48 → (ns : List ℕ) → AllByRecursion (Lacks c) (map decimal ns)
decimals_lack c h [] = tt
decimals_lack c h (n ∷ ns) = (decimal_lacks c n h, decimals_lack c h ns)

-- ---- fields that lack a byte

pub record Told (c : ℕ) : Type 0 where
  pub text : List ℕ
  pub lacks : Lacks c text

abbrev pub word : (c : ℕ) (text : List ℕ) → Lacks c text → Told c
word c text h = record { text = text; lacks = h }

abbrev pub number : (c : ℕ) → c < 48 → ℕ → Told c
number c h n = record { text = decimal n; lacks = decimal_lacks c n h }

abbrev pub texts : {c : ℕ} → List (Told c) → List (List ℕ)
texts fields = map (λ f. f.text) fields

pub texts_lack : {c : ℕ} (fields : List (Told c)) → AllByRecursion (Lacks c) (texts fields)
texts_lack [] = tt
texts_lack (f ∷ fields) = (f.lacks, texts_lack fields)

-- ---- a text that is parted by such a byte

pub lacks_itself : (c : ℕ) (text : List ℕ) → Lacks c (c ∷ text) → ⊥
lacks_itself c text h = false≢true (sym (ap not (eq-eqb c c refl)) ∙ (and_parts (not (c == c)) (lacks c text) h).0)

-- what stands before the first of them, and what behind it
pub parted : (c : ℕ) (u v r s : List ℕ) → Lacks c u → Lacks c v → u ++ c ∷ r ≡ v ++ c ∷ s → (u ≡ v) × (r ≡ s)
parted c [] [] r s a b e = (refl, (cons_same c c r s e).1)
parted c [] (y ∷ v) r s a b e =
    absurd (lacks_itself c v (subst (λ x. Lacks c (x ∷ v)) (sym (cons_same c y r (v ++ c ∷ s) e).0) b))
parted c (x ∷ u) [] r s a b e =
    absurd (lacks_itself c u (subst (λ y. Lacks c (y ∷ u)) (cons_same x c (u ++ c ∷ r) s e).0 a))
parted c (x ∷ u) (y ∷ v) r s a b e =
    let same = cons_same x y (u ++ c ∷ r) (v ++ c ∷ s) e in
    let rest = parted c u v r s (and_parts (not (x == c)) (lacks c u) a).1 (and_parts (not (y == c)) (lacks c v) b).1 same.1 in
    (cc, rest.1)

-- ---- fields

-- a text that lacks the byte is not one that has it
whole : (c : ℕ) (u v r : List ℕ) → Lacks c u → u ≡ v ++ c ∷ r → ⊥
whole c u [] r a e = lacks_itself c r (subst (Lacks c) e a)
whole c [] (y ∷ v) r a e = absurd (cc)
whole c (x ∷ u) (y ∷ v) r a e = whole c u v r (and_parts (not (x == c)) (lacks c u) a).1 (cons_same x y u (v ++ c ∷ r) e).1

-- fields that lack the byte that parts them
pub fields_same : (c : ℕ) (f g : List ℕ) (fs gs : List (List ℕ)) → AllByRecursion (Lacks c) (f ∷ fs) → AllByRecursion (Lacks c) (g ∷ gs)
    → join_with_byte c (f ∷ fs) ≡ join_with_byte c (g ∷ gs) → f ∷ fs ≡ g ∷ gs
fields_same c f g [] [] a b e = ap (λ x. x ∷ []) e
fields_same c f g [] (h ∷ gs) a b e = absurd (whole c f g (join_with_byte c (h ∷ gs)) a.0 e)
fields_same c f g (h ∷ fs) [] a b e = absurd (whole c g f (join_with_byte c (h ∷ fs)) b.0 (sym e))
fields_same c f g (h ∷ fs) (k ∷ gs) a b e =
    let parts = parted c f g (join_with_byte c (h ∷ fs)) (join_with_byte c (k ∷ gs)) a.0 b.0 e in
    let rest = fields_same c h k fs gs a.1 b.1 parts.1 in
    cc

-- ---- lines

-- a line ends with a line feed, and has none before it
pub record IsLine (line : List ℕ) : Type 0 where
  pub body : List ℕ
  pub lacks : Lacks 10 body
  pub is : line ≡ body ++ 10 ∷ []

pub line_is : (fields : List (List ℕ)) → AllByRecursion (Lacks 10) fields → IsLine (line_of fields)
unfolding line_of
line_is fields all = record { body = join_with_byte 32 fields; lacks = join_lacks 10 32 (omega arith) fields all; is = refl }

pub told_line : (fields : List (Told 10)) → IsLine (line_of (texts fields))
told_line fields = line_is (texts fields) (texts_lack fields)

-- with more fields behind these
pub told_line_with : (fields : List (Told 10)) (more : List (List ℕ)) → AllByRecursion (Lacks 10) more
    → IsLine (line_of (texts fields ++ more))
told_line_with fields more h = line_is (texts fields ++ more) (Each-append (Lacks 10) (texts fields) more (texts_lack fields) h)

ended_line : (x : List ℕ) (line : IsLine x) (rest : List ℕ) → x ++ rest ≡ line.body ++ 10 ∷ rest
ended_line x line rest = ap (λ l. l ++ rest) line.is ∙ append_assoc line.body (10 ∷ []) rest

no_line : (x : List ℕ) → IsLine x → (rest : List ℕ) → [] ≡ x ++ rest → ⊥
no_line x line rest e = by_body line.body (e ∙ ended_line x line rest)
  where
    by_body : (body : List ℕ) → [] ≡ body ++ 10 ∷ rest → ⊥
    by_body [] h = absurd (cc)
    by_body (b ∷ body) h = absurd (cc)

-- the text of some lines has these lines alone
pub lines_same : (xs ys : List (List ℕ)) → AllByRecursion IsLine xs → AllByRecursion IsLine ys → concat xs ≡ concat ys → xs ≡ ys
lines_same [] [] a b e = refl
lines_same [] (y ∷ ys) a b e = absurd (no_line y b.0 (concat ys) e)
lines_same (x ∷ xs) [] a b e = absurd (no_line x a.0 (concat xs) (sym e))
lines_same (x ∷ xs) (y ∷ ys) a b e =
    let parts = parted 10 a.0.body b.0.body (concat xs) (concat ys) a.0.lacks b.0.lacks
    (sym (ended_line x a.0 (concat xs)) ∙ e ∙ ended_line y b.0 (concat ys)) in
    let first : x ≡ y = a.0.is ∙ ap (λ body. body ++ 10 ∷ []) parts.0 ∙ sym b.0.is in
    let rest = lines_same xs ys a.1 b.1 parts.1 in
    cc

-- the fields of a line whose fields lack a space
pub line_fields : (f g : List ℕ) (fs gs : List (List ℕ)) → AllByRecursion (Lacks 32) (f ∷ fs) → AllByRecursion (Lacks 32) (g ∷ gs)
    → line_of (f ∷ fs) ≡ line_of (g ∷ gs) → f ∷ fs ≡ g ∷ gs
unfolding line_of
line_fields f g fs gs a b e =
    fields_same 32 f g fs gs a b (append_cancel_right (join_with_byte 32 (f ∷ fs)) (join_with_byte 32 (g ∷ gs)) (10 ∷ []) e)
