-- What the identifiers and keys of frames that fit the format say of the tests of identity and
-- order.
use Rattle.std.proofs.Common.{◌≡◌, ◌≢◌, ℕ, ◌-◌, ◌^◌, ◌/◌, ◌%◌, ◌<◌, ◌==◌, ◌↔◌, inl, inr, Bool, true, false, not, nat_lt, if◌then◌else◌, refl, ap, sym, ◌∙◌, eqb-true, arith}
use Rattle.std.specs.Cmp.{both_ways}
use Rattle.std.proofs.lemmas.Bool.{eq-eqb, lt-ltb, le-ltb, ltb-true}
use Rattle.std.proofs.lemmas.Bool.Decides.{nat_tests}
use Rattle.cany_base.specs.declared.class.Class.{Class}
use Rattle.cany_base.specs.declared.format.Format.{Format}
use Rattle.cany_base.specs.declared.format.Format.TheVariants.{One, Two}
use Rattle.cany_base.specs.Frame.{FrameParts, FitsIncarnation, SameIdentity, class_number, has_incarnation, identifier_of, key_of}
use Rattle.cany_model.specs.Bus.Frames.{Identity, bare, identity_of, same_class, same_identity, is_before}
use Rattle.cany_model.proofs.Bus.Identities.{same_class-true, same_identity-true, same_identity-from}
use Rattle.can_frame.specs.Identifier.{FitsFormat, FitsIdentifier, IsOrderedBefore}
use Rattle.can_frame.proofs.IdentityFacts.{identifiers_order, identifiers_tell, keys_order}
use Rattle.can_controller.specs.Waiting.{LesserKeyWins, identity_number}

-- ---- identity and incarnation in an identifier

-- a frame that fits the format fits an identifier without its incarnation
bare_fits : (format : Format) (f : FrameParts) → FitsFormat format f → FitsIdentifier format (bare (identity_of f))
bare_fits format f fits = (fits, none (has_incarnation f.class))
  where
    none : (told : Bool) → 0 < (if told then 2 ^ 4 else 1)
    none true = omega arith
    none false = omega arith

four_bits : (class : Class) (inc : ℕ) → FitsIncarnation class inc → inc < 2 ^ 4
four_bits class inc fits = below (has_incarnation class) fits
  where
    below : (told : Bool) → inc < (if told then 2 ^ 4 else 1) → inc < 2 ^ 4
    below true fits = fits
    below false fits = omega arith

-- a class that tells no incarnation has a 0 there
none_told : (f : FrameParts) → FitsIncarnation f.class f.inc → has_incarnation f.class ≡ false → f.inc ≡ 0
none_told f fits none = let below : f.inc < 1 = rw none at fits in omega arith

-- the four low bits of an identifier are the incarnation
above_low_bits : (format : Format) (f : FrameParts) → FitsIdentifier format f → identifier_of format f - identifier_of format f % 2 ^ 4 ≡ identity_number format f
above_low_bits One f fits = let few = four_bits f.class f.inc fits.1 in omega arith
above_low_bits Two f fits = let few = four_bits f.class f.inc fits.1 in omega arith

-- one identity is below another also with their incarnations
pub apart : (format : Format) (a b : FrameParts) → FitsIdentifier format a → FitsIdentifier format b → identity_number format a < identity_number format b
    → identifier_of format a < identifier_of format b
apart format a b fits_a fits_b less = omega (arith, above_low_bits format a fits_a, above_low_bits format b fits_b)

-- a frame of another identity has another identifier
pub other_identifier : (format : Format) (f : FrameParts) (ident : ℕ) → FitsIdentifier format f → identity_number format f ≢ ident - ident % 2 ^ 4 → identifier_of format f ≢ ident
other_identifier format f ident fits other same = other (sym (above_low_bits format f fits) ∙ ap (λ n. n - n % 2 ^ 4) same)

-- ---- the tests of identity

pub same_identity_is : (format : Format) (a b : FrameParts) → FitsFormat format a → FitsFormat format b
    → same_identity (identity_of a) (identity_of b) ≡ (identity_number format a == identity_number format b)
same_identity_is format a b fits_a fits_b =
    let tell = identifiers_tell format (bare (identity_of a)) (bare (identity_of b)) (bare_fits format a fits_a) (bare_fits format b fits_b) in
    both_ways (same_identity (identity_of a) (identity_of b)) (identity_number format a == identity_number format b)
    (λ h. eq-eqb (identity_number format a) (identity_number format b) (ap (λ x. identifier_of format (bare x)) (same_identity-true (identity_of a) (identity_of b) h)))
    (λ h. same_identity-from (identity_of a) (identity_of b) (identity_same (bare (identity_of a)) (bare (identity_of b)) (tell.0 (eqb-true (identity_number format a) (identity_number format b) h)).0))
  where
    identity_same : (f g : FrameParts) → SameIdentity f g → identity_of f ≡ identity_of g
    identity_same f g same = λ i. record { class = same.class i; number = same.number i; node = same.node i }

same_high_bits : (m n : ℕ) → (m - m % 2 ^ 4 == n - n % 2 ^ 4) ≡ (m / 2 ^ 4 == n / 2 ^ 4)
same_high_bits m n =
    both_ways (m - m % 2 ^ 4 == n - n % 2 ^ 4) (m / 2 ^ 4 == n / 2 ^ 4)
    (λ h. let same : m - m % 2 ^ 4 ≡ n - n % 2 ^ 4 = eqb-true _ _ h in eq-eqb (m / 2 ^ 4) (n / 2 ^ 4) (omega arith))
    (λ h. let same : m / 2 ^ 4 ≡ n / 2 ^ 4 = eqb-true _ _ h in eq-eqb (m - m % 2 ^ 4) (n - n % 2 ^ 4) (omega arith))

pub identity_in_high_bits : (format : Format) (a b : FrameParts) → FitsIdentifier format a → FitsIdentifier format b
    → same_identity (identity_of a) (identity_of b) ≡ (identifier_of format a / 2 ^ 4 == identifier_of format b / 2 ^ 4)
identity_in_high_bits format a b fits_a fits_b =
    same_identity_is format a b fits_a.0 fits_b.0
    ∙ (λ i. sym (above_low_bits format a fits_a) i == sym (above_low_bits format b fits_b) i)
    ∙ same_high_bits (identifier_of format a) (identifier_of format b)

-- where the class of a frame tells no incarnation, its identifier is its identity
pub identity_is_identifier : (format : Format) (a b : FrameParts) → FitsIdentifier format a → FitsIdentifier format b → has_incarnation a.class ≡ false
    → same_identity (identity_of a) (identity_of b) ≡ (identifier_of format a == identifier_of format b)
identity_is_identifier format a b fits_a fits_b none =
    both_ways (same_identity (identity_of a) (identity_of b)) (identifier_of format a == identifier_of format b)
    (λ h. eq-eqb (identifier_of format a) (identifier_of format b) (one_identifier (same_identity-true (identity_of a) (identity_of b) h)))
    (λ h.
    let same : identifier_of format a ≡ identifier_of format b = eqb-true (identifier_of format a) (identifier_of format b) h in
    identity_in_high_bits format a b fits_a fits_b ∙ eq-eqb (identifier_of format a / 2 ^ 4) (identifier_of format b / 2 ^ 4) (ap (λ n. n / 2 ^ 4) same))
  where
    one_identifier : identity_of a ≡ identity_of b → identifier_of format a ≡ identifier_of format b
    one_identifier same =
        let other_none : has_incarnation b.class ≡ false = ap (λ (x : Identity). has_incarnation x.class) (sym same) ∙ none in
        omega (arith, ap (λ x. identifier_of format (bare x)) same, none_told a fits_a.1 none, none_told b fits_b.1 other_none)

-- ---- the test of order

-- the order by parts is what the test of order compares
ordered : (a b : FrameParts) (class number node : Bool) → same_class a.class b.class ≡ class → (a.number == b.number) ≡ number → (a.node == b.node) ≡ node
    → (if not class then nat_lt (class_number a.class) (class_number b.class)
    else if not number then nat_lt a.number b.number
    else if not node then nat_lt a.node b.node
    else nat_lt a.inc b.inc) ≡ true
    → IsOrderedBefore a b
ordered a b true true true class number node h =
    inr (inr (inr (
      record { class = same_class-true a.class b.class class; number = eqb-true a.number b.number number; node = eqb-true a.node b.node node },
      ltb-true a.inc b.inc h,
    )))
ordered a b true true false class number node h =
    inr (inr (inl (same_class-true a.class b.class class, eqb-true a.number b.number number, ltb-true a.node b.node h)))
ordered a b true false node class number same h = inr (inl (same_class-true a.class b.class class, ltb-true a.number b.number h))
ordered a b false number node class same also h = inl (ltb-true (class_number a.class) (class_number b.class) h)

passes : (a b : FrameParts) → IsOrderedBefore a b → is_before a b ≡ true
unfolding is_before same_class
passes a b (inl class) = grind (arith, nat_tests, class)
passes a b (inr (inl (class, number))) = grind (arith, nat_tests, ap class_number class, number)
passes a b (inr (inr (inl (class, number, node)))) = grind (arith, nat_tests, ap class_number class, number, node)
passes a b (inr (inr (inr (same, inc)))) = grind (arith, nat_tests, ap class_number same.class, same.number, same.node, inc)

is_ordered : (a b : FrameParts) → is_before a b ≡ true → IsOrderedBefore a b
unfolding is_before
is_ordered a b h = ordered a b (same_class a.class b.class) (a.number == b.number) (a.node == b.node) refl refl refl h

-- a number of frames that is in their order tells which frame is before
before_by : (number : FrameParts → ℕ) (a b : FrameParts) → (number a < number b) ↔ IsOrderedBefore a b → is_before a b ≡ nat_lt (number a) (number b)
before_by number a b order =
    both_ways (is_before a b) (nat_lt (number a) (number b))
    (λ h. lt-ltb (number a) (number b) (order.1 (is_ordered a b h)))
    (λ h. passes a b (order.0 (ltb-true (number a) (number b) h)))

is_before_is : (format : Format) (a b : FrameParts) → FitsIdentifier format a → FitsIdentifier format b
    → is_before a b ≡ nat_lt (identifier_of format a) (identifier_of format b)
is_before_is format a b fits_a fits_b = before_by (identifier_of format) a b (identifiers_order format a b fits_a fits_b)

-- of two identities that of the smaller number wins
pub wins : (format : Format) (a b : FrameParts) → FitsIdentifier format a → FitsIdentifier format b → identity_number format a < identity_number format b → is_before a b ≡ true
wins format a b fits_a fits_b less =
    is_before_is format a b fits_a fits_b ∙ lt-ltb (identifier_of format a) (identifier_of format b) (apart format a b fits_a fits_b less)

pub loses : (format : Format) (a b : FrameParts) → FitsIdentifier format a → FitsIdentifier format b → identity_number format b < identity_number format a → is_before a b ≡ false
loses format a b fits_a fits_b more =
    let above : identifier_of format b < identifier_of format a = apart format b a fits_b fits_a more in
    is_before_is format a b fits_a fits_b ∙ le-ltb (identifier_of format a) (identifier_of format b) (omega arith)

pub key_order : (format : Format) → LesserKeyWins format
key_order format a b fits_a fits_b = before_by (key_of format) a b (keys_order format a b fits_a fits_b)
