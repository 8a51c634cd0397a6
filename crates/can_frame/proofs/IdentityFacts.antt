-- Identifiers and keys tell class, number, node and incarnation, and order frames by them, if these
-- fit their fields.
use Rattle.std.proofs.Common.{◌≡◌, ℕ, ◌+◌, ◌*◌, ◌^◌, ◌<◌, ◌↔◌, Bool, true, false, if◌then◌else◌, ap, sym, arith, inl, inr, ◌⊎◌}
use Rattle.std.proofs.lemmas.Bool.{cases_order}
use Rattle.cany_base.specs.declared.class.Class.{Class}
use Rattle.cany_base.specs.declared.format.Format.{Format}
use Rattle.cany_base.specs.declared.format.Format.TheVariants.{One, Two}
use Rattle.cany_base.specs.Frame.{FrameParts, FitsIncarnation, class_number, has_incarnation, identifier_of, is_remote, key_of, SameIdentity}
use Rattle.cany_base.specs.Layout.{layout}
use Rattle.can_frame.specs.Identifier.{AgreeInIdentifier, FitsFormat, FitsIdentifier, HasSmallNumbers, IsOrderedBefore}

pub small_fits : (format : Format) (f : FrameParts) → HasSmallNumbers format f → FitsFormat format f
small_fits One f (number, node) = (omega arith, node)
small_fits Two f small = small

pub same_class : (x y : Class) → class_number x ≡ class_number y → x ≡ y
same_class x y e = grind arith

-- every incarnation has four bits
pub incarnation_below : (class : Class) (inc : ℕ) → FitsIncarnation class inc → inc < 2 ^ 4
incarnation_below class inc fits = below (has_incarnation class) fits
  where
    below : (told : Bool) → inc < (if told then 2 ^ 4 else 1) → inc < 2 ^ 4
    below true fits = fits
    below false fits = omega arith

pub same_identifier : (format : Format) (a b : FrameParts) → AgreeInIdentifier a b → identifier_of format a ≡ identifier_of format b
same_identifier format a b (same, inc) = λ i.
    class_number (same.class i) * 2 ^ 25 + same.number i * 2 ^ (layout format).number_shift + same.node i * 2 ^ (layout format).node_shift + inc i

-- two frames agree, or one is before the other
abbrev AreOrdered : FrameParts → FrameParts → Type 0
AreOrdered a b = AgreeInIdentifier a b ⊎ (IsOrderedBefore a b ⊎ IsOrderedBefore b a)

order : (a b : FrameParts) → AreOrdered a b
order a b = elim (cases_order (class_number a.class) (class_number b.class)) [
  | inl class ↦ of_class (same_class a.class b.class class) (cases_order a.number b.number)
  | inr (inl before) ↦ inr (inl (inl before))
  | inr (inr after) ↦ inr (inr (inl after))
]
  where
    of_identity : SameIdentity a b → (a.inc ≡ b.inc) ⊎ ((a.inc < b.inc) ⊎ (b.inc < a.inc)) → AreOrdered a b
    of_identity same (inl inc) = inl (same, inc)
    of_identity same (inr (inl before)) = inr (inl (inr (inr (inr (same, before)))))
    of_identity same (inr (inr after)) = inr (inr (inr (inr (inr (turned, after)))))
      where
        turned : SameIdentity b a
        turned = record { class = sym same.class; number = sym same.number; node = sym same.node }

    of_number : a.class ≡ b.class → a.number ≡ b.number → (a.node ≡ b.node) ⊎ ((a.node < b.node) ⊎ (b.node < a.node)) → AreOrdered a b
    of_number class number (inl node) = of_identity (record { class = class; number = number; node = node }) (cases_order a.inc b.inc)
    of_number class number (inr (inl before)) = inr (inl (inr (inr (inl (class, number, before)))))
    of_number class number (inr (inr after)) = inr (inr (inr (inr (inl (sym class, sym number, after)))))

    of_class : a.class ≡ b.class → (a.number ≡ b.number) ⊎ ((a.number < b.number) ⊎ (b.number < a.number)) → AreOrdered a b
    of_class class (inl number) = of_number class number (cases_order a.node b.node)
    of_class class (inr (inl before)) = inr (inl (inr (inl (class, before))))
    of_class class (inr (inr after)) = inr (inr (inr (inl (sym class, after))))

-- a number of a frame that is in the order of the frames
record FollowsOrder (number : FrameParts → ℕ) (a b : FrameParts) : Type 0 where
  pub same : AgreeInIdentifier a b → number a ≡ number b
  pub before : IsOrderedBefore a b → number a < number b
  pub after : IsOrderedBefore b a → number b < number a

less_is_before : (number : FrameParts → ℕ) (a b : FrameParts) → FollowsOrder number a b → (number a < number b) ↔ IsOrderedBefore a b
less_is_before number a b follows = ((λ less. by_order less (order a b)), follows.before)
  where
    by_order : number a < number b → AreOrdered a b → IsOrderedBefore a b
    by_order less (inl same) = absurd (omega (arith, follows.same same))
    by_order less (inr (inl before)) = before
    by_order less (inr (inr after)) = absurd (omega (arith, follows.after after))

equal_is_same : (number : FrameParts → ℕ) (a b : FrameParts) → FollowsOrder number a b → (number a ≡ number b) ↔ AgreeInIdentifier a b
equal_is_same number a b follows = ((λ equal. by_order equal (order a b)), follows.same)
  where
    by_order : number a ≡ number b → AreOrdered a b → AgreeInIdentifier a b
    by_order equal (inl same) = same
    by_order equal (inr (inl before)) = absurd (omega (arith, follows.before before))
    by_order equal (inr (inr after)) = absurd (omega (arith, follows.after after))

identifier_below : (format : Format) (a b : FrameParts) → FitsIdentifier format a → FitsIdentifier format b → IsOrderedBefore a b → identifier_of format a < identifier_of format b
identifier_below format a b (fits_a, inc_a) (fits_b, inc_b) before =
    in_format format fits_a fits_b (incarnation_below a.class a.inc inc_a) (incarnation_below b.class b.inc inc_b) before
  where
    in_format : (format : Format) → FitsFormat format a → FitsFormat format b → a.inc < 2 ^ 4 → b.inc < 2 ^ 4 → IsOrderedBefore a b → identifier_of format a < identifier_of format b
    in_format One fits_a fits_b inc_a inc_b (inl class) = omega arith
    in_format One fits_a fits_b inc_a inc_b (inr (inl (class, number))) = omega (arith, ap class_number class)
    in_format One fits_a fits_b inc_a inc_b (inr (inr (inl (class, number, node)))) = omega (arith, ap class_number class)
    in_format One fits_a fits_b inc_a inc_b (inr (inr (inr (same, inc)))) = omega (arith, ap class_number same.class, same.number, same.node)
    in_format Two fits_a fits_b inc_a inc_b (inl class) = omega arith
    in_format Two fits_a fits_b inc_a inc_b (inr (inl (class, number))) = omega (arith, ap class_number class)
    in_format Two fits_a fits_b inc_a inc_b (inr (inr (inl (class, number, node)))) = omega (arith, ap class_number class)
    in_format Two fits_a fits_b inc_a inc_b (inr (inr (inr (same, inc)))) = omega (arith, ap class_number same.class, same.number, same.node)

identifiers_follow : (format : Format) (a b : FrameParts) → FitsIdentifier format a → FitsIdentifier format b → FollowsOrder (identifier_of format) a b
identifiers_follow format a b fits_a fits_b = record {
  same = same_identifier format a b;
  before = identifier_below format a b fits_a fits_b;
  after = identifier_below format b a fits_b fits_a;
}

pub identifiers_order : (format : Format) (a b : FrameParts) → FitsIdentifier format a → FitsIdentifier format b → (identifier_of format a < identifier_of format b) ↔ IsOrderedBefore a b
identifiers_order format a b fits_a fits_b = less_is_before (identifier_of format) a b (identifiers_follow format a b fits_a fits_b)

pub identifiers_tell : (format : Format) (a b : FrameParts) → FitsIdentifier format a → FitsIdentifier format b → (identifier_of format a ≡ identifier_of format b) ↔ AgreeInIdentifier a b
identifiers_tell format a b fits_a fits_b = equal_is_same (identifier_of format) a b (identifiers_follow format a b fits_a fits_b)

-- the lowest bit of a key
abbrev rtr : Class → ℕ
rtr class = if is_remote class then 1 else 0

rtr_below : (class : Class) → rtr class < 2
rtr_below class = below (is_remote class)
  where
    below : (remote : Bool) → (if remote then 1 else 0) < 2
    below true = omega arith
    below false = omega arith

-- of two identifiers the smaller has the smaller key
pub key_below : (format : Format) (a b : FrameParts) → identifier_of format a < identifier_of format b → key_of format a < key_of format b
key_below format a b less = omega (arith, rtr_below a.class)

keys_follow : (format : Format) (a b : FrameParts) → FitsIdentifier format a → FitsIdentifier format b → FollowsOrder (key_of format) a b
keys_follow format a b fits_a fits_b = record {
  same = λ same. omega (arith, same_identifier format a b same, ap rtr same.0.class);
  before = λ before. key_below format a b (identifier_below format a b fits_a fits_b before);
  after = λ after. key_below format b a (identifier_below format b a fits_b fits_a after);
}

pub keys_order : (format : Format) (a b : FrameParts) → FitsIdentifier format a → FitsIdentifier format b → (key_of format a < key_of format b) ↔ IsOrderedBefore a b
keys_order format a b fits_a fits_b = less_is_before (key_of format) a b (keys_follow format a b fits_a fits_b)

pub keys_tell : (format : Format) (a b : FrameParts) → FitsIdentifier format a → FitsIdentifier format b → (key_of format a ≡ key_of format b) ↔ AgreeInIdentifier a b
keys_tell format a b fits_a fits_b = equal_is_same (key_of format) a b (keys_follow format a b fits_a fits_b)
