-- An identifier with the incarnation in it: withdrawing by it is withdrawing by identity, where the
-- waiting frames are stamped with that incarnation.
use Rattle.std.proofs.Common.{◌≡◌, ℕ, ◌+◌, ◌^◌, ◌<◌, ◌≤◌, ◌==◌, Bool, true, false, not, if◌then◌else◌, List, [], ◌∷◌, filter, All, refl, ap, sym, ◌∙◌, arith, eqb-true}
use Rattle.std.specs.Cmp.{both_ways}
use Rattle.std.specs.Option.{option_map_or}
use Rattle.std.proofs.lemmas.Bool.{eq-eqb}
use Rattle.std.proofs.lemmas.List.Elements.{All-head, All-tail}
use Rattle.cany_base.specs.declared.class.Class.{Class}
use Rattle.cany_base.specs.declared.format.Format.{Format}
use Rattle.cany_base.specs.declared.format.Format.TheVariants.{One, Two}
use Rattle.cany_base.specs.Frame.{FrameParts, FitsIncarnation, SameIdentity, class_number, has_incarnation, identifier_of}
use Rattle.cany_base.specs.Limits.{most_restarts_of_node}
use Rattle.cany_model.specs.Bus.Frames.{Identity, bare, identity_of, is_of}
use Rattle.cany_model.specs.Bus.Waiting.{without}
use Rattle.cany_model.specs.Rules.Actions.{ident_of}
use Rattle.cany_model.proofs.Bus.Identities.{same_identity-from, same_identity-true}
use Rattle.can_frame.specs.Classes.{tells_incarnation}
use Rattle.can_frame.specs.Identifier.{FitsFormat, FitsIdentifier}
use Rattle.can_frame.proofs.ClassFacts.{class_of_frame}
use Rattle.can_frame.proofs.IdentityFacts.{identifiers_tell}
use Rattle.cany_node.specs.Stamping.{AreStamped, IsStamped, ident_with, with_incarnation}

-- ---- the identifier

-- the class in it is that of the identity
class_tells : (format : Format) (x : Identity) → FitsFormat format (bare x) → tells_incarnation (ident_of format x) ≡ has_incarnation x.class
class_tells format x fits =
    ap (λ c. option_map_or has_incarnation c false) (class_of_frame format (bare x) (fits, by_class (has_incarnation x.class)))
  where
    by_class : (stamped : Bool) → 0 < (if stamped then 2 ^ 4 else 1)
    by_class true = omega arith
    by_class false = omega arith

few_classes : (c : Class) → class_number c ≤ 9
few_classes c = grind arith

-- there is room for every incarnation
pub ident_small : (format : Format) (x : Identity) (inc : ℕ) → FitsFormat format (bare x) → inc ≤ most_restarts_of_node
    → ident_of format x + inc < 2 ^ 32
ident_small One x inc fits number = omega (arith, few_classes x.class)
ident_small Two x inc fits number = omega (arith, few_classes x.class)

-- the incarnation as it stands in the lowest bits
abbrev stamp_in_bits : ℕ → Class → ℕ
stamp_in_bits inc c = if has_incarnation c then inc else 0

-- it is that of a frame of this identity which is stamped with the incarnation
ident_is : (format : Format) (inc : ℕ) (x : Identity) → FitsFormat format (bare x)
    → ident_with inc (ident_of format x) ≡ identifier_of format (with_incarnation inc (bare x))
ident_is format inc x fits =
    ap (λ b. if b then ident_of format x + inc else ident_of format x) (class_tells format x fits)
    ∙ by_class (has_incarnation x.class)
  where
    by_class : (stamped : Bool) → (if stamped then ident_of format x + inc else ident_of format x)
        ≡ identifier_of format (record (bare x) { inc = if stamped then inc else 0 })
    by_class true = omega arith
    by_class false = refl

stamped_fits : (format : Format) (inc : ℕ) (x : Identity) → FitsFormat format (bare x) → inc ≤ most_restarts_of_node
    → FitsIdentifier format (with_incarnation inc (bare x))
stamped_fits format inc x fits number = (fits, by_class (has_incarnation x.class))
  where
    by_class : (stamped : Bool) → (if stamped then inc else 0) < (if stamped then 2 ^ 4 else 1)
    by_class true = omega arith
    by_class false = omega arith

-- ---- the waiting frames

-- a frame that tells the incarnation, of a class, has just the bits that the identifier has
tells_bits : (inc : ℕ) (f : FrameParts) → FitsIncarnation f.class f.inc → IsStamped inc f → f.inc ≡ stamp_in_bits inc f.class
tells_bits inc f fits tells = by_class (has_incarnation f.class) fits tells
  where
    by_class : (stamped : Bool) → f.inc < (if stamped then 2 ^ 4 else 1) → (stamped ≡ true → f.inc ≡ inc) → f.inc ≡ (if stamped then inc else 0)
    by_class true few own = own refl
    by_class false few own = omega arith

same_test : (format : Format) (inc : ℕ) (x : Identity) (f : FrameParts) → inc ≤ most_restarts_of_node → FitsFormat format (bare x)
    → FitsIdentifier format f
    → IsStamped inc f → (identifier_of format f == ident_with inc (ident_of format x)) ≡ is_of x f
same_test format inc x f number fits fits_f tells =
    let g : FrameParts = with_incarnation inc (bare x) in
    let tell = identifiers_tell format f g fits_f (stamped_fits format inc x fits number) in
    both_ways (identifier_of format f == ident_with inc (ident_of format x)) (is_of x f)
    (λ h.
    let same = (tell.0 (eqb-true (identifier_of format f) (ident_with inc (ident_of format x)) h ∙ ident_is format inc x fits)).0 in
    same_identity-from x (identity_of f) (λ k. record { class = (sym same.class) k; number = (sym same.number) k; node = (sym same.node) k }))
    (λ h.
    let same : x ≡ identity_of f = same_identity-true x (identity_of f) h in
    let one : SameIdentity f g = record {
      class = sym (ap (λ (y : Identity). y.class) same);
      number = sym (ap (λ (y : Identity). y.number) same);
      node = sym (ap (λ (y : Identity). y.node) same);
    } in
    let bits : f.inc ≡ g.inc = tells_bits inc f fits_f.1 tells ∙ ap (stamp_in_bits inc) one.class in
    eq-eqb (identifier_of format f) (ident_with inc (ident_of format x)) (tell.1 (one, bits) ∙ sym (ident_is format inc x fits)))

pub withdrawn_stamped : (format : Format) (inc : ℕ) (x : Identity) (w : List FrameParts) → inc ≤ most_restarts_of_node
    → FitsFormat format (bare x)
    → All (FitsIdentifier format) w → AreStamped inc w
    → filter (λ f. not (identifier_of format f == ident_with inc (ident_of format x))) w ≡ without x w
withdrawn_stamped format inc x [] number fits all stamped = refl
withdrawn_stamped format inc x (f ∷ w) number fits all stamped =
    let rest = withdrawn_stamped format inc x w number fits (All-tail (FitsIdentifier format) f w all) stamped.1 in
    let same = same_test format inc x f number fits (All-head (FitsIdentifier format) f w all) stamped.0 in
    ap (λ b. if not b then f ∷ filter (λ g. not (identifier_of format g == ident_with inc (ident_of format x))) w
    else filter (λ g. not (identifier_of format g == ident_with inc (ident_of format x))) w) same
    ∙ ap (λ v. if not (is_of x f) then f ∷ v else v) rest
