-- Tests of identities tell whether they are equal.
use Rattle.std.specs.Prelude.{◌≡◌, ℕ, ◌==◌, true, ◌&&◌, [], ◌∷◌, slice_index_or, refl}
use Rattle.std.specs.Str.{bytes_eq}
use Rattle.std.proofs.Common.{sym, ap, ◌∙◌, eqb-true, eq-eqb, ◌≡◌, ◌==◌, ◌&&◌, true, refl}
use Rattle.std.proofs.lemmas.Bool.{and_parts, and_from, eq-eqb}
use Rattle.std.proofs.lemmas.Slice.Eq.{bytes_eq-Decides}
use Rattle.cany_base.specs.declared.class.Class.{Class}
use Rattle.cany_base.specs.declared.class.Class.TheVariants.{Accept, Rha, Els, Fda, Join, Leave, Confirm, Tot, Rel, Ed}
use Rattle.cany_base.specs.Frame.{FrameParts, class_number}
use Rattle.cany_model.specs.Bus.Frames.{Identity, identity_of, same_class, same_identity, same_frame}

abbrev class_at : ℕ → Class
class_at n = slice_index_or (Accept ∷ Rha ∷ Els ∷ Fda ∷ Join ∷ Leave ∷ Confirm ∷ Tot ∷ Rel ∷ Ed ∷ []) n Ed

class_at-number : (c : Class) → class_at (class_number c) ≡ c
class_at-number Accept = refl
class_at-number Rha = refl
class_at-number Els = refl
class_at-number Fda = refl
class_at-number Join = refl
class_at-number Leave = refl
class_at-number Confirm = refl
class_at-number Tot = refl
class_at-number Rel = refl
class_at-number Ed = refl

pub same_class-true : (a b : Class) → same_class a b ≡ true → a ≡ b
unfolding same_class
same_class-true a b h =
    sym (class_at-number a) ∙ ap (λ n. class_at n) (eqb-true (class_number a) (class_number b) h) ∙ class_at-number b

pub same_class_self : (a : Class) → same_class a a ≡ true
unfolding same_class
same_class_self a = eq-eqb (class_number a) (class_number a) refl

same_identity_from : (a b : Identity) → a.class ≡ b.class → a.number ≡ b.number → a.node ≡ b.node → a ≡ b
same_identity_from a b c n i = λ k. record { class = c k; number = n k; node = i k }

pub same_identity-true : (a b : Identity) → same_identity a b ≡ true → a ≡ b
unfolding same_identity
same_identity-true a b h =
    let outer = and_parts (same_class a.class b.class && a.number == b.number) (a.node == b.node) h in
    let inner = and_parts (same_class a.class b.class) (a.number == b.number) outer.0 in
    same_identity_from a b (same_class-true a.class b.class inner.0) (eqb-true a.number b.number inner.1) (eqb-true a.node b.node outer.1)

pub same_identity_self : (a : Identity) → same_identity a a ≡ true
unfolding same_identity
same_identity_self a =
    and_from (same_class a.class a.class && a.number == a.number) (a.node == a.node)
    (and_from (same_class a.class a.class) (a.number == a.number) (same_class_self a.class) (eq-eqb a.number a.number refl))
    (eq-eqb a.node a.node refl)

frame_from : (f g : FrameParts) → identity_of f ≡ identity_of g → f.inc ≡ g.inc → f.payload ≡ g.payload → f ≡ g
frame_from f g x i p =
    λ k. record { class = (x k).class; number = (x k).number; node = (x k).node; inc = i k; payload = p k }

pub same_frame-true : (f g : FrameParts) → same_frame f g ≡ true → f ≡ g
unfolding same_frame
same_frame-true f g h =
    let outer = and_parts (same_identity (identity_of f) (identity_of g) && f.inc == g.inc) (bytes_eq f.payload g.payload) h in
    let inner = and_parts (same_identity (identity_of f) (identity_of g)) (f.inc == g.inc) outer.0 in
    frame_from f g (same_identity-true (identity_of f) (identity_of g) inner.0) (eqb-true f.inc g.inc inner.1)
    ((bytes_eq-Decides f.payload g.payload).0 outer.1)

pub same_frame_self : (f : FrameParts) → same_frame f f ≡ true
unfolding same_frame
same_frame_self f =
    and_from (same_identity (identity_of f) (identity_of f) && f.inc == f.inc) (bytes_eq f.payload f.payload)
    (and_from (same_identity (identity_of f) (identity_of f)) (f.inc == f.inc) (same_identity_self (identity_of f)) (eq-eqb f.inc f.inc refl))
    ((bytes_eq-Decides f.payload f.payload).1 refl)

pub same_identity-from : (a b : Identity) → a ≡ b → same_identity a b ≡ true
same_identity-from a b e = rw e (same_identity_self b)

-- the same frame has the same identity
pub same_frame-identity : (f g : FrameParts) → same_frame f g ≡ true → identity_of f ≡ identity_of g
unfolding same_frame
same_frame-identity f g h =
    same_identity-true (identity_of f) (identity_of g) (and_parts (same_identity (identity_of f) (identity_of g)) (f.inc == g.inc) (and_parts _ _ h).0).0
