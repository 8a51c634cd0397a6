-- The frame of a slot does not come after a frame that a running node waits with: it is of the same
-- identity, or wins over those of it.
use Rattle.std.proofs.Common.{◌≡◌, ℕ, ◌⊎◌, ◌==◌, ◌&&◌, inl, inr, Bool, true, false, nat_lt, List, [], ◌∷◌, Option, Some, None, refl, sym, subst, arith}
use Rattle.std.specs.List.{flat_map}
use Rattle.std.proofs.lemmas.Bool.{and_from, cases_eq, cond_both, eq-eqb}
use Rattle.std.proofs.lemmas.Bool.Decides.{nat_tests}
use Rattle.cany_base.specs.declared.slot_note.SlotNote.{SlotNote}
use Rattle.cany_base.specs.Frame.{FrameParts, class_number}
use Rattle.cany_model.specs.Bus.Frames.{Identity, bare, identity_of, is_before, is_of, same_class, same_identity}
use Rattle.cany_model.specs.Bus.Slot.{FaultScript, better, least_frame, offered, slot_note_of, winner}
use Rattle.cany_model.specs.Bus.State.{RunState, absent, node_at, runs}
use Rattle.cany_model.specs.Bus.Waiting.{waits}
use Rattle.cany_model.proofs.Among.{Among, Among-flat_map, Among-from_Contains, Among-from_any, Among-get_or, Among-which}
use Rattle.cany_model.proofs.Bus.Identities.{same_identity-true}
use Rattle.cany_model.proofs.Bus.Notes.{note_of-frame}
use Rattle.cany_model.proofs.Bus.States.{runs_within}
use Rattle.cany_model.proofs.Promises.FewLifeSignsOrder.{compared, is_not_before, not_before_itself}

-- ---- two numbers are compared, and where they are equal the rest decides

not_both : (a b : ℕ) (r s : Bool) → (s ≡ true → r ≡ false) → compared b a s ≡ true → compared a b r ≡ false
not_both a b false s rest h = grind (arith, nat_tests)
not_both a b true false rest h = grind (arith, nat_tests)
not_both a b true true rest h = let least : true ≡ false = rest refl in absurd (cc)

not_more : (a b : ℕ) → nat_lt b a ≡ true → nat_lt a b ≡ false
not_more a b h = grind (arith, nat_tests)

rest_false : (a b : ℕ) (r : Bool) → a ≡ b → compared a b r ≡ false → r ≡ false
rest_false a b r same h = grind (arith, nat_tests)

rest_true : (a b : ℕ) (s : Bool) → a ≡ b → s ≡ true → compared b a s ≡ true
rest_true a b s same h = grind (arith, nat_tests)

other_before : (a b : ℕ) (r s : Bool) → (a ≡ b → ⊥) → compared a b r ≡ false → compared b a s ≡ true
other_before a b r s other h = grind (arith, nat_tests)

turned : (E : Type 0) (a b : ℕ) (r s : Bool) → (r ≡ false → E ⊎ (s ≡ true)) → compared a b r ≡ false → ((a ≡ b) × E) ⊎ (compared b a s ≡ true)
turned E a b r s rest h = elim (cases_eq a b) [
  | inr other ↦ inr (other_before a b r s other h)
  | inl same ↦ elim (rest (rest_false a b r same h)) [ inl e ↦ inl (same, e) | inr before ↦ inr (rest_true a b s same before) ]
]

last : (a b : ℕ) (r s : Bool) → compared a b r ≡ false → (a ≡ b) ⊎ (compared b a s ≡ true)
last a b r s h = elim (cases_eq a b) [ inl same ↦ inl same | inr other ↦ inr (other_before a b r s other h) ]

-- ---- the order of frames

not_back : (f g : FrameParts) → is_before g f ≡ true → is_before f g ≡ false
unfolding is_before same_class
not_back f g =
    not_both (class_number f.class) (class_number g.class) _ _ (not_both f.number g.number _ _ (not_both f.node g.node _ _ (not_more f.inc g.inc)))

-- a frame that does not come after one of the identity is of the identity, or wins over those of it
of_its_own : (f g : FrameParts) → is_before f g ≡ false → (is_of (identity_of f) g ≡ true) ⊎ (is_before g (bare (identity_of f)) ≡ true)
unfolding is_before same_class same_identity
of_its_own f g h = elim (parted h) [
  | inr before ↦ inr before
  | inl same ↦ inl (and_from (class_number f.class == class_number g.class && f.number == g.number) (f.node == g.node)
      (and_from (class_number f.class == class_number g.class) (f.number == g.number) (eq-eqb (class_number f.class) (class_number g.class) same.0)
      (eq-eqb f.number g.number same.1.0)) (eq-eqb f.node g.node same.1.1))
]
  where
    parted : is_before f g ≡ false
        → ((class_number f.class ≡ class_number g.class) × ((f.number ≡ g.number) × (f.node ≡ g.node))) ⊎ (is_before g (bare (identity_of f)) ≡ true)
    parted =
        turned ((f.number ≡ g.number) × (f.node ≡ g.node)) (class_number f.class) (class_number g.class) _ _
        (turned (f.node ≡ g.node) f.number g.number _ _ (last f.node g.node _ _))

same_or_before : (x : Identity) (f g : FrameParts) → is_of x f ≡ true → is_before f g ≡ false → (is_of x g ≡ true) ⊎ (is_before g (bare x) ≡ true)
same_or_before x f g same h =
    subst (λ y. (is_of y g ≡ true) ⊎ (is_before g (bare y) ≡ true)) (sym (same_identity-true x (identity_of f) same)) (of_its_own f g h)

-- ---- the least frame

-- no frame of the list comes before it
abbrev NotAfter : FrameParts → Option FrameParts → Type 0
NotAfter f None = ⊥
NotAfter f (Some g) = is_before f g ≡ false

better_first : (f g : FrameParts) (o : Option FrameParts) → is_before f g ≡ false → is_before f (better g o) ≡ false
better_first f g None h = h
better_first f g (Some k) h =
    cond_both (is_before k g) k g (λ w. is_before f w ≡ false) (λ before. is_not_before f g k h (not_back g k before)) (λ _. h)

better_later : (f g k : FrameParts) → is_before f k ≡ false → is_before f (better g (Some k)) ≡ false
better_later f g k h =
    cond_both (is_before k g) k g (λ w. is_before f w ≡ false) (λ _. h) (λ other. is_not_before f k g h other)

-- of a list that has the frame, the least does not come after it
least_not_after : (f : FrameParts) (fs : List FrameParts) → Among (λ g. g ≡ f) fs → NotAfter f (least_frame fs)
unfolding least_frame
least_not_after f [] h = absurd h
least_not_after f (g ∷ fs) (inl same) =
    better_first f g (least_frame fs) (subst (λ k. is_before f k ≡ false) (sym same) (not_before_itself f))
least_not_after f (g ∷ fs) (inr h) = by_rest (least_frame fs) (least_not_after f fs h)
  where
    by_rest : (o : Option FrameParts) → NotAfter f o → is_before f (better g o) ≡ false
    by_rest None none = absurd none
    by_rest (Some k) not_after = better_later f g k not_after

-- ---- a slot

-- what is carried while a running node waits with a frame of the identity
pub record NotAfterIt (x : Identity) (note : SlotNote) : Type 0 where
  pub what : FrameParts
  pub frame : note.frame ≡ Some what
  pub which : (is_of x what ≡ true) ⊎ (is_before what (bare x) ≡ true)

pub carried_while : (rules : FaultScript) (s : RunState) (x : Identity) (i : ℕ) → runs (node_at s.nodes i) ≡ true → waits x (node_at s.nodes i).waiting ≡ true
    → NotAfterIt x (slot_note_of rules s)
unfolding winner node_at
carried_while rules s x i running waiting =
    let w = Among-which (λ f. is_of x f ≡ true) (node_at s.nodes i).waiting (Among-from_any (is_of x) (node_at s.nodes i).waiting waiting) in
    let own : Among (λ g. g ≡ w.0) (node_at s.nodes i).waiting = Among-from_Contains (node_at s.nodes i).waiting w.0 w.1 in
    let all : Among (λ g. g ≡ w.0) (flat_map offered s.nodes) =
    Among-flat_map offered (λ g. g ≡ w.0) s.nodes
    (Among-get_or (λ node. Among (λ g. g ≡ w.0) (offered node)) s.nodes i absent (runs_within s.nodes i running) (rw running own)) in
    by_winner w.0 w.2 (least_frame (flat_map offered s.nodes)) (note_of-frame rules s) (least_not_after w.0 (flat_map offered s.nodes) all)
  where
    by_winner : (f : FrameParts) → is_of x f ≡ true → (o : Option FrameParts) → (slot_note_of rules s).frame ≡ o → NotAfter f o
        → NotAfterIt x (slot_note_of rules s)
    by_winner f same None frame none = absurd none
    by_winner f same (Some g) frame not_after = record { what = g; frame = frame; which = same_or_before x f g same not_after }
