-- The frame of a slot is before no other that a running node waits with, so a node sends the first
-- of its waiting frames.
use Rattle.std.proofs.Common.{◌≡◌, ℕ, zero, suc, ◌==◌, Bool, true, false, not, nat_lt, List, [], ◌∷◌, ◌++◌, refl, ap, sym, subst, ◌∙◌, arith}
use Rattle.std.specs.Prelude.{Option, Some, None, if◌then◌else◌}
use Rattle.std.specs.List.{AllByRecursion, flat_map}
use Rattle.std.proofs.lemmas.Bool.{false≢true}
use Rattle.std.proofs.lemmas.Bool.Decides.{nat_tests}
use Rattle.std.proofs.lemmas.Option.{same_Some}
use Rattle.cany_base.specs.Frame.{FrameParts, class_number}
use Rattle.cany_model.specs.Bus.Frames.{is_before, same_class}
use Rattle.cany_model.specs.Bus.Slot.{FaultScript, better, least_frame, offered, slot_note_of, winner}
use Rattle.cany_model.specs.Bus.State.{NodeState, RunState, node_at, runs}
use Rattle.cany_model.proofs.Among.{Each-first, Each-second, Each-weaker}
use Rattle.cany_model.proofs.Bus.Notes.{note_of-frame}

-- ---- the order of frames

-- two numbers are compared, and where they are equal the rest decides
abbrev pub compared : ℕ → ℕ → Bool → Bool
compared a b rest = if not (a == b) then nat_lt a b else rest

pub not_before : (a b c : ℕ) (r s t : Bool) → (r ≡ false → s ≡ false → t ≡ false) → compared a b r ≡ false → compared b c s ≡ false
    → compared a c t ≡ false
not_before a b c false false t rest first second = let least : t ≡ false = rest refl refl in grind (arith, nat_tests)
not_before a b c false true t rest first second = grind (arith, nat_tests)
not_before a b c true s t rest first second = grind (arith, nat_tests)

pub not_less : (a b c : ℕ) → nat_lt a b ≡ false → nat_lt b c ≡ false → nat_lt a c ≡ false
not_less a b c first second = grind (arith, nat_tests)

not_both : (a b : ℕ) (r s : Bool) → (r ≡ true → s ≡ false) → compared a b r ≡ true → compared b a s ≡ false
not_both a b true s rest h = let least : s ≡ false = rest refl in grind (arith, nat_tests)
not_both a b false s rest h = grind (arith, nat_tests)

less_one_way : (a b : ℕ) → nat_lt a b ≡ true → nat_lt b a ≡ false
less_one_way a b h = grind (arith, nat_tests)

pub not_itself : (a : ℕ) (r : Bool) → r ≡ false → compared a a r ≡ false
not_itself a r rest = grind (arith, nat_tests)

not_less_itself : (a : ℕ) → nat_lt a a ≡ false
not_less_itself a = grind (arith, nat_tests)

pub is_not_before : (f g h : FrameParts) → is_before f g ≡ false → is_before g h ≡ false → is_before f h ≡ false
unfolding is_before same_class
is_not_before f g h =
    not_before (class_number f.class) (class_number g.class) (class_number h.class) _ _ _
    (not_before f.number g.number h.number _ _ _ (not_before f.node g.node h.node _ _ _ (not_less f.inc g.inc h.inc)))

before_one_way : (f g : FrameParts) → is_before f g ≡ true → is_before g f ≡ false
unfolding is_before same_class
before_one_way f g =
    not_both (class_number f.class) (class_number g.class) _ _
    (not_both f.number g.number _ _ (not_both f.node g.node _ _ (less_one_way f.inc g.inc)))

pub not_before_itself : (f : FrameParts) → is_before f f ≡ false
unfolding is_before same_class
not_before_itself f =
    not_itself (class_number f.class) _ (not_itself f.number _ (not_itself f.node _ (not_less_itself f.inc)))

-- ---- the frame that is carried

-- none of these frames is before this one
abbrev pub NoneBefore : FrameParts → List FrameParts → Type 0
NoneBefore f w = AllByRecursion (λ g. is_before g f ≡ false) w

pub least_none : (fs : List FrameParts) → least_frame fs ≡ None → fs ≡ []
unfolding least_frame
least_none [] h = refl
least_none (f ∷ fs) h = absurd (some_is_none (better f (least_frame fs)) h)
  where
    some_is_none : (x : FrameParts) → Some x ≡ None → ⊥
    some_is_none x e = cc

least_first : (fs : List FrameParts) (m : FrameParts) → least_frame fs ≡ Some m → NoneBefore m fs
unfolding least_frame
least_first [] m h = tt
least_first (f ∷ fs) m h = by_rest (least_frame fs) refl (least_first fs)
  where
    by_order : (k : FrameParts) (b : Bool) → is_before k f ≡ b → NoneBefore k fs → (if b then k else f) ≡ m → NoneBefore m (f ∷ fs)
    by_order k true e rest h' = subst (λ (x : FrameParts). NoneBefore x (f ∷ fs)) h' (before_one_way k f e, rest)
    by_order k false e rest h' = subst (λ (x : FrameParts). NoneBefore x (f ∷ fs)) h'
        (not_before_itself f, Each-weaker (λ g. is_before g k ≡ false) (λ g. is_before g f ≡ false) (λ g l. is_not_before g k f l e) fs rest)

    by_rest : (o : Option FrameParts) → least_frame fs ≡ o → ((x : FrameParts) → o ≡ Some x → NoneBefore x fs) → NoneBefore m (f ∷ fs)
    by_rest None e all =
        let first : f ≡ m = same_Some f m (sym (ap (λ o. Some (better f o)) e) ∙ h) in
        subst (λ (x : FrameParts). NoneBefore x (f ∷ fs)) first (not_before_itself f, subst (NoneBefore f) (sym (least_none fs e)) tt)
    by_rest (Some k) e all =
        by_order k (is_before k f) refl (all k refl) (same_Some (better f (Some k)) m (sym (ap (λ o. Some (better f o)) e) ∙ h))

all_offered : (P : FrameParts → Type 0) (node : NodeState) (rest : List FrameParts) → AllByRecursion P (offered node ++ rest)
    → (runs node ≡ true → AllByRecursion P node.waiting) × AllByRecursion P rest
all_offered P node rest h = by_run (runs node) h
  where
    by_run : (b : Bool) → AllByRecursion P ((if b then node.waiting else []) ++ rest)
        → (b ≡ true → AllByRecursion P node.waiting) × AllByRecursion P rest
    by_run true h = (λ running. Each-first P node.waiting rest h, Each-second P node.waiting rest h)
    by_run false h = (λ running. absurd (false≢true running), h)

each_offered : (P : FrameParts → Type 0) (nodes : List NodeState) → AllByRecursion P (flat_map offered nodes)
    → (i : ℕ) → runs (node_at nodes i) ≡ true → AllByRecursion P (node_at nodes i).waiting
unfolding node_at
each_offered P [] h i running = absurd (false≢true running)
each_offered P (node ∷ nodes) h zero running = (all_offered P node (flat_map offered nodes) h).0 running
each_offered P (node ∷ nodes) h (suc i) running = each_offered P nodes (all_offered P node (flat_map offered nodes) h).1 i running

winner_first : (nodes : List NodeState) (f : FrameParts) → winner nodes ≡ Some f → (i : ℕ) → runs (node_at nodes i) ≡ true
    → NoneBefore f (node_at nodes i).waiting
unfolding winner
winner_first nodes f h = each_offered (λ g. is_before g f ≡ false) nodes (least_first (flat_map offered nodes) f h)

-- no frame that a running node waits with is before that of the slot
pub carried_first : (rules : FaultScript) (s : RunState) (f : FrameParts) → (slot_note_of rules s).frame ≡ Some f → (i : ℕ)
    → runs (node_at s.nodes i) ≡ true → NoneBefore f (node_at s.nodes i).waiting
carried_first rules s f h = winner_first s.nodes f (sym (note_of-frame rules s) ∙ h)
