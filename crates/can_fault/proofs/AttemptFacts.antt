-- Counts of attempts along a run.
use Rattle.std.proofs.Common.{◌≡◌, ℕ, ◌+◌, ◌≤◌, ◌||◌, Bool, true, false, inl, inr, List, [], ◌∷◌, ◌++◌, Option, Some, None, refl, ap, sym, ◌∙◌, arith, if◌then◌else◌, min, length}
use Rattle.std.specs.BTreeMap.{BTreeMap, get, is_at}
use Rattle.std.specs.Option.{option_map, option_map_or}
use Rattle.std.specs.Ordering.{is_eq}
use Rattle.std.specs.Cmp.{both_ways, Equal-is}
use Rattle.std.proofs.lemmas.Bool.{cases_Bool}
use Rattle.std.proofs.lemmas.List.Sums.{count_by-le-length}
use Rattle.std.proofs.lemmas.List.Folds.{list_any-append}
use Rattle.cany_base.specs.declared.rule.Place.TheVariants.{At, FrameNth}
use Rattle.cany_base.specs.declared.rule.Rule.{Rule}
use Rattle.cany_base.specs.declared.slot_note.SlotNote.{SlotNote}
use Rattle.cany_base.specs.Frame.{FrameParts}
use Rattle.cany_model.specs.Bus.Frames.{Identity, identity_of, same_identity, is_of}
use Rattle.cany_model.specs.Bus.Slot.{attempts, carried}
use Rattle.cany_model.proofs.Among.{count-yes, count-no}
use Rattle.cany_model.proofs.Bus.Identities.{same_identity-true, same_identity_self}
use Rattle.can_fault.specs.declared.identity.FrameIdentity.{FrameIdentity}
use Rattle.can_fault.specs.Attempts.{AreCountsOf, HasIdentities, count_of, greatest, raised}
use Rattle.can_fault.specs.Identities.{identity_cmp, frame_identity}
use Rattle.can_fault.specs.Rules.{names_frame, is_named, next_attempt}
use Rattle.can_fault.proofs.KeyFacts.{identity_exact, identity_test}

pub same_identity_turned : (x y : Identity) → same_identity x y ≡ same_identity y x
same_identity_turned x y =
    both_ways (same_identity x y) (same_identity y x)
    (λ h. rw (same_identity-true x y h) (same_identity_self y))
    (λ h. rw (same_identity-true y x h) (same_identity_self x))

-- ---- the opening

or_false : (b : Bool) → (b || false) ≡ b
or_false true = refl
or_false false = refl

named_push : (rules : List Rule) (rule : Rule) (x : Identity) → is_named (rules ++ rule ∷ []) x ≡ (is_named rules x || names_frame x rule.place)
named_push rules rule x =
    list_any-append (λ (r : Rule). names_frame x r.place) rules (rule ∷ []) ∙ ap (λ b. is_named rules x || b) (or_false (names_frame x rule.place))

abbrev zero_where : Bool → Option ℕ
zero_where named = if named then Some 0 else None

entered_zero : (named here : Bool) → (if here then Some 0 else zero_where named) ≡ zero_where (named || here)
entered_zero true true = refl
entered_zero true false = refl
entered_zero false true = refl
entered_zero false false = refl

-- a rule for an attempt enters the identity of its frame
pub entered_name : (rules : List Rule) (rule : Rule) (y : Identity) (k : ℕ) (old new : BTreeMap FrameIdentity ℕ) → rule.place ≡ FrameNth y.class y.number y.node k
    → HasIdentities rules old.entries → ((q : FrameIdentity) → get identity_cmp new q ≡ (if is_at (identity_cmp (frame_identity y)) q then Some 0 else get identity_cmp old q))
    → HasIdentities (rules ++ rule ∷ []) new.entries
entered_name rules rule y k old new e counts updates x =
    updates (frame_identity x)
    ∙ ap (λ b. if b then Some 0 else count_of old.entries x) (identity_test y x ∙ sym (ap (names_frame x) e))
    ∙ ap (λ o. if names_frame x rule.place then Some 0 else o) (counts x)
    ∙ entered_zero (is_named rules x) (names_frame x rule.place)
    ∙ ap zero_where (sym (named_push rules rule x))

-- a rule for a slot names no frame
pub entered_slot : (rules : List Rule) (rule : Rule) (slot : ℕ) (counts : List (FrameIdentity × ℕ)) → rule.place ≡ At slot → HasIdentities rules counts → HasIdentities (rules ++ rule ∷ []) counts
entered_slot rules rule slot counts e has x =
    has x ∙ ap zero_where (sym (named_push rules rule x ∙ ap (λ p. is_named rules x || names_frame x p) e ∙ or_false (is_named rules x)))

-- ---- one more slot

-- the count of an identity that is not there, and is not raised
pub missing_raised : (x : FrameIdentity) (old new : BTreeMap FrameIdentity ℕ) → get identity_cmp old x ≡ None → new ≡ old
    → (other : FrameIdentity) → get identity_cmp new other ≡ (if is_eq (identity_cmp x other) then option_map raised (get identity_cmp old other) else get identity_cmp old other)
missing_raised x old new missing same other = elim (cases_Bool (is_eq (identity_cmp x other))) [
  | inl here ↦
      let at : x ≡ other = identity_exact x other ((Equal-is (identity_cmp x other)).0 here) in
      let none : get identity_cmp old other ≡ None = ap (get identity_cmp old) (sym at) ∙ missing in
      rw here (ap (λ m. get identity_cmp m other) same ∙ none ∙ sym (ap (option_map raised) none))
  | inr apart ↦ rw apart (ap (λ m. get identity_cmp m other) same)
]

-- the count of an identity that is there, raised to w
pub found_raised : (x : FrameIdentity) (n w : ℕ) (old new : BTreeMap FrameIdentity ℕ) → get identity_cmp old x ≡ Some n → w ≡ raised n
    → ((q : FrameIdentity) → get identity_cmp new q ≡ (if is_eq (identity_cmp x q) then Some w else get identity_cmp old q))
    → (other : FrameIdentity) → get identity_cmp new other ≡ (if is_eq (identity_cmp x other) then option_map raised (get identity_cmp old other) else get identity_cmp old other)
found_raised x n w old new found more updates other = elim (cases_Bool (is_eq (identity_cmp x other))) [
  | inl here ↦
      let at : x ≡ other = identity_exact x other ((Equal-is (identity_cmp x other)).0 here) in
      let there : get identity_cmp old other ≡ Some n = ap (get identity_cmp old) (sym at) ∙ found in
      rw here ((rw here at (updates other)) ∙ ap (λ k. Some k) more ∙ sym (ap (option_map raised) there))
  | inr apart ↦ rw apart (rw apart at (updates other))
]

raised_once : (a : ℕ) → raised (min a greatest) ≡ min (a + 1) greatest
raised_once a = omega arith

carries : (x : Identity) (note : SlotNote) (f : FrameParts) → note.frame ≡ Some f → carried (is_of x) note ≡ same_identity x (identity_of f)
carries x note f e = ap (λ o. option_map_or (is_of x) o false) e

pub one_more : (x : Identity) (trace : List SlotNote) (note : SlotNote) (f : FrameParts) → note.frame ≡ Some f → same_identity x (identity_of f) ≡ true
    → attempts x (note ∷ trace) ≡ attempts x trace + 1
one_more x trace note f e same = omega (arith, count-yes (carried (is_of x)) note trace (carries x note f e ∙ same))

no_more : (x : Identity) (trace : List SlotNote) (note : SlotNote) (f : FrameParts) → note.frame ≡ Some f → same_identity x (identity_of f) ≡ false
    → attempts x (note ∷ trace) ≡ attempts x trace
no_more x trace note f e other = count-no (carried (is_of x)) note trace (carries x note f e ∙ other)

-- what a count becomes
after : (named here : Bool) (a b : ℕ) → (here ≡ true → b ≡ a + 1) → (here ≡ false → b ≡ a)
    → (if here then option_map raised (if named then Some (min a greatest) else None) else (if named then Some (min a greatest) else None)) ≡ (if named then Some (min b greatest) else None)
after true true a b more same = ap (λ n. Some n) (raised_once a ∙ sym (ap (λ n. min n greatest) (more refl)))
after true false a b more same = ap (λ n. Some (min n greatest)) (sym (same refl))
after false true a b more same = refl
after false false a b more same = refl

pub raised_counts : (rules : List Rule) (trace : List SlotNote) (note : SlotNote) (f : FrameParts) (old new : BTreeMap FrameIdentity ℕ) → AreCountsOf rules trace old.entries → note.frame ≡ Some f
    → ((q : FrameIdentity) → get identity_cmp new q ≡ (if is_eq (identity_cmp (frame_identity (identity_of f)) q) then option_map raised (get identity_cmp old q) else get identity_cmp old q))
    → AreCountsOf rules (note ∷ trace) new.entries
raised_counts rules trace note f old new counts e raise x =
    let y = identity_of f in
    raise (frame_identity x)
    ∙ ap (λ b. if b then option_map raised (count_of old.entries x) else count_of old.entries x) (identity_test y x ∙ same_identity_turned y x)
    ∙ ap (λ o. if same_identity x y then option_map raised o else o) (counts x)
    ∙ after (is_named rules x) (same_identity x y) (attempts x trace) (attempts x (note ∷ trace))
    (one_more x trace note f e) (no_more x trace note f e)

-- ---- their number

few_or_none : (named : Bool) (n m : ℕ) → n ≤ m → (if named then n + 1 else 0) ≤ m + 1
few_or_none true n m h = omega arith
few_or_none false n m h = omega arith

pub few_attempts : (rules : List Rule) (trace : List SlotNote) (f : FrameParts) → next_attempt rules trace f ≤ length trace + 1
few_attempts rules trace f =
    few_or_none (is_named rules (identity_of f)) (attempts (identity_of f) trace) (length trace) (count_by-le-length (carried (is_of (identity_of f))) trace)
