-- What a table has at each place, and what that says of the rules.
use Rattle.std.proofs.Common.{◌≡◌, ◌≢◌, ℕ, zero, suc, ◌+◌, ◌<◌, ◌==◌, ◌&&◌, ◌||◌, inl, inr, true, false, List, [], ◌∷◌, ◌++◌, map, length, get_or, Option, Some, None, refl, ap, sym, ◌∙◌, arith, if◌then◌else◌}
use Rattle.std.specs.BTreeMap.{BTreeMap, get, is_at}
use Rattle.std.specs.Ordering.{nat_cmp}
use Rattle.std.specs.Option.{option_or, option_map, is_some}
use Rattle.std.specs.Prelude.{Contains, slice_get, take}
use Rattle.std.proofs.lemmas.Bool.{false≢true, cases_Bool}
use Rattle.std.proofs.lemmas.List.Folds.{find-append}
use Rattle.std.proofs.lemmas.List.Quantifiers.{all_pairs_push}
use Rattle.cany_base.specs.declared.rule.Place.{Place}
use Rattle.cany_base.specs.declared.rule.Place.TheVariants.{At, FrameNth}
use Rattle.cany_base.specs.declared.rule.Rule.{Rule}
use Rattle.cany_base.specs.declared.slot_note.SlotNote.{SlotNote}
use Rattle.cany_base.specs.Frame.{FrameParts}
use Rattle.cany_base.specs.Scenario.{same_place, HaveDistinctPlaces}
use Rattle.cany_base.proofs.PlaceFacts.{same_place-true, same_place_self}
use Rattle.cany_model.specs.Bus.Frames.{Identity, identity_of, same_class, same_identity}
use Rattle.cany_model.specs.Bus.Slot.{ruling_of, script, rule_at, slot_rule, frame_rule, attempts}
use Rattle.can_fault.specs.declared.identity.Attempt.{Attempt}
use Rattle.can_fault.specs.declared.table.RuleTable.{RuleTable}
use Rattle.can_fault.specs.Identities.{attempt_cmp, attempt_of}
use Rattle.can_fault.specs.Rules.{IsFirstRepeated, rule_for, names_frame, is_named, IsCounted}
use Rattle.can_fault.specs.Table.{entry_at, IsTableOf}
use Rattle.can_fault.proofs.KeyFacts.{attempt_test}

-- ---- one more rule

pub entered_attempt : (slots : BTreeMap ℕ Rule) (old new : BTreeMap Attempt Rule) (x : Identity) (k : ℕ) (rule : Rule) → rule.place ≡ FrameNth x.class x.number x.node k
    → ((q : Attempt) → get attempt_cmp new q ≡ (if is_at (attempt_cmp (attempt_of x k)) q then Some rule else get attempt_cmp old q))
    → (place : Place) → entry_at (record { by_slot = slots; by_attempt = new }) place ≡ (if same_place rule.place place then Some rule else entry_at (record { by_slot = slots; by_attempt = old }) place)
unfolding same_identity same_class
entered_attempt slots old new x k rule e updates (At slot) =
    ap (λ b. if b then Some rule else get nat_cmp slots slot) (sym (ap (λ q. same_place q (At slot)) e))
entered_attempt slots old new x k rule e updates (FrameNth class number node nth) =
    let y : Identity = record { class = class; number = number; node = node } in
    updates (attempt_of y nth) ∙ ap (λ b. if b then Some rule else get attempt_cmp old (attempt_of y nth)) (attempt_test x y k nth ∙ sym (ap (λ q. same_place q (FrameNth class number node nth)) e))

rule_at_push : (rules : List Rule) (rule : Rule) (place : Place) → rule_at rules rule.place ≡ None
    → rule_at (rules ++ rule ∷ []) place ≡ (if same_place rule.place place then Some rule else rule_at rules place)
rule_at_push rules rule place free =
    find-append (λ r. same_place r.place place) rules (rule ∷ []) ∙ elim (cases_Bool (same_place rule.place place)) [
      | inl here ↦
          let e : rule_at rules place ≡ None = ap (rule_at rules) (sym (same_place-true rule.place place here)) ∙ free in
          rw (here, e) refl
      | inr other ↦ rw other (or_nothing (rule_at rules place))
    ]
  where
    or_nothing : (o : Option Rule) → option_or o None ≡ o
    or_nothing None = refl
    or_nothing (Some r) = refl

pub IsTableOf-push : (rules : List Rule) (old new : RuleTable) (rule : Rule) → IsTableOf rules old → entry_at old rule.place ≡ None
    → ((place : Place) → entry_at new place ≡ (if same_place rule.place place then Some rule else entry_at old place)) → IsTableOf (rules ++ rule ∷ []) new
IsTableOf-push rules old new rule table free entered place =
    entered place ∙ ap (λ o. if same_place rule.place place then Some rule else o) (table place) ∙ sym (rule_at_push rules rule place (sym (table rule.place) ∙ free))

some_none : (r : Rule) → Some r ≡ None → ⊥
some_none r h = cc

none_has : (rules : List Rule) (place : Place) → rule_at rules place ≡ None → (k : ℕ) (d : Rule) → k < length rules → same_place (get_or rules k d).place place ≡ false
none_has [] place none k d h = absurd (omega arith)
none_has (r ∷ rules) place none zero d h = elim (cases_Bool (same_place r.place place)) [
  | inl here ↦ absurd (some_none r (rw here at none))
  | inr other ↦ other
]
none_has (r ∷ rules) place none (suc k) d h = elim (cases_Bool (same_place r.place place)) [
  | inl here ↦ absurd (some_none r (rw here at none))
  | inr other ↦ none_has rules place (rw other at none) k d (omega arith)
]

pub distinct_push : (rules : List Rule) (rule : Rule) → HaveDistinctPlaces rules → rule_at rules rule.place ≡ None → HaveDistinctPlaces (rules ++ rule ∷ [])
distinct_push rules rule distinct free =
    all_pairs_push (λ (a b : Rule). a.place ≢ b.place) rules rule distinct
    (λ k d h e. false≢true (sym (none_has rules rule.place free k d h) ∙ ap (λ q. same_place q rule.place) e ∙ same_place_self rule.place))

-- a rule that is found has the place
pub found_place : (rules : List Rule) (place : Place) (r : Rule) → rule_at rules place ≡ Some r → Contains (map (λ (r : Rule). r.place) rules) place
found_place [] place r h = absurd (cc)
found_place (x ∷ rules) place r h = elim (cases_Bool (same_place x.place place)) [
  | inl here ↦ (0, omega arith, same_place-true x.place place here)
  | inr other ↦
      let rest = found_place rules place r (rw other at h) in
      (suc rest.0, omega (arith, rest.1), rest.2)
]

-- the rule at i is the first repeated one where the table of those before has its place
pub first_repeated : (rules : List Rule) (i : ℕ) (rule : Rule) (table : RuleTable) (earlier : Option Rule) → slice_get rules i ≡ Some rule → IsTableOf (take i rules) table → HaveDistinctPlaces (take i rules)
    → earlier ≡ entry_at table rule.place → is_some earlier ≡ true → IsFirstRepeated rules i
first_repeated rules i rule table None at h distinct e found = absurd (false≢true found)
first_repeated rules i rule table (Some r) at h distinct e found = record {
  repeated = rw at (found_place (take i rules) rule.place r (sym (h rule.place) ∙ sym e));
  first = distinct;
}

-- ---- the rule that is used

-- without a rule for the slot that for the attempt is used
pub used_attempt : (rules : List Rule) (table : RuleTable) (slot : ℕ) (f : FrameParts) (k : ℕ) → IsTableOf rules table → entry_at table (At slot) ≡ None
    → entry_at table (FrameNth f.class f.number f.node k) ≡ rule_for rules slot (Some (f, k))
used_attempt rules table slot f k h none =
    h (FrameNth f.class f.number f.node k) ∙ sym (ap (λ o. option_or o (frame_rule rules (identity_of f) k)) (sym (h (At slot)) ∙ none))

-- a rule for the slot is used alone
pub used_slot : (rules : List Rule) (table : RuleTable) (slot : ℕ) (carried : Option (FrameParts × ℕ)) (rule : Rule) → IsTableOf rules table → entry_at table (At slot) ≡ Some rule
    → Some rule ≡ rule_for rules slot carried
used_slot rules table slot None rule h found = sym found ∙ h (At slot)
used_slot rules table slot (Some c) rule h found =
    ap (λ o. option_or o (frame_rule rules (identity_of c.0) c.1)) (sym found ∙ h (At slot))

-- an option that is no `Some`
pub none_of : (o : Option Rule) → ((r : Rule) → o ≡ Some r → ⊥) → o ≡ None
none_of None h = refl
none_of (Some r) h = absurd (h r refl)

-- ---- the script

unnamed_place : (x : Identity) (k : ℕ) (place : Place) → names_frame x place ≡ false → same_place place (FrameNth x.class x.number x.node k) ≡ false
unfolding same_identity same_class
unnamed_place x k (At slot) h = refl
unnamed_place x k (FrameNth class number node nth) h = ap (λ b. b && nth == k) h

unnamed : (rules : List Rule) (x : Identity) (k : ℕ) → is_named rules x ≡ false → frame_rule rules x k ≡ None
unnamed [] x k h = refl
unnamed (r ∷ rules) x k h = elim (cases_Bool (names_frame x r.place)) [
  | inl named ↦ absurd (false≢true (sym h ∙ ap (λ b. b || is_named rules x) named))
  | inr other ↦
      ap (λ b. if b then Some r else frame_rule rules x k) (unnamed_place x k r.place other)
      ∙ unnamed rules x k (sym (ap (λ b. b || is_named rules x) other) ∙ h)
]

pub rules_as_script : (rules : List Rule) (trace : List SlotNote) (carried : Option (FrameParts × ℕ)) → IsCounted rules trace carried
    → ruling_of (rule_for rules (length trace) carried) ≡ script rules trace (option_map (λ c. c.0) carried)
unfolding script
rules_as_script rules trace None counted = refl
rules_as_script rules trace (Some c) counted = elim (cases_Bool (is_named rules (identity_of c.0))) [
  | inl named ↦ ap (λ k. ruling_of (rule_for rules (length trace) (Some (c.0, k)))) (rw named at counted)
  | inr other ↦
      ap (λ o. ruling_of (option_or (slot_rule rules (length trace)) o))
      (unnamed rules (identity_of c.0) c.1 other ∙ sym (unnamed rules (identity_of c.0) (attempts (identity_of c.0) trace + 1) other))
]

pub script_from : (rules : List Rule) (slot : ℕ) (carried : Option (FrameParts × ℕ)) (used : Option Rule) → used ≡ rule_for rules slot carried
    → (trace : List SlotNote) → slot ≡ length trace → IsCounted rules trace carried → ruling_of used ≡ script rules trace (option_map (λ c. c.0) carried)
script_from rules slot carried used e trace at counted =
    ap ruling_of e ∙ ap (λ s. ruling_of (rule_for rules s carried)) at ∙ rules_as_script rules trace carried counted
