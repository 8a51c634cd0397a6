-- What fault rules say of a slot, and which of them is the first to repeat a place.
use Rattle.std.specs.Prelude.{◌≡◌, ℕ, ◌+◌, Bool, false, if◌then◌else◌, List, [], ◌∷◌, Option, Some, None, IfSome, Contains, slice_get, map, take}
use Rattle.std.specs.List.{list_any}
use Rattle.std.specs.Option.{option_or, IsSomeAnd}
use Rattle.cany_base.specs.declared.rule.Place.{Place}
use Rattle.cany_base.specs.declared.rule.Place.TheVariants.{At, FrameNth}
use Rattle.cany_base.specs.declared.rule.Rule.{Rule}
use Rattle.cany_base.specs.declared.slot_note.SlotNote.{SlotNote}
use Rattle.cany_base.specs.Frame.{FrameParts}
use Rattle.cany_base.specs.Scenario.{HaveDistinctPlaces}
use Rattle.cany_model.specs.Bus.Frames.{Identity, identity_of, same_identity}
use Rattle.cany_model.specs.Bus.Slot.{slot_rule, frame_rule, attempts, script}

-- the rule at the index is the first that has the place of an earlier one
pub record IsFirstRepeated (rules : List Rule) (index : ℕ) : Type 0 where
  pub repeated : IsSomeAnd (slice_get rules index) (λ rule. Contains (map (λ r. r.place) (take index rules)) rule.place)
  pub first : HaveDistinctPlaces (take index rules)

-- the rule for a slot, and for the frame that it carries with the number of its attempt: that for
-- the slot is used alone, and without one that for the attempt
abbrev pub rule_for : List Rule → ℕ → Option (FrameParts × ℕ) → Option Rule
rule_for rules slot None = slot_rule rules slot
rule_for rules slot (Some carried) = option_or (slot_rule rules slot) (frame_rule rules (identity_of carried.0) carried.1)

abbrev pub names_frame : Identity → Place → Bool
names_frame x (At slot) = false
names_frame x (FrameNth class number node nth) = same_identity (record { class = class; number = number; node = node }) x

-- whether a rule names the frames of this identity
abbrev pub is_named : List Rule → Identity → Bool
is_named rules x = list_any (λ rule. names_frame x rule.place) rules

-- the number that the next attempt to carry a frame gets: the attempts before it and one more, and
-- 0 where no rule names the frame
abbrev pub next_attempt : List Rule → List SlotNote → FrameParts → ℕ
next_attempt rules trace f = if is_named rules (identity_of f) then attempts (identity_of f) trace + 1 else 0

-- the frame comes with the number of its attempt
abbrev pub IsCounted : List Rule → List SlotNote → Option (FrameParts × ℕ) → Type 0
IsCounted rules trace carried = IfSome carried (λ c. c.1 ≡ next_attempt rules trace c.0)

-- each slot that carried a frame had the verdict that the rules give
abbrev pub IsRuledBy : List Rule → List SlotNote → Type 0
IsRuledBy rules [] = Unit {0}
IsRuledBy rules (note ∷ before) = IfSome note.frame (λ f. note.verdict ≡ (script rules before (Some f)).verdict) × IsRuledBy rules before
