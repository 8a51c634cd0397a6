-- The attempts to carry the frames that entries of a scenario name, as they are kept.
use Rattle.std.specs.Prelude.{◌≡◌, ℕ, ◌+◌, ◌^◌, ◌||◌, ◌-◌, Bool, true, min, List, Option, Some}
use Rattle.std.specs.BTreeMap.{is_at}
use Rattle.std.specs.List.{list_any}
use Rattle.std.specs.Map.{lookup}
use Rattle.cany_base.specs.declared.class.Class.{Class}
use Rattle.cany_base.specs.declared.class.Class.TheVariants.{Join, Leave}
use Rattle.cany_base.specs.declared.message.NodeAsk.{NodeAsk}
use Rattle.cany_base.specs.declared.rule.Rule.{Rule}
use Rattle.cany_base.specs.declared.slot_note.SlotNote.{SlotNote}
use Rattle.cany_base.specs.Cycles.{cycle_of}
use Rattle.cany_base.specs.Params.{Parameters}
use Rattle.cany_base.specs.Scenario.{ScenarioParts}
use Rattle.cany_model.specs.Bus.Frames.{Identity, same_identity}
use Rattle.cany_model.specs.Bus.Slot.{attempts}
use Rattle.cany_world.specs.World.{WorldParts, state_of}
use Rattle.cany_check.specs.declared.unused_entries.attempts.AttemptSlots.{AttemptSlots}
use Rattle.can_fault.specs.declared.identity.Attempt.{Attempt}
use Rattle.can_fault.specs.declared.identity.FrameIdentity.{FrameIdentity}
use Rattle.can_fault.specs.Identities.{attempt_cmp, attempt_of, frame_identity, identity_cmp}
use Rattle.can_fault.specs.Rules.{names_frame}
use Rattle.cany_check.specs.Idle.Unused.{attempt_slot}

-- the count of the attempts to carry a frame, if it is kept
abbrev pub count_of : List (FrameIdentity × ℕ) → Identity → Option ℕ
count_of counts x = lookup (is_at (identity_cmp (frame_identity x))) counts

-- the slot of an attempt, if it is kept
abbrev pub slot_of : List (Attempt × ℕ) → Identity → ℕ → Option ℕ
slot_of slots x nth = lookup (is_at (attempt_cmp (attempt_of x nth))) slots

-- the greatest count: there a count stands still
abbrev pub greatest_count : ℕ
greatest_count = 2 ^ 64 - 1

abbrev pub raised : ℕ → ℕ
raised count = min (count + 1) greatest_count

-- ---- which frames are named

-- whether a rule names the frames of this identity
abbrev pub is_ruled : List Rule → Identity → Bool
is_ruled rules x = list_any (λ rule. names_frame x rule.place) rules

-- the frame by which a node asks to join or to leave
abbrev pub asked_frame : Parameters → Class → NodeAsk → Identity
asked_frame p c ask = record { class = c; number = cycle_of p ask.slot; node = ask.node }

-- whether it is that of one of these asks
abbrev pub is_asked : Parameters → Class → List NodeAsk → Identity → Bool
is_asked p c asks x = list_any (λ ask. same_identity (asked_frame p c ask) x) asks

-- whether a rule, a join or a leave of the scenario names the frames of this identity
abbrev pub is_named : ScenarioParts → Identity → Bool
is_named scenario x =
    (is_ruled scenario.rules x || is_asked scenario.params Join scenario.joins x) || is_asked scenario.params Leave scenario.leaves x

-- ---- what is kept

-- the frames that pass the test have the count 0
abbrev pub AreZero : (Identity → Bool) → List (FrameIdentity × ℕ) → Type 0
AreZero named counts = (x : Identity) → named x ≡ true → count_of counts x ≡ Some 0

-- the attempts to carry the frames that pass the test are those of these slots, newest first
pub record AreAttempts (named : Identity → Bool) (trace : List SlotNote) (kept : AttemptSlots) : Type 0 where
  pub counted : (x : Identity) → named x ≡ true → count_of kept.counts.entries x ≡ Some (attempts x trace)
  pub placed : (x : Identity) → named x ≡ true → (nth : ℕ) → slot_of kept.slots.entries x nth ≡ attempt_slot x nth trace

-- the attempts in the slots of a run, to carry the frames that its scenario names
abbrev pub AreAttemptsOf : WorldParts → AttemptSlots → Type 0
AreAttemptsOf world kept = AreAttempts (is_named world.scenario) (state_of world).trace kept
