-- The counts of attempts that are kept, and the run that they stand for.
use Rattle.std.specs.Prelude.{◌≡◌, ℕ, ◌+◌, ◌-◌, ◌^◌, List, Option, Some, None, if◌then◌else◌, min}
use Rattle.std.specs.BTreeMap.{is_at}
use Rattle.std.specs.Map.{lookup}
use Rattle.cany_base.specs.declared.rule.Rule.{Rule}
use Rattle.cany_base.specs.declared.slot_note.SlotNote.{SlotNote}
use Rattle.cany_model.specs.Bus.Frames.{Identity}
use Rattle.cany_model.specs.Bus.Slot.{attempts}
use Rattle.can_fault.specs.declared.identity.FrameIdentity.{FrameIdentity}
use Rattle.can_fault.specs.Identities.{identity_cmp, frame_identity}
use Rattle.can_fault.specs.Rules.{is_named}

-- the greatest count: there a count stands still
abbrev pub greatest : ℕ
greatest = 2 ^ 32 - 1

abbrev pub raised : ℕ → ℕ
raised count = min (count + 1) greatest

-- the count of the frames of an identity, if there is one
abbrev pub count_of : List (FrameIdentity × ℕ) → Identity → Option ℕ
count_of counts x = lookup (is_at (identity_cmp (frame_identity x))) counts

-- the counts have, for the frames that a rule names and for no others, how many slots of the run
-- carried them
abbrev pub AreCountsOf : List Rule → List SlotNote → List (FrameIdentity × ℕ) → Type 0
AreCountsOf rules trace counts =
    (x : Identity) → count_of counts x ≡ (if is_named rules x then Some (min (attempts x trace) greatest) else None)

-- the counts are 0 for the frames that a rule names, and there are no others
abbrev pub HasIdentities : List Rule → List (FrameIdentity × ℕ) → Type 0
HasIdentities rules counts = (x : Identity) → count_of counts x ≡ (if is_named rules x then Some 0 else None)
