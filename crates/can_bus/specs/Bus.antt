-- What a contract sees of the bus.
use Rattle.std.specs.Prelude.{◌≡◌, ℕ, List, length}
use Rattle.cany_base.specs.declared.rule.Rule.{Rule}
use Rattle.cany_base.specs.declared.slot_note.SlotNote.{SlotNote}
use Rattle.cany_base.specs.Params.{Parameters}
use Rattle.can_fault.specs.declared.identity.FrameIdentity.{FrameIdentity}
use Rattle.can_fault.specs.Attempts.{AreCountsOf}
use Rattle.can_fault.specs.Rules.{IsRuledBy}

-- the parameters, the notes of the slots, newest first, how often each frame that a rule names was
-- carried, and how many rules there may be
pub record BusParts : Type 0 where
  pub params : Parameters
  pub trace : List SlotNote
  pub attempts : List (FrameIdentity × ℕ)
  pub rules : ℕ

-- the slots so far went by these rules, and the bus has room for all that they can do
pub record Follows (rules : List Rule) (bus : BusParts) : Type 0 where
  pub counts : AreCountsOf rules bus.trace bus.attempts
  pub ruled : IsRuledBy rules bus.trace
  pub room : length rules ≡ bus.rules
