-- The rules by their places.
use Rattle.std.specs.Prelude.{◌≡◌, List, Option}
use Rattle.std.specs.BTreeMap.{get}
use Rattle.std.specs.Ordering.{nat_cmp}
use Rattle.cany_base.specs.declared.rule.Place.{Place}
use Rattle.cany_base.specs.declared.rule.Place.TheVariants.{At, FrameNth}
use Rattle.cany_base.specs.declared.rule.Rule.{Rule}
use Rattle.cany_model.specs.Bus.Slot.{rule_at}
use Rattle.can_fault.specs.Identities.{attempt_cmp, attempt_of}
use Rattle.can_fault.specs.declared.table.RuleTable.{RuleTable}

-- what the table has at a place
abbrev pub entry_at : RuleTable → Place → Option Rule
entry_at table (At slot) = get nat_cmp table.by_slot slot
entry_at table (FrameNth class number node nth) =
    get attempt_cmp table.by_attempt (attempt_of (record { class = class; number = number; node = node }) nth)

-- the table has at each place the first rule of the list that has it
abbrev pub IsTableOf : List Rule → RuleTable → Type 0
IsTableOf rules table = (place : Place) → entry_at table place ≡ rule_at rules place
