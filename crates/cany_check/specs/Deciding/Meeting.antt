-- One node is compared with the list of reference, an item after another.
use Rattle.std.specs.Prelude.{◌≡◌, ◌≤◌, ℕ, List, ◌++◌, drop, length, Option, Some, option_map, option_to_list}
use Rattle.cany_base.specs.declared.log_entry.LogEntry.{LogEntry}
use Rattle.cany_check.specs.declared.deciders.findings.Parting.{Parting}
use Rattle.cany_check.specs.declared.deciders.order.Cursor.{Cursor}
use Rattle.cany_check.specs.declared.deciders.order.Item.{Item}
use Rattle.cany_check.specs.declared.account.record.MessageRecord.{MessageRecord}
use Rattle.cany_check.specs.Accounts.Account.{LogParts}
use Rattle.cany_check.specs.Deciding.Reference.{Clash, clash, cut, item_in, parting_at}

-- what an entry of the log delivers, if it counts
abbrev pub entry_items : List MessageRecord → LogParts → LogEntry → List Item
entry_items messages log entry = cut log.from (option_to_list (item_in messages log.node entry))

-- what of the list is not compared yet
abbrev pub ahead : ℕ → Cursor → List Item → List Item
ahead from cursor reference = cut from (drop cursor.next reference)

-- A comparison under way: how many items of the node were compared, what of the list is left to
-- compare, and the list.
pub record Comparison : Type 0 where
  pub compared : ℕ
  pub left : List Item
  pub list : List Item

-- as a cursor has it, of a node that takes part since this slot
abbrev pub comparison_at : ℕ → Cursor → List Item → Comparison
comparison_at from cursor list = record { compared = cursor.place; left = ahead from cursor list; list = list }

-- where the items that the node has next differ from what is left
abbrev pub clash_with : List Item → Comparison → Option Clash
clash_with items c = clash c.compared c.left items

-- the list, with what of these items goes beyond it
abbrev pub list_with : List Item → Comparison → List Item
list_with items c = c.list ++ drop (length c.left) items

-- These items were compared first, and that changed neither the clash nor the list: with whatever
-- follows they are those of the items and what follows together.
pub record GoesOn (from : ℕ) (items : List Item) (old new : Cursor) (before after : List Item) : Type 0 where
  pub within : new.next ≤ length after
  pub behind : new.place ≤ new.next
  pub clash_is : (rest : List Item) → clash_with rest (comparison_at from new after) ≡ clash_with (items ++ rest) (comparison_at from old before)
  pub list_is : (rest : List Item) → list_with rest (comparison_at from new after) ≡ list_with (items ++ rest) (comparison_at from old before)

-- these items differ from what is left of the list, whatever follows
abbrev pub ClashesBy : ℕ → List Item → Cursor → List Item → Parting → Type 0
ClashesBy from items cursor before p =
    (rest : List Item) → option_map parting_at (clash_with (items ++ rest) (comparison_at from cursor before)) ≡ Some p
