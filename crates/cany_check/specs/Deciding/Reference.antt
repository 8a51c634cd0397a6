-- One order, decided by one list of reference: what nodes delivered, one node after another, of the
-- messages that were carried.
use Rattle.std.specs.Prelude.{ℕ, ◌+◌, nat_le, if◌then◌else◌, List, [], ◌∷◌, ◌++◌, drop, filter, filter_map, find, length, Option, Some, None, option_map}
use Rattle.std.specs.Option.{option_and_then, option_or}
use Rattle.cany_base.specs.declared.log_entry.LogEntry.{LogEntry}
use Rattle.cany_base.specs.declared.log_entry.LogEntry.TheVariants.{Deliver, Failed, View}
use Rattle.cany_base.specs.declared.message.MsgKey.{MsgKey}
use Rattle.cany_base.specs.declared.message.Service.TheVariants.{Tot}
use Rattle.cany_model.specs.Rules.Messages.{is_service}
use Rattle.cany_check.specs.declared.deciders.findings.Delivery.{Delivery}
use Rattle.cany_check.specs.declared.deciders.findings.Parting.{Parting}
use Rattle.cany_check.specs.declared.deciders.order.Item.{Item}
use Rattle.cany_check.specs.declared.account.record.MessageRecord.{MessageRecord}
use Rattle.cany_check.specs.Accounts.Account.{LogParts}
use Rattle.cany_check.specs.Accounts.Words.{same_key}

-- ---- what a node delivered

-- the first slot that carried the message of this key
abbrev pub first_slot : List MessageRecord → MsgKey → Option ℕ
first_slot messages key = option_and_then (λ m. option_map (λ slots. slots.first) m.carried) (find (λ m. same_key m.key key) messages)

abbrev pub item_in : List MessageRecord → ℕ → LogEntry → Option Item
item_in messages node (Deliver slot service msg payload) =
    if is_service service Tot then option_map (λ carried. record { msg = msg; slot = slot; node = node; carried = carried }) (first_slot messages msg) else None
item_in messages node (Failed slot failed cycle) = None
item_in messages node (View slot number members) = None

-- by TOTCAN, of messages that were carried, in its order
abbrev pub items_in : List MessageRecord → ℕ → List LogEntry → List Item
items_in messages node entries = filter_map (item_in messages node) entries

-- without what was first carried before this slot
abbrev pub cut : ℕ → List Item → List Item
cut slot items = filter (λ item. nat_le slot item.carried) items

abbrev pub items_of : List MessageRecord → LogParts → List Item
items_of messages log = cut log.from (items_in messages log.node log.entries)

abbrev pub delivery : Item → Delivery
delivery item = record { msg = item.msg; slot = item.slot }

-- ---- where it differs from the list of reference

pub record Clash : Type 0 where
  pub place : ℕ
  pub here : Item
  pub there : Item

-- the first place at which both have an item and the items differ, where the first place is this
-- one
unfoldable pub clash : ℕ → List Item → List Item → Option Clash
clash place [] there = None
clash place (x ∷ here) [] = None
clash place (x ∷ here) (y ∷ there) = if same_key x.msg y.msg then clash (place + 1) here there else Some (record { place = place; here = x; there = y })

abbrev pub parting_at : Clash → Parting
parting_at c = record { first = c.here.node; second = c.there.node; place = c.place; here = delivery c.here; there = delivery c.there }

-- the list of reference, of a node that takes part since this slot and delivered these: with what
-- of it goes beyond the list
abbrev pub with_items : ℕ → List Item → List Item → List Item
with_items from items reference = reference ++ drop (length (cut from reference)) items

-- the first node of these that differs from the list, and where
unfoldable pub first_clash : List MessageRecord → List Item → List LogParts → Option Clash
first_clash messages reference [] = None
first_clash messages reference (log ∷ logs) =
    option_or (clash 0 (cut log.from reference) (items_of messages log)) (first_clash messages (with_items log.from (items_of messages log) reference) logs)
