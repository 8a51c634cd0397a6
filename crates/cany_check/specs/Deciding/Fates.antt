-- What became of a message, and of a failure sign, among the nodes that count for it.
use Rattle.std.specs.Prelude.{ℕ, ◌&&◌, ◌||◌, ◌==◌, min, max, Bool, not, is_none, if◌then◌else◌, List, filter, map, Option, Some, None}
use Rattle.std.specs.List.{flat_map, fold, list_any}
use Rattle.cany_base.specs.declared.log_entry.LogEntry.{LogEntry}
use Rattle.cany_base.specs.Nodes.{Nodes, has, nobody, is_nobody}
use Rattle.cany_check.specs.declared.account.record.MessageRecord.{MessageRecord}
use Rattle.cany_check.specs.declared.account.record.SignRecord.{SignRecord}
use Rattle.cany_check.specs.declared.account.record.FirstAndLast.{FirstAndLast}
use Rattle.cany_check.specs.declared.deciders.findings.Fate.{Fate}
use Rattle.cany_check.specs.declared.deciders.findings.Fate.TheVariants.{All, Nobody, Apart, Open}
use Rattle.cany_check.specs.declared.deciders.findings.Told.{Told}
use Rattle.cany_check.specs.Accounts.Account.{AccountParts, LogParts}
use Rattle.cany_check.specs.Accounts.Words.{counting, counting_for_sign, delivers, entry_slot, is_delivery, is_settled, knows, nodes_of, tells_sign}

-- ---- slots of entries

-- these slots, and one more
abbrev pub with_slot : Option FirstAndLast → ℕ → Option FirstAndLast
with_slot None slot = Some (record { first = slot; last = slot })
with_slot (Some slots) slot = Some (record { first = min slot slots.first; last = max slot slots.last })

-- the least and the greatest
unfoldable pub least_and_greatest : List ℕ → Option FirstAndLast
least_and_greatest slots = fold with_slot None slots

-- those of the entries of these logs that pass a test
abbrev pub slots_where : (LogEntry → Bool) → List LogParts → Option FirstAndLast
slots_where test logs = least_and_greatest (flat_map (λ log. map entry_slot (filter test log.entries)) logs)

-- ---- a message

-- The fate, where these of the nodes that count have it and those lack it, and the origin counts or
-- not. A message that nobody of them has is apart too, if its origin is one of them.
abbrev pub fate_by : (settled : Bool) → (has lacks : Nodes) → (origin : Bool) → Fate
fate_by settled has lacks origin =
    if not settled then Open
    else if not (is_nobody lacks) && (not (is_nobody has) || origin) then Apart
    else if is_nobody lacks && not (is_nobody has) then All
    else Nobody

abbrev pub message_has : AccountParts → MessageRecord → List LogParts
message_has a m = filter (delivers m) (counting a m)

abbrev pub message_lacks : AccountParts → MessageRecord → List LogParts
message_lacks a m = filter (λ log. not (delivers m log)) (counting a m)

-- whether the origin is one of those that count
abbrev pub origin_counts : AccountParts → MessageRecord → Bool
origin_counts a m = list_any (λ log. log.node == m.key.origin) (counting a m)

unfoldable pub message_fate : AccountParts → MessageRecord → Fate
message_fate a m = fate_by (is_settled m) (nodes_of (message_has a m)) (nodes_of (message_lacks a m)) (origin_counts a m)

abbrev pub message_told : AccountParts → MessageRecord → Told
message_told a m = record {
  fate = message_fate a m;
  has = nodes_of (message_has a m);
  lacks = nodes_of (message_lacks a m);
  had = nodes_of (filter (delivers m) a.logs);
  slots = slots_where (is_delivery m) (message_has a m);
}

abbrev pub message_fates : AccountParts → List Told
message_fates a = map (message_told a) a.messages

-- ---- a failure sign

-- the fate, where the frame was carried or never
abbrev pub sign_fate_by : (waited carried : Bool) → (has lacks : Nodes) → Fate
sign_fate_by waited carried has lacks =
    if waited then Open
    else if not (is_nobody has) && (not (is_nobody lacks) || not carried) then Apart
    else if carried && not (is_nobody has) && is_nobody lacks then All
    else Nobody

abbrev pub sign_has : AccountParts → SignRecord → List LogParts
sign_has a sign = filter (knows sign) (counting_for_sign a sign)

abbrev pub sign_lacks : AccountParts → SignRecord → List LogParts
sign_lacks a sign = filter (λ log. not (knows sign log)) (counting_for_sign a sign)

unfoldable pub sign_fate : AccountParts → SignRecord → Fate
sign_fate a sign =
    sign_fate_by (not (is_nobody sign.waits)) (not (is_none sign.carried)) (nodes_of (sign_has a sign)) (nodes_of (sign_lacks a sign))

abbrev pub sign_told : AccountParts → SignRecord → Told
sign_told a sign = record {
  fate = sign_fate a sign;
  has = nodes_of (sign_has a sign);
  lacks = nodes_of (sign_lacks a sign);
  had = nobody;
  slots = slots_where (tells_sign sign) (sign_has a sign);
}

abbrev pub sign_fates : AccountParts → List Told
sign_fates a = map (sign_told a) a.signs
