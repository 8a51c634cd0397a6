-- When the parts of an account are in order.
use Rattle.std.specs.Prelude.{◌≡◌, ◌<◌, ◌≤◌, ◌^◌, ◌==◌, ℕ, Bool, false, List, count_by, length, map, take, slice_get, Option, Some, None, All, AllPairs}
use Rattle.cany_base.specs.Limits.{most_nodes, most_sends}
use Rattle.cany_model.specs.Rules.Knowledge.{FailureSign}
use Rattle.cany_check.specs.declared.account.record.MessageRecord.{MessageRecord}
use Rattle.cany_check.specs.declared.account.record.SignRecord.{SignRecord}
use Rattle.cany_check.specs.declared.account.record.FirstAndLast.{FirstAndLast}
use Rattle.cany_check.specs.Accounts.Account.{AccountParts, LogParts, signs_told}
use Rattle.cany_check.specs.Accounts.Words.{entry_slot}

abbrev pub most_slot : ℕ
most_slot = 2 ^ 63

abbrev pub IsSmallSlot : Option ℕ → Type 0
IsSmallSlot None = Unit {0}
IsSmallSlot (Some slot) = slot < most_slot

abbrev pub AreSmallSlots : Option FirstAndLast → Type 0
AreSmallSlots None = Unit {0}
AreSmallSlots (Some slots) = (slots.first < most_slot) × (slots.last < most_slot)

-- whether the message is of this origin
abbrev pub is_of_origin : ℕ → MessageRecord → Bool
is_of_origin origin m = m.key.origin == origin

-- the message is the next of its origin after these
abbrev pub IsNextAfter : List MessageRecord → MessageRecord → Type 0
IsNextAfter before m = m.key.seq ≡ count_by (is_of_origin m.key.origin) before

pub record IsMessageIn (a : AccountParts) (m : MessageRecord) : Type 0 where
  pub origin : m.key.origin < a.params.nodes
  pub slot : m.slot < most_slot
  pub sent : IsSmallSlot m.sent
  pub carried : AreSmallSlots m.carried

pub record IsLogIn (a : AccountParts) (log : LogParts) : Type 0 where
  pub node : log.node < a.params.nodes
  pub from : log.from < most_slot
  pub slots : All (λ entry. entry_slot entry < most_slot) log.entries

abbrev pub sign_named : SignRecord → FailureSign
sign_named r = record { node = r.node; cycle = r.cycle }

pub record IsOrderly (a : AccountParts) : Type 0 where
  -- as the type of the parameters says too
  pub few_nodes : a.params.nodes ≤ most_nodes
  -- of each origin the messages have the sequence numbers 0, 1, 2 and so on
  pub few : length a.messages ≤ most_sends
  pub numbered : (k : ℕ) (m : MessageRecord) → slice_get a.messages k ≡ Some m → IsNextAfter (take k a.messages) m
  pub messages : All (IsMessageIn a) a.messages
  -- the logs stand by ascending node, and only the last one of a node runs
  pub logs : All (IsLogIn a) a.logs
  pub ascending : AllPairs (λ x y. x.node ≤ y.node) a.logs
  pub last_runs : AllPairs (λ x y. x.node ≡ y.node → x.runs ≡ false) a.logs
  -- the signs are those that running logs tell of
  pub signs : map sign_named a.signs ≡ signs_told a.logs
  pub carried : All (λ r. AreSmallSlots r.carried) a.signs
