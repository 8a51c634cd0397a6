use Rattle.std.proofs.Common.{◌≡◌, map, take, reverse}
use Rattle.cany_check.specs.Accounts.Records.{message_slots}
use Rattle.cany_check.proofs.account.message_slots.slots_of_messages.Given as goal

abbrev pub invariant-loop-i : goal.invariant-loop-i
invariant-loop-i l = l.slots.items ≡ map (message_slots (reverse (take l.i l.trace))) l.messages
