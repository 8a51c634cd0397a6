use Rattle.std.proofs.Common.{◌≡◌, map, take}
use Rattle.cany_model.specs.Runs.Run.{run}
use Rattle.cany_check.specs.Accounts.Records.{message_slots, with_slots}
use Rattle.cany_check.proofs.account.message_records.records_of_messages.Given as goal

abbrev pub invariant-loop-i : goal.invariant-loop-i
invariant-loop-i l =
    l.records.items ≡ map (λ m. with_slots m (message_slots (run l.world.scenario l.world.journal).trace m)) (take l.i l.unsent.items)
