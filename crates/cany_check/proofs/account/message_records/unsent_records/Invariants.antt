use Rattle.std.proofs.Common.{◌≡◌, map, take}
use Rattle.cany_model.specs.Rules.Messages.{messages_of}
use Rattle.cany_model.specs.Runs.Run.{run}
use Rattle.cany_check.specs.Accounts.Account.{unsent_record}
use Rattle.cany_check.proofs.account.message_records.unsent_records.Given as goal

abbrev pub invariant-loop-i : goal.invariant-loop-i
invariant-loop-i l =
    l.records.items ≡ take l.i (map (unsent_record l.world.scenario (run l.world.scenario l.world.journal)) (messages_of l.world.scenario.sends))
