use Rattle.std.proofs.Common.{◌+◌, ◌*◌, ◌≤◌, length, take}
use Rattle.cany_model.specs.Rules.Messages.{messages_of}
use Rattle.cany_model.specs.Runs.Run.{run}
use Rattle.cany_log.specs.ReportItems.{message_text}
use Rattle.cany_log.proofs.PageFacts.{HasPut}
use Rattle.cany_log.proofs.messages.put_messages.Given as goal

abbrev pub invariant-loop-place : goal.invariant-loop-place
invariant-loop-place l = record {
  put : HasPut (message_text l.world.scenario (run l.world.scenario l.world.journal)) (take l.end (messages_of l.world.scenario.sends)) l.place l.initial.page l.page;
  short : length l.page + 256 * l.place ≤ length l.initial.page + 256 * l.end;
  order : l.first ≤ l.place;
}

abbrev pub decreases-loop-place : goal.decreases-loop-place
decreases-loop-place l = l.place
