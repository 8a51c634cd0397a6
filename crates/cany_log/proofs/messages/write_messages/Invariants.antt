use Rattle.std.proofs.Common.{◌-◌, ◌≤◌, drop}
use Rattle.std.specs.List.{concat, flat_map}
use Rattle.cany_model.specs.Rules.Messages.{messages_of}
use Rattle.cany_model.specs.Runs.Run.{run}
use Rattle.cany_text.specs.Report.{message_lines}
use Rattle.cany_log.specs.ReportItems.{message_text}
use Rattle.cany_log.proofs.UpToFacts.{IsPagedUpTo}
use Rattle.cany_log.proofs.messages.write_messages.Given as goal

abbrev pub invariant-loop-first : goal.invariant-loop-first
invariant-loop-first g l = record {
  lines : IsPagedUpTo (concat (message_lines l.world.scenario (run l.world.scenario l.world.journal)))
      (flat_map (message_text l.world.scenario (run l.world.scenario l.world.journal)) (drop l.first (messages_of l.world.scenario.sends)))
      l.page (g.K.Sink.taken l.initial.sink) (g.K.Sink.taken l.sink) (g.K.Sink.faults l.initial.sink) (g.K.Sink.faults l.sink);
  within : l.first ≤ l.count;
}

abbrev pub decreases-loop-first : goal.decreases-loop-first
decreases-loop-first g l = l.count - l.first
