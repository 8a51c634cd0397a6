use Rattle.std.proofs.Common.{◌+◌, ◌*◌, ◌≤◌, length}
use Rattle.cany_model.specs.Runs.Run.{run}
use Rattle.cany_log.specs.ReportItems.{shown_line}
use Rattle.cany_log.proofs.PageFacts.{HasPut}
use Rattle.cany_log.proofs.bus_lines.put_notes.Given as goal

abbrev pub invariant-loop-left : goal.invariant-loop-left
invariant-loop-left l = record {
  put : HasPut (shown_line (run l.world.scenario l.world.journal)) l.notes l.left l.initial.page l.page;
  short : length l.page + 1024 * l.left ≤ length l.initial.page + 1024 * length l.notes;
}

abbrev pub decreases-loop-left : goal.decreases-loop-left
decreases-loop-left l = l.left
