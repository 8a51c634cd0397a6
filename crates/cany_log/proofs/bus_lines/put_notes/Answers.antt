use Rattle.std.proofs.Common.{arith, refl}
use Rattle.cany_model.specs.Runs.Run.{run}
use Rattle.cany_log.specs.ReportItems.{shown_line}
use Rattle.cany_log.proofs.PageFacts.{HasPut-start, HasPut-next, HasPut-all}
use Rattle.cany_log.proofs.bus_lines.put_notes.Goals as goal

pub loop-left-init : goal.loop-left-init
loop-left-init c = record {
  put = HasPut-start (shown_line (run c.args.world.now.scenario c.args.world.now.journal)) c.args.notes.now _ _ refl;
  short = omega arith;
}

pub loop-left-preserved : goal.loop-left-preserved
loop-left-preserved c = record {
  put = HasPut-next (shown_line (run c.args.world.now.scenario c.args.world.now.journal)) c.args.notes.now _ _ _ _ _ c.loop-left.invariant.put (omega arith)
      c.index-notes-left.is c.put_note.ensures.text;
  short = omega (arith, c.loop-left.invariant.short, c.put_note.ensures.short);
}

pub returns : goal.returns
returns c = HasPut-all (shown_line (run c.args.world.now.scenario c.args.world.now.journal)) c.args.notes.now _ _ _ c.loop-left.invariant.put (omega arith)
