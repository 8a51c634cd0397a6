use Rattle.std.proofs.Common.{arith, refl}
use Rattle.cany_text.specs.ReportLines.{entry_line}
use Rattle.cany_log.proofs.PageFacts.{HasPut-start, HasPut-next, HasPut-all}
use Rattle.cany_log.proofs.entries.put_entries.Goals as goal

pub loop-left-init : goal.loop-left-init
loop-left-init c = record {
  put = HasPut-start entry_line c.args.entries.now _ _ refl;
  short = omega arith;
}

pub loop-left-preserved : goal.loop-left-preserved
loop-left-preserved c = record {
  put = HasPut-next entry_line c.args.entries.now _ _ _ _ _ c.loop-left.invariant.put (omega arith) c.index-entries-left.is c.put_entry.ensures.text;
  short = omega (arith, c.loop-left.invariant.short, c.put_entry.ensures.short);
}

pub returns : goal.returns
returns c = HasPut-all entry_line c.args.entries.now _ _ _ c.loop-left.invariant.put (omega arith)
