use Rattle.std.proofs.Common.{length, sym, ◌∙◌, ap, arith}
use Rattle.std.specs.List.{flat_map}
use Rattle.std.specs.Slice.Iter.{chunks_rest, chunks_size}
use Rattle.std.proofs.lemmas.Result.{err_from_is_err_and}
use Rattle.cany_model.specs.Runs.Run.{run}
use Rattle.cany_log.specs.ReportItems.{shown_line}
use Rattle.cany_log.proofs.PageFacts.{next_chunk, no_items}
use Rattle.cany_log.proofs.ReportFacts.{bus_lines_text}
use Rattle.cany_log.proofs.UpToFacts.{IsPagedUpTo-start, IsPagedUpTo-next, IsPagedUpTo-cut, IsPagedUpTo-all}
use Rattle.cany_log.proofs.bus_lines.write_bus.Goals as goal

pub loop-notes-init : goal.loop-notes-init
loop-notes-init g c =
    let s = run c.args.world.now.scenario c.args.world.now.journal in
    let rest = ap chunks_rest c.into_iter-notes-iterator.ensures.into_iter_gives ∙ c.chunks-notes-items.ensures.rest in
    record {
      lines = IsPagedUpTo-start _ _ _ _ _ (bus_lines_text s _ c.trace.ensures.oldest_first ∙ ap (flat_map (shown_line s)) (sym rest)) c.requires;
      size = ap chunks_size c.into_iter-notes-iterator.ensures.into_iter_gives ∙ c.chunks-notes-items.ensures.size;
    }

pub put_notes-requires : goal.put_notes-requires
put_notes-requires g c =
    omega (arith, c.in-Some.ensures.steps.1.1, c.loop-notes.invariant.size, ap length c.loop-notes.invariant.lines.empty)

pub loop-notes-preserved : goal.loop-notes-preserved
loop-notes-preserved g c =
    let parts = next_chunk (shown_line (run c.args.world.now.scenario c.args.world.now.journal)) _ _ _ c.in-Some.ensures.steps.1.0 in
    record {
      lines = IsPagedUpTo-next _ _ _ _ _ _ _ _ _ _ _ _ _ c.loop-notes.invariant.lines parts c.put_notes.ensures c.in_ok-write_page.ensures.written c.in_ok-write_page.ensures.empty;
      size = c.in-Some.ensures.steps.0 ∙ c.loop-notes.invariant.size;
    }

pub returns-in_err-write_page : goal.returns-in_err-write_page
returns-in_err-write_page g c =
    let p = err_from_is_err_and c.from_residual.result c.from_residual.ensures.1 in
    let parts = next_chunk (shown_line (run c.args.world.now.scenario c.args.world.now.journal)) _ _ _ c.in-Some.ensures.steps.1.0 in
    record {
      written = IsPagedUpTo-cut _ _ _ _ _ _ _ _ _ _ _ _ _ _ c.loop-notes.invariant.lines parts c.put_notes.ensures p.1 c.in_err-write_page.ensures.written;
      empty = c.in_err-write_page.ensures.empty;
    }

pub returns : goal.returns
returns g c = record {
  written = IsPagedUpTo-all _ _ _ _ _ _ _ c.loop-notes.invariant.lines
      (no_items (shown_line (run c.args.world.now.scenario c.args.world.now.journal)) _ c.in-None.ensures.steps.1.0);
  empty = c.loop-notes.invariant.lines.empty;
}
