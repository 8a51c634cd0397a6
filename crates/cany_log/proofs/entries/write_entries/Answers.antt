use Rattle.std.proofs.Common.{length, sym, ◌∙◌, ap, arith}
use Rattle.std.specs.List.{flat_map}
use Rattle.std.specs.Slice.Iter.{chunks_rest, chunks_size}
use Rattle.std.proofs.lemmas.Result.{err_from_is_err_and}
use Rattle.cany_text.specs.ReportLines.{entry_line}
use Rattle.cany_log.proofs.PageFacts.{next_chunk, no_items}
use Rattle.cany_log.proofs.UpToFacts.{IsPagedUpTo-start, IsPagedUpTo-next, IsPagedUpTo-cut, IsPagedUpTo-all}
use Rattle.cany_log.proofs.entries.write_entries.Goals as goal

pub loop-entries-init : goal.loop-entries-init
loop-entries-init g c =
    let rest = ap chunks_rest c.into_iter-entries-iterator.ensures.into_iter_gives ∙ c.chunks-entries-items.ensures.rest in
    record {
      lines = IsPagedUpTo-start _ _ _ _ _ (ap (flat_map entry_line) (sym rest)) c.requires;
      size = ap chunks_size c.into_iter-entries-iterator.ensures.into_iter_gives ∙ c.chunks-entries-items.ensures.size;
    }

pub put_entries-requires : goal.put_entries-requires
put_entries-requires g c =
    omega (arith, c.in-Some.ensures.steps.1.1, c.loop-entries.invariant.size, ap length c.loop-entries.invariant.lines.empty)

pub loop-entries-preserved : goal.loop-entries-preserved
loop-entries-preserved g c = record {
  lines = IsPagedUpTo-next _ _ _ _ _ _ _ _ _ _ _ _ _ c.loop-entries.invariant.lines (next_chunk entry_line _ _ _ c.in-Some.ensures.steps.1.0) c.put_entries.ensures
      c.in_ok-write_page.ensures.written c.in_ok-write_page.ensures.empty;
  size = c.in-Some.ensures.steps.0 ∙ c.loop-entries.invariant.size;
}

pub returns-in_err-write_page : goal.returns-in_err-write_page
returns-in_err-write_page g c =
    let p = err_from_is_err_and c.from_residual.result c.from_residual.ensures.1 in
    record {
      written = IsPagedUpTo-cut _ _ _ _ _ _ _ _ _ _ _ _ _ _ c.loop-entries.invariant.lines (next_chunk entry_line _ _ _ c.in-Some.ensures.steps.1.0) c.put_entries.ensures
          p.1 c.in_err-write_page.ensures.written;
      empty = c.in_err-write_page.ensures.empty;
    }

pub returns : goal.returns
returns g c = record {
  written = IsPagedUpTo-all _ _ _ _ _ _ _ c.loop-entries.invariant.lines (no_items entry_line _ c.in-None.ensures.steps.1.0);
  empty = c.loop-entries.invariant.lines.empty;
}
