use Rattle.std.proofs.Common.{◌*◌, ◌≤◌, length, ap, ◌∙◌, arith}
use Rattle.std.specs.List.{flat_map, range_with_len}
use Rattle.std.proofs.lemmas.List.FromFn.{length-range_with_len}
use Rattle.std.proofs.lemmas.Result.{err_from_is_err_and}
use Rattle.cany_log.specs.ReportItems.{journal_text, line_count}
use Rattle.cany_log.proofs.PageFacts.{past_items}
use Rattle.cany_log.proofs.ReportFacts.{journal_lines_text, next_lines}
use Rattle.cany_log.proofs.UpToFacts.{IsPagedUpTo-next, IsPagedUpTo-cut, IsPagedUpTo-all}
use Rattle.cany_log.proofs.WrittenFacts.{IsWritten-short}
use Rattle.cany_log.proofs.heading.write_journal.Goals as goal

pub loop-first-init : goal.loop-first-init
loop-first-init g c =
    let line = journal_text c.args.journal.now in
    let count = line_count c.args.journal.now in
    let within : c.same_lines-same.result * c.whole_pages-pages.result ≤ count = omega (arith, c.whole_pages-pages.ensures) in
    record {
      lines = record {
        written = record {
          done = flat_map line (range_with_len 0 (c.same_lines-same.result * c.whole_pages-pages.result));
          parts = journal_lines_text c.args.journal.now ∙ next_lines line 0 (c.same_lines-same.result * c.whole_pages-pages.result) count (omega arith) within;
          written = c.in_ok-write_same_pages.ensures.written;
        };
        empty = c.in_ok-write_same_pages.ensures.empty;
      };
      within = within;
    }

pub write_same_pages-requires : goal.write_same_pages-requires
write_same_pages-requires g c = record {
  page = c.requires.page;
  few = c.same_lines-same.ensures.few;
  whole = c.whole_pages-pages.ensures;
  again = c.same_lines-same.ensures.again c.args.journal.now c.requires.period;
}

pub returns-in_err-write_same_pages : goal.returns-in_err-write_same_pages
returns-in_err-write_same_pages g c =
    let line = journal_text c.args.journal.now in
    let count = line_count c.args.journal.now in
    let same = c.same_lines-same.result * c.whole_pages-pages.result in
    let p = err_from_is_err_and c.from_residual.result c.from_residual.ensures.1 in
    let parts = journal_lines_text c.args.journal.now ∙ next_lines line 0 same count (omega arith) (omega (arith, c.whole_pages-pages.ensures)) in
    record {
      written = rw (p.1, parts) (IsWritten-short _ _ _ _ _ _ _ c.in_err-write_same_pages.ensures.written);
      empty = c.in_err-write_same_pages.ensures.empty;
    }

pub put_journal-requires : goal.put_journal-requires
put_journal-requires g c = record {
  order = (omega (arith, c.min-end.ensures), omega (arith, c.min-end.ensures));
  room = omega (arith, c.min-end.ensures, ap length c.loop-first.invariant.lines.empty);
}

pub loop-first-preserved : goal.loop-first-preserved
loop-first-preserved g c =
    let parts = next_lines (journal_text c.args.journal.now) c.loop-first.first c.min-end.result (line_count c.args.journal.now) (omega (arith, c.min-end.ensures)) (omega (arith, c.min-end.ensures)) in
    record {
      lines = IsPagedUpTo-next _ _ _ _ _ _ _ _ _ _ _ _ _ c.loop-first.invariant.lines parts c.put_journal.ensures c.in_ok-write_page.ensures.written c.in_ok-write_page.ensures.empty;
      within = omega (arith, c.min-end.ensures);
    }

pub returns-in_err-write_page : goal.returns-in_err-write_page
returns-in_err-write_page g c =
    let p = err_from_is_err_and c.from_residual-in_err-write_page.result c.from_residual-in_err-write_page.ensures.1 in
    let parts = next_lines (journal_text c.args.journal.now) c.loop-first.first c.min-end.result (line_count c.args.journal.now) (omega (arith, c.min-end.ensures)) (omega (arith, c.min-end.ensures)) in
    record {
      written = IsPagedUpTo-cut _ _ _ _ _ _ _ _ _ _ _ _ _ _ c.loop-first.invariant.lines parts c.put_journal.ensures p.1 c.in_err-write_page.ensures.written;
      empty = c.in_err-write_page.ensures.empty;
    }

pub returns : goal.returns
returns g c =
    let lines = line_count c.args.journal.now in
    record {
      written = IsPagedUpTo-all _ _ _ _ _ _ _ c.loop-first.invariant.lines
          (past_items (journal_text c.args.journal.now) (range_with_len 0 lines) c.loop-first.first (omega (arith, length-range_with_len 0 lines)));
      empty = c.loop-first.invariant.lines.empty;
    }
