use Rattle.std.proofs.Common.{◌≡◌, length, ap, sym, ◌∙◌, arith}
use Rattle.std.specs.Prelude.{replicate}
use Rattle.std.specs.List.{concat, flat_map, range_with_len}
use Rattle.cany_text.specs.ReportLines.{journal_line}
use Rattle.cany_log.specs.ReportItems.{journal_text}
use Rattle.cany_log.proofs.PageFacts.{alone}
use Rattle.cany_log.proofs.RepeatFacts.{first_page, same_pages}
use Rattle.cany_log.proofs.heading.write_same_pages.Goals.{then-pages-gt0, else-pages-gt0}
use Rattle.cany_log.proofs.heading.write_same_pages.Goals as goal

pub put_journal-requires : goal.put_journal-requires
put_journal-requires g c =
    let some = first_page c.args.lines c.args.pages c.if-pages-gt0.true in
    record {
      order = (omega arith, omega (arith, c.requires.whole, some));
      room = omega (arith, c.requires.few, ap length c.requires.page);
    }

pub returns-clause-written : goal.returns-clause-written
returns-clause-written g c =
    let line = journal_text c.args.journal.now in
    let text = same_pages journal_line c.args.journal.now c.args.lines c.requires.again c.args.pages c.requires.whole in
    elim c.if-pages-gt0.branch [
      | then-pages-gt0 w ↦
          let page = alone (flat_map line (range_with_len 0 c.args.lines)) c.args.page.now c.if-pages-gt0.page (w.page-is ∙ w.put_journal.ensures) c.requires.page in
          rw (text, sym page) c.write_page_times.ensures.written
      | else-pages-gt0 w ↦
          let none : c.args.pages ≡ 0 = omega (arith, w.if-pages-gt0.false) in
          let nothing : concat (replicate c.args.pages c.if-pages-gt0.page) ≡ concat (replicate c.args.pages (flat_map line (range_with_len 0 c.args.lines))) =
          ap (λ n. concat (replicate n c.if-pages-gt0.page)) none ∙ ap (λ n. concat (replicate n (flat_map line (range_with_len 0 c.args.lines)))) (sym none) in
          rw (text, sym nothing) c.write_page_times.ensures.written
    ]
