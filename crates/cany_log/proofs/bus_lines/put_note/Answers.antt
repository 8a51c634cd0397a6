use Rattle.std.proofs.Common.{◌++◌, sym, ◌∙◌, ap}
use Rattle.cany_model.specs.Runs.Run.{run}
use Rattle.cany_log.proofs.ReportFacts.{shown_line-shown, shown_line-hidden}
use Rattle.cany_log.proofs.bus_lines.put_note.Goals as goal

pub returns-then-is_shown-clause-text : goal.returns-then-is_shown-clause-text
returns-then-is_shown-clause-text c =
    let line = shown_line-shown (run c.args.world.now.scenario c.args.world.now.journal) _ _ _ c.restarted-again.ensures c.is_shown.ensures c.if-is_shown.true in
    c.put_bus_line.ensures.text ∙ ap (λ r. r ++ c.args.page.now) (sym line)

pub returns-else-is_shown-clause-text : goal.returns-else-is_shown-clause-text
returns-else-is_shown-clause-text c =
    let line = shown_line-hidden (run c.args.world.now.scenario c.args.world.now.journal) _ _ _ c.restarted-again.ensures c.is_shown.ensures c.if-is_shown.false in
    ap (λ r. r ++ c.args.page.now) (sym line)
