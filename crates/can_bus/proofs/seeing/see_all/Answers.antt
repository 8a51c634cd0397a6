use Rattle.can_bus.proofs.NoteFacts.{run_on}
use Rattle.can_bus.proofs.seeing.see_all.Goals as goal

pub returns-clause-running : goal.returns-clause-running
returns-clause-running c =
    run_on c.args.note.now c.args.controllers.now c.see_each-stopped.new.controllers c.args.before c.see_each-stopped.result c.minus.result
    c.see_each-stopped.ensures.controllers c.requires.few c.requires.before c.see_each-stopped.ensures.stopped c.minus.ensures.has
