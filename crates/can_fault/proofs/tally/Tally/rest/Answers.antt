use Rattle.std.proofs.Common.{sym, subst}
use Rattle.can_fault.specs.Tally.{IsTallyOf}
use Rattle.can_fault.proofs.TallyFacts.{rested_run}
use Rattle.can_fault.proofs.tally.Tally.rest.Goals as goal

pub returns-clause-run : goal.returns-clause-run
returns-clause-run c = λ idle trace all numbered slots run.
    rested_run c.self.inside idle trace c.args.last all numbered slots (subst (IsTallyOf trace) (sym c.self.view_is) run)
