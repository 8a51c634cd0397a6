-- There is no first break exactly where the run is within the hypothesis.
use Rattle.std.proofs.Common.{ap, sym, ◌∙◌}
use Rattle.can_fault.specs.Tally.{TallyParts}
use Rattle.cany_model.proofs.Promises.BreakFacts.{first_break_exact}
use Rattle.can_fault.proofs.tally.Tally.first_break.Goals as goal

pub returns-clause-within : goal.returns-clause-within
returns-clause-within c = λ trace run.
    let kept = ap (λ (t : TallyParts). t.first) c.self.view_is ∙ run.first in
    let exact = first_break_exact c.args.self.now.params trace in
    (λ none. exact.0 (sym kept ∙ none), λ within. kept ∙ exact.1 within)
