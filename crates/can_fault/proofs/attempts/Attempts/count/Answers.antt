-- One more attempt.
use Rattle.std.proofs.Common.{sym, subst}
use Rattle.can_fault.specs.Attempts.{AreCountsOf}
use Rattle.can_fault.proofs.AttemptFacts.{raised_counts}
use Rattle.can_fault.proofs.attempts.Attempts.count.Goals as goal

pub returns-clause-counted : goal.returns-clause-counted
returns-clause-counted c = λ rules trace note counts at.
    raised_counts rules trace note c.args.frame.now c.self.inside.counts c.raise.new.counts (subst (AreCountsOf rules trace) (sym c.self.view_is) counts) at
    (λ q. rw c.of.ensures at (c.raise.ensures.raised q))
