use Rattle.std.proofs.Common.{sym, subst, ◌∙◌, Some}
use Rattle.std.specs.Prelude.{Option}
use Rattle.cany_base.specs.Frame.{FrameParts}
use Rattle.can_arbiter.specs.Outcome.{IsEntered}
use Rattle.can_bus.proofs.contest.compete.Goals as goal

pub returns-clause-outcome : goal.returns-clause-outcome
returns-clause-outcome c before after was entered =
    c.enter.ensures.outcome before after was
    (subst (λ k. IsEntered k (Some c.in-Some.frame) before after) (sym c.of_index.ensures)
    (subst (λ (o : Option FrameParts). IsEntered c.args.i o before after) (sym c.offer_of.ensures.offer ∙ c.in-Some.is) entered))
