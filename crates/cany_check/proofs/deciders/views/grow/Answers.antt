use Rattle.std.proofs.Common.{◌∙◌, None, ap, get_or}
use Rattle.cany_check.proofs.Deciding.ViewRowFacts.{row_pushed}
use Rattle.cany_check.proofs.deciders.views.grow.Goals as goal

pub loop-rows-preserved : goal.loop-rows-preserved
loop-rows-preserved c k = ap (λ l. get_or l k None) c.in_ok-push.ensures.items ∙ row_pushed c.loop-rows.rows.items k ∙ c.loop-rows.invariant k
