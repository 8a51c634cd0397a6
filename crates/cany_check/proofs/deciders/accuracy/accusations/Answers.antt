use Rattle.std.proofs.Common.{sym, subst}
use Rattle.cany_base.specs.Limits.{most_nodes}
use Rattle.cany_check.specs.Deciding.Accuracy.{is_failure_of}
use Rattle.cany_check.specs.Deciding.Holders.{AreHolders, since_ever}
use Rattle.cany_check.proofs.deciders.accuracy.accusations.Goals as goal

pub accusations_by-requires : goal.accusations_by-requires
accusations_by-requires c =
    subst (AreHolders most_nodes is_failure_of since_ever c.args.account.now.logs) (sym c.as_slice.ensures.value)
    (subst (λ l. AreHolders most_nodes is_failure_of since_ever l c.in_ok-accusers.accusers.items) c.logs.ensures.logs c.in_ok-accusers.ensures)
