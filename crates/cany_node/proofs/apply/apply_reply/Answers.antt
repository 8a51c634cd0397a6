use Rattle.std.proofs.Common.{[], ◌∷◌, subst, sym}
use Rattle.cany_base.specs.declared.actions.Action.TheVariants.{Ask}
use Rattle.cany_node.specs.Apply.{AreApplied, CanApply}
use Rattle.cany_node.proofs.AppliedParts.{none_applied}
use Rattle.cany_node.proofs.apply.apply_reply.Goals as goal

pub returns-in-Nothing : goal.returns-in-Nothing
returns-in-Nothing c = rw c.in-Nothing.is (none_applied c.args.inc c.args.ctl.now c.args.log.now)

pub apply_one-requires : goal.apply_one-requires
apply_one-requires c = rw c.in-Asks.is at c.requires

pub returns-in-Asks : goal.returns-in-Asks
returns-in-Asks c = rw c.in-Asks.is c.apply_one.ensures

pub apply_one-requires-in-Confirms : goal.apply_one-requires-in-Confirms
apply_one-requires-in-Confirms c =
    subst (λ f. CanApply c.args.inc (Ask f ∷ []) c.args.ctl.now c.args.log.now) (sym c.confirmation_frame.ensures) (rw c.in-Confirms.is at c.requires)

pub returns-in-Confirms : goal.returns-in-Confirms
returns-in-Confirms c =
    rw c.in-Confirms.is
    (subst (λ f. AreApplied c.args.inc (Ask f ∷ []) c.args.ctl.now c.apply_one-in-Confirms.new.ctl c.args.log.now c.apply_one-in-Confirms.new.log) c.confirmation_frame.ensures c.apply_one-in-Confirms.ensures)

pub apply_one-requires-in-Withdraws : goal.apply_one-requires-in-Withdraws
apply_one-requires-in-Withdraws c = rw c.in-Withdraws.is at c.requires

pub returns-in-Withdraws : goal.returns-in-Withdraws
returns-in-Withdraws c = rw c.in-Withdraws.is c.apply_one-in-Withdraws.ensures
