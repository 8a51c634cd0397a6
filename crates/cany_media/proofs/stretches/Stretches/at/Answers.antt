use Rattle.std.proofs.Common.{sym, ap, ◌∙◌}
use Rattle.cany_media.specs.Plan.{FaultParts}
use Rattle.cany_media.proofs.StretchFacts.{at_begun, at_none, at_to_come}
use Rattle.cany_media.proofs.stretches.Stretches.at.Goals as goal

pub returns-in_err-fault : goal.returns-in_err-fault
returns-in_err-fault c =
    c.from_residual.ensures
    ∙ at_none c.args.slot c.args.self.now c.next.ensures.order (sym c.next.ensures.next ∙ c.in_err-fault.was)

pub returns-then-fault-slot : goal.returns-then-fault-slot
returns-then-fault-slot c =
    at_begun c.args.slot c.args.self.now c.in_ok-fault.fault c.next.ensures.order (sym c.next.ensures.next ∙ c.in_ok-fault.was)
    (rw (ap (λ (f : FaultParts). f.from) c.fault.view_is) at c.if-fault-slot.true)

pub returns-else-fault-slot : goal.returns-else-fault-slot
returns-else-fault-slot c =
    at_to_come c.args.slot c.args.self.now c.in_ok-fault.fault c.next.ensures.order (sym c.next.ensures.next ∙ c.in_ok-fault.was)
    (rw (ap (λ (f : FaultParts). f.from) c.fault.view_is) at c.if-fault-slot.false)
