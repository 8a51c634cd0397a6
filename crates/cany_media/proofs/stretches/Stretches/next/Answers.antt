use Rattle.std.proofs.Common.{◌∙◌}
use Rattle.cany_media.proofs.StretchFacts.{next_none, next_read}
use Rattle.cany_media.proofs.stretches.Stretches.next.Goals as goal

pub returns-then-place-faults-clause-next : goal.returns-then-place-faults-clause-next
returns-then-place-faults-clause-next c =
    next_read c.args.slot c.place-place.result c.as_slice-faults.result.now c.args.self.now c.index-faults-place.result
    (c.as_slice-faults.ensures.value ∙ c.self.view_is) c.place-place.ensures c.if-place-faults.true c.index-faults-place.is

pub returns-else-place-faults-clause-next : goal.returns-else-place-faults-clause-next
returns-else-place-faults-clause-next c =
    next_none c.args.slot c.place-place.result c.as_slice-faults.result.now c.args.self.now
    (c.as_slice-faults.ensures.value ∙ c.self.view_is) c.place-place.ensures c.if-place-faults.false
