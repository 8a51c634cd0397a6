use Rattle.std.proofs.Common.{sym, ap, ◌∙◌, ltb-true, ltb-false}
use Rattle.cany_media.specs.Plan.{FaultParts}
use Rattle.cany_media.specs.Stretches.{next_at}
use Rattle.cany_media.proofs.StretchFacts.{free_at_end, free_before, shared_with_next}
use Rattle.cany_media.proofs.stretches.Stretches.is_free.Goals as goal

pub returns-in-Some-clause-free : goal.returns-in-Some-clause-free
returns-in-Some-clause-free c is =
    let before = ltb-true c.fault.inside.to c.other.inside.from is in
    free_before c.args.self.now c.args.fault.now c.in-Some.other c.next.ensures.order
    (ap (next_at c.args.self.now) (ap (λ (f : FaultParts). f.from) (sym c.fault.view_is)) ∙ sym c.next.ensures.next ∙ c.in-Some.is)
    (rw (ap (λ (f : FaultParts). f.to) (sym c.fault.view_is), ap (λ (f : FaultParts). f.from) (sym c.other.view_is)) before)

pub returns-in-Some-clause-taken : goal.returns-in-Some-clause-taken
returns-in-Some-clause-taken c is =
    let meets = ltb-false c.fault.inside.to c.other.inside.from is in
    shared_with_next c.args.self.now c.args.fault.now c.in-Some.other
    (rw (sym c.fault.view_is) c.fault.invariant.ordered) (rw (sym c.other.view_is) c.other.invariant.ordered)
    (ap (next_at c.args.self.now) (ap (λ (f : FaultParts). f.from) (sym c.fault.view_is)) ∙ sym c.next.ensures.next ∙ c.in-Some.is)
    (rw (ap (λ (f : FaultParts). f.to) (sym c.fault.view_is), ap (λ (f : FaultParts). f.from) (sym c.other.view_is)) meets)

pub returns-in-None-clause-free : goal.returns-in-None-clause-free
returns-in-None-clause-free c is =
    free_at_end c.args.self.now c.args.fault.now
    (ap (next_at c.args.self.now) (ap (λ (f : FaultParts). f.from) (sym c.fault.view_is)) ∙ sym c.next.ensures.next ∙ c.in-None.is)
