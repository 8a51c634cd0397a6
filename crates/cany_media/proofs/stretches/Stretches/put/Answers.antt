use Rattle.std.proofs.Common.{arith, refl, sym, ap, ◌≡◌, ◌≤◌, length, ◌∙◌}
use Rattle.cany_media.specs.Plan.{FaultParts}
use Rattle.cany_media.specs.Stretches.{IsFree, place_at}
use Rattle.cany_media.proofs.StretchFacts.{found_more, in_order_more, place_within}
use Rattle.cany_media.proofs.stretches.Stretches.put.Goals as goal

pub insert-requires : goal.insert-requires
insert-requires c =
    let place : c.place-place.result ≤ length c.self.inside.faults.items =
    rw (c.place-place.ensures, sym c.self.view_is) (place_within c.fault.inside.from c.self.inside.faults.items) in
    omega (arith, c.self.inside.faults.ok)

pub invariant_of-self-2 : goal.invariant_of-self-2
invariant_of-self-2 c =
    let f = c.args.fault.now in
    let xs = c.self.inside.faults.items in
    let from = ap (λ (g : FaultParts). g.from) c.fault.view_is in
    let place : c.place-place.result ≡ place_at xs f.from = c.place-place.ensures ∙ rw (sym c.self.view_is, from) refl in
    let free : IsFree xs f = rw c.self.view_is c.requires in
    rw (c.in_ok-insert.ensures.items, place, c.fault.view_is) (in_order_more f xs (rw (sym c.fault.view_is) c.fault.invariant.ordered) c.self.invariant free)

pub returns : goal.returns
returns c slot =
    let f = c.args.fault.now in
    let xs = c.self.inside.faults.items in
    let from = ap (λ (g : FaultParts). g.from) c.fault.view_is in
    let place : c.place-place.result ≡ place_at xs f.from = c.place-place.ensures ∙ rw (sym c.self.view_is, from) refl in
    let free : IsFree xs f = rw c.self.view_is c.requires in
    rw (c.in_ok-insert.ensures.items, place, c.fault.view_is, sym c.self.view_is) (found_more f xs free slot)
