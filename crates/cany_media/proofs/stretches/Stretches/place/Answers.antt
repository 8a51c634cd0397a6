use Rattle.std.proofs.Common.{rules, nat_lt, ap, ◌∙◌}
use Rattle.std.proofs.lemmas.List.Sorted.{IsPartitionPoint-from_clause, IsPartitionedBy-ltb}
use Rattle.cany_media.specs.Plan.{FaultParts}
use Rattle.cany_media.specs.Stretches.{AreInOrder, place_at}
use Rattle.cany_media.proofs.StretchFacts.{place_found, rising}
use Rattle.cany_media.proofs.stretches.Stretches.place.Goals as goal

pub returns : goal.returns
returns c =
    let xs = c.deref.result.now in
    let ordered : AreInOrder xs = rw c.deref.ensures.value c.self.invariant in
    place_found c.args.slot xs c.partition_point.result c.partition_point.ensures.bound
    (IsPartitionPoint-from_clause (λ (f : FaultParts). nat_lt f.to c.args.slot) xs c.partition_point.result c.partition_point.ensures.partitioned
    (IsPartitionedBy-ltb (λ (f : FaultParts). f.to) xs c.args.slot (rising xs ordered)) (λ a r q k. search rules))
    ∙ ap (λ (ys : _). place_at ys c.args.slot) (c.deref.ensures.value ∙ c.self.view_is)
