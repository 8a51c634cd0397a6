-- The incarnations of a node stay sound where as many nodes and as many spans are kept as before.
use Rattle.std.proofs.Common.{◌≡◌, ◌<◌, ◌++◌, List, length, take, ap, sym, ◌∙◌, arith}
use Rattle.std.specs.Prelude.{slice_set}
use Rattle.std.proofs.lemmas.List.{length-set}
use Rattle.cany_model.specs.declared.span.Span.{Span}
use Rattle.cany_node.specs.Node.{NodeParts}
use Rattle.cany_world.specs.declared.incarnations.Incarnations.TheInside.{Inside}
use Rattle.cany_world.specs.IncarnationsFields.{IsSound}
use Rattle.cany_world.proofs.PlaceFacts.{one_written}

pub still_sound : (v v' : Inside) → IsSound v → v'.present < length v.nodes.items → length v'.nodes.items ≡ length v.nodes.items
    → length v'.spans.items ≡ length v.spans.items → IsSound v'
still_sound v v' is within nodes spans = record {
  within = omega (arith, within, nodes);
  spans = spans ∙ is.spans ∙ sym nodes;
  few = omega (arith, is.few, nodes);
}

-- the same where the present one was written through a slice
pub sound_where_written : (v v' : Inside) → IsSound v → (ys rest : List NodeParts) (after : NodeParts) → ys ≡ v.nodes.items → length ys ≡ v.nodes.len
    → v'.nodes.items ≡ take v.nodes.len (slice_set ys v.present after ++ rest) → v'.spans.items ≡ v.spans.items → v'.present ≡ v.present → IsSound v'
sound_where_written v v' is ys rest after same len nodes spans present =
    still_sound v v' is (omega (arith, is.within, present))
    (ap (λ (l : List NodeParts). length l) (nodes ∙ one_written v.nodes.items ys rest v.nodes.len v.present after same len) ∙ length-set v.nodes.items v.present after)
    (ap (λ (l : List Span). length l) spans)
