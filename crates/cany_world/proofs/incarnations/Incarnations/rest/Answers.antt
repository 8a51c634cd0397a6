use Rattle.std.proofs.Common.{◌≡◌, ◌+◌, refl, ap, sym, subst, ◌∙◌}
use Rattle.std.specs.Prelude.{slice_get, Some}
use Rattle.cany_node.specs.Node.{NodeParts}
use Rattle.cany_world.specs.Incarnations.{IncarnationsParts}
use Rattle.cany_world.specs.IncarnationsFields.{incarnations_parts}
use Rattle.cany_world.proofs.Idle.PassFacts.{rested_by}
use Rattle.cany_world.proofs.PlaceFacts.{one_written, read_at}
use Rattle.cany_world.proofs.SoundFacts.{sound_where_written}
use Rattle.cany_world.proofs.incarnations.Incarnations.rest.Goals as goal

pub returns : goal.returns
returns c it at =
    let here : slice_get c.self.inside.nodes.items c.self.inside.present ≡ Some it =
    subst (λ (x : IncarnationsParts). slice_get x.nodes x.present ≡ Some it) (sym c.self.view_is) at in
    rested_by c.args.slots it c.rest.new.self c.args.self.now (incarnations_parts c.self.inside) c.self.view_is
    (one_written c.self.inside.nodes.items c.as_mut_slice-nodes.result.now _ c.self.inside.nodes.len c.self.inside.present c.rest.new.self
    c.as_mut_slice-nodes.ensures.value c.as_mut_slice-nodes.ensures.len)
    refl refl
    (c.rest.ensures.state
    ∙ ap (λ (x : NodeParts). record x { read = x.read + c.args.slots })
    (read_at c.self.inside.nodes.items c.as_mut_slice-nodes.result.now c.self.inside.present it c.index-nodes-self.result c.as_mut_slice-nodes.ensures.value here))

pub invariant_of-self : goal.invariant_of-self
invariant_of-self c =
    sound_where_written c.self.inside _ c.self.invariant c.as_mut_slice-nodes.result.now _ c.rest.new.self c.as_mut_slice-nodes.ensures.value
    c.as_mut_slice-nodes.ensures.len refl refl refl
