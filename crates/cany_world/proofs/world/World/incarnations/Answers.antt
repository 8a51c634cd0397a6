use Rattle.std.proofs.Common.{◌∙◌}
use Rattle.cany_model.specs.Bus.State.{node_at}
use Rattle.cany_world.specs.Kept.{IsKeptAt}
use Rattle.cany_world.specs.World.{state_of}
use Rattle.cany_world.specs.WorldFields.{world_parts}
use Rattle.cany_world.proofs.PlaceFacts.{read_of_node}
use Rattle.cany_world.proofs.world.World.incarnations.Goals as goal

pub returns : goal.returns
returns c =
    read_of_node (λ w i x. IsKeptAt w.scenario (state_of w).trace i (node_at (state_of w).nodes i) x) (world_parts c.self.inside) _ c.self.view_is _ _
    c.as_slice-nodes.ensures.value c.self.invariant.stands.nodes c.args.node _ (c.from.ensures ∙ c.get.ensures.value) c.requires _ c.index-nodes-from.is
