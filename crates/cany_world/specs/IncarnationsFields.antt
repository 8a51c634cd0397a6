-- The incarnations of a node as the program keeps them.
use Rattle.std.specs.Prelude.{◌≡◌, ◌+◌, ◌<◌, ◌≤◌, length}
use Rattle.cany_base.specs.Limits.{most_restarts_of_node}
use Rattle.cany_world.specs.declared.incarnations.Incarnations.TheInside.{Inside}
use Rattle.cany_world.specs.Incarnations.{IncarnationsParts}

abbrev pub incarnations_parts : Inside → IncarnationsParts
incarnations_parts v = record { nodes = v.nodes.items; spans = v.spans.items; present = v.present }

-- one of them is present, each has its span, and four bits can number them
pub record IsSound (v : Inside) : Type 0 where
  pub within : v.present < length v.nodes.items
  pub spans : length v.spans.items ≡ length v.nodes.items
  pub few : length v.nodes.items ≤ most_restarts_of_node + 1
