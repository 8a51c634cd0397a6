use Rattle.std.proofs.Common.{refl, replicate}
use Rattle.std.proofs.lemmas.List.{get_or-replicate}
use Rattle.cany_base.specs.Limits.{most_nodes}
use Rattle.cany_base.proofs.SendCountsFacts.{none_by}
use Rattle.cany_base.proofs.send_counts.SendCounts.none.Goals as goal

pub returns : goal.returns
returns c = record { nodes = refl; by = none_by (replicate most_nodes 0); of_node = λ node small. get_or-replicate most_nodes node 0 0 small }
