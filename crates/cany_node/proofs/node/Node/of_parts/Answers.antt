use Rattle.std.proofs.Common.{refl}
use Rattle.cany_node.proofs.Idle.IdleFacts.{not_idle}
use Rattle.cany_node.proofs.node.Node.of_parts.Goals as goal

pub invariant_of-result : goal.invariant_of-result
invariant_of-result c = record { few = c.requires; idle_until = not_idle _ _ refl }
