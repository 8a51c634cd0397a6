use Rattle.std.proofs.Common.{arith}
use Rattle.std.proofs.Math.Nat.{div-le_self}
use Rattle.cany_base.proofs.ParamsFacts.{few_slots}
use Rattle.cany_node.proofs.rooms.cycles.Goals as goal

pub returns-clause-few : goal.returns-clause-few
returns-clause-few c = omega (arith, div-le_self c.params.inside.slots c.params.inside.cycle, few_slots _ c.params.invariant)
