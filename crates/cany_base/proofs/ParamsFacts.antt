-- What the ranges of every format have in common.
use Rattle.std.proofs.Common.{◌≤◌, arith}
use Rattle.cany_base.specs.declared.format.Format.{Format}
use Rattle.cany_base.specs.declared.format.Format.TheVariants.{One, Two}
use Rattle.cany_base.specs.Layout.{layout}
use Rattle.cany_base.specs.Limits.{most_nodes, most_slots, greatest_slots}
use Rattle.cany_base.specs.Params.{Parameters, IsInRange}

at_most_nodes : (format : Format) → (layout format).nodes ≤ most_nodes
at_most_nodes One = omega arith
at_most_nodes Two = omega arith

at_most_slots : (format : Format) → greatest_slots format ≤ most_slots
at_most_slots One = omega arith
at_most_slots Two = omega arith

pub few_nodes : (p : Parameters) → IsInRange p → p.nodes ≤ most_nodes
few_nodes p h = omega (arith, h.nodes.1, at_most_nodes p.format)

pub few_slots : (p : Parameters) → IsInRange p → p.slots ≤ most_slots
few_slots p h = omega (arith, h.slots.1, at_most_slots p.format)
