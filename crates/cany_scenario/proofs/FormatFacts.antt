-- What the formats have in common.
use Rattle.std.proofs.Common.{◌≤◌, arith}
use Rattle.cany_base.specs.declared.format.Format.{Format}
use Rattle.cany_base.specs.declared.format.Format.TheVariants.{One, Two}
use Rattle.cany_base.specs.Layout.{layout}
use Rattle.cany_base.specs.Limits.{most_nodes, most_slots, greatest_number, greatest_attempt}

pub at_most_nodes : (format : Format) → (layout format).nodes ≤ most_nodes
at_most_nodes One = omega arith
at_most_nodes Two = omega arith

pub at_most_number : (format : Format) → greatest_number format ≤ 65535
at_most_number One = omega arith
at_most_number Two = omega arith

pub at_most_attempt : (format : Format) → greatest_attempt format ≤ most_slots
at_most_attempt One = omega arith
at_most_attempt Two = omega arith
