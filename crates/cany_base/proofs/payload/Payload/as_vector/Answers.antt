use Rattle.cany_base.specs.Layout.{layout}
use Rattle.cany_base.proofs.NodesFacts.{AllBelow-bits}
use Rattle.cany_base.proofs.payload.Payload.as_vector.Goals as goal

pub returns-clause-below : goal.returns-clause-below
returns-clause-below c =
    rw c.of_bits.ensures (AllBelow-bits (layout c.args.format).nodes (record { bits = c.vector_bits.result }) c.vector_bits.ensures.small)
