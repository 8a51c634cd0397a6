-- A set of nodes below the format's bound has its bits in the bytes of a vector.
use Rattle.std.proofs.Common.{◌^◌, ◌<◌, rules}
use Rattle.cany_base.specs.Layout.{layout}
use Rattle.cany_base.proofs.NodesFacts.{bits-lt}
use Rattle.cany_base.proofs.PayloadFacts.{bits-back}
use Rattle.cany_base.proofs.payload.Payload.vector.Goals as goal

pub overflow_cast-bits : goal.overflow_cast-bits
overflow_cast-bits c =
    let small : c.args.set.bits < 2 ^ (layout c.args.format).nodes = bits-lt (layout c.args.format).nodes c.args.set c.requires in
    let here = rw c.in-One.is at small in
    search rules

pub returns-in-One-clause-back : goal.returns-in-One-clause-back
returns-in-One-clause-back c =
    let small : c.args.set.bits < 2 ^ (layout c.args.format).nodes = bits-lt (layout c.args.format).nodes c.args.set c.requires in
    let here = rw c.in-One.is at small in
    search (rules, bits-back)
