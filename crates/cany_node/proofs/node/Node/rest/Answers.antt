use Rattle.std.proofs.Common.{◌+◌, ap}
use Rattle.cany_node.specs.Node.{NodeParts}
use Rattle.cany_node.proofs.Idle.RestFacts.{rested_as}
use Rattle.cany_node.proofs.node.Node.rest.Goals as goal

pub returns-clause-stands : goal.returns-clause-stands
returns-clause-stands c = λ scenario past wake rests is early within.
    let state = ap (λ (v : NodeParts). record v { read = v.read + c.args.slots }) c.self.view_is in
    rested_as scenario past c.args.self.now _ wake c.args.slots rests is state early within
