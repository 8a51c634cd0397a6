use Rattle.std.proofs.Common.{ap}
use Rattle.cany_base.specs.Params.{Parameters}
use Rattle.cany_base.specs.ParamsFields.{parameters_of}
-- no law says how many nodes parameters have in any format
use Rattle.cany_base.proofs.ParamsFacts.{few_nodes}
use Rattle.cany_scenario.proofs.NodesFacts.{all-all_nodes}
use Rattle.cany_scenario.proofs.nodes.every_node.Goals as goal

pub returns : goal.returns
returns c =
    all-all_nodes c.args.params.now c.params.inside.nodes c.all.result (ap (λ (p : Parameters). p.nodes) c.params.view_is)
    (few_nodes (parameters_of c.params.inside) c.params.invariant) c.all.ensures.has
