use Rattle.std.proofs.Common.{ap}
use Rattle.cany_base.specs.Params.{Parameters}
use Rattle.cany_history.proofs.MetFacts.{all_nodes}
use Rattle.cany_history.proofs.history.everybody.Goals as goal

pub returns : goal.returns
returns c =
    all_nodes c.args.params.now c.all.result c.params.inside.nodes
    (ap (λ (p : Parameters). p.nodes) c.params.view_is) c.requires c.all.ensures.below c.all.ensures.has
