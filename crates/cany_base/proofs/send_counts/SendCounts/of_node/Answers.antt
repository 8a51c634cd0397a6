use Rattle.std.proofs.Common.{◌∙◌, ap, get_or, arith}
use Rattle.cany_base.proofs.send_counts.SendCounts.of_node.Goals as goal

pub returns : goal.returns
returns c = λ sends counted.
    c.from-2.ensures ∙ ap (λ n. get_or c.args.self.now.of_node n 0) (c.from.ensures ∙ c.get.ensures.value) ∙ counted.of_node c.args.node (omega arith)
