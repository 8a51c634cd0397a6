use Rattle.std.proofs.Common.{ap, ◌∙◌, ◌&&◌, nat_lt, not}
use Rattle.cany_base.specs.Nodes.{has}
use Rattle.cany_media.proofs.LevelFacts.{some_node-least}
use Rattle.cany_media.proofs.line.lacks_one.Goals as goal

pub returns : goal.returns
returns c =
    c.is_some.ensures
    ∙ some_node-least c.args.nodes (λ i. not (has c.args.part i)) c.minus.result c.least.result
    (λ i. c.minus.ensures.has i ∙ ap (λ b. b && not (has c.args.part i)) (c.all-bus.ensures.has i ∙ ap (λ n. nat_lt i n) c.min.ensures))
    c.least.ensures.none c.least.ensures.has
