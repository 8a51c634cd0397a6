use Rattle.std.proofs.Common.{ap, ◌∙◌, ◌&&◌, nat_lt}
use Rattle.cany_base.specs.Nodes.{has}
use Rattle.cany_media.proofs.LevelFacts.{some_node-least}
use Rattle.cany_media.proofs.line.has_one.Goals as goal

pub returns : goal.returns
returns c =
    c.is_some.ensures
    ∙ some_node-least c.args.nodes (has c.args.part) c.meet.result c.least.result
    (λ i. c.meet.ensures.has i ∙ ap (λ b. b && has c.args.part i) (c.all-bus.ensures.has i ∙ ap (λ n. nat_lt i n) c.min.ensures))
    c.least.ensures.none c.least.ensures.has
