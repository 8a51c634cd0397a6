use Rattle.std.proofs.Common.{◌∙◌, ap, count_by}
use Rattle.cany_base.specs.SendCounts.{is_send_of}
use Rattle.cany_base.proofs.scenario.Scenario.sends_of.Goals as goal

pub returns : goal.returns
returns c = c.of_node.ensures c.self.inside.sends.items c.self.invariant.1 ∙ ap (λ s. count_by (is_send_of c.args.node) s.sends) c.self.view_is
