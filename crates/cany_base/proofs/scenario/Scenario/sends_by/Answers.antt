use Rattle.std.proofs.Common.{◌∙◌, ap, count_by}
use Rattle.cany_base.specs.SendCounts.{is_send_by}
use Rattle.cany_base.proofs.scenario.Scenario.sends_by.Goals as goal

pub returns : goal.returns
returns c = c.by.ensures c.self.inside.sends.items c.self.invariant.1 ∙ ap (λ s. count_by (is_send_by c.args.service) s.sends) c.self.view_is
