use Rattle.std.proofs.Common.{◌++◌, ap, ◌∙◌}
use Rattle.cany_edcan.proofs.edcan.Edcan.on.Goals as goal

pub returns-clause-actions : goal.returns-clause-actions
returns-clause-actions c = λ scenario past h next.
    c.put.ensures.actions ∙ ap (λ actions. c.args.out.now.items ++ actions) (c.hear-calls.ensures.actions scenario past h next)
