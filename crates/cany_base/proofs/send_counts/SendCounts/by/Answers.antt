use Rattle.std.proofs.Common.{◌≡◌, subst, sym, ◌∙◌}
use Rattle.cany_base.specs.SendCounts.{counted_by}
use Rattle.cany_base.proofs.send_counts.SendCounts.by.Goals as goal
use Rattle.cany_base.proofs.send_counts.SendCounts.by.Goals.{in-Ed, in-Rel, in-Tot}

pub returns : goal.returns
returns c = λ sends counted.
    let count = c.match-service.count in
    let is : count ≡ counted_by c.args.self.now c.args.service =
    elim c.match-service.branch [
      | in-Ed w ↦ subst (λ s. count ≡ counted_by c.args.self.now s) (sym w.in-Ed.is) w.count-is
      | in-Rel w ↦ subst (λ s. count ≡ counted_by c.args.self.now s) (sym w.in-Rel.is) w.count-is
      | in-Tot w ↦ subst (λ s. count ≡ counted_by c.args.self.now s) (sym w.in-Tot.is) w.count-is
    ] in
    c.from.ensures ∙ is ∙ counted.by c.args.service
