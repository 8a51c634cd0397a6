use Rattle.std.proofs.Common.{◌≡◌, ◌<◌, subst, sym, ◌∙◌, arith}
use Rattle.cany_base.specs.declared.message.Service.TheVariants.{Ed, Rel, Tot}
use Rattle.cany_base.specs.Limits.{most_nodes}
use Rattle.cany_base.proofs.send_counts.SendCounts.add.Goals as goal
use Rattle.cany_base.proofs.send_counts.SendCounts.add.Goals.{in-Ed, in-Rel, in-Tot}
use Rattle.cany_base.proofs.SendCountsFacts.{after_one_by, by_few, counted_more}

pub overflow_add-self : goal.overflow_add-self
overflow_add-self c = omega (arith, by_few c.requires.0 c.args.self.now c.requires.2 Ed c.requires.1)

pub overflow_add-self-in-Rel : goal.overflow_add-self-in-Rel
overflow_add-self-in-Rel c = omega (arith, by_few c.requires.0 c.args.self.now c.requires.2 Rel c.requires.1)

pub overflow_add-self-in-Tot : goal.overflow_add-self-in-Tot
overflow_add-self-in-Tot c = omega (arith, by_few c.requires.0 c.args.self.now c.requires.2 Tot c.requires.1)

pub returns : goal.returns
returns c = λ earlier counted.
    let now = c.args.self.now in
    let next = c.match-send.self in
    let is : next ≡ after_one_by c.args.send.now.service now =
    elim c.match-send.branch [
      | in-Ed w ↦ subst (λ s. next ≡ after_one_by s now) (sym w.in-Ed.is) w.self-is
      | in-Rel w ↦ subst (λ s. next ≡ after_one_by s now) (sym w.in-Rel.is) w.self-is
      | in-Tot w ↦ subst (λ s. next ≡ after_one_by s now) (sym w.in-Tot.is) w.self-is
    ] in
    let small : c.from-place.result < most_nodes = omega arith in
    counted_more earlier now counted c.args.send.now next c.from-place.result is (c.from-place.ensures ∙ c.get.ensures.value) small
