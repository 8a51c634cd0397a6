use Rattle.std.proofs.Common.{◌≡◌, ℕ, ◌<◌, ◌+◌, ◌∙◌, List, ap, subst, sym, take, refl}
use Rattle.std.proofs.lemmas.List.{take_all}
use Rattle.cany_base.specs.declared.step.Step.{Step}
use Rattle.cany_world.specs.World.{WorldParts}
use Rattle.cany_watch.specs.Lines.{nodes_of}
use Rattle.cany_watch.proofs.WatchFacts.{step_made}
use Rattle.cany_watch.proofs.watching.run_steps.Goals as goal

pub loop-step-init : goal.loop-step-init
loop-step-init g c = record {
  world = ap (λ (l : List Step). record c.args.hall.now.world { journal = l }) c.requires.fresh;
  books = λ i. refl;
  all = λ e. absurd (cc e);
}

pub loop-step-preserved : goal.loop-step-preserved
loop-step-preserved g c =
    let first : WorldParts = c.args.hall.now.world in
    let world : c.step-last.new.self.world ≡ record first { journal = take (c.loop-step.step-index + 1) c.args.steps.now } =
    step_made first c.loop-step.hall.world c.step-last.new.self.world c.args.steps.now c.loop-step.step-index c.step-item.result c.step-last.result.0 c.requires.legal c.loop-step-test.true
    c.step-item.is c.loop-step.invariant.world c.step-last.ensures.reply c.step-last.ensures.new in
    let nodes : nodes_of c.step-last.new.self.world ≡ nodes_of c.loop-step.hall.world = ap nodes_of world ∙ sym (ap nodes_of c.loop-step.invariant.world) in
    record {
      world = world;
      books = λ i. c.step-last.ensures.books i ∙ c.loop-step.invariant.books i;
      all = λ e i below. c.step-last.ensures.all e i (subst (λ (n : ℕ). i < n) nodes below);
    }

pub returns-clause-world : goal.returns-clause-world
returns-clause-world g c =
    c.loop-step.invariant.world ∙ ap (λ (l : List Step). record c.args.hall.now.world { journal = l }) (take_all c.loop-step.step-index c.args.steps.now c.loop-step-test.false)
