use Rattle.std.proofs.Common.{◌∙◌, length, ap, subst}
use Rattle.std.proofs.lemmas.List.{length-reverse}
use Rattle.cany_model.specs.Runs.Run.{run}
use Rattle.cany_model.specs.Bus.State.{slots_run}
use Rattle.cany_world.specs.Resting.{HaveAllPassed}
use Rattle.cany_world.proofs.Idle.StretchFacts.{stand_after_rest}
use Rattle.cany_world.proofs.resting.rest.Goals as goal

pub returns-clause-stands : goal.returns-clause-stands
returns-clause-stands c scenario journal legal stands passes idle =
    let next = slots_run (run scenario journal) in
    let long = ap (λ t. length t) c.trace.ensures ∙ length-reverse c.args.bus.now.trace ∙ ap (λ t. length t) stands.bus.trace in
    stand_after_rest scenario journal c.args.slots c.args.due c.args.bus.now c.args.controllers.now c.args.nodes.now legal stands passes idle c.requires.some
    c.rest.new.self c.pass_all.new.controllers c.pass_all.new.nodes
    (subst (λ n. HaveAllPassed n c.args.slots c.args.due c.args.controllers.now c.pass_all.new.controllers c.args.nodes.now c.pass_all.new.nodes) long
    c.pass_all.ensures.passed)
    c.rest.ensures.trace c.rest.ensures.params c.rest.ensures.follows
