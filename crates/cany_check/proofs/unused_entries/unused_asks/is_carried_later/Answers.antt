use Rattle.std.proofs.Common.{Some, None, ap, ◌∙◌}
use Rattle.cany_base.specs.Scenario.{ScenarioParts}
use Rattle.cany_model.specs.Bus.Frames.{Identity}
use Rattle.cany_world.specs.World.{state_of}
use Rattle.cany_check.specs.Idle.Attempts.{asked_frame, is_named}
use Rattle.can_fault.specs.Identities.{frame_identity}
use Rattle.cany_check.proofs.Idle.AttemptFacts.{carried_later}
use Rattle.cany_check.proofs.unused_entries.unused_asks.is_carried_later.Goals as goal

pub returns-in-Some : goal.returns-in-Some
returns-in-Some c =
    let scenario = c.args.world.now.scenario in
    let x : Identity = asked_frame scenario.params c.args.class c.args.ask.now in
    carried_later scenario c.args.world.now.journal c.args.class c.args.ask.now c.last.result (Some c.in-Some.last) c.in-Some.is
    (c.last.ensures (is_named scenario) (state_of c.args.world.now).trace x c.requires.attempts c.requires.named
    (c.asked_identity.ensures ∙ ap (λ p. frame_identity (asked_frame p c.args.class c.args.ask.now)) (c.params.ensures.params ∙ ap (λ (s : ScenarioParts). s.params) c.scenario.ensures)))

pub returns-in-None : goal.returns-in-None
returns-in-None c =
    let scenario = c.args.world.now.scenario in
    let x : Identity = asked_frame scenario.params c.args.class c.args.ask.now in
    carried_later scenario c.args.world.now.journal c.args.class c.args.ask.now c.last.result None c.in-None.is
    (c.last.ensures (is_named scenario) (state_of c.args.world.now).trace x c.requires.attempts c.requires.named
    (c.asked_identity.ensures ∙ ap (λ p. frame_identity (asked_frame p c.args.class c.args.ask.now)) (c.params.ensures.params ∙ ap (λ (s : ScenarioParts). s.params) c.scenario.ensures)))
