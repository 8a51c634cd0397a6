use Rattle.std.proofs.Common.{◌≡◌, ◌+◌, ◌*◌, [], List, map, ap, subst, sym, ◌∙◌}
use Rattle.cany_base.specs.declared.step.Step.{Step}
use Rattle.cany_base.specs.Bounded.{Bounded}
use Rattle.cany_base.specs.Scenario.{ScenarioParts, IsLegalScenario}
use Rattle.cany_model.specs.Rules.Messages.{message_key, messages_of}
use Rattle.cany_model.specs.Rules.Rooms.{actions_room}
use Rattle.cany_model.specs.Runs.Run.{IsLegal, run}
use Rattle.cany_model.specs.Bus.State.{opening}
use Rattle.cany_model.proofs.Runs.Journals.{legal_none}
use Rattle.cany_world.specs.Kept.{StandFor}
use Rattle.cany_world.proofs.WorldFacts.{opening_stands}
use Rattle.cany_world.proofs.world.World.build.Goals as goal

pub invariant_of-result : goal.invariant_of-result
invariant_of-result c =
    let given : ScenarioParts = c.args.scenario.now in
    let kept : ScenarioParts = c.in_ok-nodes.nodes.others.lists.scenario in
    let bus = c.in_ok-bus.bus in
    let nodes = c.in_ok-nodes.nodes in
    let same : given ≡ kept = sym c.in_ok-nodes.ensures.scenario in
    let none : [] ≡ bus.noted.journal.items = sym (ap (λ (b : Bounded Step). b.items) c.in_ok-bus.ensures.journal) in
    record {
      legal = subst IsLegalScenario same c.params-legal.ensures.legal;
      opening = ap (λ (s : ScenarioParts). s.inc) (sym same) ∙ c.params-legal.ensures.opening;
      script = c.in_ok-bus.ensures.script ∙ ap (λ (s : ScenarioParts). s.rules) same;
      steps = subst (λ (j : List Step). IsLegal kept j) none (legal_none kept (opening kept.params.nodes));
      room = ap (λ (b : Bounded Step). b.room) c.in_ok-bus.ensures.journal ∙ ap (λ (s : ScenarioParts). s.params.slots * (s.params.nodes + 1)) same;
      stands = subst (λ (j : List Step). StandFor kept (run kept j) bus.noted.bus nodes.others.controllers.items nodes.nodes.items) none
          (subst (λ (s : ScenarioParts). StandFor s (run s []) bus.noted.bus nodes.others.controllers.items nodes.nodes.items) same
          (opening_stands given bus.noted.bus nodes.others.controllers.items nodes.nodes.items c.in_ok-bus.ensures.params c.in_ok-bus.ensures.trace c.in_ok-bus.ensures.follows
          c.in_ok-nodes.ensures.controllers c.in_ok-nodes.ensures.nodes));
      actions = c.in_ok-nodes.ensures.actions ∙ ap (λ (s : ScenarioParts). record { items = []; room = actions_room s }) same;
      keys = c.in_ok-nodes.ensures.keys ∙ ap (λ (s : ScenarioParts). map message_key (messages_of s.sends)) same;
    }
