use Rattle.std.proofs.Common.{◌≡◌, ◌↔◌, true, subst, sym, ◌∙◌}
use Rattle.cany_base.specs.Nodes.{Nodes, nobody}
use Rattle.cany_base.proofs.ParamsFacts.{few_nodes}
use Rattle.cany_model.specs.Promises.Settled.{nobody_waits_with_sign}
use Rattle.cany_model.specs.Rules.Knowledge.{FailureSign}
use Rattle.cany_world.specs.World.{WorldParts, state_of}
use Rattle.cany_world.specs.WorldFields.{world_parts}
use Rattle.cany_world.proofs.SettledFacts.{controllers_read, have_format}
use Rattle.cany_world.proofs.UnsettledFacts.{nobody_waits_with}
use Rattle.cany_world.proofs.world.World.waiting_sign.Goals as goal

pub nodes_waiting_with_sign-requires-clause-format : goal.nodes_waiting_with_sign-requires-clause-format
nodes_waiting_with_sign-requires-clause-format c =
    have_format c.self.inside c.self.invariant _ c.as_slice.ensures.value _ (c.behind-self.view_is ∙ c.params.ensures.params)

pub returns-clause-nobody : goal.returns-clause-nobody
returns-clause-nobody c =
    let w : WorldParts = world_parts c.self.inside in
    let sign : FailureSign = record { node = c.args.node; cycle = c.args.cycle } in
    subst (λ (v : WorldParts). (c.nodes_waiting_with_sign.result ≡ nobody) ↔ (nobody_waits_with_sign (state_of v) sign ≡ true)) c.self.view_is
    (subst (λ (set : Nodes). (set ≡ nobody) ↔ (nobody_waits_with_sign (state_of w) sign ≡ true))
    (sym (c.nodes_waiting_with_sign.ensures w.scenario w.journal (controllers_read c.self.inside c.self.invariant _ c.as_slice.ensures.value)))
    (nobody_waits_with w.scenario w.journal (few_nodes w.scenario.params c.self.invariant.legal.in_range) sign))
