use Rattle.std.proofs.Common.{ap, sym, ◌∙◌}
use Rattle.cany_base.specs.declared.message.SendAsk.{SendAsk}
use Rattle.cany_world.specs.Settled.{is_finished}
use Rattle.cany_world.specs.World.{WorldParts}
use Rattle.cany_world.proofs.SettledFacts.{not_queued}
use Rattle.cany_world.proofs.world.World.settled_by.Goals as goal

pub returns-then-has : goal.returns-then-has
returns-then-has c =
    not_queued c.args.self.now.scenario c.args.self.now.journal c.args.index c.args.finished.now c.sends-sends.result.now c.index-sends-index.result c.queued.result
    c.requires.index (c.sends-sends.ensures ∙ ap (λ (w : WorldParts). w.scenario.sends) c.self.view_is) c.index-sends-index.is c.requires.finished
    (c.has.ensures ∙ ap (λ (x : SendAsk). is_finished c.args.finished.now x.service) (sym c.index-sends-index.is)) c.if-has.true c.queued.ensures
