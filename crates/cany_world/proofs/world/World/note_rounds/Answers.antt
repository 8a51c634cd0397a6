use Rattle.std.proofs.Common.{◌≡◌, ◌+◌, ◌∙◌, ap, arith, subst, sym}
use Rattle.cany_base.specs.Params.{Parameters}
use Rattle.cany_model.specs.Runs.RoundRobin.{round_robin}
use Rattle.cany_world.specs.Journal.{Repeats}
use Rattle.cany_world.proofs.PeriodFacts.{full_repeats}
use Rattle.cany_world.proofs.world.World.note_rounds.Goals as goal

pub note_period-requires : goal.note_period-requires
note_period-requires c =
    let is : c.self.inside.journal.items ≡ round_robin c.self.inside.scenario = rw (← c.self.view_is) at c.requires in
    let nodes : c.from-round.result ≡ c.self.inside.scenario.params.nodes =
    c.from-round.ensures ∙ ap (λ (p : Parameters). p.nodes) (c.behind-self.view_is ∙ c.params.ensures.params) in
    subst (λ n. Repeats (n + 1) c.self.inside.journal.items) (sym nodes)
    (full_repeats c.self.inside.scenario c.self.inside.journal.items is (omega (arith, c.spare.ensures, c.if-spare-eq0.true, c.self.invariant.room)))
