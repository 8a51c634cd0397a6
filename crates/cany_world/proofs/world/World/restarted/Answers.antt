use Rattle.std.proofs.Common.{◌≡◌, [], length, subst, sym, ◌∙◌}
use Rattle.std.proofs.lemmas.Bool.{eqb-true}
use Rattle.std.proofs.lemmas.List.{nil_from_length}
use Rattle.cany_model.specs.Bus.Restart.{restarted_in}
use Rattle.cany_world.specs.World.{WorldParts, state_of}
use Rattle.cany_world.proofs.NoRestartEntry.{none_restarted}
use Rattle.cany_world.proofs.world.World.restarted.Goals as goal

pub returns-then-is_empty : goal.returns-then-is_empty
returns-then-is_empty c =
    let none : c.self.inside.scenario.restarts ≡ [] = sym c.restarts.ensures
    ∙ nil_from_length c.restarts.result.now (eqb-true (length c.restarts.result.now) 0 (sym c.is_empty.ensures ∙ c.if-is_empty.true)) in
    subst (λ (w : WorldParts). c.empty.result ≡ restarted_in (state_of w) c.args.slot) c.self.view_is
    (none_restarted c.self.inside.scenario c.self.inside.journal.items c.args.slot c.empty.result none c.empty.ensures.has)
