use Rattle.std.proofs.Common.{◌==◌, ◌∙◌, ap, sym, length}
use Rattle.cany_base.specs.Scenario.{ScenarioParts}
use Rattle.cany_model.specs.Runs.Run.{run}
use Rattle.cany_settle.proofs.TextFacts.{claim_none, claim_some}
use Rattle.cany_settle.proofs.text.write_claim.Goals as goal

pub returns-then-is_empty : goal.returns-then-is_empty
returns-then-is_empty g c =
    let w = c.args.world.now in
    let restarts = c.restarts.ensures ∙ ap (λ (s : ScenarioParts). s.restarts) c.scenario.ensures in
    rw (claim_none w.scenario (run w.scenario w.journal) (sym c.if-is_empty.true ∙ c.is_empty.ensures ∙ ap (λ l. length l == 0) restarts)) c.write_enough.ensures

pub returns-else-is_empty : goal.returns-else-is_empty
returns-else-is_empty g c =
    let w = c.args.world.now in
    let restarts = c.restarts.ensures ∙ ap (λ (s : ScenarioParts). s.restarts) c.scenario.ensures in
    rw (claim_some w.scenario (run w.scenario w.journal) (sym c.if-is_empty.false ∙ c.is_empty.ensures ∙ ap (λ l. length l == 0) restarts)) c.write_word.ensures
