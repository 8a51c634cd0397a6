use Rattle.std.proofs.Common.{◌∙◌, ap, refl}
use Rattle.std.proofs.lemmas.Result.{err_from_is_err_and}
use Rattle.cany_base.specs.Params.{Parameters}
use Rattle.cany_base.specs.Scenario.{ScenarioParts}
use Rattle.cany_model.specs.Runs.Run.{run}
use Rattle.cany_log.proofs.WrittenFacts.{IsWritten-then, IsWritten-short}
use Rattle.cany_settle.specs.LastEvent.{last_event}
use Rattle.cany_settle.specs.LongEnough.{tail}
use Rattle.cany_settle.proofs.TextFacts.{lengths-is}
use Rattle.cany_settle.proofs.text.write_lengths.Goals as goal

pub returns-in_err-write_number : goal.returns-in_err-write_number
returns-in_err-write_number g c =
    let w = c.args.world.now in
    let s = run w.scenario w.journal in
    let t = c.tail.ensures.tail ∙ ap (λ (sc : ScenarioParts). tail sc.params) c.scenario.ensures in
    let p = err_from_is_err_and c.from_residual.result c.from_residual.ensures.1 in
    rw (p.1, lengths-is w.scenario s c.tail.result (last_event w.scenario s) w.scenario.params.slots t refl refl) (IsWritten-short _ _ _ _ _ _ _ c.in_err-write_number.ensures)

pub returns-in_err-write_number-2 : goal.returns-in_err-write_number-2
returns-in_err-write_number-2 g c =
    let w = c.args.world.now in
    let s = run w.scenario w.journal in
    let t = c.tail.ensures.tail ∙ ap (λ (sc : ScenarioParts). tail sc.params) c.scenario.ensures in
    let p = err_from_is_err_and c.from_residual-in_err-write_number-2.result c.from_residual-in_err-write_number-2.ensures.1 in
    rw (p.1, lengths-is w.scenario s c.tail.result c.last_event.result w.scenario.params.slots t c.last_event.ensures refl)
    (IsWritten-then _ _ _ _ _ _ _ _ _ c.in_ok-write_number.ensures (IsWritten-short _ _ _ _ _ _ _ c.in_err-write_number-2.ensures))

pub returns : goal.returns
returns g c =
    let w = c.args.world.now in
    let s = run w.scenario w.journal in
    let t = c.tail.ensures.tail ∙ ap (λ (sc : ScenarioParts). tail sc.params) c.scenario.ensures in
    let slots = ap (λ (p : Parameters). p.slots) (c.behind-scenario.view_is ∙ c.params.ensures.params) ∙ ap (λ (sc : ScenarioParts). sc.params.slots) c.scenario-2.ensures in
    rw (lengths-is w.scenario s c.tail.result c.last_event.result c.behind-scenario.inside.slots t c.last_event.ensures slots)
    (IsWritten-then _ _ _ _ _ _ _ _ _ c.in_ok-write_number.ensures (IsWritten-then _ _ _ _ _ _ _ _ _ c.in_ok-write_number-2.ensures c.write_number-3.ensures))
