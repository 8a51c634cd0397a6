use Rattle.std.proofs.Common.{◌∙◌, ap, inr, sym}
use Rattle.std.proofs.lemmas.Result.{IfErr-weaker, on_ok_weaker}
use Rattle.cany_command.proofs.PerformingFacts.{run_answered, run_answered_in_part}
use Rattle.cany_model.specs.Runs.Follow.{journal_of}
use Rattle.cany_world.specs.World.{WorldParts}
use Rattle.cany_watch.specs.Top.{text}
use Rattle.cany_watch.proofs.TopFacts.{not_refused}
use Rattle.cany_watch.proofs.top.watch_run.Goals as goal

pub watch_world-requires-clause-run : goal.watch_world-requires-clause-run
watch_world-requires-clause-run g c κs within =
    ap (λ (w : WorldParts). w.journal) c.in-Ok.ensures.ended ∙ ap journal_of (sym (ap (λ (w : WorldParts). w.scenario) c.in-Ok.ensures.ended))

pub returns-in-Ok-clause-done : goal.returns-in-Ok-clause-done
returns-in-Ok-clause-done g c =
    on_ok_weaker c.watch_world.result (λ written words named.
    run_answered (text words) c.args.scenario c.in-Ok.world _ _ c.in-Ok.ensures.ended c.in-Ok.ensures.promises (written words named)) c.watch_world.ensures.written

pub returns-in-Ok-clause-followed : goal.returns-in-Ok-clause-followed
returns-in-Ok-clause-followed g c = on_ok_weaker c.watch_world.result (λ written. c.in-Ok.ensures.followed) c.watch_world.ensures.written

pub returns-in-Ok-clause-refused : goal.returns-in-Ok-clause-refused
returns-in-Ok-clause-refused g c = IfErr-weaker c.watch_world.result _ _ (λ status other is. absurd (not_refused status other is)) c.watch_world.ensures.other

pub returns-in-Ok-clause-write_fault : goal.returns-in-Ok-clause-write_fault
returns-in-Ok-clause-write_fault g c = c.watch_world.ensures.write_fault

pub returns-in-Ok-clause-prefix : goal.returns-in-Ok-clause-prefix
returns-in-Ok-clause-prefix g c =
    IfErr-weaker c.watch_world.result _ _ (λ status part is words named.
    run_answered_in_part (text words) c.args.scenario c.in-Ok.world _ _ c.in-Ok.ensures.followed c.in-Ok.ensures.ended (part is words named)) c.watch_world.ensures.prefix

pub returns-in-Ok-clause-untouched : goal.returns-in-Ok-clause-untouched
returns-in-Ok-clause-untouched g c = c.watch_world.ensures.untouched

pub returns-in-Ok-clause-other : goal.returns-in-Ok-clause-other
returns-in-Ok-clause-other g c = IfErr-weaker c.watch_world.result _ _ (λ status other. inr other) c.watch_world.ensures.other
