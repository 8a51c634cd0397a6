use Rattle.std.proofs.lemmas.Result.{IfErr-weaker, IfOk-weaker, on_ok_weaker}
use Rattle.cany_command.proofs.PerformingFacts.{chosen_answered_in_part, of_chosen}
use Rattle.cany_command.proofs.RefusedFacts.{chosen_is_accepted, chosen_journal_refused}
use Rattle.cany_command.proofs.performing.perform_scenario.Goals as goal

pub returns-in-Ok-clause-done : goal.returns-in-Ok-clause-done
returns-in-Ok-clause-done g c =
    on_ok_weaker c.conclude.result (λ done words planned.
    of_chosen (g.C.Command.choose words c.args.scenario) c.in-Ok.chosen _ (c.in-Ok.ensures.chosen words planned) (done words planned)) c.conclude.ensures.done

pub returns-in-Ok-clause-success : goal.returns-in-Ok-clause-success
returns-in-Ok-clause-success g c =
    IfOk-weaker c.conclude.result _ _ (λ status same words planned.
    of_chosen (g.C.Command.choose words c.args.scenario) c.in-Ok.chosen _ (c.in-Ok.ensures.chosen words planned) (same words planned)) c.conclude.ensures.success

pub returns-in-Ok-clause-accepted : goal.returns-in-Ok-clause-accepted
returns-in-Ok-clause-accepted g c =
    on_ok_weaker c.conclude.result (λ followed words planned.
    chosen_is_accepted (g.C.Command.choose words c.args.scenario) c.in-Ok.chosen (c.in-Ok.ensures.chosen words planned) followed) c.conclude.ensures.followed

pub returns-in-Ok-clause-refused : goal.returns-in-Ok-clause-refused
returns-in-Ok-clause-refused g c =
    IfErr-weaker c.conclude.result _ _ (λ status refused is words planned.
    chosen_journal_refused (g.C.Command.choose words c.args.scenario) c.in-Ok.chosen _ _ (c.in-Ok.ensures.chosen words planned) (refused is)) c.conclude.ensures.refused

pub returns-in-Ok-clause-prefix : goal.returns-in-Ok-clause-prefix
returns-in-Ok-clause-prefix g c =
    IfErr-weaker c.conclude.result _ _ (λ status part is words planned.
    chosen_answered_in_part (g.C.Command.text words) (g.C.Command.choose words c.args.scenario) c.in-Ok.chosen _ _ (c.in-Ok.ensures.chosen words planned)
    (part is words planned)) c.conclude.ensures.prefix
