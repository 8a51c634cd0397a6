use Rattle.std.proofs.Common.{◌≡◌, ◌∙◌, ℕ, Some, ap, sym}
use Rattle.std.proofs.lemmas.Result.{IfErr-weaker, on_ok_weaker}
use Rattle.cany_command.proofs.PerformingFacts.{chosen_answered_in_part, none_chosen_in_part, of_chosen}
use Rattle.cany_command.proofs.RefusedFacts.{chosen_is_accepted, chosen_journal_refused, none_chosen_refused}
use Rattle.cany_watch.specs.Top.{choose, text}
use Rattle.cany_watch.specs.WatchText.{no_node_line}
use Rattle.cany_watch.proofs.top.watch_scenario.Goals as goal

pub returns-in-Ok-clause-done : goal.returns-in-Ok-clause-done
returns-in-Ok-clause-done g c =
    let found : c.args.node ≡ c.in-Ok.found = sym c.in-Ok.ensures.same in
    on_ok_weaker c.watch_run.result (λ done words named.
    of_chosen (choose words c.args.scenario) c.args.scenario _ (c.in-Ok.ensures.chosen words named)
    (done words (named ∙ ap (λ (n : ℕ). Some n) found))) c.watch_run.ensures.done

pub returns-in-Ok-clause-accepted : goal.returns-in-Ok-clause-accepted
returns-in-Ok-clause-accepted g c =
    on_ok_weaker c.watch_run.result (λ followed words named.
    chosen_is_accepted (choose words c.args.scenario) c.args.scenario (c.in-Ok.ensures.chosen words named) followed) c.watch_run.ensures.followed

pub returns-in-Ok-clause-refused : goal.returns-in-Ok-clause-refused
returns-in-Ok-clause-refused g c =
    IfErr-weaker c.watch_run.result _ _ (λ status refused is words named.
    chosen_journal_refused (choose words c.args.scenario) c.args.scenario _ _ (c.in-Ok.ensures.chosen words named) (refused is)) c.watch_run.ensures.refused

pub returns-in-Ok-clause-prefix : goal.returns-in-Ok-clause-prefix
returns-in-Ok-clause-prefix g c =
    let found : c.args.node ≡ c.in-Ok.found = sym c.in-Ok.ensures.same in
    IfErr-weaker c.watch_run.result _ _ (λ status part is words named.
    chosen_answered_in_part (text words) (choose words c.args.scenario) c.args.scenario _ _ (c.in-Ok.ensures.chosen words named)
    (part is words (named ∙ ap (λ (n : ℕ). Some n) found))) c.watch_run.ensures.prefix

pub returns-in-Ok-clause-write_fault : goal.returns-in-Ok-clause-write_fault
returns-in-Ok-clause-write_fault g c = c.watch_run.ensures.write_fault

pub returns-in-Ok-clause-untouched : goal.returns-in-Ok-clause-untouched
returns-in-Ok-clause-untouched g c = c.watch_run.ensures.untouched

pub returns-in-Ok-clause-other : goal.returns-in-Ok-clause-other
returns-in-Ok-clause-other g c = c.watch_run.ensures.other

pub returns-in-Err-clause-refused : goal.returns-in-Err-clause-refused
returns-in-Err-clause-refused g c = λ is words named.
    none_chosen_refused (choose words c.args.scenario) (no_node_line c.in-Err.refusal.node) _ _ (c.in-Err.ensures.refused words named) (c.refuse.ensures.refused is)

pub returns-in-Err-clause-prefix : goal.returns-in-Err-clause-prefix
returns-in-Err-clause-prefix g c = λ failed words named.
    none_chosen_in_part (text words) (choose words c.args.scenario) (no_node_line c.in-Err.refusal.node) _ _ (c.in-Err.ensures.refused words named) c.refuse.ensures.prefix
