use Rattle.std.proofs.Common.{◌≢◌, ◌∙◌, sym}
use Rattle.std.proofs.lemmas.Bool.{false≢true}
use Rattle.std.proofs.lemmas.Result.{IfErr-weaker, on_ok_weaker}
use Rattle.cany_text.specs.declared.scenario_fault.ScenarioFault.TheVariants.{Memory}
use Rattle.cany_command.proofs.PerformingFacts.{of_scenario, scenario_answered_in_part, text_refused_in_part}
use Rattle.cany_command.proofs.RefusedFacts.{accepted, scenario_refused, text_refused}
use Rattle.cany_watch.specs.Top.{choose, text}
use Rattle.cany_watch.proofs.top.watch_text.Goals as goal

pub returns-in-Ok-clause-done : goal.returns-in-Ok-clause-done
returns-in-Ok-clause-done g c =
    on_ok_weaker c.watch_scenario.result (λ done words named.
    of_scenario (choose words) c.args.text.items c.in-Ok.scenario _ c.in-Ok.ensures.ok (done words named)) c.watch_scenario.ensures.done

pub returns-in-Ok-clause-accepted : goal.returns-in-Ok-clause-accepted
returns-in-Ok-clause-accepted g c =
    on_ok_weaker c.watch_scenario.result (λ yes words named.
    accepted (choose words) c.args.text.items c.in-Ok.scenario c.in-Ok.ensures.ok (yes words named)) c.watch_scenario.ensures.accepted

pub returns-in-Ok-clause-refused : goal.returns-in-Ok-clause-refused
returns-in-Ok-clause-refused g c =
    IfErr-weaker c.watch_scenario.result _ _ (λ status refused is words named.
    scenario_refused (choose words) c.args.text.items c.in-Ok.scenario _ _ c.in-Ok.ensures.ok (refused is words named)) c.watch_scenario.ensures.refused

pub returns-in-Ok-clause-prefix : goal.returns-in-Ok-clause-prefix
returns-in-Ok-clause-prefix g c =
    IfErr-weaker c.watch_scenario.result _ _ (λ status part is words named.
    scenario_answered_in_part (text words) (choose words) c.args.text.items c.in-Ok.scenario _ _ c.in-Ok.ensures.ok
    (part is words named)) c.watch_scenario.ensures.prefix

pub returns-in-Err-2-clause-refused : goal.returns-in-Err-2-clause-refused
returns-in-Err-2-clause-refused g c = λ refused words named.
    let other : c.in-Err.fault ≢ Memory = λ e. false≢true (sym c.if-is_memory.false ∙ c.is_memory.ensures.1 e) in
    text_refused (choose words) c.args.text.items c.in-Err.fault _ _ (c.in-Err.ensures.fault other) (c.refuse.ensures.refused refused)

pub returns-in-Err-2-clause-prefix : goal.returns-in-Err-2-clause-prefix
returns-in-Err-2-clause-prefix g c = λ failed words named.
    let other : c.in-Err.fault ≢ Memory = λ e. false≢true (sym c.if-is_memory.false ∙ c.is_memory.ensures.1 e) in
    text_refused_in_part (text words) (choose words) c.args.text.items c.in-Err.fault _ _ (c.in-Err.ensures.fault other) c.refuse.ensures.prefix
