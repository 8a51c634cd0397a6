use Rattle.std.proofs.Common.{◌≡◌, Global, Vec, refl, sym, rules}
use Rattle.std.proofs.lemmas.Result.{err_from_is_err_and}
use Rattle.std.specs.Prelude.{option_map, Ok, Err}
use Rattle.cany_base.specs.declared.step.Step.{Step}
use Rattle.cany_text.specs.declared.scenario_fault.KeyName.TheVariants as key
use Rattle.cany_text.specs.AsksText.{joins_of, leaves_of, restarts_of}
use Rattle.cany_text.specs.JournalText.{journal_of_text}
use Rattle.cany_text.specs.NodesText.{all_nodes, nodes_from}
use Rattle.cany_text.specs.ParamsText.{params_of}
use Rattle.cany_text.specs.ScenarioText.{scenario_from, top_keys}
use Rattle.cany_text.specs.TomlKeys.{only_keys, optional}
-- no law says that a text stands for a legal scenario alone
use Rattle.cany_text.proofs.ScenarioTextLegal.{scenario_from-legal}
use Rattle.cany_scenario.specs.Entries.{entry_of}
use Rattle.cany_scenario.proofs.ScenarioFacts.{scenario_from-parts, three_fault}
use Rattle.cany_scenario.proofs.scenario.scenario_from.Goals as goal

pub of_parts-requires : goal.of_parts-requires
of_parts-requires c =
    let top = entry_of c.args.top.now in
    let params = c.in_ok-params.params in
    let journal = option_map (λ (steps : Vec Step Global). steps.items) c.in_ok-journal.journal in
    let known : only_keys top_keys top ≡ Ok tt = search rules in
    let read : params_of top ≡ Ok params = sym c.in_ok-params.ensures in
    let named : optional (nodes_from params) (all_nodes params) key.Members top ≡ Ok c.in_ok-members.members = sym c.in_ok-members.ensures in
    let given : journal_of_text params.format top ≡ Ok journal = search rules in
    scenario_from-legal top _
    (scenario_from-parts top _ known read named c.in_ok-sends.ensures.ok c.in_ok-rules.ensures.ok c.in_ok-joins.ensures.joins c.in_ok-joins.ensures.leaves
    c.in_ok-joins.ensures.restarts given refl refl)

pub returns-in_err-only_keys-clause-fault : goal.returns-in_err-only_keys-clause-fault
unfolding scenario_from
returns-in_err-only_keys-clause-fault c =
    let p = err_from_is_err_and c.from_residual.result c.from_residual.ensures.1 in
    rw (p.1, p.2) (λ other. rw (← c.in_err-only_keys.ensures) refl)

pub returns-in_err-params-clause-fault : goal.returns-in_err-params-clause-fault
unfolding scenario_from
returns-in_err-params-clause-fault c =
    let p = err_from_is_err_and c.from_residual-in_err-params.result c.from_residual-in_err-params.ensures.1 in
    rw (p.1, p.2) (λ other. rw (← c.in_ok-only_keys.ensures, ← c.in_err-params.ensures) refl)

pub returns-in_err-members-clause-fault : goal.returns-in_err-members-clause-fault
unfolding scenario_from
returns-in_err-members-clause-fault c =
    let p = err_from_is_err_and c.from_residual-in_err-members.result c.from_residual-in_err-members.ensures.1 in
    rw (p.1, p.2) (λ other. rw (← c.in_ok-only_keys.ensures, ← c.in_ok-params.ensures, ← c.in_err-members.ensures) refl)

pub returns-in_err-sends-clause-fault : goal.returns-in_err-sends-clause-fault
unfolding scenario_from
returns-in_err-sends-clause-fault c =
    let p = err_from_is_err_and c.from_residual-in_err-sends.result c.from_residual-in_err-sends.ensures.1 in
    rw (p.1, p.2) (λ other. rw (← c.in_ok-only_keys.ensures, ← c.in_ok-params.ensures, ← c.in_ok-members.ensures, c.in_err-sends.ensures.fault other) refl)

pub returns-in_err-rules-clause-fault : goal.returns-in_err-rules-clause-fault
unfolding scenario_from
returns-in_err-rules-clause-fault c =
    let p = err_from_is_err_and c.from_residual-in_err-rules.result c.from_residual-in_err-rules.ensures.1 in
    rw (p.1, p.2) (λ other. rw (← c.in_ok-only_keys.ensures, ← c.in_ok-params.ensures, ← c.in_ok-members.ensures, c.in_ok-sends.ensures.ok, c.in_err-rules.ensures.fault other) refl)

pub returns-in_err-joins-clause-fault : goal.returns-in_err-joins-clause-fault
unfolding scenario_from
returns-in_err-joins-clause-fault c =
    let p = err_from_is_err_and c.from_residual-in_err-joins.result c.from_residual-in_err-joins.ensures.1 in
    rw (p.1, p.2) (λ other. rw (← c.in_ok-only_keys.ensures, ← c.in_ok-params.ensures, ← c.in_ok-members.ensures, c.in_ok-sends.ensures.ok, c.in_ok-rules.ensures.ok) (three_fault (joins_of c.in_ok-params.params (entry_of c.args.top.now)) (leaves_of c.in_ok-params.params (entry_of c.args.top.now)) (restarts_of c.in_ok-params.params (entry_of c.args.top.now)) _ _ (c.in_err-joins.ensures.fault other)))

pub returns-in_err-journal-clause-fault : goal.returns-in_err-journal-clause-fault
unfolding scenario_from
returns-in_err-journal-clause-fault c =
    let p = err_from_is_err_and c.from_residual-in_err-journal.result c.from_residual-in_err-journal.ensures.1 in
    rw (p.1, p.2) (λ other.
    let bad : journal_of_text c.in_ok-params.params.format (entry_of c.args.top.now) ≡ Err c.in_err-journal.field-0.0 = search (rules, c.in_err-journal.ensures.fault other) in
    rw (← c.in_ok-only_keys.ensures, ← c.in_ok-params.ensures, ← c.in_ok-members.ensures, c.in_ok-sends.ensures.ok, c.in_ok-rules.ensures.ok, c.in_ok-joins.ensures.joins, c.in_ok-joins.ensures.leaves, c.in_ok-joins.ensures.restarts, bad) refl)
