-- No line of a report reads the journal that a scenario has of its own, so with the journal of its
-- report it has that report again.
use Rattle.std.specs.Prelude.{◌≡◌, List, Option, Some, refl}
use Rattle.std.specs.List.{concat}
use Rattle.std.proofs.Common.{ap, ◌∙◌}
use Rattle.cany_base.specs.declared.step.Step.{Step}
use Rattle.cany_base.specs.Scenario.{IsLegalScenario, ScenarioParts}
use Rattle.cany_model.specs.Runs.Run.{IsLegal, IsWhole, run}
use Rattle.cany_model.specs.Bus.State.{RunState}
use Rattle.cany_model.specs.Promises.Settled.{is_settled}
use Rattle.cany_model.specs.Rules.Log.{log_from}
use Rattle.cany_model.specs.Rules.Turn.{has_asked}
use Rattle.cany_text.specs.Replayed.{GivesReportAgain, with_journal}
use Rattle.cany_text.specs.Report.{incarnation_lines, message_lines, node_lines, report, report_lines}
use Rattle.cany_model.proofs.Runs.FollowFacts.{no_fault_exactly}
use Rattle.cany_text.proofs.SameRunBus.{same_fault, same_run}
use Rattle.cany_text.proofs.SameRunRules.{open_turn}

same_node_lines : (given : Option (List Step)) (scenario : ScenarioParts) (s : RunState)
    → node_lines (with_journal given scenario) s ≡ node_lines scenario s
unfolding incarnation_lines log_from node_lines open_turn
same_node_lines given scenario s = refl

same_message_lines : (given : Option (List Step)) (scenario : ScenarioParts) (s : RunState)
    → message_lines (with_journal given scenario) s ≡ message_lines scenario s
unfolding has_asked is_settled message_lines open_turn
same_message_lines given scenario s = refl

same_lines : (given : Option (List Step)) (scenario : ScenarioParts) (journal : List Step) (s : RunState)
    → report_lines (with_journal given scenario) journal s ≡ report_lines scenario journal s
unfolding report_lines
same_lines given scenario journal s = rw (same_node_lines given scenario s) (rw (same_message_lines given scenario s) refl)

pub same_report : (given : Option (List Step)) (scenario : ScenarioParts) (journal : List Step)
    → report (with_journal given scenario) journal ≡ report scenario journal
unfolding report
same_report given scenario journal =
    ap (λ (s : RunState). concat (report_lines (with_journal given scenario) journal s)) (same_run given scenario journal)
    ∙ ap concat (same_lines given scenario journal (run scenario journal))

-- what makes a scenario legal does not speak of its journal
still_legal : (given : Option (List Step)) (scenario : ScenarioParts) → IsLegalScenario scenario
    → IsLegalScenario (with_journal given scenario)
still_legal given scenario legal = record {
  in_range = legal.in_range;
  formulas = legal.formulas;
  members = legal.members;
  sends = legal.sends;
  rules = legal.rules;
  joins = legal.joins;
  leaves = legal.leaves;
  restarts = legal.restarts;
  few_sends = legal.few_sends;
  few_rules = legal.few_rules;
  few_joins = legal.few_joins;
  few_leaves = legal.few_leaves;
  few_restarts = legal.few_restarts;
  few_of_node = legal.few_of_node;
  places = legal.places;
}

pub gives_report_again : (scenario : ScenarioParts) (journal : List Step) → IsLegalScenario scenario → IsLegal scenario journal
    → IsWhole scenario journal → GivesReportAgain scenario journal
gives_report_again scenario journal legal done whole = record {
  legal = still_legal (Some journal) scenario legal;
  taken = refl;
  faultless = same_fault (Some journal) scenario journal ∙ (no_fault_exactly scenario journal).1 (done, whole);
  same = same_report (Some journal) scenario journal;
}
