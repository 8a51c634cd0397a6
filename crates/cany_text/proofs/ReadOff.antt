-- Two runs with equal reports agree on what a report tells.
use Rattle.std.proofs.Common.{◌≡◌, List, ap}
use Rattle.cany_base.specs.declared.step.Step.{Step}
use Rattle.cany_base.specs.Params.{Parameters}
use Rattle.cany_base.specs.Scenario.{ScenarioParts, IsLegalScenario}
use Rattle.cany_base.proofs.ParamsFacts.{few_nodes}
use Rattle.cany_model.specs.Runs.Incarnations.{log_of}
use Rattle.cany_model.specs.Runs.Run.{IsLegal, run}
use Rattle.cany_model.specs.Bus.State.{opening}
use Rattle.cany_text.specs.ReadOff.{AgreeOnWhatIsTold}
use Rattle.cany_text.specs.Report.{report}
use Rattle.cany_text.proofs.ReadOffEntries.{logs_same}
use Rattle.cany_text.proofs.ReadOffJournal.{journals_same, legal_letters, parameters_same}
use Rattle.cany_text.proofs.ReadOffLogs.{log_lines_same}
use Rattle.cany_text.proofs.ReadOffNumbers.{log_writable, short_numbers}
use Rattle.cany_text.proofs.ReadOffSite.{same_lines}

pub reads_off : (a : ScenarioParts) (j : List Step) (b : ScenarioParts) (k : List Step) → IsLegalScenario a → IsLegalScenario b
    → IsLegal a j → IsLegal b k
    → report a j ≡ report b k → AgreeOnWhatIsTold a j b k
reads_off a j b k a_legal b_legal j_legal k_legal e =
    let lines = same_lines a j b k e in
    let params : a.params ≡ b.params = parameters_same a.params b.params a_legal.in_range b_legal.in_range lines.format lines.params in
    let site = log_lines_same a (run a j) b (run b k) (short_numbers a j a_legal) (short_numbers b k b_legal)
    (ap (λ (p : Parameters). p.nodes) params) lines.site in
    record {
      parameters = params;
      journals = journals_same j k (legal_letters a (few_nodes a.params a_legal.in_range) (opening a.params.nodes) j j_legal)
          (legal_letters b (few_nodes b.params b_legal.in_range) (opening b.params.nodes) k k_legal) lines.journal;
      incarnations = site.incarnations;
      logs = λ a_bytes b_bytes i number below within.
          logs_same (log_of a (run a j) i number) (log_of b (run b k) i number) (log_writable a j a_legal a_bytes i number)
          (log_writable b k b_legal b_bytes i number)
          (site.logs i number below within);
    }
