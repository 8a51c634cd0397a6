-- The running logs of a run tell of failures of nodes of the bus alone.
use Rattle.std.proofs.Common.{◌≡◌, ℕ, zero, suc, ◌+◌, ◌<◌, true, List, [], ◌∷◌, map, sym, subst, arith, All, Contains}
use Rattle.std.specs.Prelude.{Some, slice_get}
use Rattle.std.specs.List.{AllByRecursion, range_with_len}
use Rattle.std.proofs.lemmas.List.Elements.{All-contains_itself, All-weaker}
use Rattle.cany_base.specs.declared.log_entry.LogEntry.{LogEntry}
use Rattle.cany_base.specs.declared.log_entry.LogEntry.TheVariants.{Deliver, Failed, View}
use Rattle.cany_base.specs.declared.step.Step.{Step}
use Rattle.cany_base.specs.Scenario.{IsLegalScenario, ScenarioParts}
use Rattle.cany_base.proofs.ParamsFacts.{few_nodes}
use Rattle.cany_model.specs.Bus.State.{RunState, node_at}
use Rattle.cany_model.specs.Promises.Safe.{IsSound}
use Rattle.cany_model.specs.Promises.Settled.{IsCorrect}
use Rattle.cany_model.specs.Rules.Log.{log}
use Rattle.cany_model.specs.Runs.Run.{run}
use Rattle.cany_model.proofs.Among.{Each-flat_map, Each-map}
use Rattle.cany_model.proofs.Promises.Integrity.{integral}
use Rattle.cany_check.specs.declared.account.record.LogRecord.{LogRecord}
use Rattle.cany_check.specs.Accounts.Account.{LogParts, log_record, logs_of, logs_of_node}
use Rattle.cany_check.specs.Accounts.AccountFields.{log_parts}
use Rattle.cany_check.specs.Accounts.Records.{TellsWithin}
use Rattle.cany_check.proofs.Deciding.CorrectLogs.{each_range, record_is, unread_fits}

module _ (scenario : ScenarioParts) (journal : List Step) (legal : IsLegalScenario scenario) where
  abbrev s : RunState
  s = run scenario journal

  sound_within : (entry : LogEntry) → IsSound scenario s entry → TellsWithin scenario.params.nodes entry
  sound_within (Deliver slot by msg payload) h = tt
  sound_within (Failed slot node cycle) h = h.0
  sound_within (View slot number members) h = tt

  log_within : (i : ℕ) → IsCorrect scenario s i → All (TellsWithin scenario.params.nodes) (log scenario s i)
  log_within i c =
      All-weaker (Contains (log scenario s i)) (TellsWithin scenario.params.nodes)
      (λ entry stands. sound_within entry ((integral scenario journal (few_nodes scenario.params legal.in_range)).sent i c entry stands))
      (log scenario s i) (All-contains_itself (log scenario s i))

  abbrev IsWithin : LogParts → Type 0
  IsWithin x = x.runs ≡ true → All (TellsWithin scenario.params.nodes) x.entries

  record_within : (i number : ℕ) → i < scenario.params.nodes → IsWithin (log_record scenario s i number)
  record_within i number below h =
      let is = record_is scenario s (unread_fits scenario journal) i number h in
      subst (λ (x : LogParts). All (TellsWithin scenario.params.nodes) x.entries) (sym is.1) (log_within i (record { there = below; running = is.0 }))

  all_within : AllByRecursion IsWithin (logs_of scenario s)
  all_within =
      Each-flat_map (logs_of_node scenario s) IsWithin (range_with_len 0 scenario.params.nodes)
      (each_range (λ i. AllByRecursion IsWithin (logs_of_node scenario s i)) 0 scenario.params.nodes
      (λ i below. Each-map (log_record scenario s i) IsWithin (range_with_len 0 ((node_at s.nodes i).present.number + 1))
      (each_range (λ number. IsWithin (log_record scenario s i number)) 0 ((node_at s.nodes i).present.number + 1)
      (λ number within. record_within i number (omega (arith, below))))))

  pub within_at : (logs : List LogRecord) → map log_parts logs ≡ logs_of scenario s → (i : ℕ) (log : LogRecord) → slice_get logs i ≡ Some log → log.runs ≡ true
      → All (TellsWithin scenario.params.nodes) (log_parts log).entries
  within_at logs are i log at = along logs (subst (AllByRecursion IsWithin) (sym are) all_within) i at
    where
      along : (ls : List LogRecord) → AllByRecursion IsWithin (map log_parts ls) → (k : ℕ) → slice_get ls k ≡ Some log → IsWithin (log_parts log)
      along [] h k e = absurd (cc)
      along (x ∷ ls) h zero e = let here : x ≡ log = cc in subst (λ (y : LogRecord). IsWithin (log_parts y)) here h.0
      along (x ∷ ls) h (suc k) e = along ls h.1 k e
