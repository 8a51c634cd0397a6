-- What is promised of the run of a text by threads, and of the report of a run: each answer with
-- its cause.
use Rattle.std.specs.Prelude.{◌≡◌, ◌⊎◌, ℕ, true, List, Option, None, Result, Ok, IsOkAnd, IsSomeAnd, is_some}
use Rattle.cany_base.specs.Scenario.{ScenarioParts}
use Rattle.cany_io.specs.Faults.{HasRisen}
use Rattle.cany_io.specs.Sink.{Takes}
use Rattle.cany_text.specs.ScenarioText.{scenario_of}
use Rattle.cany_command.specs.declared.status.TheConstants.{DONE, NO_MEMORY, REFUSED, WRITE_FAULT}
use Rattle.cany_command.specs.Performed.{Stream}
use Rattle.cany_command.specs.Status.{HasAnswered}
use Rattle.cany_crew.specs.declared.status.TheConstants.{HELD}
use Rattle.cany_crew.specs.Gates.{HasAnyRefused, NoneFell}
use Rattle.cany_crew.specs.Top.{IsCrewRun, TakesReportStart, TakesStart, run_refusal}

-- `before` and `after` are the counts of the gates
pub record IsTextRun {K : Type 0} (bytes before after : List ℕ) (sink : Stream K) (answer : ℕ) : Type 0 where
  pub done : answer ≡ DONE → IsOkAnd (scenario_of bytes) (λ scenario. IsCrewRun scenario (sink.bytes sink.old) (sink.bytes sink.new))
  pub not_refused : (answer ≡ DONE) ⊎ (answer ≡ HELD) → run_refusal bytes ≡ None
  pub passed : answer ≡ DONE → after ≡ before
  pub held : answer ≡ HELD → HasAnyRefused before after
  pub count : NoneFell before after
  pub refused : answer ≡ REFUSED → IsSomeAnd (run_refusal bytes) (λ line. Takes (sink.bytes sink.old) line (sink.bytes sink.new))
  pub write_fault : answer ≡ WRITE_FAULT → HasRisen (sink.faults sink.old) (sink.faults sink.new)
  pub start : answer ≡ WRITE_FAULT → TakesStart bytes (sink.bytes sink.old) (sink.bytes sink.new)
  pub untouched : (answer ≡ NO_MEMORY) ⊎ (answer ≡ HELD) → sink.new ≡ sink.old
  pub status : HasAnswered answer ⊎ (answer ≡ NO_MEMORY) ⊎ (answer ≡ HELD)

-- of a run that came to this ending
pub record IsReported {A E K : Type 0} (scenario : ScenarioParts) (ending : Result (Option A) E) (sink : Stream K) (answer : ℕ) : Type 0 where
  pub done : answer ≡ DONE → IsCrewRun scenario (sink.bytes sink.old) (sink.bytes sink.new)
  pub passed : answer ≡ DONE → ending ≡ Ok None
  pub held : answer ≡ HELD → IsOkAnd ending (λ held. is_some held ≡ true)
  pub write_fault : answer ≡ WRITE_FAULT → HasRisen (sink.faults sink.old) (sink.faults sink.new)
  pub start : answer ≡ WRITE_FAULT → TakesReportStart scenario (sink.bytes sink.old) (sink.bytes sink.new)
  pub untouched : (answer ≡ NO_MEMORY) ⊎ (answer ≡ HELD) → sink.new ≡ sink.old
  pub status : (answer ≡ DONE) ⊎ (answer ≡ WRITE_FAULT) ⊎ (answer ≡ NO_MEMORY) ⊎ (answer ≡ HELD)
