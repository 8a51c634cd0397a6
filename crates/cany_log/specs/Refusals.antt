-- The line of a refusal.
use Rattle.std.specs.Prelude.{ℕ, List}
use Rattle.cany_log.specs.declared.refusal.Refusal.{Refusal}
use Rattle.cany_log.specs.declared.refusal.Refusal.TheVariants.{Scenario, Journal, JournalGiven}
use Rattle.cany_text.specs.RefusalLines.{scenario_refusal_line, journal_given_line, journal_refusal_line}

abbrev pub refusal_line : Refusal → List ℕ
refusal_line (Scenario fault) = scenario_refusal_line fault
refusal_line (Journal fault) = journal_refusal_line fault
refusal_line JournalGiven = journal_given_line
