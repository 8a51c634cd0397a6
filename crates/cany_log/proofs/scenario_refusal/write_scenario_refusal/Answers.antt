use Rattle.cany_text.specs.RefusalLines.{scenario_refusal_line}
use Rattle.cany_log.proofs.WrittenFacts.{IsWritten-nothing}
use Rattle.cany_log.proofs.scenario_refusal.write_scenario_refusal.Goals as goal

pub returns-in-NotText : goal.returns-in-NotText
unfolding scenario_refusal_line
returns-in-NotText g c = rw c.in-NotText.is c.write_words.ensures

pub returns-in-NotToml : goal.returns-in-NotToml
unfolding scenario_refusal_line
returns-in-NotToml g c = rw c.in-NotToml.is c.write_words-in-NotToml.ensures

pub returns-in-UnknownKey : goal.returns-in-UnknownKey
unfolding scenario_refusal_line
returns-in-UnknownKey g c = rw c.in-UnknownKey.is c.write_unknown_key.ensures

pub returns-in-MissingKey : goal.returns-in-MissingKey
unfolding scenario_refusal_line
returns-in-MissingKey g c = rw c.in-MissingKey.is c.write_of_key.ensures

pub returns-in-WrongKind : goal.returns-in-WrongKind
unfolding scenario_refusal_line
returns-in-WrongKind g c = rw c.in-WrongKind.is c.write_of_key-in-WrongKind.ensures

pub returns-in-TooMany : goal.returns-in-TooMany
unfolding scenario_refusal_line
returns-in-TooMany g c = rw c.in-TooMany.is c.write_too_many.ensures

pub returns-in-BadData : goal.returns-in-BadData
unfolding scenario_refusal_line
returns-in-BadData g c = rw c.in-BadData.is c.write_at.ensures

pub returns-in-BoundTooSmall : goal.returns-in-BoundTooSmall
unfolding scenario_refusal_line
returns-in-BoundTooSmall g c = rw c.in-BoundTooSmall.is c.write_too_small.ensures

pub returns-in-RepeatedRule : goal.returns-in-RepeatedRule
unfolding scenario_refusal_line
returns-in-RepeatedRule g c = rw c.in-RepeatedRule.is c.write_at-in-RepeatedRule.ensures

pub returns-in-TooOften : goal.returns-in-TooOften
unfolding scenario_refusal_line
returns-in-TooOften g c = rw c.in-TooOften.is c.write_at-in-TooOften.ensures

pub returns-in-BadJournal : goal.returns-in-BadJournal
unfolding scenario_refusal_line
returns-in-BadJournal g c = rw c.in-BadJournal.is c.write_at-in-BadJournal.ensures

pub returns-in-Memory : goal.returns-in-Memory
unfolding scenario_refusal_line
returns-in-Memory g c = rw c.in-Memory.is (IsWritten-nothing _ _)
