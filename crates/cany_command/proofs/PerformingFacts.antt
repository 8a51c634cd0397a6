-- What a command writes for a text, by what was read of it and by what the command chose to run.
use Rattle.std.proofs.Common.{◌≡◌, ℕ, List, Option, None, Ok, Err, IsOkAnd, sym, subst}
use Rattle.std.specs.Option.{option_map_or}
use Rattle.cany_base.specs.Scenario.{ScenarioParts}
use Rattle.cany_io.specs.Sink.{Takes, TakesPrefix}
use Rattle.cany_model.specs.declared.follow.FollowFault.{FollowFault}
use Rattle.cany_model.specs.Runs.Follow.{journal_of}
use Rattle.cany_text.specs.declared.scenario_fault.ScenarioFault.{ScenarioFault}
use Rattle.cany_text.specs.RefusalLines.{journal_refusal_line, scenario_refusal_line}
use Rattle.cany_text.specs.ScenarioText.{scenario_of}
use Rattle.cany_text.specs.TomlKeys.{Read}
use Rattle.cany_command.specs.Answers.{IsAnswered, OfChosen, answer_by, answer_for, answer_if, answer_to}
use Rattle.cany_command.specs.Due.{RunText}
use Rattle.cany_command.specs.Promises.{KeepsPromises}
use Rattle.cany_command.specs.Refused.{Chosen, own_fault}
use Rattle.cany_world.specs.World.{WorldParts}

-- ---- the run that has ended

pub run_answered : (text : RunText) (scenario : ScenarioParts) (world : WorldParts) (old new : Option (List ℕ))
    → world ≡ record { scenario = scenario; journal = journal_of scenario } → KeepsPromises scenario → Takes old (text world.scenario world.journal) new
    → IsAnswered text scenario old new
run_answered text scenario world old new is promises written =
    record { written = subst (λ (w : WorldParts). Takes old (text w.scenario w.journal) new) is written; promises = promises }

-- what is written of a run
pub run_answered_in_part : (text : RunText) (scenario : ScenarioParts) (world : WorldParts) (old new : Option (List ℕ)) → own_fault scenario ≡ None
    → world ≡ record { scenario = scenario; journal = journal_of scenario } → TakesPrefix old (text world.scenario world.journal) new
    → TakesPrefix old (answer_for text scenario) new
run_answered_in_part text scenario world old new followed is part =
    let P : Option FollowFault → Type 0 = λ o. TakesPrefix old (option_map_or journal_refusal_line o (text scenario (journal_of scenario))) new in
    let Q : WorldParts → Type 0 = λ w. TakesPrefix old (text w.scenario w.journal) new in
    subst P (sym followed) (subst Q is part)

-- ---- by what the command chose

pub of_chosen : (chosen : Chosen) (scenario : ScenarioParts) (Fact : ScenarioParts → Type 0) → chosen ≡ Ok scenario → Fact scenario → IsOkAnd chosen Fact
of_chosen chosen scenario Fact is fact = subst (λ c. IsOkAnd c Fact) (sym is) fact

pub chosen_answered_in_part : (text : RunText) (chosen : Chosen) (scenario : ScenarioParts) (old new : Option (List ℕ)) → chosen ≡ Ok scenario
    → TakesPrefix old (answer_for text scenario) new → TakesPrefix old (answer_if text chosen) new
chosen_answered_in_part text chosen scenario old new is part = subst (λ c. TakesPrefix old (answer_if text c) new) (sym is) part

pub none_chosen_in_part : (text : RunText) (chosen : Chosen) (line : List ℕ) (old new : Option (List ℕ)) → chosen ≡ Err line
    → TakesPrefix old line new → TakesPrefix old (answer_if text chosen) new
none_chosen_in_part text chosen line old new is part = subst (λ c. TakesPrefix old (answer_if text c) new) (sym is) part

-- ---- by what was read

pub of_scenario : (choose : ScenarioParts → Chosen) (bytes : List ℕ) (scenario : ScenarioParts) (Fact : ScenarioParts → Type 0) → scenario_of bytes ≡ Ok scenario
    → IsOkAnd (choose scenario) Fact → OfChosen choose bytes Fact
of_scenario choose bytes scenario Fact is fact = subst (λ (o : Read ScenarioParts). IsOkAnd o (λ s. IsOkAnd (choose s) Fact)) (sym is) fact

pub scenario_answered_in_part : (text : RunText) (choose : ScenarioParts → Chosen) (bytes : List ℕ) (scenario : ScenarioParts) (old new : Option (List ℕ))
    → scenario_of bytes ≡ Ok scenario → TakesPrefix old (answer_if text (choose scenario)) new → TakesPrefix old (answer_by text choose bytes) new
unfolding answer_by
scenario_answered_in_part text choose bytes scenario old new is part =
    subst (λ (o : Read ScenarioParts). TakesPrefix old (answer_to text choose o) new) (sym is) part

pub text_refused_in_part : (text : RunText) (choose : ScenarioParts → Chosen) (bytes : List ℕ) (fault : ScenarioFault) (old new : Option (List ℕ))
    → scenario_of bytes ≡ Err fault → TakesPrefix old (scenario_refusal_line fault) new → TakesPrefix old (answer_by text choose bytes) new
unfolding answer_by
text_refused_in_part text choose bytes fault old new is part =
    subst (λ (o : Read ScenarioParts). TakesPrefix old (answer_to text choose o) new) (sym is) part
