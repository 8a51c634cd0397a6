-- The line that refuses a text, by what was read of it and by what the command chose to run.
use Rattle.std.proofs.Common.{◌≡◌, ℕ, List, Option, Some, None, option_map, Ok, Err, IsSomeAnd, sym, ◌∙◌, ap, subst}
use Rattle.cany_base.specs.Scenario.{ScenarioParts}
use Rattle.cany_io.specs.Sink.{Takes}
use Rattle.cany_model.specs.declared.follow.FollowFault.{FollowFault}
use Rattle.cany_text.specs.declared.scenario_fault.ScenarioFault.{ScenarioFault}
use Rattle.cany_text.specs.RefusalLines.{journal_refusal_line, scenario_refusal_line}
use Rattle.cany_text.specs.ScenarioText.{scenario_of}
use Rattle.cany_text.specs.TomlKeys.{Read}
use Rattle.cany_command.specs.Refused.{Chosen, chosen_refusal, own_fault, refusal_by, refusal_for}

-- ---- by what the command chose

pub chosen_is_accepted : (chosen : Chosen) (scenario : ScenarioParts) → chosen ≡ Ok scenario → own_fault scenario ≡ None → chosen_refusal chosen ≡ None
chosen_is_accepted chosen scenario is followed = ap chosen_refusal is ∙ ap (option_map journal_refusal_line) followed

-- the line of a journal's fault
line_for : (o : Option FollowFault) (old new : Option (List ℕ)) → IsSomeAnd o (λ fault. Takes old (journal_refusal_line fault) new)
    → IsSomeAnd (option_map journal_refusal_line o) (λ line. Takes old line new)
line_for None old new h = h
line_for (Some fault) old new h = h

pub chosen_journal_refused : (chosen : Chosen) (scenario : ScenarioParts) (old new : Option (List ℕ)) → chosen ≡ Ok scenario
    → IsSomeAnd (own_fault scenario) (λ fault. Takes old (journal_refusal_line fault) new) → IsSomeAnd (chosen_refusal chosen) (λ line. Takes old line new)
chosen_journal_refused chosen scenario old new is taken =
    let P : Chosen → Type 0 = λ c. IsSomeAnd (chosen_refusal c) (λ line. Takes old line new) in
    subst P (sym is) (line_for (own_fault scenario) old new taken)

pub none_chosen_refused : (chosen : Chosen) (line : List ℕ) (old new : Option (List ℕ)) → chosen ≡ Err line → Takes old line new
    → IsSomeAnd (chosen_refusal chosen) (λ l. Takes old l new)
none_chosen_refused chosen line old new is taken =
    let P : Chosen → Type 0 = λ c. IsSomeAnd (chosen_refusal c) (λ l. Takes old l new) in
    subst P (sym is) taken

-- ---- by what was read

pub accepted : (choose : ScenarioParts → Chosen) (bytes : List ℕ) (scenario : ScenarioParts) → scenario_of bytes ≡ Ok scenario
    → chosen_refusal (choose scenario) ≡ None → refusal_by choose bytes ≡ None
unfolding refusal_by
accepted choose bytes scenario is chosen = ap (refusal_for choose) is ∙ chosen

pub scenario_refused : (choose : ScenarioParts → Chosen) (bytes : List ℕ) (scenario : ScenarioParts) (old new : Option (List ℕ)) → scenario_of bytes ≡ Ok scenario
    → IsSomeAnd (chosen_refusal (choose scenario)) (λ line. Takes old line new) → IsSomeAnd (refusal_by choose bytes) (λ line. Takes old line new)
unfolding refusal_by
scenario_refused choose bytes scenario old new is taken =
    let P : Read ScenarioParts → Type 0 = λ o. IsSomeAnd (refusal_for choose o) (λ line. Takes old line new) in
    subst P (sym is) taken

pub text_refused : (choose : ScenarioParts → Chosen) (bytes : List ℕ) (fault : ScenarioFault) (old new : Option (List ℕ)) → scenario_of bytes ≡ Err fault
    → Takes old (scenario_refusal_line fault) new → IsSomeAnd (refusal_by choose bytes) (λ line. Takes old line new)
unfolding refusal_by
text_refused choose bytes fault old new is taken =
    let P : Read ScenarioParts → Type 0 = λ o. IsSomeAnd (refusal_for choose o) (λ line. Takes old line new) in
    subst P (sym is) taken
