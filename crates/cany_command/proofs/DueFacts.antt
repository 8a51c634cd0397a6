-- What is due, and why.
use Rattle.std.proofs.Common.{◌≡◌, ℕ, ◌<◌, ◌≤◌, Bool, true, false, List, Option, Some, None, Ok, Err, IsOkAnd, option_map, length, refl}
use Rattle.std.specs.Prelude.{nat_lt, if◌then◌else◌}
use Rattle.std.specs.Option.{option_map_or}
use Rattle.std.proofs.lemmas.Bool.{ltb-false, ltb-true}
use Rattle.cany_base.specs.Limits.{most_text_bytes}
use Rattle.cany_base.specs.Scenario.{ScenarioParts}
use Rattle.cany_model.specs.declared.follow.FollowFault.{FollowFault}
use Rattle.cany_model.specs.Runs.Follow.{journal_of}
use Rattle.cany_text.specs.RefusalLines.{journal_refusal_line}
use Rattle.cany_text.specs.ScenarioText.{scenario_of}
use Rattle.cany_text.specs.TomlKeys.{Read}
use Rattle.cany_command.specs.Answers.{OfChosen, answer_by, answer_if, answer_to}
use Rattle.cany_command.specs.Due.{Due, RunText, Success, TextRefused, TooLong, WordsRefused, due_of_bytes, due_of_choice, due_of_read}
use Rattle.cany_command.specs.Performed.{CommandParts, due}
use Rattle.cany_command.specs.Refused.{Chosen, chosen_refusal, own_fault, refusal_by, refusal_for}

-- ---- of a text

-- what is due of a text, by the line that refuses it, the answer to it and the scenario that is run
abbrev TextReason : RunText → Option (List ℕ) → List ℕ → (ScenarioParts → Type 0) → Due → Type 0
TextReason text refusal answer Is (WordsRefused line) = ⊥
TextReason text refusal answer Is TooLong = ⊥
TextReason text refusal answer Is (TextRefused line) = (refusal ≡ Some line) × (answer ≡ line)
TextReason text refusal answer Is (Success scenario) = (refusal ≡ None) × (answer ≡ text scenario (journal_of scenario)) × Is scenario

of_run : (text : RunText) (scenario : ScenarioParts) (own : Option FollowFault) (Is : ScenarioParts → Type 0) → Is scenario
    → TextReason text (option_map journal_refusal_line own) (option_map_or journal_refusal_line own (text scenario (journal_of scenario))) Is
    (option_map_or (λ fault. TextRefused (journal_refusal_line fault)) own (Success scenario))
of_run text scenario None Is is = (refl, refl, is)
of_run text scenario (Some fault) Is is = (refl, refl)

of_choice : (text : RunText) (chosen : Chosen)
    → TextReason text (chosen_refusal chosen) (answer_if text chosen) (λ scenario. IsOkAnd chosen (λ c. c ≡ scenario)) (due_of_choice chosen)
of_choice text (Err line) = (refl, refl)
of_choice text (Ok scenario) = of_run text scenario (own_fault scenario) (λ s. scenario ≡ s) refl

of_read : (text : RunText) (choose : ScenarioParts → Chosen) (read : Read ScenarioParts)
    → TextReason text (refusal_for choose read) (answer_to text choose read) (λ scenario. IsOkAnd read (λ r. IsOkAnd (choose r) (λ c. c ≡ scenario))) (due_of_read choose read)
of_read text choose (Err fault) = (refl, refl)
of_read text choose (Ok scenario) = of_choice text (choose scenario)

-- the scenario is the one that is run for the bytes
abbrev pub IsRunFor : (ScenarioParts → Chosen) → List ℕ → ScenarioParts → Type 0
IsRunFor choose bytes scenario = OfChosen choose bytes (λ chosen. chosen ≡ scenario)

of_text : (text : RunText) (choose : ScenarioParts → Chosen) (bytes : List ℕ)
    → TextReason text (refusal_by choose bytes) (answer_by text choose bytes) (IsRunFor choose bytes) (due_of_read choose (scenario_of bytes))
unfolding refusal_by answer_by
of_text text choose bytes = of_read text choose (scenario_of bytes)

-- ---- of words and bytes

-- why this is due
abbrev pub Reason : CommandParts → List (List ℕ) → List ℕ → Due → Type 0
Reason command said bytes (WordsRefused line) = command.words_refusal said ≡ Some line
Reason command said bytes TooLong = (command.words_refusal said ≡ None) × (most_text_bytes < length bytes)
Reason command said bytes (TextRefused line) =
    (command.words_refusal said ≡ None) × (length bytes ≤ most_text_bytes) × (refusal_by (command.choose said) bytes ≡ Some line)
    × (answer_by (command.text said) (command.choose said) bytes ≡ line)
Reason command said bytes (Success scenario) =
    (command.words_refusal said ≡ None) × (length bytes ≤ most_text_bytes) × (refusal_by (command.choose said) bytes ≡ None)
    × (answer_by (command.text said) (command.choose said) bytes ≡ command.text said scenario (journal_of scenario)) × IsRunFor (command.choose said) bytes scenario

with_text : (command : CommandParts) (said : List (List ℕ)) (bytes : List ℕ) (d : Due) → command.words_refusal said ≡ None → length bytes ≤ most_text_bytes
    → TextReason (command.text said) (refusal_by (command.choose said) bytes) (answer_by (command.text said) (command.choose said) bytes) (IsRunFor (command.choose said) bytes) d
    → Reason command said bytes d
with_text command said bytes (WordsRefused line) none fits h = absurd h
with_text command said bytes TooLong none fits h = absurd h
with_text command said bytes (TextRefused line) none fits h = (none, fits, h.0, h.1)
with_text command said bytes (Success scenario) none fits h = (none, fits, h.0, h.1, h.2)

with_bytes : (command : CommandParts) (said : List (List ℕ)) (bytes : List ℕ) → command.words_refusal said ≡ None → (long : Bool) → nat_lt most_text_bytes (length bytes) ≡ long
    → Reason command said bytes (if long then TooLong else due_of_read (command.choose said) (scenario_of bytes))
with_bytes command said bytes none true is = (none, ltb-true most_text_bytes (length bytes) is)
with_bytes command said bytes none false is =
    with_text command said bytes _ none (ltb-false most_text_bytes (length bytes) is) (of_text (command.text said) (command.choose said) bytes)

with_words : (command : CommandParts) (said : List (List ℕ)) (bytes : List ℕ) (refusal : Option (List ℕ)) → command.words_refusal said ≡ refusal
    → Reason command said bytes (option_map_or WordsRefused refusal (due_of_bytes (command.choose said) bytes))
with_words command said bytes None is = with_bytes command said bytes is (nat_lt most_text_bytes (length bytes)) refl
with_words command said bytes (Some line) is = is

pub reason : (command : CommandParts) (said : List (List ℕ)) (bytes : List ℕ) → Reason command said bytes (due command said bytes)
unfolding due
reason command said bytes = with_words command said bytes (command.words_refusal said) refl
