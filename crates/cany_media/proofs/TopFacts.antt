-- What is refused, what is run, and what success says of a run.
use Rattle.std.proofs.Common.{◌≡◌, ℕ, ◌<◌, ◌≤◌, length, List, ◌++◌, Option, Some, None, Result, Ok, Err, IsOkAnd, refl, sym, ap, ◌∙◌, inl, inr}
use Rattle.std.specs.Prelude.{IfErr, IfOk, IfSome, nat_le}
use Rattle.std.proofs.lemmas.Bool.{cases_Bool, leb-true}
use Rattle.cany_base.specs.declared.step.Step.{Step}
use Rattle.cany_base.specs.Limits.{most_rules}
use Rattle.cany_base.specs.Scenario.{ScenarioParts}
use Rattle.cany_command.specs.Answers.{IsAnswered, OfChosen}
use Rattle.cany_command.specs.declared.command_fault.CommandFault.{CommandFault}
use Rattle.cany_command.specs.declared.command_fault.CommandFault.TheVariants.{Refused, Memory}
use Rattle.cany_command.specs.Faults.{IfRefused}
use Rattle.cany_model.specs.Runs.Follow.{journal_of}
use Rattle.cany_text.specs.Report.{report}
use Rattle.cany_text.specs.ScenarioText.{scenario_of}
use Rattle.cany_text.specs.TomlKeys.{Read}
use Rattle.cany_media.specs.declared.refusal.MediaRefusal.{MediaRefusal}
use Rattle.cany_media.specs.declared.refusal.MediaRefusal.TheVariants.{Overlap, TooMany}
use Rattle.cany_media.specs.MediaText.{media_refusal_line, media_text, medium_lines}
use Rattle.cany_media.specs.MediaWords.{media_faults}
use Rattle.cany_media.specs.Overlaps.{first_overlap}
use Rattle.cany_media.specs.Plan.{FaultParts}
use Rattle.cany_media.specs.Single.{single_bus, single_rules}
use Rattle.cany_media.specs.Top.{IsMedia, chosen_for, faults_of, media_choice, overlap_refusal, text_of}
use Rattle.cany_media.proofs.MediaRuns.{media_is_single}
use Rattle.cany_media.proofs.StretchFacts.{gt_leb, le_leb}

-- where the words name these faults
faults_are : (said : List (List ℕ)) (plan : List FaultParts) → media_faults said ≡ Some plan → faults_of said ≡ plan
faults_are said plan named = rw named refl

pub choice_is : (said : List (List ℕ)) (plan : List FaultParts) (scenario : ScenarioParts) → media_faults said ≡ Some plan
    → media_choice said scenario ≡ chosen_for plan scenario
unfolding media_choice
choice_is said plan scenario named = ap (λ fs. chosen_for fs scenario) (faults_are said plan named)

pub text_is : (said : List (List ℕ)) (plan : List FaultParts) (scenario : ScenarioParts) (journal : List Step) → media_faults said ≡ Some plan
    → text_of said scenario journal ≡ media_text plan scenario journal
unfolding text_of
text_is said plan scenario journal named = ap (λ fs. media_text fs scenario journal) (faults_are said plan named)

-- the lines of the faults, and then the report
pub text_made : (said : List (List ℕ)) (plan : List FaultParts) (lines : List ℕ) (scenario : ScenarioParts) (journal : List Step) → media_faults said ≡ Some plan
    → lines ≡ medium_lines plan → lines ++ report scenario journal ≡ text_of said scenario journal
text_made said plan lines scenario journal named are = ap (λ text. text ++ report scenario journal) are ∙ sym (text_is said plan scenario journal named)

-- ---- the scenario that is run

pub chosen_by : {E : Type 0} (plan : List FaultParts) (scenario : ScenarioParts) (result : Result ScenarioParts E)
    → IfOk result (λ one. chosen_for plan scenario ≡ Ok one)
    → IfOk result (λ one. (said : List (List ℕ)) → media_faults said ≡ Some plan → media_choice said scenario ≡ Ok one)
chosen_by plan scenario (Ok one) h = λ said named. choice_is said plan scenario named ∙ h
chosen_by plan scenario (Err fault) h = h

by_fault : (plan : List FaultParts) (scenario : ScenarioParts) (fault : CommandFault MediaRefusal)
    → IfRefused fault (λ refusal. chosen_for plan scenario ≡ Err (media_refusal_line refusal))
    → IfRefused fault (λ refusal. (said : List (List ℕ)) → media_faults said ≡ Some plan → media_choice said scenario ≡ Err (media_refusal_line refusal))
by_fault plan scenario (Refused refusal) h = λ said named. choice_is said plan scenario named ∙ h
by_fault plan scenario Memory h = h

pub refused_chosen : {A : Type 0} (plan : List FaultParts) (scenario : ScenarioParts) (result : Result A (CommandFault MediaRefusal))
    → IfErr result (λ fault. IfRefused fault (λ refusal. chosen_for plan scenario ≡ Err (media_refusal_line refusal)))
    → IfErr result (λ fault. IfRefused fault (λ refusal. (said : List (List ℕ)) → media_faults said ≡ Some plan
    → media_choice said scenario ≡ Err (media_refusal_line refusal)))
refused_chosen plan scenario (Ok one) h = h
refused_chosen plan scenario (Err fault) h = by_fault plan scenario fault h

-- ---- refusals

pub accepted_by : (said : List (List ℕ)) (faults : List FaultParts) → media_faults said ≡ Some faults → first_overlap faults ≡ None → overlap_refusal said ≡ None
accepted_by said faults named none = rw (named, none) refl

pub refused_by : (said : List (List ℕ)) (faults : List FaultParts) (index : ℕ) → media_faults said ≡ Some faults → first_overlap faults ≡ Some index
    → overlap_refusal said ≡ Some (media_refusal_line (Overlap index))
refused_by said faults index named first = rw (named, first) refl

pub chosen_few : (plan : List FaultParts) (scenario : ScenarioParts) → length (single_rules scenario plan) ≤ most_rules → chosen_for plan scenario ≡ Ok (single_bus scenario plan)
chosen_few plan scenario few = rw (le_leb (length (single_rules scenario plan)) most_rules few) refl

pub chosen_many : (plan : List FaultParts) (scenario : ScenarioParts) (rules : ℕ) → rules ≡ length (single_rules scenario plan) → most_rules < rules
    → chosen_for plan scenario ≡ Err (media_refusal_line (TooMany rules))
chosen_many plan scenario rules is many = rw (gt_leb (length (single_rules scenario plan)) most_rules (rw is at many), is) refl

-- ---- success

-- the scenario of one bus was run for the one that was read
told : (said : List (List ℕ)) (scenario : ScenarioParts) (old new : Option (List ℕ))
    → IsOkAnd (media_choice said scenario) (λ one. IsAnswered (text_of said) one old new) → IsMedia (faults_of said) scenario old new
unfolding media_choice text_of
told said scenario old new h = elim (cases_Bool (nat_le (length (single_rules scenario (faults_of said))) most_rules)) [
  | inl few ↦
      let faults = faults_of said in
      let answered : IsAnswered (media_text faults) (single_bus scenario faults) old new = rw few at h in
      record {
        written = answered.written;
        promises = answered.promises;
        run = media_is_single scenario faults (journal_of (single_bus scenario faults));
        few = leb-true (length (single_rules scenario faults)) most_rules few;
      }
  | inr many ↦ absurd (rw many at h)
]

told_of : (said : List (List ℕ)) (read : Read ScenarioParts) (old new : Option (List ℕ))
    → IsOkAnd read (λ scenario. IsOkAnd (media_choice said scenario) (λ one. IsAnswered (text_of said) one old new))
    → IsOkAnd read (λ scenario. IsMedia (faults_of said) scenario old new)
told_of said (Ok scenario) old new h = told said scenario old new h
told_of said (Err fault) old new h = h

-- of all bytes that the source had
pub told_if : (said : List (List ℕ)) (left : Option (List ℕ)) (old new : Option (List ℕ))
    → IfSome left (λ bytes. OfChosen (media_choice said) bytes (λ one. IsAnswered (text_of said) one old new))
    → IfSome left (λ bytes. IsOkAnd (scenario_of bytes) (λ scenario. IsMedia (faults_of said) scenario old new))
told_if said None old new h = h
told_if said (Some bytes) old new h = told_of said (scenario_of bytes) old new h
