-- The command `media`: what it refuses, which scenario it runs, what it writes, and what its
-- success says.
use Rattle.std.specs.Prelude.{◌≡◌, ◌≤◌, ℕ, nat_le, if◌then◌else◌, List, [], length, Option, unwrap_or, option_map, option_and_then, Ok, Err}
use Rattle.cany_base.specs.declared.step.Step.{Step}
use Rattle.cany_base.specs.Limits.{most_rules}
use Rattle.cany_base.specs.Scenario.{ScenarioParts}
use Rattle.cany_command.specs.declared.status.TheConstants.{DONE}
use Rattle.cany_command.specs.Performed.{CommandParts}
use Rattle.cany_command.specs.Promises.{KeepsPromises}
use Rattle.cany_command.specs.Refused.{Chosen}
use Rattle.cany_io.specs.Sink.{Takes}
use Rattle.cany_model.specs.Runs.Follow.{journal_of}
use Rattle.cany_model.specs.Runs.Run.{run}
use Rattle.cany_media.specs.declared.refusal.MediaRefusal.TheVariants.{Overlap, TooMany}
use Rattle.cany_media.specs.MediaRun.{media_run}
use Rattle.cany_media.specs.MediaText.{media_refusal_line, media_text}
use Rattle.cany_media.specs.MediaWords.{AreMedia, media_faults}
use Rattle.cany_media.specs.Overlaps.{first_overlap}
use Rattle.cany_media.specs.Plan.{FaultParts}
use Rattle.cany_media.specs.Single.{single_bus, single_rules}

-- the line by which the words are refused: a fault that shares a slot with an earlier one
abbrev pub overlap_refusal : List (List ℕ) → Option (List ℕ)
overlap_refusal said = option_map (λ index. media_refusal_line (Overlap index)) (option_and_then first_overlap (media_faults said))

-- the faults that the words name
abbrev pub faults_of : List (List ℕ) → List FaultParts
faults_of said = unwrap_or (media_faults said) []

-- what is run for a scenario: that of one bus, where it has no more rules than a scenario can have
abbrev pub chosen_for : List FaultParts → ScenarioParts → Chosen
chosen_for faults scenario =
    if nat_le (length (single_rules scenario faults)) most_rules
    then Ok (single_bus scenario faults)
    else Err (media_refusal_line (TooMany (length (single_rules scenario faults))))

unfoldable pub media_choice : List (List ℕ) → ScenarioParts → Chosen
media_choice said scenario = chosen_for (faults_of said) scenario

-- what is written of the run of that scenario
unfoldable pub text_of : List (List ℕ) → ScenarioParts → List Step → List ℕ
text_of said scenario journal = media_text (faults_of said) scenario journal

-- the command
abbrev pub media_command : CommandParts
media_command = record {
  are_words = AreMedia;
  words_refusal = overlap_refusal;
  choose = media_choice;
  text = text_of;
  success = λ _ _ _. DONE;
  is_success = λ status. status ≡ DONE;
}

-- what success says of the faults, of the scenario that was read, and of what the sink had taken
-- before and has taken now
pub record IsMedia (faults : List FaultParts) (scenario : ScenarioParts) (old new : Option (List ℕ)) : Type 0 where
  -- a line for each fault was written, and then the report of the scenario of one bus
  pub written : Takes old (media_text faults (single_bus scenario faults) (journal_of (single_bus scenario faults))) new
  pub promises : KeepsPromises (single_bus scenario faults)
  -- the run that is reported is the run over two media
  pub run : media_run scenario faults (journal_of (single_bus scenario faults))
      ≡ run (single_bus scenario faults) (journal_of (single_bus scenario faults))
  -- that scenario has no more rules than one can have
  pub few : length (single_rules scenario faults) ≤ most_rules
