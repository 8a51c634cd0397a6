-- What every command promises of a call: each answer with its cause.
use Rattle.std.specs.Prelude.{◌≡◌, ◌⊎◌, ◌↔◌, ℕ, List, [], ◌∷◌, Option, Some, None, IfNone, IfSome, IsSome, IsSomeAnd}
use Rattle.std.specs.Option.{option_map_or}
use Rattle.cany_base.specs.declared.step.Step.{Step}
use Rattle.cany_base.specs.Scenario.{ScenarioParts}
use Rattle.cany_io.specs.Faults.{HasRisen}
use Rattle.cany_io.specs.Sink.{Takes, TakesPrefix}
use Rattle.cany_io.specs.Source.{IsAtEnd}
use Rattle.cany_model.specs.Runs.Follow.{journal_of}
use Rattle.cany_command.specs.declared.status.TheConstants.{DONE, NO_MEMORY, OTHER_WORDS, READ_FAULT, REFUSED, TOO_LONG, WRITE_FAULT}
use Rattle.cany_command.specs.Due.{Due, IfSuccess, RunText, Success, TextRefused, TooLong, WordsRefused, due_of_bytes}
use Rattle.cany_command.specs.Promises.{KeepsPromises}
use Rattle.cany_command.specs.Refused.{Chosen, as_read}
use Rattle.cany_command.specs.Status.{HasEnded, HasNoAnswer}

-- a command by its definitions, nearly all of which are functions of its words
pub record CommandParts : Type 1 where
  -- the words are of its form
  pub are_words : List (List ℕ) → Type 0
  -- the line by which it refuses them, before the source is read
  pub words_refusal : List (List ℕ) → Option (List ℕ)
  -- the scenario that it runs for the one that was read, or the line by which it refuses that
  pub choose : List (List ℕ) → ScenarioParts → Chosen
  -- what it writes of a run
  pub text : List (List ℕ) → RunText
  -- the status of success for a run
  pub success : List (List ℕ) → ScenarioParts → List Step → ℕ
  -- all such statuses
  pub is_success : ℕ → Type 0

-- the words are this one word alone
abbrev pub AreOnly : List ℕ → List (List ℕ) → Type 0
AreOnly name said = said ≡ name ∷ []

-- the command of one word that refuses nothing of its own, runs what it reads, and has one status
-- of success
abbrev pub one_word : List ℕ → RunText → CommandParts
one_word name text = record {
  are_words = AreOnly name;
  words_refusal = λ _. None;
  choose = λ _. as_read;
  text = λ _. text;
  success = λ _ _ _. DONE;
  is_success = λ status. status ≡ DONE;
}

-- a stream before and after a call: the bytes that it tells of, left in a source or taken by a
-- sink, and how often it has failed
pub record Stream (S : Type 0) : Type 0 where
  pub bytes : S → Option (List ℕ)
  pub faults : S → ℕ
  pub old : S
  pub new : S

-- what is due for words of the command's form, where these are all bytes of the source
unfoldable pub due : CommandParts → List (List ℕ) → List ℕ → Due
due command said bytes = option_map_or WordsRefused (command.words_refusal said) (due_of_bytes (command.choose said) bytes)

-- the status that is due
abbrev pub status_due : CommandParts → List (List ℕ) → Due → ℕ
status_due command said (WordsRefused line) = REFUSED
status_due command said TooLong = TOO_LONG
status_due command said (TextRefused line) = REFUSED
status_due command said (Success scenario) = command.success said scenario (journal_of scenario)

-- the text that is due, where there is one
abbrev pub text_due : CommandParts → List (List ℕ) → Due → Option (List ℕ)
text_due command said (WordsRefused line) = Some line
text_due command said TooLong = None
text_due command said (TextRefused line) = Some line
text_due command said (Success scenario) = Some (command.text said scenario (journal_of scenario))

-- What is due was done: the answer is its status, and all of its text was written. If it is the run
-- of a scenario, the promises hold of that run.
pub record IsDone {K : Type 0} (command : CommandParts) (said : List (List ℕ)) (due : Due) (sink : Stream K) (answer : ℕ) : Type 0 where
  pub status : answer ≡ status_due command said due
  pub written : IfSome (text_due command said due) (λ text. Takes (sink.bytes sink.old) text (sink.bytes sink.new))
  pub success : IfSuccess due (λ scenario. command.is_success answer × KeepsPromises scenario)

-- The source failed. It is read only for words that the command does not refuse.
pub record HasReadFault {S : Type 0} (command : CommandParts) (said : List (List ℕ)) (source : Stream S) (answer : ℕ) : Type 0 where
  pub status : answer ≡ READ_FAULT
  pub risen : HasRisen (source.faults source.old) (source.faults source.new)
  pub accepted : command.words_refusal said ≡ None

-- The sink failed. It took the start of the text that is due.
pub record HasWriteFault {K : Type 0} (command : CommandParts) (said : List (List ℕ)) (due : Due) (sink : Stream K) (answer : ℕ) : Type 0 where
  pub status : answer ≡ WRITE_FAULT
  pub risen : HasRisen (sink.faults sink.old) (sink.faults sink.new)
  pub prefix : IsSomeAnd (text_due command said due) (λ text. TakesPrefix (sink.bytes sink.old) text (sink.bytes sink.new))

-- What is promised of a call of the command for these words that answers this status.
-- `proofs/Causes.antt` reads off it what each status says.
pub record IsPerformed {S K : Type 0} (command : CommandParts) (said : List (List ℕ)) (source : Stream S) (sink : Stream K) (answer : ℕ) : Type 0 where
  -- The words alone decide on this status.
  pub words : (answer ≡ OTHER_WORDS) ↔ (command.are_words said → ⊥)
  -- The source had these bytes. Where it tells its bytes, they are those.
  pub bytes : List ℕ
  pub told : IfSome (source.bytes source.old) (λ known. bytes ≡ known)
  -- For words of the command's form what is due was done, or a stream failed, or there was no
  -- memory.
  pub outcome : (answer ≡ OTHER_WORDS)
      ⊎ IsDone command said (due command said bytes) sink answer
      ⊎ HasReadFault command said source answer
      ⊎ HasWriteFault command said (due command said bytes) sink answer
      ⊎ (answer ≡ NO_MEMORY)
  -- Nothing is read for other words, nor for words that the command refuses.
  pub unread : (answer ≡ OTHER_WORDS) ⊎ IsSome (command.words_refusal said) → source.new ≡ source.old
  -- A text that was answered or refused, or was to be, was read to the end of the source.
  pub drained : HasEnded command.is_success answer → IfNone (command.words_refusal said) (IsAtEnd (source.bytes source.new))
  -- Nothing is written for other words or too many bytes, after a fault of the source, or out of
  -- memory.
  pub unwritten : HasNoAnswer answer → sink.new ≡ sink.old
