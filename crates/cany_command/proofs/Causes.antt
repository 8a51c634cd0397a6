-- What each status of a call says, read off what is promised of it.
use Rattle.std.proofs.Common.{◌≡◌, ◌↔◌, ◌<◌, ◌≤◌, ◌⊎◌, ℕ, List, Option, None, Some, Result, Ok, Err, IsOkAnd, length, inl, inr, arith, subst, sym, refl}
use Rattle.std.specs.Prelude.{IfNone, IfSome, IsSome, IsSomeAnd, MatchOption}
use Rattle.cany_base.specs.Limits.{most_text_bytes}
use Rattle.cany_base.specs.Scenario.{ScenarioParts}
use Rattle.cany_io.specs.Faults.{HasRisen, StandsStill}
use Rattle.cany_io.specs.Sink.{Takes, TakesPrefix}
use Rattle.cany_io.specs.Source.{IsAtEnd}
use Rattle.cany_model.specs.Runs.Follow.{journal_of}
use Rattle.cany_command.specs.declared.status.TheConstants.{NO_MEMORY, OTHER_WORDS, READ_FAULT, REFUSED, TOO_LONG, WRITE_FAULT}
use Rattle.cany_command.specs.Answers.{IsAnswered, OfChosen, answer_by}
use Rattle.cany_command.specs.Due.{Due, Success, TextRefused, TooLong, WordsRefused}
use Rattle.cany_command.specs.Performed.{CommandParts, HasWriteFault, IsDone, IsPerformed, Stream, due, text_due}
use Rattle.cany_command.specs.Refused.{Chosen, refusal_by}
use Rattle.cany_command.specs.Status.{HasEnded, HasNoAnswer}
use Rattle.cany_command.proofs.DueFacts.{IsRunFor, Reason, reason}
use Rattle.cany_command.proofs.PerformedFacts.{NoFault, at_line, if_none, if_some, no_answer_high, no_answer_low, not_ended, not_some, of_all, past_line, rose, success_is_other, told_then, told_then_any, unrefused}

abbrev IsWithin : List ℕ → Type 0
IsWithin bytes = length bytes ≤ most_text_bytes

abbrev IsAbove : List ℕ → Type 0
IsAbove bytes = most_text_bytes < length bytes

-- what the bytes of a text decide, and what their number does
abbrev IsDecided : CommandParts → List (List ℕ) → ℕ → List ℕ → Type 0
IsDecided command said answer bytes =
    (answer ≡ NO_MEMORY) ⊎ MatchOption (refusal_by (command.choose said) bytes) (command.is_success answer) (λ _. answer ≡ REFUSED)

abbrev IsTooLong : ℕ → Type 0
IsTooLong answer = (answer ≡ NO_MEMORY) ⊎ (answer ≡ TOO_LONG)

to_ok : {A E : Type 0} (o : Result A E) (P Q : A → Type 0) → IsOkAnd o P → ((x : A) → P x → Q x) → IsOkAnd o Q
to_ok (Ok x) P Q p h = h x p
to_ok (Err e) P Q p h = p

-- what is said of the scenario that is run, of the bytes
for_run : (choose : ScenarioParts → Chosen) (bytes : List ℕ) (scenario : ScenarioParts) (Fact : ScenarioParts → Type 0) → IsRunFor choose bytes scenario
    → Fact scenario → OfChosen choose bytes Fact
for_run choose bytes scenario Fact is fact =
    to_ok _ (λ s. IsOkAnd (choose s) (λ c. c ≡ scenario)) (λ s. IsOkAnd (choose s) Fact) is
    (λ s is_chosen. to_ok (choose s) (λ c. c ≡ scenario) Fact is_chosen (λ c same. subst Fact (sym same) fact))

where_some : {A : Type 0} (o : Option A) (P : Type 0) → (IsSome o → P) → IfSome o (λ _. P)
where_some None P h = tt
where_some (Some x) P h = h refl

-- What a status says of a call that answers it. Here, `bytes` are all that the source had.
pub record HasCauses {S K : Type 0} (command : CommandParts) (said : List (List ℕ)) (source : Stream S) (sink : Stream K) (answer : ℕ) : Type 0 where
  -- The words alone decide on this status.
  pub words : (answer ≡ OTHER_WORDS) ↔ (command.are_words said → ⊥)
  pub unread : answer ≡ OTHER_WORDS → source.new ≡ source.old
  -- Where the command refuses its words, they alone decide, unless the sink fails or there is no
  -- memory.
  pub early : command.are_words said → IfSome (command.words_refusal said) (λ _.
      (answer ≡ REFUSED) ⊎ (answer ≡ WRITE_FAULT) ⊎ (answer ≡ NO_MEMORY))
  pub early_unread : IfSome (command.words_refusal said) (λ _. source.new ≡ source.old)
  -- Success.
  pub done : command.is_success answer → IfSome (source.bytes source.old) (λ bytes.
      OfChosen (command.choose said) bytes (λ chosen. IsAnswered (command.text said) chosen (sink.bytes sink.old) (sink.bytes sink.new)))
  pub success : command.is_success answer → IfSome (source.bytes source.old) (λ bytes.
      OfChosen (command.choose said) bytes (λ chosen. answer ≡ command.success said chosen (journal_of chosen)))
  -- The words, the text, the scenario or the journal is refused.
  pub refused : answer ≡ REFUSED → MatchOption (command.words_refusal said)
      (IfSome (source.bytes source.old) (λ bytes. IsSomeAnd (refusal_by (command.choose said) bytes) (λ line.
      Takes (sink.bytes sink.old) line (sink.bytes sink.new))))
      (λ line. Takes (sink.bytes sink.old) line (sink.bytes sink.new))
  -- The streams fail.
  pub read_fault : answer ≡ READ_FAULT → HasRisen (source.faults source.old) (source.faults source.new)
  pub write_fault : answer ≡ WRITE_FAULT → HasRisen (sink.faults sink.old) (sink.faults sink.new)
  pub prefix : answer ≡ WRITE_FAULT → MatchOption (command.words_refusal said)
      (IfSome (source.bytes source.old) (λ bytes.
      TakesPrefix (sink.bytes sink.old) (answer_by (command.text said) (command.choose said) bytes) (sink.bytes sink.new)))
      (λ line. TakesPrefix (sink.bytes sink.old) line (sink.bytes sink.new))
  -- The source has too many bytes, or all of them were read.
  pub too_long : answer ≡ TOO_LONG → IfSome (source.bytes source.old) (λ bytes. most_text_bytes < length bytes)
  pub fits : HasEnded command.is_success answer → IfNone (command.words_refusal said)
      (IfSome (source.bytes source.old) (λ bytes. length bytes ≤ most_text_bytes))
  pub drained : HasEnded command.is_success answer → IfNone (command.words_refusal said)
      (IsAtEnd (source.bytes source.new))
  -- Nothing else writes.
  pub unwritten : HasNoAnswer answer → sink.new ≡ sink.old
  pub status : HasEnded command.is_success answer ⊎ HasNoAnswer answer
  -- Where neither stream fails, the words and the text decide, unless there is no memory.
  pub complete : command.are_words said
      → StandsStill (source.faults source.old) (source.faults source.new)
      → StandsStill (sink.faults sink.old) (sink.faults sink.new)
      → IfNone (command.words_refusal said) (IfSome (source.bytes source.old) (λ bytes. length bytes ≤ most_text_bytes
      → (answer ≡ NO_MEMORY) ⊎ MatchOption (refusal_by (command.choose said) bytes) (command.is_success answer) (λ _. answer ≡ REFUSED)))
  pub complete_too_long : command.are_words said
      → StandsStill (source.faults source.old) (source.faults source.new)
      → IfNone (command.words_refusal said) (IfSome (source.bytes source.old) (λ bytes. most_text_bytes < length bytes
      → (answer ≡ NO_MEMORY) ⊎ (answer ≡ TOO_LONG)))

module _ {S K : Type 0} (command : CommandParts) (said : List (List ℕ)) (source : Stream S) (sink : Stream K) (answer : ℕ) (no_fault : NoFault command) where
  -- a status of success is none of the others
  other : command.is_success answer → OTHER_WORDS ≤ answer → answer ≤ TOO_LONG → ⊥
  other = success_is_other command answer no_fault

  abbrev Taken : List ℕ → Type 0
  Taken line = Takes (sink.bytes sink.old) line (sink.bytes sink.new)

  abbrev TakenInPart : List ℕ → Type 0
  TakenInPart line = TakesPrefix (sink.bytes sink.old) line (sink.bytes sink.new)

  -- ---- where what is due was done

  module _ (bytes : List ℕ) (told : IfSome (source.bytes source.old) (λ known. bytes ≡ known)) where
    of_told : (P : List ℕ → Type 0) → P bytes → IfSome (source.bytes source.old) P
    of_told P p = of_all (source.bytes source.old) bytes P told p

    done_ended : (d : Due) → IsDone command said d sink answer → (answer ≡ TOO_LONG) ⊎ HasEnded command.is_success answer
    done_ended (WordsRefused line) it = inr (inr (inl it.status))
    done_ended TooLong it = inl it.status
    done_ended (TextRefused line) it = inr (inr (inl it.status))
    done_ended (Success scenario) it = inr (inl it.success.0)

    done_early : (d : Due) → Reason command said bytes d → IsDone command said d sink answer → IfSome (command.words_refusal said) (λ _.
        (answer ≡ REFUSED) ⊎ (answer ≡ WRITE_FAULT) ⊎ (answer ≡ NO_MEMORY))
    done_early (WordsRefused line) why it = if_some (command.words_refusal said) _ (inl it.status)
    done_early TooLong why it = not_some (command.words_refusal said) _ why.0
    done_early (TextRefused line) why it = not_some (command.words_refusal said) _ why.0
    done_early (Success scenario) why it = not_some (command.words_refusal said) _ why.0

    done_success : (d : Due) → Reason command said bytes d → IsDone command said d sink answer → command.is_success answer
        → IfSome (source.bytes source.old) (λ b. OfChosen (command.choose said) b (λ chosen. IsAnswered (command.text said) chosen (sink.bytes sink.old) (sink.bytes sink.new)))
        × IfSome (source.bytes source.old) (λ b. OfChosen (command.choose said) b (λ chosen. answer ≡ command.success said chosen (journal_of chosen)))
    done_success (WordsRefused line) why it success = absurd (other success (omega (arith, it.status)) (omega (arith, it.status)))
    done_success TooLong why it success = absurd (other success (omega (arith, it.status)) (omega (arith, it.status)))
    done_success (TextRefused line) why it success = absurd (other success (omega (arith, it.status)) (omega (arith, it.status)))
    done_success (Success scenario) why it success = (
      of_told _ (for_run (command.choose said) bytes scenario _ why.4 (record { written = it.written; promises = it.success.1 })),
      of_told _ (for_run (command.choose said) bytes scenario _ why.4 it.status),
    )

    done_refused : (d : Due) → Reason command said bytes d → IsDone command said d sink answer → answer ≡ REFUSED
        → MatchOption (command.words_refusal said) (IfSome (source.bytes source.old) (λ b. IsSomeAnd (refusal_by (command.choose said) b) Taken)) Taken
    done_refused (WordsRefused line) why it is = at_line (command.words_refusal said) line _ _ why it.written
    done_refused TooLong why it is = absurd (omega (arith, it.status, is))
    done_refused (TextRefused line) why it is =
        unrefused (command.words_refusal said) _ _ why.0 (of_told _ (subst (λ o. IsSomeAnd o Taken) (sym why.2) it.written))
    done_refused (Success scenario) why it is = absurd (other it.success.0 (omega (arith, is)) (omega (arith, is)))

    done_long : (d : Due) → Reason command said bytes d → IsDone command said d sink answer → answer ≡ TOO_LONG → IfSome (source.bytes source.old) IsAbove
    done_long (WordsRefused line) why it is = absurd (omega (arith, it.status, is))
    done_long TooLong why it is = of_told _ why.1
    done_long (TextRefused line) why it is = absurd (omega (arith, it.status, is))
    done_long (Success scenario) why it is = absurd (other it.success.0 (omega (arith, is)) (omega (arith, is)))

    done_fits : (d : Due) → Reason command said bytes d → IsDone command said d sink answer → HasEnded command.is_success answer
        → IfNone (command.words_refusal said) (IfSome (source.bytes source.old) IsWithin)
    done_fits (WordsRefused line) why it ended = past_line (command.words_refusal said) line _ why
    done_fits TooLong why it ended = absurd (not_ended command answer (λ yes. other yes (omega (arith, it.status)) (omega (arith, it.status)))
        (inr (inr (inr it.status))) ended)
    done_fits (TextRefused line) why it ended = if_none (command.words_refusal said) _ (of_told _ why.1)
    done_fits (Success scenario) why it ended = if_none (command.words_refusal said) _ (of_told _ why.1)

    done_complete : (d : Due) → Reason command said bytes d → IsDone command said d sink answer
        → IfNone (command.words_refusal said) (IfSome (source.bytes source.old) (λ b. IsWithin b → IsDecided command said answer b))
    done_complete (WordsRefused line) why it = past_line (command.words_refusal said) line _ why
    done_complete TooLong why it = if_none (command.words_refusal said) _ (of_told _ (λ within. absurd (omega (arith, why.1, within))))
    done_complete (TextRefused line) why it = if_none (command.words_refusal said) _ (of_told _ (λ within.
        inr (at_line (refusal_by (command.choose said) bytes) line _ _ why.2 it.status)))
    done_complete (Success scenario) why it = if_none (command.words_refusal said) _ (of_told _ (λ within.
        inr (unrefused (refusal_by (command.choose said) bytes) _ _ why.2 it.success.0)))

    done_complete_too_long : (d : Due) → Reason command said bytes d → IsDone command said d sink answer
        → IfNone (command.words_refusal said) (IfSome (source.bytes source.old) (λ b. IsAbove b → IsTooLong answer))
    done_complete_too_long (WordsRefused line) why it = past_line (command.words_refusal said) line _ why
    done_complete_too_long TooLong why it = if_none (command.words_refusal said) _ (of_told _ (λ above. inr it.status))
    done_complete_too_long (TextRefused line) why it = if_none (command.words_refusal said) _ (of_told _ (λ above. absurd (omega (arith, why.1, above))))
    done_complete_too_long (Success scenario) why it = if_none (command.words_refusal said) _ (of_told _ (λ above. absurd (omega (arith, why.1, above))))

    -- ---- where the sink failed

    failed_early : (d : Due) → Reason command said bytes d → IsSomeAnd (text_due command said d) TakenInPart
        → MatchOption (command.words_refusal said) (IfSome (source.bytes source.old) (λ b. TakenInPart (answer_by (command.text said) (command.choose said) b))) TakenInPart
    failed_early (WordsRefused line) why part = at_line (command.words_refusal said) line _ _ why part
    failed_early TooLong why part = absurd part
    failed_early (TextRefused line) why part = unrefused (command.words_refusal said) _ _ why.0 (of_told _ (subst TakenInPart (sym why.3) part))
    failed_early (Success scenario) why part = unrefused (command.words_refusal said) _ _ why.0 (of_told _ (subst TakenInPart (sym why.3) part))

    failed_fits : (d : Due) → Reason command said bytes d → IsSomeAnd (text_due command said d) TakenInPart
        → IfNone (command.words_refusal said) (IfSome (source.bytes source.old) IsWithin)
    failed_fits (WordsRefused line) why part = past_line (command.words_refusal said) line _ why
    failed_fits TooLong why part = absurd part
    failed_fits (TextRefused line) why part = if_none (command.words_refusal said) _ (of_told _ why.1)
    failed_fits (Success scenario) why part = if_none (command.words_refusal said) _ (of_told _ why.1)

  -- ---- where a stream failed, there was no memory, or the words are other

  not_done : HasNoAnswer answer → HasEnded command.is_success answer → ⊥
  not_done none = not_ended command answer (λ success. other success (no_answer_low answer none) (no_answer_high answer none)) none

  not_a_read_fault : (d : Due) → IsDone command said d sink answer → answer ≡ READ_FAULT → ⊥
  not_a_read_fault (WordsRefused line) it is = omega (arith, it.status, is)
  not_a_read_fault TooLong it is = omega (arith, it.status, is)
  not_a_read_fault (TextRefused line) it is = omega (arith, it.status, is)
  not_a_read_fault (Success scenario) it is = other it.success.0 (omega (arith, is)) (omega (arith, is))

  not_a_write_fault : (d : Due) → IsDone command said d sink answer → answer ≡ WRITE_FAULT → ⊥
  not_a_write_fault (WordsRefused line) it is = omega (arith, it.status, is)
  not_a_write_fault TooLong it is = omega (arith, it.status, is)
  not_a_write_fault (TextRefused line) it is = omega (arith, it.status, is)
  not_a_write_fault (Success scenario) it is = other it.success.0 (omega (arith, is)) (omega (arith, is))

  at_write_fault : (p : IsPerformed command said source sink answer) → answer ≡ WRITE_FAULT → HasWriteFault command said (due command said p.bytes) sink answer
  at_write_fault p is = elim p.outcome [
    | inl e ↦ absurd (omega (arith, e, is))
    | inr (inl it) ↦ absurd (not_a_write_fault (due command said p.bytes) it is)
    | inr (inr (inl it)) ↦ absurd (omega (arith, it.status, is))
    | inr (inr (inr (inl it))) ↦ it
    | inr (inr (inr (inr e))) ↦ absurd (omega (arith, e, is))
  ]

  at_success : (p : IsPerformed command said source sink answer) → command.is_success answer
      → IfSome (source.bytes source.old) (λ b. OfChosen (command.choose said) b (λ chosen. IsAnswered (command.text said) chosen (sink.bytes sink.old) (sink.bytes sink.new)))
      × IfSome (source.bytes source.old) (λ b. OfChosen (command.choose said) b (λ chosen. answer ≡ command.success said chosen (journal_of chosen)))
  at_success p success = elim p.outcome [
    | inl e ↦ absurd (other success (omega (arith, e)) (omega (arith, e)))
    | inr (inl it) ↦ done_success p.bytes p.told (due command said p.bytes) (reason command said p.bytes) it success
    | inr (inr (inl it)) ↦ absurd (other success (omega (arith, it.status)) (omega (arith, it.status)))
    | inr (inr (inr (inl it))) ↦ absurd (other success (omega (arith, it.status)) (omega (arith, it.status)))
    | inr (inr (inr (inr e))) ↦ absurd (other success (omega (arith, e)) (omega (arith, e)))
  ]

  -- of a text that fits nothing is said as of one that is too long
  fits_then : {A : Type 0} (o : Option A) → IfNone o (IfSome (source.bytes source.old) IsWithin) → IfNone o (IfSome (source.bytes source.old) (λ b. IsAbove b → IsTooLong answer))
  fits_then None fits = told_then (source.bytes source.old) IsWithin (λ b. IsAbove b → IsTooLong answer) fits (λ b within above. absurd (omega (arith, within, above)))
  fits_then (Some x) fits = tt

  -- each status says what it says
  pub causes : IsPerformed command said source sink answer → HasCauses command said source sink answer
  causes p =
      let d = due command said p.bytes in
      let why : Reason command said p.bytes d = reason command said p.bytes in
      record {
        words = p.words;
        unread = λ is. p.unread (inl is);
        early = λ are. elim p.outcome [
          | inl is ↦ absurd (p.words.0 is are)
          | inr (inl it) ↦ done_early p.bytes p.told d why it
          | inr (inr (inl it)) ↦ not_some (command.words_refusal said) _ it.accepted
          | inr (inr (inr (inl it))) ↦ if_some (command.words_refusal said) _ (inr (inl it.status))
          | inr (inr (inr (inr is))) ↦ if_some (command.words_refusal said) _ (inr (inr is))
        ];
        early_unread = where_some (command.words_refusal said) _ (λ some. p.unread (inr some));
        done = λ success. (at_success p success).0;
        success = λ success. (at_success p success).1;
        refused = λ is. elim p.outcome [
          | inl e ↦ absurd (omega (arith, e, is))
          | inr (inl it) ↦ done_refused p.bytes p.told d why it is
          | inr (inr (inl it)) ↦ absurd (omega (arith, it.status, is))
          | inr (inr (inr (inl it))) ↦ absurd (omega (arith, it.status, is))
          | inr (inr (inr (inr e))) ↦ absurd (omega (arith, e, is))
        ];
        read_fault = λ is. elim p.outcome [
          | inl e ↦ absurd (omega (arith, e, is))
          | inr (inl it) ↦ absurd (not_a_read_fault d it is)
          | inr (inr (inl it)) ↦ it.risen
          | inr (inr (inr (inl it))) ↦ absurd (omega (arith, it.status, is))
          | inr (inr (inr (inr e))) ↦ absurd (omega (arith, e, is))
        ];
        write_fault = λ is. (at_write_fault p is).risen;
        prefix = λ is. failed_early p.bytes p.told d why (at_write_fault p is).prefix;
        too_long = λ is. elim p.outcome [
          | inl e ↦ absurd (omega (arith, e, is))
          | inr (inl it) ↦ done_long p.bytes p.told d why it is
          | inr (inr (inl it)) ↦ absurd (omega (arith, it.status, is))
          | inr (inr (inr (inl it))) ↦ absurd (omega (arith, it.status, is))
          | inr (inr (inr (inr e))) ↦ absurd (omega (arith, e, is))
        ];
        fits = λ ended. elim p.outcome [
          | inl is ↦ absurd (not_done (inl is) ended)
          | inr (inl it) ↦ done_fits p.bytes p.told d why it ended
          | inr (inr (inl it)) ↦ absurd (not_done (inr (inl it.status)) ended)
          | inr (inr (inr (inl it))) ↦ failed_fits p.bytes p.told d why it.prefix
          | inr (inr (inr (inr is))) ↦ absurd (not_done (inr (inr (inl is))) ended)
        ];
        drained = p.drained;
        unwritten = p.unwritten;
        status = elim p.outcome [
          | inl is ↦ inr (inl is)
          | inr (inl it) ↦ elim (done_ended p.bytes p.told d it) [ inl long ↦ inr (inr (inr (inr long))) | inr ended ↦ inl ended ]
          | inr (inr (inl it)) ↦ inr (inr (inl it.status))
          | inr (inr (inr (inl it))) ↦ inl (inr (inr it.status))
          | inr (inr (inr (inr is))) ↦ inr (inr (inr (inl is)))
        ];
        complete = λ are still still_too. elim p.outcome [
          | inl is ↦ absurd (p.words.0 is are)
          | inr (inl it) ↦ done_complete p.bytes p.told d why it
          | inr (inr (inl it)) ↦ absurd (rose _ _ it.risen still)
          | inr (inr (inr (inl it))) ↦ absurd (rose _ _ it.risen still_too)
          | inr (inr (inr (inr is))) ↦ if_none (command.words_refusal said) _
              (told_then_any (source.bytes source.old) (λ b. IsWithin b → IsDecided command said answer b) (λ b within. inl is))
        ];
        complete_too_long = λ are still. elim p.outcome [
          | inl is ↦ absurd (p.words.0 is are)
          | inr (inl it) ↦ done_complete_too_long p.bytes p.told d why it
          | inr (inr (inl it)) ↦ absurd (rose _ _ it.risen still)
          | inr (inr (inr (inl it))) ↦ fits_then (command.words_refusal said) (failed_fits p.bytes p.told d why it.prefix)
          | inr (inr (inr (inr is))) ↦ if_none (command.words_refusal said) _
              (told_then_any (source.bytes source.old) (λ b. IsAbove b → IsTooLong answer) (λ b above. inl is))
        ];
      }
