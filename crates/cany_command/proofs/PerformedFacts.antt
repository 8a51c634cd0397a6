-- What is promised of a call, by the exit at which it ends.
use Rattle.std.proofs.Common.{◌≡◌, ℕ, zero, suc, ◌<◌, ◌≤◌, ◌⊎◌, List, ◌∷◌, [], Option, Some, None, Ok, Err, Result, IsOkAnd, length, refl, sym, subst, inl, inr, arith}
use Rattle.std.specs.Prelude.{IfNone, IfSome, IsSome, IsSomeAnd, MatchOption}
use Rattle.cany_base.specs.Limits.{most_text_bytes}
use Rattle.cany_base.specs.Scenario.{ScenarioParts}
use Rattle.cany_io.specs.Faults.{HasRisen, StandsStill}
use Rattle.cany_io.specs.Sink.{Takes, TakesPrefix}
use Rattle.cany_io.specs.Source.{IsAtEnd}
use Rattle.cany_model.specs.Runs.Follow.{journal_of}
use Rattle.cany_command.specs.declared.status.TheConstants.{NO_MEMORY, OTHER_WORDS, READ_FAULT, REFUSED, TOO_LONG, WRITE_FAULT}
use Rattle.cany_command.specs.Answers.{IsAnswered, OfChosen, answer_by}
use Rattle.cany_command.specs.Due.{Due, Success, TextRefused, TooLong, WordsRefused}
use Rattle.cany_command.specs.Performed.{CommandParts, HasReadFault, HasWriteFault, IsDone, IsPerformed, Stream, due, text_due}
use Rattle.cany_command.specs.Refused.{Chosen, refusal_by}
use Rattle.cany_command.specs.Status.{HasEnded, HasNoAnswer, IsNoFault}
use Rattle.cany_command.proofs.DueFacts.{IsRunFor, Reason, reason}

-- ---- what is told, and what is refused

-- a fact that does not depend on what is told
pub if_some : {A : Type 0} (o : Option A) (P : Type 0) → P → IfSome o (λ _. P)
if_some None P p = tt
if_some (Some x) P p = p

pub if_none : {A : Type 0} (o : Option A) (P : Type 0) → P → IfNone o P
if_none None P p = p
if_none (Some x) P p = tt

pub not_some : {A : Type 0} (o : Option A) (P : A → Type 0) → o ≡ None → IfSome o P
not_some o P none = subst (λ x. IfSome x P) (sym none) tt

-- a fact of the text, which is all that is told
pub of_all : (told : Option (List ℕ)) (text : List ℕ) (P : List ℕ → Type 0) → IfSome told (λ bytes. text ≡ bytes) → P text → IfSome told P
of_all None text P same p = tt
of_all (Some bytes) text P same p = subst P same p

pub told_then : (told : Option (List ℕ)) (P Q : List ℕ → Type 0) → IfSome told P → ((bytes : List ℕ) → P bytes → Q bytes) → IfSome told Q
told_then None P Q p h = tt
told_then (Some bytes) P Q p h = h bytes p

pub told_then_any : (told : Option (List ℕ)) (Q : List ℕ → Type 0) → ((bytes : List ℕ) → Q bytes) → IfSome told Q
told_then_any None Q h = tt
told_then_any (Some bytes) Q h = h bytes

-- a fact where no words are refused
pub unrefused : {A : Type 0} (o : Option A) (P : Type 0) (Q : A → Type 0) → o ≡ None → P → MatchOption o P Q
unrefused o P Q none p = subst (λ x. MatchOption x P Q) (sym none) p

pub line_decides : (o : Option (List ℕ)) (P : List ℕ → Type 0) (Q R : Type 0) → IsSomeAnd o P → R → MatchOption o Q (λ _. R)
line_decides None P Q R line r = absurd line
line_decides (Some line) P Q R taken r = r

pub at_line : {A : Type 0} (o : Option A) (line : A) (P : Type 0) (Q : A → Type 0) → o ≡ Some line → Q line → MatchOption o P Q
at_line o line P Q some q = subst (λ x. MatchOption x P Q) (sym some) q

pub past_line : {A : Type 0} (o : Option A) (line : A) (P : Type 0) → o ≡ Some line → IfNone o P
past_line o line P some = subst (λ x. IfNone x P) (sym some) tt

known_then : {A : Type 0} (o : Option A) {P Q : Type 0} → IsSome o → IfSome o (λ _. P) → (P → Q) → Q
known_then None some p h = absurd (cc)
known_then (Some x) some p h = h p

-- ---- statuses

-- what is no answer of a stream lies between these two
pub no_answer_low : (answer : ℕ) → HasNoAnswer answer → OTHER_WORDS ≤ answer
no_answer_low answer (inl words) = omega (arith, words)
no_answer_low answer (inr (inl read)) = omega (arith, read)
no_answer_low answer (inr (inr (inl memory))) = omega (arith, memory)
no_answer_low answer (inr (inr (inr long))) = omega (arith, long)

pub no_answer_high : (answer : ℕ) → HasNoAnswer answer → answer ≤ TOO_LONG
no_answer_high answer (inl words) = omega (arith, words)
no_answer_high answer (inr (inl read)) = omega (arith, read)
no_answer_high answer (inr (inr (inl memory))) = omega (arith, memory)
no_answer_high answer (inr (inr (inr long))) = omega (arith, long)

pub not_refused : (answer : ℕ) → HasNoAnswer answer → answer ≡ REFUSED → ⊥
not_refused answer (inl words) is = omega (arith, words, is)
not_refused answer (inr (inl read)) is = omega (arith, read, is)
not_refused answer (inr (inr (inl memory))) is = omega (arith, memory, is)
not_refused answer (inr (inr (inr long))) is = omega (arith, long, is)

pub not_failed : (answer : ℕ) → HasNoAnswer answer → answer ≡ WRITE_FAULT → ⊥
not_failed answer (inl words) is = omega (arith, words, is)
not_failed answer (inr (inl read)) is = omega (arith, read, is)
not_failed answer (inr (inr (inl memory))) is = omega (arith, memory, is)
not_failed answer (inr (inr (inr long))) is = omega (arith, long, is)

is_not_below : (a b : ℕ) → a ≡ b → a < b → ⊥
is_not_below a b same below = omega (arith, same, below)

-- a stream that failed does not stand still
pub rose : (old new : ℕ) → HasRisen old new → StandsStill old new → ⊥
rose old new risen still = is_not_below old new (sym still.0) (risen (λ last. is_not_below new _ last still.1))

-- no status of success is one that a command answers where it does not succeed
abbrev pub NoFault : CommandParts → Type 0
NoFault command = (status : ℕ) → command.is_success status → IsNoFault status

-- a status of success is none of the others
pub success_is_other : (command : CommandParts) (answer : ℕ) → NoFault command → command.is_success answer → OTHER_WORDS ≤ answer → answer ≤ TOO_LONG → ⊥
success_is_other command answer no_fault success low high = elim (no_fault answer success) [
  | inl less ↦ absurd (omega (arith, less, low))
  | inr more ↦ absurd (omega (arith, more, high))
]

-- nor has a call ended that wrote nothing
pub not_ended : (command : CommandParts) (answer : ℕ) → (command.is_success answer → ⊥) → HasNoAnswer answer → HasEnded command.is_success answer → ⊥
not_ended command answer successless none ended = elim ended [
  | inl success ↦ successless success
  | inr (inl is) ↦ not_refused answer none is
  | inr (inr is) ↦ not_failed answer none is
]

-- ---- what is due, where it is known

none_some : {A : Type 0} (o : Option A) (x : A) → o ≡ None → o ≡ Some x → ⊥
none_some o x none some = absurd (cc)

at_known : {A : Type 0} (o : Option A) (x : A) (P : A → Type 0) → o ≡ Some x → IsSomeAnd o P → P x
at_known o x P some h = subst (λ y. IsSomeAnd y P) some h

at_ok : {A E : Type 0} (o : Result A E) (P Q : A → Type 0) (R : Type 0) → IsOkAnd o P → IsOkAnd o Q → ((x : A) → P x → Q x → R) → R
at_ok (Ok x) P Q R p q h = h x p q
at_ok (Err e) P Q R p q h = absurd p

-- what is said of the scenario that is run
of_run : (choose : ScenarioParts → Chosen) (bytes : List ℕ) (scenario : ScenarioParts) (Fact : ScenarioParts → Type 0) → IsRunFor choose bytes scenario
    → OfChosen choose bytes Fact → Fact scenario
of_run choose bytes scenario Fact is fact =
    at_ok _ (λ s. IsOkAnd (choose s) (λ c. c ≡ scenario)) (λ s. IsOkAnd (choose s) Fact) (Fact scenario) is fact
    (λ s is_chosen fact_chosen. at_ok (choose s) (λ c. c ≡ scenario) Fact (Fact scenario) is_chosen fact_chosen (λ c same known. subst Fact same known))

-- more bytes than so many
some_longer : (most : ℕ) → (bytes : List ℕ) × (most < length bytes)
some_longer zero = (0 ∷ [], omega arith)
some_longer (suc most) = let shorter = some_longer most in (0 ∷ shorter.0, omega (arith, shorter.1))

-- ---- the exits

abbrev IsAbove : List ℕ → Type 0
IsAbove bytes = most_text_bytes < length bytes

-- the text was read to the end of the source
pub record IsTextOf {S : Type 0} (text : List ℕ) (source : Stream S) : Type 0 where
  pub whole : IfSome (source.bytes source.old) (λ bytes. text ≡ bytes)
  pub end : IsAtEnd (source.bytes source.new)
  pub within : length text ≤ most_text_bytes

-- some bytes that the source may have had, of which a fact of what it tells holds
record HadBytes (told : Option (List ℕ)) (P : List ℕ → Type 0) : Type 0 where
  bytes : List ℕ
  same : IfSome told (λ known. bytes ≡ known)
  fact : P bytes

had_bytes : (told : Option (List ℕ)) (P : List ℕ → Type 0) (bytes : List ℕ) → P bytes → IfSome told P → HadBytes told P
had_bytes None P bytes p known = record { bytes = bytes; same = tt; fact = p }
had_bytes (Some all) P bytes p known = record { bytes = all; same = refl; fact = known }

had_any : (told : Option (List ℕ)) (P : List ℕ → Type 0) → ((bytes : List ℕ) → P bytes) → HadBytes told P
had_any told P h = had_bytes told P [] (h []) (told_then_any told P h)

no_refusal : {A : Type 0} (o : Option A) (P : Type 0) → IfSome o (λ _. P) → (P → ⊥) → o ≡ None
no_refusal None P h other = refl
no_refusal (Some x) P h other = absurd (other h)

no_some : {A : Type 0} (o : Option A) → o ≡ None → IsSome o → ⊥
no_some None none some = absurd (cc)
no_some (Some x) none some = absurd (cc)

module _ {S K : Type 0} (command : CommandParts) (said : List (List ℕ)) (source : Stream S) (sink : Stream K) (no_fault : NoFault command) where
  -- how the call ended, where the source had these bytes
  abbrev Outcome : ℕ → List ℕ → Type 0
  Outcome answer bytes =
      (answer ≡ OTHER_WORDS)
      ⊎ IsDone command said (due command said bytes) sink answer
      ⊎ HasReadFault command said source answer
      ⊎ HasWriteFault command said (due command said bytes) sink answer
      ⊎ (answer ≡ NO_MEMORY)

  -- other words
  pub other_words : (command.are_words said → ⊥) → source.new ≡ source.old → sink.new ≡ sink.old → IsPerformed command said source sink OTHER_WORDS
  other_words other unread unwritten =
      let none : HasNoAnswer OTHER_WORDS = inl refl in
      let successless : command.is_success OTHER_WORDS → ⊥ = λ success. success_is_other command OTHER_WORDS no_fault success (omega arith) (omega arith) in
      let had = had_any (source.bytes source.old) (λ bytes. Unit {0}) (λ bytes. tt) in
      record {
        words = (λ is. other, λ no. refl);
        bytes = had.bytes;
        told = had.same;
        outcome = inl refl;
        unread = λ any. unread;
        drained = λ ended. absurd (not_ended command OTHER_WORDS successless none ended);
        unwritten = λ same. unwritten;
      }

  refused_words_done : (answer : ℕ) (bytes line : List ℕ) (d : Due) → Reason command said bytes d → command.words_refusal said ≡ Some line → answer ≡ REFUSED
      → Takes (sink.bytes sink.old) line (sink.bytes sink.new) → IsDone command said d sink answer
  refused_words_done answer bytes line (WordsRefused other) why some is taken = record {
    status = is;
    written = at_known (command.words_refusal said) other (λ l. Takes (sink.bytes sink.old) l (sink.bytes sink.new)) why
        (subst (λ o. IsSomeAnd o (λ l. Takes (sink.bytes sink.old) l (sink.bytes sink.new))) (sym some) taken);
    success = tt;
  }
  refused_words_done answer bytes line TooLong why some is taken = absurd (none_some _ line why.0 some)
  refused_words_done answer bytes line (TextRefused other) why some is taken = absurd (none_some _ line why.0 some)
  refused_words_done answer bytes line (Success scenario) why some is taken = absurd (none_some _ line why.0 some)

  refused_words_in_part : (bytes line : List ℕ) (d : Due) → Reason command said bytes d → command.words_refusal said ≡ Some line
      → TakesPrefix (sink.bytes sink.old) line (sink.bytes sink.new) → IsSomeAnd (text_due command said d) (λ text. TakesPrefix (sink.bytes sink.old) text (sink.bytes sink.new))
  refused_words_in_part bytes line (WordsRefused other) why some part =
      at_known (command.words_refusal said) other (λ l. TakesPrefix (sink.bytes sink.old) l (sink.bytes sink.new)) why
      (subst (λ o. IsSomeAnd o (λ l. TakesPrefix (sink.bytes sink.old) l (sink.bytes sink.new))) (sym some) part)
  refused_words_in_part bytes line TooLong why some part = absurd (none_some _ line why.0 some)
  refused_words_in_part bytes line (TextRefused other) why some part = absurd (none_some _ line why.0 some)
  refused_words_in_part bytes line (Success scenario) why some part = absurd (none_some _ line why.0 some)

  -- the command refuses its words
  pub words_refused : (answer : ℕ) (line : List ℕ) → command.are_words said → command.words_refusal said ≡ Some line → source.new ≡ source.old
      → (answer ≡ REFUSED) ⊎ (answer ≡ WRITE_FAULT) → (answer ≡ REFUSED → Takes (sink.bytes sink.old) line (sink.bytes sink.new))
      → (answer ≡ WRITE_FAULT → HasRisen (sink.faults sink.old) (sink.faults sink.new)) → TakesPrefix (sink.bytes sink.old) line (sink.bytes sink.new)
      → IsPerformed command said source sink answer
  words_refused answer line are some unread ended refused failed part =
      let low : OTHER_WORDS < answer = elim ended [ inl is ↦ omega (arith, is) | inr is ↦ omega (arith, is) ] in
      let had = had_any (source.bytes source.old) (λ bytes. Unit {0}) (λ bytes. tt) in
      let why = reason command said had.bytes in
      record {
        words = (λ is. absurd (omega (arith, is, low)), λ no. absurd (no are));
        bytes = had.bytes;
        told = had.same;
        outcome = elim ended [
          | inl is ↦ inr (inl (refused_words_done answer had.bytes line (due command said had.bytes) why some is (refused is)))
          | inr is ↦ inr (inr (inr (inl (record {
            status = is;
            risen = failed is;
            prefix = refused_words_in_part had.bytes line (due command said had.bytes) why some part;
          }))))
        ];
        unread = λ any. unread;
        drained = λ any. past_line (command.words_refusal said) line _ some;
        unwritten = λ none. absurd (elim ended [ inl is ↦ not_refused answer none is | inr is ↦ not_failed answer none is ]);
      }

  too_long_done : (answer : ℕ) (bytes : List ℕ) (d : Due) → Reason command said bytes d → command.words_refusal said ≡ None → IsAbove bytes → answer ≡ TOO_LONG
      → IsDone command said d sink answer
  too_long_done answer bytes (WordsRefused line) why none above is = absurd (none_some _ line none why)
  too_long_done answer bytes TooLong why none above is = record { status = is; written = tt; success = tt }
  too_long_done answer bytes (TextRefused line) why none above is = absurd (omega (arith, why.1, above))
  too_long_done answer bytes (Success scenario) why none above is = absurd (omega (arith, why.1, above))

  -- there is no text: the source failed or has too many bytes, or there is no memory, of which
  -- words that are refused leave the last alone
  pub textless : (answer : ℕ) → command.are_words said → IfSome (command.words_refusal said) (λ _. (answer ≡ NO_MEMORY) × (source.new ≡ source.old))
      → sink.new ≡ sink.old → (answer ≡ READ_FAULT) ⊎ (answer ≡ TOO_LONG) ⊎ (answer ≡ NO_MEMORY)
      → (answer ≡ READ_FAULT → HasRisen (source.faults source.old) (source.faults source.new))
      → (answer ≡ TOO_LONG → IfSome (source.bytes source.old) IsAbove) → IsPerformed command said source sink answer
  textless answer are early unwritten ended failed long =
      let none : HasNoAnswer answer = elim ended [ inl is ↦ inr (inl is) | inr (inl is) ↦ inr (inr (inr is)) | inr (inr is) ↦ inr (inr (inl is)) ] in
      let low : OTHER_WORDS < answer = elim ended [ inl is ↦ omega (arith, is) | inr (inl is) ↦ omega (arith, is) | inr (inr is) ↦ omega (arith, is) ] in
      let successless : command.is_success answer → ⊥ = λ success. success_is_other command answer no_fault success (no_answer_low answer none) (no_answer_high answer none) in
      let had : HadBytes (source.bytes source.old) (Outcome answer) = elim ended [
        | inl is ↦
            let none = no_refusal (command.words_refusal said) _ early (λ h. absurd (omega (arith, is, h.0))) in
            had_any (source.bytes source.old) (Outcome answer) (λ bytes. inr (inr (inl (record { status = is; risen = failed is; accepted = none }))))
        | inr (inl is) ↦
            let none = no_refusal (command.words_refusal said) _ early (λ h. absurd (omega (arith, is, h.0))) in
            let done : (bytes : List ℕ) → IsAbove bytes → Outcome answer bytes =
            λ bytes above. inr (inl (too_long_done answer bytes (due command said bytes) (reason command said bytes) none above is)) in
            let longer = some_longer most_text_bytes in
            had_bytes (source.bytes source.old) (Outcome answer) longer.0 (done longer.0 longer.1)
            (told_then (source.bytes source.old) IsAbove (Outcome answer) (long is) done)
        | inr (inr is) ↦ had_any (source.bytes source.old) (Outcome answer) (λ bytes. inr (inr (inr (inr is))))
      ] in
      record {
        words = (λ is. absurd (omega (arith, is, low)), λ no. absurd (no are));
        bytes = had.bytes;
        told = had.same;
        outcome = had.fact;
        unread = λ any. elim any [
          | inl is ↦ absurd (omega (arith, is, low))
          | inr some ↦ known_then (command.words_refusal said) some early (λ h. h.1)
        ];
        drained = λ any. absurd (not_ended command answer successless none any);
        unwritten = λ same. unwritten;
      }

  run_done : (answer : ℕ) (bytes : List ℕ) (d : Due) → Reason command said bytes d → command.words_refusal said ≡ None → length bytes ≤ most_text_bytes
      → command.is_success answer → refusal_by (command.choose said) bytes ≡ None
      → OfChosen (command.choose said) bytes (λ chosen. IsAnswered (command.text said) chosen (sink.bytes sink.old) (sink.bytes sink.new))
      → OfChosen (command.choose said) bytes (λ chosen. answer ≡ command.success said chosen (journal_of chosen)) → IsDone command said d sink answer
  run_done answer bytes (WordsRefused line) why none fits success accepted done status = absurd (none_some _ line none why)
  run_done answer bytes TooLong why none fits success accepted done status = absurd (omega (arith, why.1, fits))
  run_done answer bytes (TextRefused line) why none fits success accepted done status = absurd (none_some _ line accepted why.2)
  run_done answer bytes (Success scenario) why none fits success accepted done status =
      let answered = of_run (command.choose said) bytes scenario _ why.4 done in
      record {
        status = of_run (command.choose said) bytes scenario _ why.4 status;
        written = answered.written;
        success = (success, answered.promises);
      }

  -- the text of the run is written
  pub succeeded : (answer : ℕ) (text : List ℕ) → command.are_words said → command.words_refusal said ≡ None → IsTextOf text source → command.is_success answer
      → OfChosen (command.choose said) text (λ chosen. IsAnswered (command.text said) chosen (sink.bytes sink.old) (sink.bytes sink.new))
      → OfChosen (command.choose said) text (λ chosen. answer ≡ command.success said chosen (journal_of chosen))
      → refusal_by (command.choose said) text ≡ None → IsPerformed command said source sink answer
  succeeded answer text are none read success done status accepted =
      let other : OTHER_WORDS ≤ answer → answer ≤ TOO_LONG → ⊥ = success_is_other command answer no_fault success in
      record {
        words = (λ is. absurd (other (omega (arith, is)) (omega (arith, is))), λ no. absurd (no are));
        bytes = text;
        told = read.whole;
        outcome = inr (inl (run_done answer text (due command said text) (reason command said text) none read.within success accepted done status));
        unread = λ any. elim any [
          | inl is ↦ absurd (other (omega (arith, is)) (omega (arith, is)))
          | inr some ↦ absurd (no_some (command.words_refusal said) none some)
        ];
        drained = λ any. if_none (command.words_refusal said) _ read.end;
        unwritten = λ h. absurd (other (no_answer_low answer h) (no_answer_high answer h));
      }

  refused_done : (answer : ℕ) (bytes : List ℕ) (d : Due) → Reason command said bytes d → command.words_refusal said ≡ None → length bytes ≤ most_text_bytes → answer ≡ REFUSED
      → IsSomeAnd (refusal_by (command.choose said) bytes) (λ line. Takes (sink.bytes sink.old) line (sink.bytes sink.new)) → IsDone command said d sink answer
  refused_done answer bytes (WordsRefused line) why none fits is taken = absurd (none_some _ line none why)
  refused_done answer bytes TooLong why none fits is taken = absurd (omega (arith, why.1, fits))
  refused_done answer bytes (TextRefused line) why none fits is taken = record {
    status = is;
    written = at_known (refusal_by (command.choose said) bytes) line (λ l. Takes (sink.bytes sink.old) l (sink.bytes sink.new)) why.2 taken;
    success = tt;
  }
  refused_done answer bytes (Success scenario) why none fits is taken =
      absurd (subst (λ o. IsSomeAnd o (λ l. Takes (sink.bytes sink.old) l (sink.bytes sink.new))) why.2 taken)

  in_part : (bytes : List ℕ) (d : Due) → Reason command said bytes d → command.words_refusal said ≡ None → length bytes ≤ most_text_bytes
      → TakesPrefix (sink.bytes sink.old) (answer_by (command.text said) (command.choose said) bytes) (sink.bytes sink.new)
      → IsSomeAnd (text_due command said d) (λ text. TakesPrefix (sink.bytes sink.old) text (sink.bytes sink.new))
  in_part bytes (WordsRefused line) why none fits part = absurd (none_some _ line none why)
  in_part bytes TooLong why none fits part = absurd (omega (arith, why.1, fits))
  in_part bytes (TextRefused line) why none fits part = subst (λ text. TakesPrefix (sink.bytes sink.old) text (sink.bytes sink.new)) why.3 part
  in_part bytes (Success scenario) why none fits part = subst (λ text. TakesPrefix (sink.bytes sink.old) text (sink.bytes sink.new)) why.3 part

  -- the text is refused, or its answer is not written, or not all of it
  pub unsucceeded : (answer : ℕ) (text : List ℕ) → command.are_words said → command.words_refusal said ≡ None → IsTextOf text source
      → (answer ≡ REFUSED) ⊎ (answer ≡ WRITE_FAULT) ⊎ (answer ≡ NO_MEMORY)
      → (answer ≡ REFUSED → IsSomeAnd (refusal_by (command.choose said) text) (λ line. Takes (sink.bytes sink.old) line (sink.bytes sink.new)))
      → (answer ≡ WRITE_FAULT → HasRisen (sink.faults sink.old) (sink.faults sink.new))
      → (answer ≡ WRITE_FAULT → TakesPrefix (sink.bytes sink.old) (answer_by (command.text said) (command.choose said) text) (sink.bytes sink.new))
      → (answer ≡ NO_MEMORY → sink.new ≡ sink.old) → IsPerformed command said source sink answer
  unsucceeded answer text are none read ended refused failed part untouched =
      let low : OTHER_WORDS < answer = elim ended [ inl is ↦ omega (arith, is) | inr (inl is) ↦ omega (arith, is) | inr (inr is) ↦ omega (arith, is) ] in
      let why = reason command said text in
      record {
        words = (λ is. absurd (omega (arith, is, low)), λ no. absurd (no are));
        bytes = text;
        told = read.whole;
        outcome = elim ended [
          | inl is ↦ inr (inl (refused_done answer text (due command said text) why none read.within is (refused is)))
          | inr (inl is) ↦ inr (inr (inr (inl (record {
            status = is;
            risen = failed is;
            prefix = in_part text (due command said text) why none read.within (part is);
          }))))
          | inr (inr is) ↦ inr (inr (inr (inr is)))
        ];
        unread = λ any. elim any [
          | inl is ↦ absurd (omega (arith, is, low))
          | inr some ↦ absurd (no_some (command.words_refusal said) none some)
        ];
        drained = λ any. if_none (command.words_refusal said) _ read.end;
        unwritten = λ h. untouched (elim ended [
          | inl is ↦ absurd (not_refused answer h is)
          | inr (inl is) ↦ absurd (not_failed answer h is)
          | inr (inr is) ↦ is
        ]);
      }
