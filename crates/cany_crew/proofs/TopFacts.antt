-- What is written for a text.
use Rattle.std.proofs.Common.{◌≡◌, ◌⊎◌, ℕ, true, false, List, Option, Some, None, Ok, Err, IsOkAnd, IsSomeAnd, refl, sym, ap, ◌∙◌, subst, inl, inr, arith}
use Rattle.std.specs.Prelude.{MatchOption, Result, is_some, option_map}
use Rattle.std.proofs.lemmas.Bool.{false≢true}
use Rattle.cany_base.specs.declared.step.Step.{Step}
use Rattle.cany_base.specs.Scenario.{ScenarioParts}
use Rattle.cany_io.specs.Faults.{HasRisen}
use Rattle.cany_io.specs.Sink.{Takes, TakesPrefix}
use Rattle.cany_text.specs.declared.scenario_fault.ScenarioFault.{ScenarioFault}
use Rattle.cany_text.specs.RefusalLines.{journal_given_line, scenario_refusal_line}
use Rattle.cany_text.specs.Report.{report}
use Rattle.cany_text.specs.ScenarioText.{scenario_of}
use Rattle.cany_text.specs.TomlKeys.{Read}
use Rattle.cany_command.specs.declared.status.TheConstants.{DONE, NO_MEMORY, OTHER_WORDS, READ_FAULT, REFUSED, TOO_LONG, WRITE_FAULT}
use Rattle.cany_command.specs.Performed.{Stream}
use Rattle.cany_command.specs.Status.{HasAnswered, HasNoAnswer}
use Rattle.cany_command.proofs.PerformedFacts.{no_answer_high, no_answer_low, not_failed, not_refused}
use Rattle.cany_crew.specs.declared.status.TheConstants.{HELD}
use Rattle.cany_crew.specs.TextRun.{IsReported, IsTextRun}
use Rattle.cany_crew.specs.Top.{IsReportOf, TakesReportStart, TakesStart, run_refusal, run_refusal_for}
use Rattle.cany_crew.proofs.GateFacts.{none_fell}

-- ---- the line of the refusal

given_line : (journal : Option (List Step)) → is_some journal ≡ true → option_map (λ j. journal_given_line) journal ≡ Some journal_given_line
given_line None given = absurd (false≢true given)
given_line (Some journal) given = refl

pub refusal_of_journal : (bytes : List ℕ) (scenario : ScenarioParts) → scenario_of bytes ≡ Ok scenario → is_some scenario.journal ≡ true
    → run_refusal bytes ≡ Some journal_given_line
unfolding run_refusal
refusal_of_journal bytes scenario is given = ap run_refusal_for is ∙ given_line scenario.journal given

pub refusal_of_fault : (bytes : List ℕ) (fault : ScenarioFault) → scenario_of bytes ≡ Err fault → run_refusal bytes ≡ Some (scenario_refusal_line fault)
unfolding run_refusal
refusal_of_fault bytes fault is = ap run_refusal_for is

no_line : (journal : Option (List Step)) → is_some journal ≡ false → option_map (λ j. journal_given_line) journal ≡ None
no_line None none = refl
no_line (Some journal) none = absurd (false≢true (sym none))

pub no_refusal : (bytes : List ℕ) (scenario : ScenarioParts) → scenario_of bytes ≡ Ok scenario → is_some scenario.journal ≡ false → run_refusal bytes ≡ None
unfolding run_refusal
no_refusal bytes scenario is none = ap run_refusal_for is ∙ no_line scenario.journal none

-- ---- what the sink took

refused_by : (bytes line : List ℕ) (old new : Option (List ℕ)) → run_refusal bytes ≡ Some line → Takes old line new
    → IsSomeAnd (run_refusal bytes) (λ l. Takes old l new)
refused_by bytes line old new is taken =
    let P : Option (List ℕ) → Type 0 = λ o. IsSomeAnd o (λ l. Takes old l new) in
    subst P (sym is) taken

started_line : (bytes line : List ℕ) (old new : Option (List ℕ)) → run_refusal bytes ≡ Some line → TakesPrefix old line new → TakesStart bytes old new
started_line bytes line old new is taken =
    let P : Option (List ℕ) → Type 0 = λ o. MatchOption o (IsOkAnd (scenario_of bytes) (λ scenario. IsReportOf scenario line)) (λ l. line ≡ l) in
    (line, subst P (sym is) refl, taken)

pub started_report : (bytes : List ℕ) (scenario : ScenarioParts) (old new : Option (List ℕ)) → scenario_of bytes ≡ Ok scenario → run_refusal bytes ≡ None
    → TakesReportStart scenario old new → TakesStart bytes old new
started_report bytes scenario old new is none start =
    let text = report scenario start.0 in
    let P : Option (List ℕ) → Type 0 = λ o. MatchOption o (IsOkAnd (scenario_of bytes) (λ s. IsReportOf s text)) (λ l. text ≡ l) in
    let Q : Read ScenarioParts → Type 0 = λ o. IsOkAnd o (λ s. IsReportOf s text) in
    (text, subst P (sym none) (subst Q (sym is) (start.0, start.1, refl)), start.2)

-- ---- statuses

-- a call that wrote nothing, and was held by no gate, has made no run
pub not_ran : (status : ℕ) → HasNoAnswer status → HasAnswered status ⊎ (status ≡ HELD) → ⊥
not_ran status none (inl (inl done)) = let low = no_answer_low status none in omega (arith, low, done)
not_ran status none (inl (inr (inl refused))) = not_refused status none refused
not_ran status none (inl (inr (inr failed))) = not_failed status none failed
not_ran status none (inr held) = let high = no_answer_high status none in omega (arith, high, held)

pub done_or_held : (status : ℕ) → (status ≡ DONE) ⊎ (status ≡ HELD) → HasAnswered status ⊎ (status ≡ HELD)
done_or_held status (inl done) = inl (inl done)
done_or_held status (inr held) = inr held

-- a text was read, and this came of it
abbrev pub IsOfText : ℕ → Type 0
IsOfText status = HasAnswered status ⊎ (status ≡ NO_MEMORY) ⊎ (status ≡ HELD)

-- what is no text ends a call otherwise
abbrev pub IsOfNoText : ℕ → Type 0
IsOfNoText status = (status ≡ OTHER_WORDS) ⊎ (status ≡ READ_FAULT) ⊎ (status ≡ TOO_LONG)

pub not_both : (status : ℕ) → IsOfText status → IsOfNoText status → ⊥
not_both status (inl (inl done)) other = elim other [ inl is ↦ omega (arith, done, is) | inr (inl is) ↦ omega (arith, done, is) | inr (inr is) ↦ omega (arith, done, is) ]
not_both status (inl (inr (inl refused))) other = elim other [ inl is ↦ omega (arith, refused, is) | inr (inl is) ↦ omega (arith, refused, is) | inr (inr is) ↦ omega (arith, refused, is) ]
not_both status (inl (inr (inr failed))) other = elim other [ inl is ↦ omega (arith, failed, is) | inr (inl is) ↦ omega (arith, failed, is) | inr (inr is) ↦ omega (arith, failed, is) ]
not_both status (inr (inl memory)) other = elim other [ inl is ↦ omega (arith, memory, is) | inr (inl is) ↦ omega (arith, memory, is) | inr (inr is) ↦ omega (arith, memory, is) ]
not_both status (inr (inr held)) other = elim other [ inl is ↦ omega (arith, held, is) | inr (inl is) ↦ omega (arith, held, is) | inr (inr is) ↦ omega (arith, held, is) ]

-- a call that refused has made no run, and has written
not_refusing : (status : ℕ) → (status ≡ REFUSED) ⊎ (status ≡ WRITE_FAULT) → (status ≡ DONE) ⊎ (status ≡ NO_MEMORY) ⊎ (status ≡ HELD) → ⊥
not_refusing status (inl refused) other = elim other [ inl is ↦ omega (arith, refused, is) | inr (inl is) ↦ omega (arith, refused, is) | inr (inr is) ↦ omega (arith, refused, is) ]
not_refusing status (inr failed) other = elim other [ inl is ↦ omega (arith, failed, is) | inr (inl is) ↦ omega (arith, failed, is) | inr (inr is) ↦ omega (arith, failed, is) ]

ran_or_held : (status : ℕ) → (status ≡ DONE) ⊎ (status ≡ HELD) → (status ≡ DONE) ⊎ (status ≡ NO_MEMORY) ⊎ (status ≡ HELD)
ran_or_held status (inl done) = inl done
ran_or_held status (inr held) = inr (inr held)

-- a fact of the scenario that was read
pub of_text : (bytes : List ℕ) (scenario : ScenarioParts) (P : ScenarioParts → Type 0) → scenario_of bytes ≡ Ok scenario → P scenario → IsOkAnd (scenario_of bytes) P
of_text bytes scenario P is p =
    let Q : Read ScenarioParts → Type 0 = λ o. IsOkAnd o P in
    subst Q (sym is) p

-- ---- a text that is refused

-- its line is written, or not all of it, and no gate is passed
pub refused_text : {K : Type 0} (bytes line gates : List ℕ) (sink : Stream K) (answer : ℕ) → run_refusal bytes ≡ Some line → (answer ≡ REFUSED) ⊎ (answer ≡ WRITE_FAULT)
    → (answer ≡ REFUSED → Takes (sink.bytes sink.old) line (sink.bytes sink.new)) → (answer ≡ WRITE_FAULT → HasRisen (sink.faults sink.old) (sink.faults sink.new))
    → TakesPrefix (sink.bytes sink.old) line (sink.bytes sink.new) → IsTextRun bytes gates gates sink answer
refused_text bytes line gates sink answer is ended written failed begun = record {
  done = λ done. absurd (not_refusing answer ended (inl done));
  not_refused = λ ran. absurd (not_refusing answer ended (ran_or_held answer ran));
  passed = λ done. refl;
  held = λ held. absurd (not_refusing answer ended (inr (inr held)));
  count = none_fell gates gates refl;
  refused = λ refused. refused_by bytes line (sink.bytes sink.old) (sink.bytes sink.new) is (written refused);
  write_fault = failed;
  start = λ fault. started_line bytes line (sink.bytes sink.old) (sink.bytes sink.new) is begun;
  untouched = λ none. absurd (not_refusing answer ended (inr none));
  status = elim ended [ inl refused ↦ inl (inr (inl refused)) | inr fault ↦ inl (inr (inr fault)) ];
}

-- ---- a run that is not reported

-- it was held, or there was no memory for it, and nothing was written
pub not_reported : {A E K : Type 0} (scenario : ScenarioParts) (ending : Result (Option A) E) (sink : Stream K) (answer : ℕ) → (answer ≡ NO_MEMORY) ⊎ (answer ≡ HELD)
    → (answer ≡ HELD → IsOkAnd ending (λ held. is_some held ≡ true)) → sink.new ≡ sink.old → IsReported scenario ending sink answer
not_reported scenario ending sink answer none held same = record {
  done = λ done. absurd (elim none [ inl memory ↦ omega (arith, done, memory) | inr held ↦ omega (arith, done, held) ]);
  passed = λ done. absurd (elim none [ inl memory ↦ omega (arith, done, memory) | inr held ↦ omega (arith, done, held) ]);
  held = held;
  write_fault = λ fault. absurd (elim none [ inl memory ↦ omega (arith, fault, memory) | inr held ↦ omega (arith, fault, held) ]);
  start = λ fault. absurd (elim none [ inl memory ↦ omega (arith, fault, memory) | inr held ↦ omega (arith, fault, held) ]);
  untouched = λ _. same;
  status = inr (inr none);
}
