use Rattle.std.proofs.Common.{◌≡◌, ◌<◌, ◌≤◌, ◌⊎◌, map, length, string_bytes, refl, inl, inr, arith, rules}
use Rattle.std.specs.Prelude.{MatchOption}
use Rattle.cany_base.specs.Limits.{most_text_bytes}
use Rattle.cany_command.specs.declared.status.TheConstants.{DONE, NO_MEMORY, OTHER_WORDS, REFUSED, TOO_LONG}
use Rattle.cany_command.specs.Status.{HasNoAnswer}
use Rattle.cany_command.proofs.PerformedFacts.{line_decides, of_all, rose, told_then, told_then_any, unrefused}
use Rattle.cany_crew.specs.Top.{AreRun, run_refusal}
use Rattle.cany_crew.proofs.GateFacts.{none_fell, none_rose}
use Rattle.cany_crew.proofs.TopFacts.{done_or_held, not_both, not_ran}
use Rattle.cany_crew.proofs.top.run_top.Goals as goal

-- other words
pub returns-then-not-is_only : goal.returns-then-not-is_only
returns-then-not-is_only g c =
    let other : AreRun (map string_bytes c.args.words.now) → ⊥ = search rules in
    let none : HasNoAnswer OTHER_WORDS = inl refl in
    record {
      words = (λ is. other, λ no. refl);
      unread = λ is. refl;
      done = λ is. absurd (omega (arith, is));
      refused = λ is. absurd (omega (arith, is));
      unrefused = λ ran. absurd (not_ran OTHER_WORDS none (done_or_held OTHER_WORDS ran));
      held = λ is. absurd (omega (arith, is));
      passed = λ is. absurd (omega (arith, is));
      count = none_fell _ _ refl;
      read_fault = λ is. absurd (omega (arith, is));
      write_fault = λ is. absurd (omega (arith, is));
      start = λ is. absurd (omega (arith, is));
      too_long = λ is. absurd (omega (arith, is));
      fits = λ ran. absurd (not_ran OTHER_WORDS none ran);
      drained = λ ran. absurd (not_ran OTHER_WORDS none ran);
      unwritten = λ same. refl;
      status = inr (inl none);
      complete = λ are. absurd (other are);
      complete_too_long = λ are. absurd (other are);
    }

-- there is no text
pub returns-in-Err : goal.returns-in-Err
returns-in-Err g c =
    let answer = c.in-Err.status in
    let told = g.S.Source.left c.args.source.now in
    let are : AreRun (map string_bytes c.args.words.now) = search rules in
    let ended = c.in-Err.ensures.status in
    let none : HasNoAnswer answer = elim ended [ inl is ↦ inr (inl is) | inr (inl is) ↦ inr (inr (inr is)) | inr (inr is) ↦ inr (inr (inl is)) ] in
    let low : OTHER_WORDS < answer = elim ended [ inl is ↦ omega (arith, is) | inr (inl is) ↦ omega (arith, is) | inr (inr is) ↦ omega (arith, is) ] in
    record {
      words = (λ is. absurd (omega (arith, is, low)), λ no. absurd (no are));
      unread = λ is. absurd (omega (arith, is, low));
      done = λ is. absurd (not_ran answer none (inl (inl is)));
      refused = λ is. absurd (not_ran answer none (inl (inr (inl is))));
      unrefused = λ ran. absurd (not_ran answer none (done_or_held answer ran));
      held = λ is. absurd (not_ran answer none (inr is));
      passed = λ is. absurd (not_ran answer none (inl (inl is)));
      count = none_fell _ _ refl;
      read_fault = c.in-Err.ensures.read_fault;
      write_fault = λ is. absurd (not_ran answer none (inl (inr (inr is))));
      start = λ is. absurd (not_ran answer none (inl (inr (inr is))));
      too_long = c.in-Err.ensures.too_long;
      fits = λ ran. absurd (not_ran answer none ran);
      drained = λ ran. absurd (not_ran answer none ran);
      unwritten = λ same. refl;
      status = inr (inl none);
      complete = λ again still still_too passed. elim ended [
        | inl is ↦ absurd (rose _ _ (c.in-Err.ensures.read_fault is) still)
        | inr (inl is) ↦ told_then told (λ bytes. most_text_bytes < length bytes) (λ bytes. length bytes ≤ most_text_bytes → (answer ≡ NO_MEMORY) ⊎ MatchOption (run_refusal bytes) (answer ≡ DONE) (λ _. answer ≡ REFUSED))
            (c.in-Err.ensures.too_long is) (λ bytes above within. absurd (omega (arith, above, within)))
        | inr (inr is) ↦ told_then_any told (λ bytes. length bytes ≤ most_text_bytes → (answer ≡ NO_MEMORY) ⊎ MatchOption (run_refusal bytes) (answer ≡ DONE) (λ _. answer ≡ REFUSED)) (λ bytes within. inl is)
      ];
      complete_too_long = λ again still. elim ended [
        | inl is ↦ absurd (rose _ _ (c.in-Err.ensures.read_fault is) still)
        | inr (inl is) ↦ told_then_any told (λ bytes. most_text_bytes < length bytes → (answer ≡ NO_MEMORY) ⊎ (answer ≡ TOO_LONG)) (λ bytes above. inr is)
        | inr (inr is) ↦ told_then_any told (λ bytes. most_text_bytes < length bytes → (answer ≡ NO_MEMORY) ⊎ (answer ≡ TOO_LONG)) (λ bytes above. inl is)
      ];
    }

-- there is one
pub returns-in-Ok : goal.returns-in-Ok
returns-in-Ok g c =
    let answer = c.run_text.result in
    let told = g.S.Source.left c.args.source.now in
    let text = c.in-Ok.text.items in
    let read = c.in-Ok.ensures in
    let made = c.run_text.ensures in
    let are : AreRun (map string_bytes c.args.words.now) = search rules in
    record {
      words = (λ is. absurd (not_both answer made.status (inl is)), λ no. absurd (no are));
      unread = λ is. absurd (not_both answer made.status (inl is));
      done = λ is. of_all told text _ read.whole (made.done is);
      refused = λ is. of_all told text _ read.whole (made.refused is);
      unrefused = λ ran. of_all told text _ read.whole (made.not_refused ran);
      held = made.held;
      passed = made.passed;
      count = made.count;
      read_fault = λ is. absurd (not_both answer made.status (inr (inl is)));
      write_fault = made.write_fault;
      start = λ is. of_all told text _ read.whole (made.start is);
      too_long = λ is. absurd (not_both answer made.status (inr (inr is)));
      fits = λ ran. read.fits;
      drained = λ ran. read.end;
      unwritten = λ none. elim none [
        | inl (inl is) ↦ absurd (not_both answer made.status (inl is))
        | inl (inr (inl is)) ↦ absurd (not_both answer made.status (inr (inl is)))
        | inl (inr (inr (inl is))) ↦ made.untouched (inl is)
        | inl (inr (inr (inr is))) ↦ absurd (not_both answer made.status (inr (inr is)))
        | inr is ↦ made.untouched (inr is)
      ];
      status = elim made.status [
        | inl ended ↦ inl ended
        | inr (inl is) ↦ inr (inl (inr (inr (inl is))))
        | inr (inr is) ↦ inr (inr is)
      ];
      complete = λ again still still_too passed. elim made.status [
        | inl (inl is) ↦ of_all told text (λ bytes. length bytes ≤ most_text_bytes → (answer ≡ NO_MEMORY) ⊎ MatchOption (run_refusal bytes) (answer ≡ DONE) (λ _. answer ≡ REFUSED)) read.whole
            (λ within. inr (unrefused (run_refusal text) _ _ (made.not_refused (inl is)) is))
        | inl (inr (inl is)) ↦ of_all told text (λ bytes. length bytes ≤ most_text_bytes → (answer ≡ NO_MEMORY) ⊎ MatchOption (run_refusal bytes) (answer ≡ DONE) (λ _. answer ≡ REFUSED)) read.whole
            (λ within. inr (line_decides (run_refusal text) _ _ _ (made.refused is) is))
        | inl (inr (inr is)) ↦ absurd (rose _ _ (made.write_fault is) still_too)
        | inr (inl is) ↦ told_then_any told (λ bytes. length bytes ≤ most_text_bytes → (answer ≡ NO_MEMORY) ⊎ MatchOption (run_refusal bytes) (answer ≡ DONE) (λ _. answer ≡ REFUSED)) (λ bytes within. inl is)
        | inr (inr is) ↦ absurd (none_rose _ _ passed (made.held is))
      ];
      complete_too_long = λ again still. told_then told (λ bytes. length bytes ≤ most_text_bytes) (λ bytes. most_text_bytes < length bytes → (answer ≡ NO_MEMORY) ⊎ (answer ≡ TOO_LONG))
          read.fits (λ bytes within above. absurd (omega (arith, within, above)));
    }
