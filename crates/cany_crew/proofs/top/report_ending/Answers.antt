use Rattle.std.proofs.Common.{Ok, refl, ap, ◌∙◌, inl, inr, arith}
use Rattle.cany_command.specs.Promises.{PromisesHold}
use Rattle.cany_crew.proofs.TopFacts.{not_reported}
use Rattle.cany_crew.proofs.top.report_ending.Given as given
use Rattle.cany_crew.proofs.top.report_ending.Goals as goal
use Rattle.cany_crew.proofs.top.report_ending.Goals.{After-report_run}

-- what is promised of the run that has ended
promises : (g : given.Over) (c : After-report_run g) → PromisesHold c.args.world.now.scenario c.args.world.now.journal
promises g c =
    let ok = rw c.in-Ok.is at c.requires.ended in
    let ended = rw c.in-None.is at ok in
    record {
      legal = ended.0;
      whole = ended.1;
      integrity = c.hypothesis.ensures.integrity;
      safe = λ within. c.hypothesis.ensures.safe (c.hypothesis.ensures.within.1 within);
    }

pub returns-in-None : goal.returns-in-None
returns-in-None g c =
    let ended = c.report_run.ensures.status in
    record {
      done = λ done. record {
        none = c.requires.none;
        journal = c.args.world.now.journal;
        promises = promises g c;
        written = c.report_run.ensures.done done;
      };
      passed = λ _. c.in-Ok.is ∙ ap Ok c.in-None.is;
      held = λ held. elim ended [ inl done ↦ absurd (omega (arith, held, done)) | inr fault ↦ absurd (omega (arith, held, fault)) ];
      write_fault = c.report_run.ensures.write_fault;
      start = λ fault. (c.args.world.now.journal, promises g c, c.report_run.ensures.prefix);
      untouched = λ none. elim none [
        | inl memory ↦ elim ended [ inl done ↦ absurd (omega (arith, memory, done)) | inr fault ↦ absurd (omega (arith, memory, fault)) ]
        | inr held ↦ elim ended [ inl done ↦ absurd (omega (arith, held, done)) | inr fault ↦ absurd (omega (arith, held, fault)) ]
      ];
      status = elim ended [ inl done ↦ inl done | inr fault ↦ inr (inl fault) ];
    }

pub returns-in-Some : goal.returns-in-Some
returns-in-Some g c =
    let is = c.in-Ok.is ∙ ap Ok c.in-Some.is in
    not_reported c.args.world.now.scenario c.args.ending _ _ (inr refl) (λ _. rw is refl) refl

pub returns-in-Err : goal.returns-in-Err
returns-in-Err g c = not_reported c.args.world.now.scenario c.args.ending _ _ (inl refl) (λ held. absurd (omega (arith, held))) refl
