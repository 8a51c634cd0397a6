use Rattle.std.proofs.Common.{◌≡◌, ◌≢◌, None, refl, sym, ◌∙◌, inl, inr, arith}
use Rattle.std.proofs.lemmas.Bool.{false≢true}
use Rattle.cany_base.specs.Scenario.{ScenarioParts}
use Rattle.cany_text.specs.declared.scenario_fault.ScenarioFault.TheVariants.{Memory}
use Rattle.cany_crew.specs.Top.{IsCrewRun, run_refusal}
use Rattle.cany_crew.proofs.GateFacts.{none_fell}
use Rattle.cany_crew.proofs.TopFacts.{no_refusal, of_text, refusal_of_fault, refusal_of_journal, refused_text, started_report}
use Rattle.cany_crew.proofs.top.run_text.Goals as goal

-- the scenario brings a journal
pub returns-in-Ok : goal.returns-in-Ok
returns-in-Ok g c =
    let line = refusal_of_journal c.args.text.items c.in-Ok.scenario c.in-Ok.ensures.ok (sym c.brings_journal.ensures ∙ c.if-brings_journal.true) in
    refused_text c.args.text.items _ _ _ c.refuse.result line c.refuse.ensures.status c.refuse.ensures.refused c.refuse.ensures.write_fault c.refuse.ensures.prefix

-- it is run
pub returns-in-Ok-2 : goal.returns-in-Ok-2
returns-in-Ok-2 g c =
    let made = c.run_scenario.ensures in
    let accepted : run_refusal c.args.text.items ≡ None = no_refusal c.args.text.items c.in-Ok.scenario c.in-Ok.ensures.ok (sym c.brings_journal.ensures ∙ c.if-brings_journal.false) in
    record {
      done = λ is. of_text c.args.text.items c.in-Ok.scenario (λ (s : ScenarioParts). IsCrewRun s (g.K.Sink.taken c.args.sink.now) (g.K.Sink.taken c.run_scenario.new.sink)) c.in-Ok.ensures.ok (made.done is);
      not_refused = λ ran. accepted;
      passed = made.passed;
      held = made.held;
      count = made.count;
      refused = λ is. absurd (elim made.status [
        | inl e ↦ omega (arith, is, e)
        | inr (inl e) ↦ omega (arith, is, e)
        | inr (inr (inl e)) ↦ omega (arith, is, e)
        | inr (inr (inr e)) ↦ omega (arith, is, e)
      ]);
      write_fault = made.write_fault;
      start = λ is. started_report c.args.text.items c.in-Ok.scenario _ _ c.in-Ok.ensures.ok accepted (made.start is);
      untouched = made.untouched;
      status = elim made.status [
        | inl is ↦ inl (inl is)
        | inr (inl is) ↦ inl (inr (inr is))
        | inr (inr (inl is)) ↦ inr (inl is)
        | inr (inr (inr is)) ↦ inr (inr is)
      ];
    }

-- there is no memory for it
pub returns-in-Err : goal.returns-in-Err
returns-in-Err g c = record {
  done = λ is. absurd (omega (arith, is));
  not_refused = λ ran. absurd (elim ran [ inl is ↦ omega (arith, is) | inr is ↦ omega (arith, is) ]);
  passed = λ is. refl;
  held = λ is. absurd (omega (arith, is));
  count = none_fell _ _ refl;
  refused = λ is. absurd (omega (arith, is));
  write_fault = λ is. absurd (omega (arith, is));
  start = λ is. absurd (omega (arith, is));
  untouched = λ none. refl;
  status = inr (inl refl);
}

-- the text is refused
pub returns-in-Err-2 : goal.returns-in-Err-2
returns-in-Err-2 g c =
    let made = c.refuse-in-Err-2.ensures in
    let other : c.in-Err.fault ≢ Memory = λ e. false≢true (sym c.if-is_memory.false ∙ c.is_memory.ensures.1 e) in
    refused_text c.args.text.items _ _ _ c.refuse-in-Err-2.result (refusal_of_fault c.args.text.items c.in-Err.fault (c.in-Err.ensures.fault other)) made.status made.refused made.write_fault made.prefix
