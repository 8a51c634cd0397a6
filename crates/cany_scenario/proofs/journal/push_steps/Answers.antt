use Rattle.std.proofs.Common.{◌≡◌, ◌∙◌, sym, ap, drop, length, arith}
use Rattle.cany_text.specs.declared.scenario_fault.ScenarioFault.TheVariants.{BadJournal}
use Rattle.cany_text.specs.JournalText.{steps_from}
use Rattle.cany_scenario.specs.Arrays.{after}
use Rattle.cany_scenario.proofs.JournalFacts.{failed, bytes_next, bytes_done}
use Rattle.cany_scenario.proofs.journal.push_steps.Goals as goal

pub returns-in_default-clause-fault : goal.returns-in_default-clause-fault
returns-in_default-clause-fault c = λ other.
    c.loop-byte.invariant
    ∙ bytes_next c.args.format c.args.bytes.now c.loop-byte.byte-index 0 c.loop-byte.steps.items c.loop-byte-test.true
    ∙ rw (sym c.step_of.ensures ∙ c.in_default.is) (ap (λ n. failed (BadJournal n)) (sym (c.len.ensures ∙ c.loop-byte.steps.ok.0)))

pub loop-byte-preserved : goal.loop-byte-preserved
loop-byte-preserved c =
    c.loop-byte.invariant
    ∙ bytes_next c.args.format c.args.bytes.now c.loop-byte.byte-index 0 c.loop-byte.steps.items c.loop-byte-test.true
    ∙ rw (sym c.step_of.ensures ∙ c.in-Some.is, c.in_ok-push.ensures.items)

pub returns-clause-ok : goal.returns-clause-ok
returns-clause-ok c =
    let end : c.loop-byte.byte-index ≡ length c.args.bytes.now = omega arith in
    c.loop-byte.invariant
    ∙ ap (λ i. after c.loop-byte.steps.items (steps_from c.args.format (length c.loop-byte.steps.items) (drop i c.args.bytes.now))) end
    ∙ bytes_done c.args.format c.args.bytes.now c.loop-byte.steps.items
