use Rattle.std.proofs.Common.{◌≡◌, ◌∙◌, refl, sym, ap, length, Ok, Some, None, arith, rules}
use Rattle.std.proofs.lemmas.Result.{err_from_is_err_and}
use Rattle.toml.specs.Data.{as_str}
use Rattle.toml.specs.View.{view, items_view}
use Rattle.cany_text.specs.JournalText.{steps_from}
use Rattle.cany_scenario.specs.Arrays.{after}
use Rattle.cany_scenario.specs.JournalParts.{texts_in_order}
use Rattle.cany_scenario.proofs.JournalFacts.{failed, after-nothing, texts_at, texts_next, texts_done}
use Rattle.cany_scenario.proofs.journal.read_texts.Goals as goal

pub loop-value-init : goal.loop-value-init
loop-value-init c = rw c.new-steps.ensures.items (sym (after-nothing (texts_in_order c.args.format c.args.at 0 (items_view c.args.texts.now))))

pub returns-in_default-clause-fault : goal.returns-in_default-clause-fault
returns-in_default-clause-fault c = λ other.
    let none : as_str (view c.value-item.result) ≡ None = search rules in
    c.loop-value.invariant
    ∙ texts_next c.args.format c.args.at c.args.texts.now c.loop-value.value-index c.value-item.result c.loop-value.steps.items c.loop-value-test.true c.value-item.is
    ∙ rw none (ap failed (sym c.wrong_kind.ensures))

pub returns-in_err-push_steps-clause-fault : goal.returns-in_err-push_steps-clause-fault
returns-in_err-push_steps-clause-fault c =
    let p = err_from_is_err_and c.from_residual.result c.from_residual.ensures.1 in
    let shown : as_str (view c.value-item.result) ≡ Some c.in-Some.text.now = search rules in
    rw (p.1, p.2) (λ other.
    c.loop-value.invariant
    ∙ texts_next c.args.format c.args.at c.args.texts.now c.loop-value.value-index c.value-item.result c.loop-value.steps.items c.loop-value-test.true c.value-item.is
    ∙ rw (shown, (rw c.as_bytes.ensures.value at c.in_err-push_steps.ensures.fault) other) refl)

pub loop-value-preserved : goal.loop-value-preserved
loop-value-preserved c =
    let shown : as_str (view c.value-item.result) ≡ Some c.in-Some.text.now = search rules in
    let good : after c.loop-value.steps.items (steps_from c.args.format (length c.loop-value.steps.items) c.in-Some.text.now) ≡ Ok c.push_steps.new.steps.items = rw c.as_bytes.ensures.value at c.in_ok-push_steps.ensures.ok in
    c.loop-value.invariant
    ∙ texts_next c.args.format c.args.at c.args.texts.now c.loop-value.value-index c.value-item.result c.loop-value.steps.items c.loop-value-test.true c.value-item.is
    ∙ rw (shown, good) refl

pub returns-clause-ok : goal.returns-clause-ok
returns-clause-ok c =
    let end : c.loop-value.value-index ≡ length c.args.texts.now = omega arith in
    c.loop-value.invariant
    ∙ ap (λ i. after c.loop-value.steps.items (texts_at c.args.format c.args.at (length c.loop-value.steps.items) c.args.texts.now i)) end
    ∙ texts_done c.args.format c.args.at c.args.texts.now c.loop-value.steps.items
