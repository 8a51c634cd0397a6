use Rattle.std.proofs.Common.{◌≡◌, ◌∙◌, sym, Ok, Some, None, true, false, rules}
use Rattle.std.proofs.lemmas.Result.{err_from_is_err_and}
use Rattle.toml.specs.Data.{as_array}
use Rattle.toml.specs.View.{view, items_view}
use Rattle.cany_scenario.specs.JournalParts.{are_texts}
use Rattle.cany_scenario.proofs.JournalFacts.{failed, journal_from-no_array, journal_from-others, journal_from-texts}
use Rattle.cany_scenario.proofs.journal.journal_from.Goals as goal

pub returns-in_default-clause-fault : goal.returns-in_default-clause-fault
returns-in_default-clause-fault c = λ other.
    let none : as_array (view c.args.value.now) ≡ None = search rules in
    rw c.wrong_kind.ensures (journal_from-no_array c.args.format c.args.at (view c.args.value.now) none)

pub returns-then-not-are_texts-clause-fault : goal.returns-then-not-are_texts-clause-fault
returns-then-not-are_texts-clause-fault c = λ other.
    let is : as_array (view c.args.value.now) ≡ Some (items_view c.in-Some.texts.now.items) = search rules in
    let none : are_texts c.in-Some.texts.now.items ≡ false = sym (rw c.deref.ensures.value at c.are_texts.ensures) ∙ c.if-not-are_texts.true in
    rw c.wrong_kind-then-not-are_texts.ensures (journal_from-others c.args.format c.args.at (view c.args.value.now) c.in-Some.texts.now.items is none)

pub returns-in_err-steps-clause-fault : goal.returns-in_err-steps-clause-fault
returns-in_err-steps-clause-fault c =
    let p = err_from_is_err_and c.from_residual.result c.from_residual.ensures.1 in
    let is : as_array (view c.args.value.now) ≡ Some (items_view c.in-Some.texts.now.items) = search rules in
    let all : are_texts c.in-Some.texts.now.items ≡ true = sym (rw c.deref.ensures.value at c.are_texts.ensures) ∙ c.if-not-are_texts.false in
    rw (p.1, p.2) (λ other. journal_from-texts c.args.format c.args.at (view c.args.value.now) c.in-Some.texts.now.items (failed c.in_err-steps.field-0.0) is all
    ((rw c.deref-2.ensures.value at c.in_err-steps.ensures.fault) other))

pub returns-clause-ok : goal.returns-clause-ok
returns-clause-ok c =
    let is : as_array (view c.args.value.now) ≡ Some (items_view c.in-Some.texts.now.items) = search rules in
    let all : are_texts c.in-Some.texts.now.items ≡ true = sym (rw c.deref.ensures.value at c.are_texts.ensures) ∙ c.if-not-are_texts.false in
    journal_from-texts c.args.format c.args.at (view c.args.value.now) c.in-Some.texts.now.items (Ok c.in_ok-steps.steps.items) is all
    (rw c.deref-2.ensures.value at c.in_ok-steps.ensures.ok)
