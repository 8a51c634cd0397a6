use Rattle.std.proofs.Common.{◌≡◌, ◌∙◌, sym, [], Some, None, refl}
use Rattle.std.proofs.lemmas.Result.{err_from_is_err_and}
use Rattle.cany_text.specs.FaultsText.{repeats, rules_of}
use Rattle.cany_text.specs.TomlKeys.{first_after}
use Rattle.cany_scenario.proofs.rules.read_rules.Goals as goal

pub returns-in_err-rules-clause-fault : goal.returns-in_err-rules-clause-fault
unfolding rules_of
returns-in_err-rules-clause-fault c =
    let p = err_from_is_err_and c.from_residual.result c.from_residual.ensures.1 in
    rw (p.1, p.2) (λ other. rw (c.in_err-rules.ensures.fault other) refl)

pub returns-in-Some-clause-fault : goal.returns-in-Some-clause-fault
unfolding rules_of
returns-in-Some-clause-fault c = λ other.
    let first : first_after repeats [] c.in_ok-rules.rules.items ≡ Some c.in-Some.index = sym (rw c.deref.ensures.value at c.in_ok-index.ensures.ok) ∙ c.in-Some.is in
    rw (c.in_ok-rules.ensures.ok, first) refl

pub returns-in-None-clause-ok : goal.returns-in-None-clause-ok
unfolding rules_of
returns-in-None-clause-ok c =
    let none : first_after repeats [] c.in_ok-rules.rules.items ≡ None = sym (rw c.deref.ensures.value at c.in_ok-index.ensures.ok) ∙ c.in-None.is in
    rw (c.in_ok-rules.ensures.ok, none) refl
