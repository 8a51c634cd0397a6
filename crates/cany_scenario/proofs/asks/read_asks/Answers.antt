use Rattle.std.proofs.Common.{◌≡◌, ◌∙◌, sym, [], Some, None, refl}
use Rattle.std.proofs.lemmas.Result.{err_from_is_err_and}
use Rattle.cany_text.specs.AsksText.{is_one_too_many, restarts_of}
use Rattle.cany_text.specs.TomlKeys.{first_after}
use Rattle.cany_scenario.proofs.asks.read_asks.Goals as goal

pub returns-in_err-joins-clause-fault : goal.returns-in_err-joins-clause-fault
returns-in_err-joins-clause-fault c =
    let p = err_from_is_err_and c.from_residual.result c.from_residual.ensures.1 in
    rw (p.1, p.2) (λ other. rw (c.in_err-joins.ensures.fault other) refl)

pub returns-in_err-leaves-clause-fault : goal.returns-in_err-leaves-clause-fault
returns-in_err-leaves-clause-fault c =
    let p = err_from_is_err_and c.from_residual-in_err-leaves.result c.from_residual-in_err-leaves.ensures.1 in
    rw (p.1, p.2) (λ other. rw (c.in_ok-joins.ensures.ok, c.in_err-leaves.ensures.fault other) refl)

pub returns-in_err-restarts-clause-fault : goal.returns-in_err-restarts-clause-fault
unfolding restarts_of
returns-in_err-restarts-clause-fault c =
    let p = err_from_is_err_and c.from_residual-in_err-restarts.result c.from_residual-in_err-restarts.ensures.1 in
    rw (p.1, p.2) (λ other. rw (c.in_ok-joins.ensures.ok, c.in_ok-leaves.ensures.ok, c.in_err-restarts.ensures.fault other) refl)

pub returns-in-Some-clause-fault : goal.returns-in-Some-clause-fault
unfolding restarts_of
returns-in-Some-clause-fault c = λ other.
    let first : first_after is_one_too_many [] c.in_ok-restarts.restarts.items ≡ Some c.in-Some.place = sym (rw c.deref.ensures.value at c.first_too_often.ensures) ∙ c.in-Some.is in
    rw (c.in_ok-joins.ensures.ok, c.in_ok-leaves.ensures.ok, c.in_ok-restarts.ensures.ok, first) refl

pub returns-in-None-clause-joins : goal.returns-in-None-clause-joins
returns-in-None-clause-joins c = c.in_ok-joins.ensures.ok

pub returns-in-None-clause-leaves : goal.returns-in-None-clause-leaves
returns-in-None-clause-leaves c = c.in_ok-leaves.ensures.ok

pub returns-in-None-clause-restarts : goal.returns-in-None-clause-restarts
unfolding restarts_of
returns-in-None-clause-restarts c =
    let none : first_after is_one_too_many [] c.in_ok-restarts.restarts.items ≡ None = sym (rw c.deref.ensures.value at c.first_too_often.ensures) ∙ c.in-None.is in
    rw (c.in_ok-restarts.ensures.ok, none) refl
