use Rattle.std.proofs.Common.{refl}
use Rattle.std.proofs.lemmas.Result.{err_from_is_err_and}
use Rattle.cany_text.specs.ParamsText.{given_params}
use Rattle.cany_scenario.proofs.params.given_params.Goals as goal

pub returns-in_err-format : goal.returns-in_err-format
unfolding given_params
returns-in_err-format c =
    let p = err_from_is_err_and c.from_residual.result c.from_residual.ensures.1 in
    rw (p.1, p.2) (rw (← c.in_err-format.ensures) refl)

pub returns-in_err-nodes : goal.returns-in_err-nodes
unfolding given_params
returns-in_err-nodes c =
    let p = err_from_is_err_and c.from_residual-in_err-nodes.result c.from_residual-in_err-nodes.ensures.1 in
    rw (p.1, p.2) (rw (← c.in_ok-format.ensures, ← c.in_err-nodes.ensures.value) refl)

pub returns-in_err-slots : goal.returns-in_err-slots
unfolding given_params
returns-in_err-slots c =
    let p = err_from_is_err_and c.from_residual-in_err-slots.result c.from_residual-in_err-slots.ensures.1 in
    rw (p.1, p.2) (rw (← c.in_ok-format.ensures, ← c.in_ok-nodes.ensures.value, ← (rw c.greatest_slots.ensures at c.in_err-slots.ensures.value)) refl)

pub returns-in_err-lag : goal.returns-in_err-lag
unfolding given_params
returns-in_err-lag c =
    let p = err_from_is_err_and c.from_residual-in_err-lag.result c.from_residual-in_err-lag.ensures.1 in
    rw (p.1, p.2) (rw (← c.in_ok-format.ensures, ← c.in_ok-nodes.ensures.value, ← (rw c.greatest_slots.ensures at c.in_ok-slots.ensures.value), ← c.in_err-lag.ensures.value) refl)

pub returns-in_err-omit : goal.returns-in_err-omit
unfolding given_params
returns-in_err-omit c =
    let p = err_from_is_err_and c.from_residual-in_err-omit.result c.from_residual-in_err-omit.ensures.1 in
    rw (p.1, p.2) (rw (← c.in_ok-format.ensures, ← c.in_ok-nodes.ensures.value, ← (rw c.greatest_slots.ensures at c.in_ok-slots.ensures.value), ← c.in_ok-lag.ensures.value, ← c.in_err-omit.ensures.value) refl)

pub returns-in_err-errors : goal.returns-in_err-errors
unfolding given_params
returns-in_err-errors c =
    let p = err_from_is_err_and c.from_residual-in_err-errors.result c.from_residual-in_err-errors.ensures.1 in
    rw (p.1, p.2) (rw (← c.in_ok-format.ensures, ← c.in_ok-nodes.ensures.value, ← (rw c.greatest_slots.ensures at c.in_ok-slots.ensures.value), ← c.in_ok-lag.ensures.value, ← c.in_ok-omit.ensures.value, ← c.in_err-errors.ensures.value) refl)

pub returns-in_err-bound : goal.returns-in_err-bound
unfolding given_params
returns-in_err-bound c =
    let p = err_from_is_err_and c.from_residual-in_err-bound.result c.from_residual-in_err-bound.ensures.1 in
    rw (p.1, p.2) (rw (← c.in_ok-format.ensures, ← c.in_ok-nodes.ensures.value, ← (rw c.greatest_slots.ensures at c.in_ok-slots.ensures.value), ← c.in_ok-lag.ensures.value, ← c.in_ok-omit.ensures.value, ← c.in_ok-errors.ensures.value, ← (rw (c.least_bound-least_bound.ensures.value, c.from.ensures) at c.in_err-bound.ensures.value)) refl)

pub returns-in_err-cycle : goal.returns-in_err-cycle
unfolding given_params
returns-in_err-cycle c =
    let p = err_from_is_err_and c.from_residual-in_err-cycle.result c.from_residual-in_err-cycle.ensures.1 in
    rw (p.1, p.2) (rw (← c.in_ok-format.ensures, ← c.in_ok-nodes.ensures.value, ← (rw c.greatest_slots.ensures at c.in_ok-slots.ensures.value), ← c.in_ok-lag.ensures.value, ← c.in_ok-omit.ensures.value, ← c.in_ok-errors.ensures.value, ← (rw (c.least_bound-least_bound.ensures.value, c.from.ensures) at c.in_ok-bound.ensures.value), ← (rw c.least_cycle-least_cycle.ensures at c.in_err-cycle.ensures.value)) refl)

pub returns-in_err-life : goal.returns-in_err-life
unfolding given_params
returns-in_err-life c =
    let p = err_from_is_err_and c.from_residual-in_err-life.result c.from_residual-in_err-life.ensures.1 in
    rw (p.1, p.2) (rw (← c.in_ok-format.ensures, ← c.in_ok-nodes.ensures.value, ← (rw c.greatest_slots.ensures at c.in_ok-slots.ensures.value), ← c.in_ok-lag.ensures.value, ← c.in_ok-omit.ensures.value, ← c.in_ok-errors.ensures.value, ← (rw (c.least_bound-least_bound.ensures.value, c.from.ensures) at c.in_ok-bound.ensures.value), ← (rw c.least_cycle-least_cycle.ensures at c.in_ok-cycle.ensures.value), ← (rw c.least_life-least_life.ensures at c.in_err-life.ensures.value)) refl)

pub returns-in_err-silence : goal.returns-in_err-silence
unfolding given_params
returns-in_err-silence c =
    let p = err_from_is_err_and c.from_residual-in_err-silence.result c.from_residual-in_err-silence.ensures.1 in
    rw (p.1, p.2) (rw (← c.in_ok-format.ensures, ← c.in_ok-nodes.ensures.value, ← (rw c.greatest_slots.ensures at c.in_ok-slots.ensures.value), ← c.in_ok-lag.ensures.value, ← c.in_ok-omit.ensures.value, ← c.in_ok-errors.ensures.value, ← (rw (c.least_bound-least_bound.ensures.value, c.from.ensures) at c.in_ok-bound.ensures.value), ← (rw c.least_cycle-least_cycle.ensures at c.in_ok-cycle.ensures.value), ← (rw c.least_life-least_life.ensures at c.in_ok-life.ensures.value), ← (rw c.least_silence-least_silence.ensures at c.in_err-silence.ensures.value)) refl)

pub returns-in_err-confirm : goal.returns-in_err-confirm
unfolding given_params
returns-in_err-confirm c =
    let p = err_from_is_err_and c.from_residual-in_err-confirm.result c.from_residual-in_err-confirm.ensures.1 in
    rw (p.1, p.2) (rw (← c.in_ok-format.ensures, ← c.in_ok-nodes.ensures.value, ← (rw c.greatest_slots.ensures at c.in_ok-slots.ensures.value), ← c.in_ok-lag.ensures.value, ← c.in_ok-omit.ensures.value, ← c.in_ok-errors.ensures.value, ← (rw (c.least_bound-least_bound.ensures.value, c.from.ensures) at c.in_ok-bound.ensures.value), ← (rw c.least_cycle-least_cycle.ensures at c.in_ok-cycle.ensures.value), ← (rw c.least_life-least_life.ensures at c.in_ok-life.ensures.value), ← (rw c.least_silence-least_silence.ensures at c.in_ok-silence.ensures.value), ← c.in_err-confirm.ensures.value) refl)

pub returns : goal.returns
unfolding given_params
returns c = rw (← c.in_ok-format.ensures, ← c.in_ok-nodes.ensures.value, ← (rw c.greatest_slots.ensures at c.in_ok-slots.ensures.value), ← c.in_ok-lag.ensures.value, ← c.in_ok-omit.ensures.value, ← c.in_ok-errors.ensures.value, ← (rw (c.least_bound-least_bound.ensures.value, c.from.ensures) at c.in_ok-bound.ensures.value), ← (rw c.least_cycle-least_cycle.ensures at c.in_ok-cycle.ensures.value), ← (rw c.least_life-least_life.ensures at c.in_ok-life.ensures.value), ← (rw c.least_silence-least_silence.ensures at c.in_ok-silence.ensures.value), ← c.in_ok-confirm.ensures.value) refl
