use Rattle.std.proofs.Common.{◌≡◌, ◌*◌, ◌-◌, ◌/◌, ◌%◌, length, sym, subst, arith}
use Rattle.std.proofs.lemmas.List.{take_all}
use Rattle.std.proofs.Math.Nat.{div-mul-le_self, mod-eq-sub-div-mul}
use Rattle.cany_world.specs.Journal.{Repeats}
use Rattle.cany_log.proofs.RepeatFacts.{repeats_after}
use Rattle.cany_log.proofs.heading.same_lines.Goals as goal

pub returns-then-period-eq0-clause-again : goal.returns-then-period-eq0-clause-again
returns-then-period-eq0-clause-again c = λ journal again. sym (take_all (length journal - 0) journal (omega arith))

pub returns-clause-again : goal.returns-clause-again
returns-clause-again c = λ journal again.
    let times = 64 * (128 / c.args.period) in
    let same : times * c.args.period ≡ 64 * (128 - 128 % c.args.period) =
    omega (arith, mod-eq-sub-div-mul 128 c.args.period, div-mul-le_self 128 c.args.period) in
    subst (λ n. Repeats n journal) same (repeats_after journal c.args.period times again)
