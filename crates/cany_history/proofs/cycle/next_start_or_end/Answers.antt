use Rattle.std.proofs.Common.{◌≡◌, ◌+◌, ◌-◌, ◌%◌, ◌<◌, ◌≤◌, ap, arith}
use Rattle.cany_base.specs.Params.{Parameters}
use Rattle.cany_history.proofs.RestFacts.{plain_exchange, plain_first, plain_rest}
use Rattle.cany_history.proofs.cycle.next_start_or_end.Goals as goal
use Rattle.cany_history.proofs.cycle.next_start_or_end.Goals.{then-after_start-params, else-after_start-params}

pub returns-then-from-params : goal.returns-then-from-params
returns-then-from-params c = λ long slot after before.
    plain_first c.args.params.now slot (omega (arith, before, ap (λ (p : Parameters). p.cycle) c.params.view_is))

pub returns : goal.returns
returns c = λ long slot after before.
    let p : Parameters = c.args.params.now in
    let cycle : c.params.inside.cycle ≡ p.cycle = ap (λ (p : Parameters). p.cycle) c.params.view_is in
    let bound : c.params.inside.bound ≡ p.bound = ap (λ (p : Parameters). p.bound) c.params.view_is in
    let first : 0 < c.args.from % p.cycle = rw (← cycle) (omega (arith, c.if-after_start-eq0.false)) in
    elim c.if-after_start-params.branch [
      | then-after_start-params w ↦
          let early : c.args.from % p.cycle ≤ p.bound = rw (← cycle, ← bound) w.if-after_start-params.true in
          let until : slot < c.args.from + (p.bound - c.args.from % p.cycle) =
          rw (← cycle, ← bound) (omega (arith, before, c.saturating_add.ensures, w.ahead-is)) in
          plain_exchange p c.args.from slot long after first early until
      | else-after_start-params w ↦
          let late : p.bound < c.args.from % p.cycle = rw (← cycle, ← bound) w.if-after_start-params.false in
          let until : slot < c.args.from + (p.cycle - c.args.from % p.cycle) =
          rw (← cycle) (omega (arith, before, c.saturating_add.ensures, w.ahead-is)) in
          plain_rest p c.args.from slot long after late until
    ]
