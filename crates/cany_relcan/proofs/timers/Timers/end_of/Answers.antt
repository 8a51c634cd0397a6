use Rattle.std.proofs.Common.{◌∙◌, ap, arith}
use Rattle.cany_relcan.specs.Timers.{TimersParts, oldest_start}
use Rattle.cany_relcan.proofs.OldestFacts.{from_oldest, from_other, without_oldest, without_other}
use Rattle.cany_relcan.proofs.timers.Timers.end_of.Goals as goal

pub returns-then-self-first-clause-due : goal.returns-then-self-first-clause-due
returns-then-self-first-clause-due c =
    rw (← c.self.view_is)
    (from_other c.args.first c.self.inside.running.items (λ same. omega (arith, same, c.self.invariant.1, c.if-self-first.true)))

pub returns-then-self-first-clause-timers : goal.returns-then-self-first-clause-timers
returns-then-self-first-clause-timers c =
    rw (← c.self.view_is)
    (ap (λ running. record { running = running; room = c.self.inside.running.capacity })
    (without_other c.args.first c.self.inside.running.items (λ same. omega (arith, same, c.self.invariant.1, c.if-self-first.true))))

pub returns-clause-due : goal.returns-clause-due
returns-clause-due c =
    let is = ap (λ (v : TimersParts). oldest_start v.running) c.self.view_is in
    c.end_oldest.ensures.due ∙ from_oldest c.args.first c.args.self.now.running (omega (arith, is, c.self.invariant.1, c.if-self-first.false))

pub returns-clause-timers : goal.returns-clause-timers
returns-clause-timers c =
    let is = ap (λ (v : TimersParts). oldest_start v.running) c.self.view_is in
    c.end_oldest.ensures.timers
    ∙ ap (λ running. record { running = running; room = c.args.self.now.room })
    (without_oldest c.args.first c.args.self.now.running (omega (arith, is, c.self.invariant.1, c.if-self-first.false)))
