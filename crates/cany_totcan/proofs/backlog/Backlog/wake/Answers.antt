-- Until the last message that was asked for was sent, and is so far back, none is.
use Rattle.std.proofs.Common.{◌&&◌, ap, arith, ◌∙◌}
use Rattle.cany_totcan.specs.Backlog.{BacklogParts, is_past}
use Rattle.cany_totcan.proofs.BacklogFacts.{none_free, none_left}
use Rattle.cany_totcan.proofs.backlog.Backlog.wake.Goals as goal

pub last_asked-last-requires : goal.last_asked-last-requires
last_asked-last-requires c = omega (arith, c.if-self-eq0.false, ap (λ (v : BacklogParts). v.asked) c.self.view_is)

pub returns-then-self-len : goal.returns-then-self-len
returns-then-self-len c = λ now early. none_left now c.args.spacing _ c.args.self.now c.self.view_is (omega (arith, c.len.ensures.len, c.if-self-len.true))

pub returns-then-self-eq0 : goal.returns-then-self-eq0
returns-then-self-eq0 c = λ now early. absurd (omega (arith, early))

pub returns-else-last : goal.returns-else-last
returns-else-last c = λ now early.
    none_free now c.args.spacing c.args.self.now
    (c.last_asked-last.ensures now c.args.spacing ∙ ap (λ sent. sent && is_past now c.args.spacing c.last_asked-last.result.place) c.if-last.false)

pub returns-then-last : goal.returns-then-last
returns-then-last c = λ now early.
    none_free now c.args.spacing c.args.self.now
    (c.last_asked-last.ensures now c.args.spacing ∙ ap (λ sent. sent && is_past now c.args.spacing c.last_asked-last.result.place) c.if-last.true
    ∙ c.past_from.ensures now early)
