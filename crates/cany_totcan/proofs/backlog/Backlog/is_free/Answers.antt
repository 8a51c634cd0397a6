-- The last message that was asked for, and what was kept of it.
use Rattle.std.proofs.Common.{◌&&◌, ap, arith, sym, ◌∙◌}
use Rattle.cany_totcan.specs.Backlog.{BacklogParts, is_past}
use Rattle.cany_totcan.proofs.BacklogFacts.{free_first}
use Rattle.cany_totcan.proofs.backlog.Backlog.is_free.Goals as goal

pub last_asked-last-requires : goal.last_asked-last-requires
last_asked-last-requires c = omega (arith, c.if-self-eq0.false, ap (λ (v : BacklogParts). v.asked) c.self.view_is)

pub returns-then-self-eq0 : goal.returns-then-self-eq0
returns-then-self-eq0 c =
    sym (free_first c.args.now c.args.spacing c.args.self.now (sym (ap (λ (v : BacklogParts). v.asked) c.self.view_is) ∙ c.if-self-eq0.true))

pub returns-else-last : goal.returns-else-last
returns-else-last c =
    c.if-last.false ∙ ap (λ sent. sent && is_past c.args.now c.args.spacing c.last_asked-last.result.place) (sym c.if-last.false)
    ∙ sym (c.last_asked-last.ensures c.args.now c.args.spacing)

pub returns-then-last : goal.returns-then-last
returns-then-last c =
    c.is_past.ensures ∙ ap (λ sent. sent && is_past c.args.now c.args.spacing c.last_asked-last.result.place) (sym c.if-last.true)
    ∙ sym (c.last_asked-last.ensures c.args.now c.args.spacing)
