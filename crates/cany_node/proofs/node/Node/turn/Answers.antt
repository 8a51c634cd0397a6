use Rattle.std.proofs.Common.{◌≡◌, ℕ, ◌^◌, ◌-◌, ap, sym, ◌∙◌, arith}
use Rattle.std.specs.Prelude.{None, Option, Some, slice_get}
use Rattle.cany_base.proofs.ParamsFacts.{few_slots}
use Rattle.cany_base.specs.declared.notice.Notice.{Notice}
use Rattle.cany_node.specs.Node.{reply_at}
use Rattle.cany_node.proofs.WholeTurn.{may_act, whole_turn}
use Rattle.cany_node.proofs.node.Node.turn.Goals as goal

pub act-requires : goal.act-requires
act-requires c =
    may_act c.in-Some-next_notice.notice c.heard.new.notice c.args.self.now c.args.ctl.now c.next_notice.new.self c.args.out.now (2 ^ 64 - 1) c.requires
    (sym c.stopped.ensures ∙ c.in_default.is) c.in-Some-next_notice.ensures.oldest c.heard.ensures c.in-Some-next_notice.ensures.some

-- a node that has stopped

pub returns-in-Some-clause-reply : goal.returns-in-Some-clause-reply
returns-in-Some-clause-reply c =
    ap (λ (o : Option ℕ). reply_at c.args.ctl.now.read (slice_get c.args.ctl.now.unread 0) o) (sym c.in-Some.is ∙ c.stopped.ensures)

pub returns-in-Some-clause-turn : goal.returns-in-Some-clause-turn
returns-in-Some-clause-turn c = λ scenario past notice reads.
    let runs : Some c.in-Some.slot ≡ None = sym c.in-Some.is ∙ c.stopped.ensures ∙ reads.running in
    absurd (cc)

-- one that reads a notice

pub returns-clause-reply : goal.returns-clause-reply
returns-clause-reply c =
    ap (λ (o : Option Notice). reply_at c.args.ctl.now.read o None) c.in-Some-next_notice.ensures.oldest
    ∙ ap (λ (o : Option ℕ). reply_at c.args.ctl.now.read (slice_get c.args.ctl.now.unread 0) o) (sym c.in_default.is ∙ c.stopped.ensures)

pub returns-clause-turn : goal.returns-clause-turn
returns-clause-turn c = λ scenario past notice reads.
    let found = c.in-Some-next_notice.ensures.oldest in
    let next = c.requires.next c.in-Some-next_notice.notice (sym found) in
    whole_turn scenario past notice c.in-Some-next_notice.notice c.heard.new.notice c.args.self.now c.act.new.self c.args.ctl.now c.next_notice.new.self c.act.new.ctl (2 ^ 64 - 1) reads found c.heard.ensures
    c.in-Some-next_notice.ensures.some (omega (arith, c.requires.read, next.slot, next.within, few_slots c.requires.scenario.params c.requires.legal.in_range)) c.act.ensures.controller c.act.ensures.stands
