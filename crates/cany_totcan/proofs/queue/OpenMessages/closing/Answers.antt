use Rattle.std.proofs.Common.{◌+◌, ◌-◌, ◌<◌, ap, sym, ◌∙◌, arith}
use Rattle.cany_totcan.specs.Acceptances.{RingParts}
use Rattle.cany_totcan.specs.Queue.{oldest_from}
use Rattle.cany_totcan.proofs.NotedFacts.{front_later, front_none}
use Rattle.cany_totcan.proofs.queue.OpenMessages.closing.Goals as goal

pub returns-in-Some : goal.returns-in-Some
returns-in-Some c = λ slot early late.
    let before : slot < c.in-Some.oldest.placed.place + c.args.bound = omega (arith, early, c.saturating_add.ensures) in
    ap (λ (v : RingParts). oldest_from (slot - c.args.bound) v.messages.items) (sym c.self.view_is)
    ∙ front_later c.args.bound slot c.self.inside.entries.items c.in-Some.oldest (sym c.item_at.ensures ∙ c.in-Some.is) before late

pub returns-in-None : goal.returns-in-None
returns-in-None c = λ slot early late.
    ap (λ (v : RingParts). oldest_from (slot - c.args.bound) v.messages.items) (sym c.self.view_is)
    ∙ front_none (slot - c.args.bound) c.self.inside.entries.items (sym c.item_at.ensures ∙ c.in-None.is)
