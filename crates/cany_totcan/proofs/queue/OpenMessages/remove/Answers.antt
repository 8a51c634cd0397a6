use Rattle.std.proofs.Common.{◌≡◌, ap, subst, sym, ◌∙◌, false, length}
use Rattle.std.specs.List.{list_any}
use Rattle.cany_totcan.specs.Acceptances.{IsNoted, RingParts, forgotten, placed_of}
use Rattle.cany_totcan.specs.Queue.{OpenParts, is_at, is_removed}
use Rattle.cany_totcan.proofs.NotedFacts.{none_forgotten}
use Rattle.cany_totcan.proofs.QueueFacts.{parts_absent}
use Rattle.cany_totcan.proofs.queue.OpenMessages.remove.Goals as goal

pub returns-else-has-clause-messages : goal.returns-else-has-clause-messages
returns-else-has-clause-messages c =
    let q = c.self.inside in
    let key = c.args.msg.now in
    let v : OpenParts = record { items = placed_of q.entries.items; done = q.done; room = q.room; numbers = length q.members.origins } in
    let none : list_any (is_at key) (placed_of q.entries.items) ≡ false = sym (c.self.invariant.is_set key.seq key.origin) ∙ sym c.has.ensures ∙ c.if-has.false in
    ap (λ (w : RingParts). w.messages) (sym c.self.view_is) ∙ parts_absent key v c.self.invariant.there none ∙ ap (λ (w : RingParts). is_removed key w.messages) c.self.view_is

pub returns-else-has-clause-noted : goal.returns-else-has-clause-noted
returns-else-has-clause-noted c =
    let q = c.self.inside in
    let key = c.args.msg.now in
    let none : list_any (is_at key) (placed_of q.entries.items) ≡ false = sym (c.self.invariant.is_set key.seq key.origin) ∙ sym c.has.ensures ∙ c.if-has.false in
    subst (λ (w : RingParts). IsNoted forgotten key w.entries w.entries) c.self.view_is (none_forgotten q.entries.items key none)
