use Rattle.std.proofs.Common.{if◌then◌else◌, List, ap, subst, sym, ◌∙◌}
use Rattle.std.specs.VecDeque.{deque_capacity}
use Rattle.cany_totcan.specs.declared.queue.Open.{Open}
use Rattle.cany_totcan.specs.Acceptances.{RingParts, is_same, noted_of, nothing, placed_of}
use Rattle.cany_totcan.specs.Queue.{IsIndexOf}
use Rattle.cany_totcan.proofs.NotedFacts.{dropped_placed, removed_noted}
use Rattle.cany_totcan.proofs.OpenSetFacts.{front_removed, kept-first, there_below}
use Rattle.cany_totcan.proofs.QueueFacts.{there_at}
use Rattle.cany_totcan.proofs.queue.OpenMessages.remove_oldest.Goals as goal

pub take_out-requires : goal.take_out-requires
take_out-requires c =
    let q = c.self.inside in
    let at = subst (λ (v : RingParts). IsIndexOf c.args.msg.now 0 v.messages.items) (sym c.self.view_is) c.requires in
    there_below c.args.msg.now (placed_of q.entries.items) q.members c.self.invariant.is_set (there_at c.args.msg.now (placed_of q.entries.items) 0 at)

pub invariant_of-self : goal.invariant_of-self
invariant_of-self c =
    let q = c.self.inside in
    let at = subst (λ (v : RingParts). IsIndexOf c.args.msg.now 0 v.messages.items) (sym c.self.view_is) c.requires in
    rw (c.pop_front.ensures.rest, dropped_placed q.entries.items, c.saturating_sub-self-inside.ensures, c.pop_front.ensures.capacity)
    (kept-first c.args.msg.now (placed_of q.entries.items) q.done q.room (deque_capacity q.entries) q.members c.take_out.new.self c.self.invariant at
    c.take_out.ensures.has)

pub returns-clause-noted : goal.returns-clause-noted
returns-clause-noted c =
    let q = c.self.inside in
    let at = subst (λ (v : RingParts). IsIndexOf c.args.msg.now 0 v.messages.items) (sym c.self.view_is) c.requires in
    record {
      noted = λ key.
          ap (λ (xs : List Open). noted_of xs key) (c.pop_front.ensures.rest ∙ sym (front_removed q.entries.items))
          ∙ removed_noted q.entries.items 0 c.args.msg.now c.self.invariant.once at key
          ∙ ap (λ (v : RingParts). if is_same key c.args.msg.now then nothing else noted_of v.entries key) c.self.view_is;
    }
