use Rattle.std.proofs.Common.{◌≡◌, ℕ, ◌-◌, ◌<◌, List, Option, ap, subst, sym, ◌∙◌, length, arith}
use Rattle.std.specs.Prelude.{remove, IsSome, OnSome}
use Rattle.std.specs.VecDeque.{deque_capacity, deque_len}
use Rattle.cany_base.specs.declared.message.MsgKey.{MsgKey}
use Rattle.cany_totcan.specs.declared.queue.Open.{Open}
use Rattle.cany_totcan.specs.declared.queue.OpenMessages.TheInside.{Inside}
use Rattle.cany_totcan.specs.Acceptances.{IsNoted, RingParts, forgotten, noted_of, placed_of}
use Rattle.cany_totcan.specs.Queue.{AreOnce, IsIndexOf, OpenParts, is_removed}
use Rattle.cany_totcan.proofs.NotedFacts.{length-placed, none_forgotten, removed_noted, removed_placed}
use Rattle.cany_totcan.proofs.OpenSetFacts.{removed_from, there_below}
use Rattle.cany_totcan.proofs.QueueFacts.{kept-remove, parts_absent, parts_after, parts_before, there_at}
use Rattle.cany_totcan.proofs.queue.OpenMessages.remove_open.Goals as goal

abbrev messages_in : Inside → OpenParts
messages_in q = record { items = placed_of q.entries.items; done = q.done; room = q.room; numbers = length q.members.origins }

-- the entries once the one at the index of the message was removed, if there is one
module _ (msg : MsgKey) (q : Inside) (index : ℕ) (at : IsIndexOf msg index (placed_of q.entries.items)) (gone : Option Open) (left : List Open)
    (are : OnSome gone (left ≡ remove q.entries.items index)) (some : index < deque_len q.entries → IsSome gone) where
  entries_left : left ≡ remove q.entries.items index
  entries_left = removed_from gone _ are (some (omega (arith, at.within, length-placed q.entries.items, q.entries.ok.0)))

  placed_left : placed_of left ≡ remove (placed_of q.entries.items) index
  placed_left = ap placed_of entries_left ∙ removed_placed q.entries.items index

  noted_left : (entries : List Open) → q.entries.items ≡ entries → AreOnce (placed_of q.entries.items) → IsNoted forgotten msg entries left
  noted_left entries is once =
      subst (λ xs. IsNoted forgotten msg xs left) is
      (record { noted = λ key. ap (λ xs. noted_of xs key) entries_left ∙ removed_noted q.entries.items index msg once at key })

pub take_out-requires : goal.take_out-requires
take_out-requires c =
    let q = c.self.inside in
    let at : IsIndexOf c.args.msg.now c.in-Some.index (placed_of q.entries.items) = c.in-Some.ensures.found in
    there_below c.args.msg.now (placed_of q.entries.items) q.members c.self.invariant.is_set (there_at c.args.msg.now (placed_of q.entries.items) c.in-Some.index at)

pub invariant_of-self : goal.invariant_of-self
invariant_of-self c =
    let q = c.self.inside in
    let at : IsIndexOf c.args.msg.now c.in-Some.index (placed_of q.entries.items) = c.in-Some.ensures.found in
    rw (placed_left c.args.msg.now q c.in-Some.index at c.remove.result _ c.remove.ensures.items c.remove.ensures.variant.1, c.remove.ensures.capacity)
    (kept-remove c.args.msg.now c.in-Some.index (placed_of q.entries.items) q.done (q.done - 1) q.room (deque_capacity q.entries) q.members c.take_out.new.self c.self.invariant at
    (omega (arith, c.self.invariant.there, at.within)) c.take_out.ensures.has)

pub invariant_of-self-else-index-self : goal.invariant_of-self-else-index-self
invariant_of-self-else-index-self c =
    let q = c.self.inside in
    let at : IsIndexOf c.args.msg.now c.in-Some.index (placed_of q.entries.items) = c.in-Some.ensures.found in
    rw (placed_left c.args.msg.now q c.in-Some.index at c.remove.result _ c.remove.ensures.items c.remove.ensures.variant.1, c.remove.ensures.capacity)
    (kept-remove c.args.msg.now c.in-Some.index (placed_of q.entries.items) q.done q.done q.room (deque_capacity q.entries) q.members c.take_out.new.self c.self.invariant at
    (omega (arith, at.within)) c.take_out.ensures.has)

pub returns-then-index-self-clause-messages : goal.returns-then-index-self-clause-messages
returns-then-index-self-clause-messages c =
    let q = c.self.inside in
    let left = placed_left c.args.msg.now q c.in-Some.index c.in-Some.ensures.found c.remove.result _ c.remove.ensures.items c.remove.ensures.variant.1 in
    parts_before c.args.msg.now c.in-Some.index (messages_in q) _ c.self.invariant.once c.in-Some.ensures.found left _ c.take_out.ensures.numbers c.if-index-self.true c.self.invariant.there
    ∙ ap (λ (w : RingParts). is_removed c.args.msg.now w.messages) c.self.view_is

pub returns-else-index-self-clause-messages : goal.returns-else-index-self-clause-messages
returns-else-index-self-clause-messages c =
    let q = c.self.inside in
    let left = placed_left c.args.msg.now q c.in-Some.index c.in-Some.ensures.found c.remove.result _ c.remove.ensures.items c.remove.ensures.variant.1 in
    parts_after c.args.msg.now c.in-Some.index (messages_in q) _ c.self.invariant.once c.in-Some.ensures.found left _ c.take_out.ensures.numbers c.if-index-self.false
    ∙ ap (λ (w : RingParts). is_removed c.args.msg.now w.messages) c.self.view_is

pub returns-then-index-self-clause-noted : goal.returns-then-index-self-clause-noted
returns-then-index-self-clause-noted c =
    noted_left c.args.msg.now c.self.inside c.in-Some.index c.in-Some.ensures.found c.remove.result _ c.remove.ensures.items c.remove.ensures.variant.1 _
    (ap (λ (w : RingParts). w.entries) c.self.view_is) c.self.invariant.once

pub returns-else-index-self-clause-noted : goal.returns-else-index-self-clause-noted
returns-else-index-self-clause-noted c =
    noted_left c.args.msg.now c.self.inside c.in-Some.index c.in-Some.ensures.found c.remove.result _ c.remove.ensures.items c.remove.ensures.variant.1 _
    (ap (λ (w : RingParts). w.entries) c.self.view_is) c.self.invariant.once

pub returns-in_default-clause-messages : goal.returns-in_default-clause-messages
returns-in_default-clause-messages c =
    let v = messages_in c.self.inside in
    ap (λ (w : RingParts). w.messages) (sym c.self.view_is) ∙ parts_absent c.args.msg.now v c.self.invariant.there c.in_default.ensures.absent
    ∙ ap (λ (w : RingParts). is_removed c.args.msg.now w.messages) c.self.view_is

pub returns-in_default-clause-noted : goal.returns-in_default-clause-noted
returns-in_default-clause-noted c =
    subst (λ (w : RingParts). IsNoted forgotten c.args.msg.now w.entries w.entries) c.self.view_is
    (none_forgotten c.self.inside.entries.items c.args.msg.now c.in_default.ensures.absent)
