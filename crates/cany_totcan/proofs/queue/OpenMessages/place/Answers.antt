use Rattle.std.proofs.Common.{if◌then◌else◌, List, ap, ◌∙◌}
use Rattle.std.proofs.lemmas.List.{map-append}
use Rattle.std.specs.VecDeque.{deque_capacity}
use Rattle.cany_base.specs.Frame.{FrameParts}
use Rattle.cany_model.specs.Rules.Totcan.{message_in}
use Rattle.cany_totcan.specs.declared.queue.Open.{Open}
use Rattle.cany_totcan.specs.Acceptances.{RingParts, is_same, noted_of, nothing, placed_of}
use Rattle.cany_totcan.proofs.NotedFacts.{pushed_noted}
use Rattle.cany_totcan.proofs.QueueFacts.{kept-place}
use Rattle.cany_totcan.proofs.queue.OpenMessages.place.Goals as goal

pub invariant_of-self : goal.invariant_of-self
invariant_of-self c =
    let q = c.self.inside in
    rw (c.push_back_reserved.ensures.items, map-append _ q.entries.items _, c.push_back_reserved.ensures.capacity)
    (kept-place _ c.args.slot c.args.self.now.messages (placed_of q.entries.items) q.done q.room (deque_capacity q.entries) q.members c.insert.new.self c.self.invariant
    (ap (λ (w : RingParts). w.messages) c.self.view_is ∙ c.remove.ensures.messages)
    (rw (← c.frame.view_is) at c.requires.room) c.requires.later c.insert.ensures.has)

pub returns-clause-noted : goal.returns-clause-noted
returns-clause-noted c = record {
  noted = λ key.
      ap (λ (xs : List Open). noted_of xs key) c.push_back_reserved.ensures.items
      ∙ pushed_noted c.self.inside.entries.items _ key c.nothing.ensures
      ∙ ap (λ (w : RingParts). noted_of w.entries key) c.self.view_is
      ∙ c.remove.ensures.noted.noted key
      ∙ ap (λ (f : FrameParts). if is_same key (message_in f) then nothing else noted_of c.args.self.now.entries key) c.frame.view_is;
}
