use Rattle.std.proofs.Common.{◌<◌, ap, length, subst, sym, ◌∙◌, if◌then◌else◌, arith}
use Rattle.cany_totcan.specs.Acceptances.{RingParts, is_same, noted_of, placed_of}
use Rattle.cany_totcan.specs.Queue.{IsIndexOf}
use Rattle.cany_totcan.proofs.NotedFacts.{length-placed, set_noted, set_placed}
use Rattle.cany_totcan.proofs.queue.OpenMessages.note.Goals as goal

pub invariant_of-self : goal.invariant_of-self
invariant_of-self c =
    let q = c.self.inside in
    let at : IsIndexOf c.args.msg.now c.args.index (placed_of q.entries.items) =
    subst (λ (v : RingParts). IsIndexOf c.args.msg.now c.args.index v.messages.items) (sym c.self.view_is) c.requires in
    let within : c.args.index < length q.entries.items = omega (arith, at.within, length-placed q.entries.items) in
    rw (set_placed q.entries.items c.args.index c.index.result.now c.args.noted within c.index.ensures) c.self.invariant

pub returns-clause-messages : goal.returns-clause-messages
returns-clause-messages c =
    let q = c.self.inside in
    let at : IsIndexOf c.args.msg.now c.args.index (placed_of q.entries.items) =
    subst (λ (v : RingParts). IsIndexOf c.args.msg.now c.args.index v.messages.items) (sym c.self.view_is) c.requires in
    let within : c.args.index < length q.entries.items = omega (arith, at.within, length-placed q.entries.items) in
    (λ k. record {
      items = set_placed q.entries.items c.args.index c.index.result.now c.args.noted within c.index.ensures k;
      done = q.done;
      room = q.room;
      numbers = length q.members.origins;
    })
    ∙ ap (λ (v : RingParts). v.messages) c.self.view_is

pub returns-clause-noted : goal.returns-clause-noted
returns-clause-noted c =
    let q = c.self.inside in
    let at : IsIndexOf c.args.msg.now c.args.index (placed_of q.entries.items) =
    subst (λ (v : RingParts). IsIndexOf c.args.msg.now c.args.index v.messages.items) (sym c.self.view_is) c.requires in
    record {
      noted = λ key.
          set_noted q.entries.items c.args.index c.args.msg.now c.index.result.now c.args.noted c.self.invariant.once at c.index.ensures key
          ∙ ap (λ (v : RingParts). if is_same key c.args.msg.now then c.args.noted else noted_of v.entries key) c.self.view_is;
    }
