use Rattle.std.proofs.Common.{ap, subst, sym, ◌∙◌}
use Rattle.cany_totcan.specs.Acceptances.{RingParts, noted_of}
use Rattle.cany_totcan.specs.Queue.{IsIndexOf}
use Rattle.cany_totcan.proofs.NotedFacts.{noted_is}
use Rattle.cany_totcan.proofs.queue.OpenMessages.noted_at.Goals as goal

pub returns : goal.returns
returns c =
    let at = subst (λ (v : RingParts). IsIndexOf c.args.msg.now c.args.index v.messages.items) (sym c.self.view_is) c.requires in
    noted_is c.self.inside.entries.items c.args.index c.args.msg.now c.index.result.now c.self.invariant.once at c.index.ensures
    ∙ ap (λ (v : RingParts). noted_of v.entries c.args.msg.now) c.self.view_is
