use Rattle.std.proofs.Common.{◌≡◌, subst}
use Rattle.std.specs.Prelude.{IfSome}
use Rattle.cany_model.specs.Rules.Totcan.{message_in}
use Rattle.cany_totcan.specs.Acceptances.{RingParts, noted_of}
use Rattle.cany_totcan.proofs.NotedFacts.{any_noted}
use Rattle.cany_totcan.proofs.queue.OpenMessages.first_open.Goals as goal

pub returns-clause-noted : goal.returns-clause-noted
returns-clause-noted c =
    subst (λ (v : RingParts). IfSome c.item_at.result (λ e. e.noted ≡ noted_of v.entries (message_in e.placed.frame))) c.self.view_is
    (any_noted c.self.inside.entries.items c.self.inside.done c.item_at.result c.self.invariant.once c.item_at.ensures)
