use Rattle.std.proofs.Common.{ap, sym, ◌∙◌}
use Rattle.std.proofs.lemmas.Bool.{eq-eqb, ne_eqb}
use Rattle.cany_model.specs.Rules.Totcan.{message_in}
use Rattle.cany_totcan.specs.Acceptances.{RingParts, noted_of}
use Rattle.cany_totcan.specs.Queue.{oldest_from}
use Rattle.cany_totcan.proofs.NotedFacts.{front_oldest, front_other, got_noted}
use Rattle.cany_totcan.proofs.queue.OpenMessages.oldest_at.Goals as goal

pub returns-then-oldest-place-clause-oldest : goal.returns-then-oldest-place-clause-oldest
returns-then-oldest-place-clause-oldest c =
    let e = c.in_ok-oldest.oldest in
    sym (front_other c.args.place c.self.inside.entries.items e (sym c.item_at.ensures ∙ c.in_ok-oldest.was)
    (ne_eqb e.placed.place c.args.place c.if-oldest-place.true))
    ∙ ap (λ (v : RingParts). oldest_from c.args.place v.messages.items) c.self.view_is

pub returns-clause-oldest : goal.returns-clause-oldest
returns-clause-oldest c =
    let e = c.in_ok-oldest.oldest in
    front_oldest c.args.place c.self.inside.entries.items e (sym c.item_at.ensures ∙ c.in_ok-oldest.was)
    (eq-eqb e.placed.place c.args.place c.if-oldest-place.false)
    ∙ ap (λ (v : RingParts). oldest_from c.args.place v.messages.items) c.self.view_is

pub returns-clause-noted : goal.returns-clause-noted
returns-clause-noted c =
    let e = c.in_ok-oldest.oldest in
    got_noted c.self.inside.entries.items 0 e c.self.invariant.once (sym c.item_at.ensures ∙ c.in_ok-oldest.was)
    ∙ ap (λ (v : RingParts). noted_of v.entries (message_in e.placed.frame)) c.self.view_is
