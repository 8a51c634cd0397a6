-- The oldest message closes, where its place lies so far back.
use Rattle.std.proofs.Common.{◌≡◌, ◌++◌, ◌<◌, List, ap, subst, sym, ◌∙◌}
use Rattle.std.specs.Prelude.{option_map}
use Rattle.can_frame.specs.Identifier.{HasSmallNumbers}
use Rattle.cany_base.specs.declared.format.Format.{Format}
use Rattle.cany_base.specs.declared.message.MsgKey.{MsgKey}
use Rattle.cany_totcan.specs.declared.queue.Open.{Open}
use Rattle.cany_totcan.specs.Acceptances.{IsNoted, forgotten, noted_of}
use Rattle.cany_totcan.specs.Queue.{IsIndexOf, OpenParts, without_first}
use Rattle.cany_totcan.specs.Totcan.{TotcanParts}
use Rattle.cany_totcan.specs.TotcanSteps.{AreAdded, closing_accepted, closing_actions, fresh_of, if_accepted, tot_actions}
use Rattle.cany_model.specs.Rules.Totcan.{message_in}
use Rattle.cany_totcan.proofs.KnownFacts.{closes, closes_first, closing_can_deliver, closing_early, closing_kept, closing_known, closing_read, closing_rest, nothing_added, nothing_done, still_noted}
use Rattle.cany_totcan.proofs.totcan.Totcan.close.Goals as goal

-- ---- before any can close

pub returns-then-slot-self-clause-added : goal.returns-then-slot-self-clause-added
returns-then-slot-self-clause-added c =
    nothing_added c.args.slot c.args.self.now (closing_early c.args.slot c.args.self.now (subst (λ (v : TotcanParts). c.args.slot < v.bound) c.self.view_is c.if-slot-self.true)).0

pub returns-then-slot-self-clause-actions : goal.returns-then-slot-self-clause-actions
returns-then-slot-self-clause-actions c =
    nothing_done c.args.slot c.args.self.now c.args.out.now.items
    (closing_early c.args.slot c.args.self.now (subst (λ (v : TotcanParts). c.args.slot < v.bound) c.self.view_is c.if-slot-self.true)).0

pub returns-then-slot-self-clause-state : goal.returns-then-slot-self-clause-state
returns-then-slot-self-clause-state c =
    sym (closing_early c.args.slot c.args.self.now (subst (λ (v : TotcanParts). c.args.slot < v.bound) c.self.view_is c.if-slot-self.true)).1

-- ---- where the oldest stays open, or there is none

pub returns-in_default-clause-added : goal.returns-in_default-clause-added
returns-in_default-clause-added c =
    nothing_added c.args.slot c.args.self.now
    (closing_read c.args.slot _ c.args.self.now _ c.self.view_is c.if-slot-self.false c.oldest_at.ensures.oldest
    ∙ ap (option_map (λ (e : Open). e.placed.frame)) c.in_default.is)

pub returns-in_default-clause-actions : goal.returns-in_default-clause-actions
returns-in_default-clause-actions c =
    nothing_done c.args.slot c.args.self.now c.args.out.now.items
    (closing_read c.args.slot _ c.args.self.now _ c.self.view_is c.if-slot-self.false c.oldest_at.ensures.oldest
    ∙ ap (option_map (λ (e : Open). e.placed.frame)) c.in_default.is)

pub returns-in_default-clause-state : goal.returns-in_default-clause-state
returns-in_default-clause-state c =
    sym (closing_kept c.args.slot c.args.self.now
    (closing_read c.args.slot _ c.args.self.now _ c.self.view_is c.if-slot-self.false c.oldest_at.ensures.oldest
    ∙ ap (option_map (λ (e : Open). e.placed.frame)) c.in_default.is))

-- ---- where it closes

pub on_closed-requires-clause-noted : goal.on_closed-requires-clause-noted
on_closed-requires-clause-noted c =
    c.in-Some.ensures.noted ∙ ap (λ (v : TotcanParts). noted_of v.acceptances (message_in c.in-Some.oldest.placed.frame)) c.self.view_is

pub on_closed-requires-clause-deliver : goal.on_closed-requires-clause-deliver
on_closed-requires-clause-deliver c =
    closing_can_deliver c.args.slot c.args.self.now c.in-Some.oldest.placed.frame c.requires.known
    (closes c.args.slot _ c.args.self.now _ c.in-Some.oldest c.self.view_is c.if-slot-self.false c.oldest_at.ensures.oldest c.in-Some.is)

pub on_closed-requires-clause-own : goal.on_closed-requires-clause-own
on_closed-requires-clause-own c =
    (closing_known c.args.slot c.args.self.now c.in-Some.oldest.placed.frame c.requires.known
    (closes c.args.slot _ c.args.self.now _ c.in-Some.oldest c.self.view_is c.if-slot-self.false c.oldest_at.ensures.oldest c.in-Some.is)).own

pub on_closed-requires-clause-small : goal.on_closed-requires-clause-small
on_closed-requires-clause-small c =
    let f = c.in-Some.oldest.placed.frame in
    subst (λ (format : Format). HasSmallNumbers format f) (sym c.requires.known.format)
    (closing_known c.args.slot c.args.self.now f c.requires.known
    (closes c.args.slot _ c.args.self.now _ c.in-Some.oldest c.self.view_is c.if-slot-self.false c.oldest_at.ensures.oldest c.in-Some.is)).small

pub remove_oldest-requires : goal.remove_oldest-requires
remove_oldest-requires c =
    let f = c.in-Some.oldest.placed.frame in
    subst (λ (key : MsgKey). IsIndexOf key 0 c.self-in-Some.inside.queue.messages.items) (sym c.key_of.ensures.key)
    (subst (λ (v : TotcanParts). IsIndexOf (message_in f) 0 v.queue.items) (sym (c.self-in-Some.view_is ∙ c.on_closed.ensures.state))
    (closes_first c.args.slot c.args.self.now f
    (closes c.args.slot _ c.args.self.now _ c.in-Some.oldest c.self.view_is c.if-slot-self.false c.oldest_at.ensures.oldest c.in-Some.is)))

pub returns-in-Some-clause-added : goal.returns-in-Some-clause-added
returns-in-Some-clause-added c =
    let v = c.args.self.now in
    let closing = closes c.args.slot _ v _ c.in-Some.oldest c.self.view_is c.if-slot-self.false c.oldest_at.ensures.oldest c.in-Some.is in
    subst (λ o. AreAdded (closing_accepted v o) v.deliveries c.self-in-Some.inside.deliveries) (sym closing)
    (subst (λ (w : TotcanParts). AreAdded (if_accepted v c.in-Some.oldest.placed.frame) v.deliveries w.deliveries) (sym c.self-in-Some.view_is) c.on_closed.ensures.added)

pub returns-in-Some-clause-actions : goal.returns-in-Some-clause-actions
returns-in-Some-clause-actions c =
    let v = c.args.self.now in
    let closing = closes c.args.slot _ v _ c.in-Some.oldest c.self.view_is c.if-slot-self.false c.oldest_at.ensures.oldest c.in-Some.is in
    c.on_closed.ensures.actions
    ∙ ap (λ o. (c.args.out.now.items ++ closing_actions v.format o) ++ tot_actions c.args.slot (fresh_of v.deliveries (closing_accepted v o))) (sym closing)

pub returns-in-Some-clause-state : goal.returns-in-Some-clause-state
returns-in-Some-clause-state c =
    let v = c.args.self.now in
    let q = c.remove_oldest.new.self in
    let deliveries = c.self-in-Some.inside.deliveries in
    let same = c.self-in-Some.view_is ∙ c.on_closed.ensures.state in
    let closing = closes c.args.slot _ v _ c.in-Some.oldest c.self.view_is c.if-slot-self.false c.oldest_at.ensures.oldest c.in-Some.is in
    ap (λ (w : TotcanParts). record w { queue = q.messages; acceptances = q.entries; deliveries = deliveries }) same
    ∙ ap (λ (queue : OpenParts). record v { queue = queue; acceptances = q.entries; deliveries = deliveries })
    (c.remove_oldest.ensures.messages ∙ ap (λ (w : TotcanParts). without_first w.queue) same ∙ closing_rest c.args.slot v c.in-Some.oldest.placed.frame closing)

pub returns-in-Some-clause-noted : goal.returns-in-Some-clause-noted
returns-in-Some-clause-noted c =
    let v = c.args.self.now in
    let f = c.in-Some.oldest.placed.frame in
    let same : c.self-in-Some.inside.queue.entries ≡ v.acceptances =
    ap (λ (x : TotcanParts). x.acceptances) c.self-in-Some.view_is
    ∙ ap (λ (x : TotcanParts). x.acceptances) c.on_closed.ensures.state in
    still_noted c.args.slot v f c.remove_oldest.new.self.entries c.requires.known.once
    (closes c.args.slot _ v _ c.in-Some.oldest c.self.view_is c.if-slot-self.false c.oldest_at.ensures.oldest c.in-Some.is)
    (subst (λ (xs : List Open). IsNoted forgotten (message_in f) xs c.remove_oldest.new.self.entries) same
    (subst (λ (k : MsgKey). IsNoted forgotten k c.self-in-Some.inside.queue.entries c.remove_oldest.new.self.entries) c.key_of.ensures.key c.remove_oldest.ensures.noted))
