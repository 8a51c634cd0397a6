use Rattle.std.proofs.Common.{◌<◌, ◌∷◌, [], ◌++◌, length, ap, subst, sym, ◌∙◌, arith}
use Rattle.cany_totcan.specs.Totcan.{TotcanParts}
use Rattle.cany_totcan.specs.TotcanSteps.{AreAdded, fresh_of, tot_actions}
use Rattle.cany_totcan.proofs.DueFacts.{due-first, due_one, gone_one, state_one}
use Rattle.cany_totcan.proofs.totcan.Totcan.deliver_next.Goals as goal

pub advance-requires : goal.advance-requires
advance-requires c =
    let first = due-first c.args.self.now c.args.self.now.queue.done c.args.self.now.queue.items c.args.frame.now c.requires.next in
    subst (λ (v : TotcanParts). v.queue.done < length v.queue.items) (sym c.self.view_is) first.within

pub deliver-requires-clause-deliver : goal.deliver-requires-clause-deliver
deliver-requires-clause-deliver c = subst (λ (v : TotcanParts). c.args.frame.now.number < length v.deliveries.origins) (sym c.self.view_is) c.requires.deliver

pub returns-clause-gone : goal.returns-clause-gone
returns-clause-gone c =
    let v = c.args.self.now in
    let first = due-first v v.queue.done v.queue.items c.args.frame.now c.requires.next in
    gone_one c.args.slot v c.deliver.new.self c.args.frame.now c.args.out.now.items c.deliver.new.out.items first.at first.accepted
    (state_one v c.deliver.new.self _ c.advance.new.self c.deliver.ensures.state c.advance.ensures c.self.view_is)
    (subst (λ (x : TotcanParts). AreAdded (c.args.frame.now ∷ []) x.deliveries c.deliver.new.self.deliveries) c.self.view_is c.deliver.ensures.added)
    (c.deliver.ensures.actions ∙ ap (λ (x : TotcanParts). c.args.out.now.items ++ tot_actions c.args.slot (fresh_of x.deliveries (c.args.frame.now ∷ []))) c.self.view_is)

pub returns-clause-fewer : goal.returns-clause-fewer
returns-clause-fewer c =
    let v = c.args.self.now in
    let first = due-first v v.queue.done v.queue.items c.args.frame.now c.requires.next in
    let state = state_one v c.deliver.new.self _ c.advance.new.self c.deliver.ensures.state c.advance.ensures c.self.view_is in
    omega (arith, ap length (due_one v c.deliver.new.self c.args.frame.now first.at first.accepted state))
