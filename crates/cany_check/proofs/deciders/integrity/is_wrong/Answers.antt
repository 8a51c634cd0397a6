use Rattle.std.proofs.Common.{◌||◌, ◌∙◌, ◌++◌, [], ◌∷◌, ap, not, subst, sym}
use Rattle.std.specs.List.{list_any}
use Rattle.cany_model.specs.Promises.Entries.{delivers_key}
use Rattle.cany_check.specs.Deciding.Integrity.{was_sent_by_then}
use Rattle.cany_check.specs.Deciding.Marks.{AreMarked}
use Rattle.cany_check.proofs.Deciding.MarkFacts.{wrong_delivery}
use Rattle.cany_check.proofs.deciders.integrity.is_wrong.Goals as goal

pub returns-in-Deliver-clause-wrong : goal.returns-in-Deliver-clause-wrong
returns-in-Deliver-clause-wrong c = λ earlier marked.
    let at = c.in-Deliver in
    let own = subst (λ l. AreMarked l c.args.number earlier c.args.marks.now) (sym c.messages.ensures.messages) marked in
    c.is_wrong_delivery.ensures.wrong earlier own
    ∙ ap (λ l. list_any (delivers_key at.msg) earlier || not (list_any (was_sent_by_then c.args.entry.now) l)) c.messages.ensures.messages
    ∙ wrong_delivery c.args.account.now earlier c.args.entry.now at.slot at.service at.msg at.payload at.is

pub returns-in-Deliver-clause-marked : goal.returns-in-Deliver-clause-marked
returns-in-Deliver-clause-marked c = λ earlier marked right.
    let own = subst (λ l. AreMarked l c.args.number earlier c.args.marks.now) (sym c.messages.ensures.messages) marked in
    subst (λ l. AreMarked l c.args.number (earlier ++ c.args.entry.now ∷ []) c.is_wrong_delivery.new.marks) c.messages.ensures.messages (c.is_wrong_delivery.ensures.marked earlier own right)
