use Rattle.std.proofs.Common.{ap, ◌∙◌}
use Rattle.std.specs.Prelude.{Some}
use Rattle.cany_check.specs.Deciding.Fates.{fate_by}
use Rattle.cany_check.proofs.Deciding.HolderFacts.{counting_by}
use Rattle.cany_check.proofs.Deciding.MessageFateFacts.{told_is}
use Rattle.cany_check.proofs.deciders.messages.told.Goals as goal

pub returns : goal.returns
returns c =
    let a = c.args.account.now in
    let h = c.args.holders in
    let counting = counting_by _ a.logs _ _ _ c.counting-counting.ensures c.logs.ensures.logs (ap Some c.since.ensures) in
    let settled =
    c.fate.ensures ∙ ap (λ s. fate_by s h.has c.minus-lacks.result c.has-origin.result) c.is_settled.ensures in
    (λ k. record { fate = settled k; has = h.has; lacks = c.minus-lacks.result; had = h.had; slots = h.slots })
    ∙ told_is a c.logs.ensures.orderly c.args.message.now h c.requires c.counting-counting.result c.minus-lacks.result c.has-origin.result counting c.minus-lacks.ensures.set
    c.has-origin.ensures
