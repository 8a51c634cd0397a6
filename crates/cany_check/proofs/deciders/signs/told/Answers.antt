use Rattle.std.proofs.Common.{◌∙◌}
use Rattle.cany_check.proofs.Deciding.HolderFacts.{counting_by}
use Rattle.cany_check.proofs.Deciding.SignFacts.{told_is}
use Rattle.cany_check.proofs.deciders.signs.told.Goals as goal

pub returns : goal.returns
returns c =
    let a = c.args.account.now in
    let h = c.args.holders in
    let counting = counting_by _ a.logs _ _ _ c.counting.ensures c.logs.ensures.logs c.since.ensures in
    (λ k. record { fate = c.fate.ensures k; has = h.has; lacks = c.minus-lacks.result; had = c.empty.result; slots = h.slots })
    ∙ told_is a c.logs.ensures.orderly c.args.sign.now h c.requires c.counting.result c.minus-lacks.result c.empty.result counting c.minus-lacks.ensures.set c.empty.ensures.set
