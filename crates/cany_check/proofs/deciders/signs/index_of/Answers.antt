use Rattle.std.proofs.Common.{rules}
use Rattle.std.proofs.lemmas.List.Sorted.{answers_always}
use Rattle.cany_check.specs.declared.account.record.SignRecord.{SignRecord}
use Rattle.cany_check.proofs.Deciding.SignFacts.{names_none, names_one}
use Rattle.cany_check.proofs.deciders.signs.index_of.Goals as goal

pub returns-in-Ok : goal.returns-in-Ok
returns-in-Ok c =
    let position = c.in-Ok.ensures.position (λ (sign : SignRecord). (sign.cycle, sign.node)) (answers_always _ _ _ (λ f a r g called. search rules)) in
    names_one c.args.signs.now c.requires c.args.node c.args.cycle c.in-Ok.index c.in-Ok.ensures.bound position

pub returns-in-Err : goal.returns-in-Err
returns-in-Err c =
    let position = c.in-Err.ensures.position (λ (sign : SignRecord). (sign.cycle, sign.node)) (answers_always _ _ _ (λ f a r g called. search rules)) in
    names_none c.args.signs.now c.requires c.args.node c.args.cycle c.in-Err.field-0 position c.in-Err.ensures.bound
