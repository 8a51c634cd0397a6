use Rattle.std.proofs.Common.{List, [], ◌∷◌, ◌++◌, map, take, ap, sym, ◌∙◌}
use Rattle.std.proofs.lemmas.List.{map_more, take_all}
use Rattle.cany_check.specs.declared.deciders.findings.Told.{Told}
use Rattle.cany_check.proofs.deciders.told.told_of_all.Goals as goal

pub told-requires : goal.told-requires
told-requires g c =
    c.requires.each c.loop-i.i c.index-records-i.result c.index-holders-i.result c.loop-i-test.true c.index-records-i.is c.index-holders-i.is

pub loop-i-preserved : goal.loop-i-preserved
loop-i-preserved g c =
    let records = c.args.records.now in
    let tell = g.R.HasFate.told c.args.account.now in
    let record_i = c.index-records-i.result in
    c.in_ok-push.ensures.items
    ∙ ap (λ (l : List Told). l ++ c.told.result ∷ []) c.loop-i.invariant
    ∙ ap (λ (t : Told). map tell (take c.loop-i.i records) ++ t ∷ []) (c.told.ensures ∙ ap tell c.index-records-i.is)
    ∙ sym (map_more tell records c.loop-i.i record_i c.loop-i-test.true)

pub returns : goal.returns
returns g c = c.loop-i.invariant ∙ ap (map (g.R.HasFate.told c.args.account.now)) (take_all c.loop-i.i c.args.records.now c.loop-i-test.false)
