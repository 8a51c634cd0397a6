use Rattle.std.proofs.Common.{◌∙◌, List, ap, count_by, subst}
use Rattle.std.specs.Prelude.{filter_map, is_some, Option}
use Rattle.std.specs.List.{flat_map}
use Rattle.cany_check.specs.declared.deciders.findings.ViewParting.{ViewParting}
use Rattle.cany_check.specs.Accounts.Account.{LogParts, running}
use Rattle.cany_check.specs.Deciding.ViewRows.{HasRows, row_parting, views_in}
use Rattle.cany_check.proofs.Deciding.ViewRowFacts.{numbers_are, partings_are}
use Rattle.cany_check.proofs.deciders.views.view_partings.Goals as goal

pub returns-clause-numbers : goal.returns-clause-numbers
returns-clause-numbers c =
    let rows = c.in_ok-rows.rows.items in
    let has = subst (λ (l : List LogParts). HasRows (flat_map views_in (running l)) rows) c.logs.ensures.logs c.in_ok-rows.ensures in
    c.count_numbers.ensures
    ∙ ap (λ (l : List (Option ViewParting)). count_by (λ (o : Option ViewParting). is_some o) l) c.as_slice.ensures.value ∙ numbers_are c.args.account.now rows has

pub returns-clause-apart : goal.returns-clause-apart
returns-clause-apart c =
    let rows = c.in_ok-rows.rows.items in
    let has = subst (λ (l : List LogParts). HasRows (flat_map views_in (running l)) rows) c.logs.ensures.logs c.in_ok-rows.ensures in
    c.in_ok-find_partings.ensures
    ∙ ap (λ (l : List (Option ViewParting)). filter_map row_parting l) c.as_slice-2.ensures.value ∙ partings_are c.args.account.now rows has
