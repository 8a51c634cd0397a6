use Rattle.std.proofs.Common.{Vec, Global, ◌≡◌, ◌+◌, List, [], ◌∷◌, ◌++◌, drop, ap, sym, ◌∙◌}
use Rattle.std.proofs.lemmas.List.{append-nil, drop_all, drop_more}
use Rattle.std.specs.Prelude.{filter_map}
use Rattle.std.specs.List.{cons_option}
use Rattle.cany_check.specs.declared.deciders.findings.ViewParting.{ViewParting}
use Rattle.cany_check.specs.Deciding.ViewRows.{row_parting}
use Rattle.cany_check.proofs.Deciding.ViewRowFacts.{one_found}
use Rattle.cany_check.proofs.deciders.views.find_partings.Goals as goal
use Rattle.cany_check.proofs.deciders.views.find_partings.Goals.{in-Some+in_ok-push, in_default}

pub loop-row-init : goal.loop-row-init
loop-row-init c = ap (λ (l : List ViewParting). l ++ filter_map row_parting c.args.rows.now) c.new-found.ensures.items

pub loop-row-preserved : goal.loop-row-preserved
loop-row-preserved c =
    let rows = c.args.rows.now in
    let i = c.loop-row.row-index in
    let so_far : List ViewParting = c.loop-row.found.items in
    let later : List ViewParting = filter_map row_parting (drop (i + 1) rows) in
    let rest : drop i rows ≡ c.row-item.result ∷ drop (i + 1) rows =
    drop_more rows i c.row-item.result c.loop-row-test.true ∙ ap (λ y. y ∷ drop (i + 1) rows) (sym c.row-item.is) in
    let found : c.match-row_parting.found.items ≡ so_far ++ cons_option (row_parting c.row-item.result) [] =
    elim c.match-row_parting.branch [
      | in-Some+in_ok-push w ↦
          ap (λ (v : Vec ViewParting Global). v.items) w.found-is ∙ w.in_ok-push.ensures.items
          ∙ ap (λ o. so_far ++ cons_option o []) (sym w.in-Some.is ∙ c.row_parting.ensures)
      | in_default w ↦
          ap (λ (v : Vec ViewParting Global). v.items) w.found-is ∙ sym (append-nil so_far)
          ∙ ap (λ o. so_far ++ cons_option o []) (sym w.in_default.is ∙ c.row_parting.ensures)
    ] in
    ap (λ (l : List ViewParting). l ++ later) found ∙ one_found so_far later (row_parting c.row-item.result)
    ∙ ap (λ l. so_far ++ filter_map row_parting l) (sym rest) ∙ c.loop-row.invariant

pub returns : goal.returns
returns c =
    let found : List ViewParting = c.loop-row.found.items in
    sym (append-nil found) ∙ ap (λ l. found ++ filter_map row_parting l) (sym (drop_all c.loop-row.row-index c.args.rows.now c.loop-row-test.false)) ∙ c.loop-row.invariant
