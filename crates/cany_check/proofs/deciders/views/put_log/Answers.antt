use Rattle.std.proofs.Common.{◌++◌, ◌∙◌, ap, append-nil, subst, sym, take}
use Rattle.std.specs.List.{flat_map}
use Rattle.std.proofs.lemmas.List.{take_all}
use Rattle.cany_check.specs.Deciding.ViewRows.{HasRows}
use Rattle.cany_check.specs.Deciding.Views.{view_in}
use Rattle.cany_check.proofs.Deciding.ViewRowFacts.{entries_more}
use Rattle.cany_check.proofs.deciders.views.put_log.Goals as goal

pub loop-entry-init : goal.loop-entry-init
loop-entry-init c = λ views has. subst (λ vs. HasRows vs c.args.rows.now.items) (sym (append-nil views)) has

pub loop-entry-preserved : goal.loop-entry-preserved
loop-entry-preserved c = λ views has.
    let log = c.args.log.now in
    let before = views ++ flat_map (view_in log.node) (take c.loop-entry.entry-index log.entries.now) in
    subst (λ vs. HasRows vs c.put_entry.new.rows.items)
    (ap (λ e. before ++ view_in log.node e) c.entry-item.is ∙ entries_more views log.node log.entries.now c.loop-entry.entry-index c.entry-item.result c.loop-entry-test.true)
    (c.in_ok-put_entry.ensures before (c.loop-entry.invariant views has))

pub returns : goal.returns
returns c = λ views has.
    let log = c.args.log.now in
    subst (λ es. HasRows (views ++ flat_map (view_in log.node) es) c.loop-entry.rows.items)
    (take_all c.loop-entry.entry-index log.entries.now c.loop-entry-test.false) (c.loop-entry.invariant views has)
