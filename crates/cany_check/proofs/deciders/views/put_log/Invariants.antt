use Rattle.std.proofs.Common.{List, ◌++◌, take}
use Rattle.std.specs.List.{flat_map}
use Rattle.cany_check.specs.Deciding.ViewRows.{HasRows}
use Rattle.cany_check.specs.Deciding.Views.{HeldView, view_in}
use Rattle.cany_check.proofs.deciders.views.put_log.Given as goal

abbrev pub invariant-loop-entry : goal.invariant-loop-entry
invariant-loop-entry l =
    (views : List HeldView) → HasRows views l.fn.rows.items → HasRows (views ++ flat_map (view_in l.log.node) (take l.entry-index l.log.entries.now)) l.rows.items
