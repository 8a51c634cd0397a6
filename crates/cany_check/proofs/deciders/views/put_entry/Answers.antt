use Rattle.std.proofs.Common.{List, ◌++◌, sym, subst}
use Rattle.std.specs.Prelude.{OnOk}
use Rattle.std.proofs.lemmas.Result.{on_ok_weaker}
use Rattle.cany_check.specs.Deciding.ViewRows.{HasRows}
use Rattle.cany_check.specs.Deciding.Views.{HeldView, view_in}
use Rattle.cany_check.proofs.Deciding.ViewRowFacts.{rows_more}
use Rattle.cany_check.proofs.deciders.views.put_entry.Goals as goal

pub returns-in-View : goal.returns-in-View
returns-in-View c =
    let old = c.args.rows.now.items in
    let new = c.put_view.new.rows.items in
    let v : HeldView = record { node = c.args.node; number = c.in-View.number; members = c.in-View.members } in
    subst (λ e. OnOk c.put_view.result ((views : List HeldView) → HasRows views old → HasRows (views ++ view_in c.args.node e) new)) (sym c.in-View.is)
    (on_ok_weaker c.put_view.result (λ step views has. rows_more views v old new has step) c.put_view.ensures)
