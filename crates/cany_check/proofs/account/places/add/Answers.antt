use Rattle.cany_check.proofs.Accounts.PlacesFacts.{row_set}
use Rattle.cany_check.proofs.account.places.add.Goals as goal

pub returns-clause-rows : goal.returns-clause-rows
returns-clause-rows c =
    row_set c.args.rows.now.items c.args.origin c.args.place c.index_mut.result.now c.push.new.self c.requires c.index_mut.ensures.value c.in_ok-push.ensures.items
