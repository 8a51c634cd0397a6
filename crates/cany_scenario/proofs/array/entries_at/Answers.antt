use Rattle.std.proofs.Common.{◌≡◌, rules}
use Rattle.std.specs.Prelude.{Ok, Err}
use Rattle.std.proofs.lemmas.Result.{err_from_is_err_and}
use Rattle.toml.specs.View.{items_view}
use Rattle.cany_scenario.specs.Arrays.{items_at}
use Rattle.cany_scenario.specs.Entries.{entry_of}
use Rattle.cany_scenario.proofs.ArraysFacts.{entries_of-fault, entries_of-items}
use Rattle.cany_scenario.proofs.array.entries_at.Goals as goal

pub returns-in_err-items-clause-fault : goal.returns-in_err-items-clause-fault
returns-in_err-items-clause-fault g c =
    let p = err_from_is_err_and c.from_residual.result c.from_residual.ensures.1 in
    let bad : items_at c.args.array.table c.args.array.most c.args.array.name (entry_of c.args.top.now) ≡ Err c.in_err-items.field-0.0 = search rules in
    rw (p.1, p.2) (λ other. entries_of-fault c.args.array.table c.args.array.most (g.T.FromEntry.meaning c.args.params.now) c.args.array.name (entry_of c.args.top.now) c.in_err-items.field-0.0 bad)

pub returns-clause-ok : goal.returns-clause-ok
returns-clause-ok g c =
    let there : items_at c.args.array.table c.args.array.most c.args.array.name (entry_of c.args.top.now) ≡ Ok (items_view c.in_ok-items.items.now) = search rules in
    rw (entries_of-items c.args.array.table c.args.array.most (g.T.FromEntry.meaning c.args.params.now) c.args.array.name (entry_of c.args.top.now) (items_view c.in_ok-items.items.now) there) c.each_entry.ensures.ok

pub returns-clause-fault : goal.returns-clause-fault
returns-clause-fault g c =
    let there : items_at c.args.array.table c.args.array.most c.args.array.name (entry_of c.args.top.now) ≡ Ok (items_view c.in_ok-items.items.now) = search rules in
    rw (entries_of-items c.args.array.table c.args.array.most (g.T.FromEntry.meaning c.args.params.now) c.args.array.name (entry_of c.args.top.now) (items_view c.in_ok-items.items.now) there) c.each_entry.ensures.fault
