use Rattle.std.proofs.Common.{◌≡◌, ◌∙◌, ◌<◌, length, arith, rules}
use Rattle.std.specs.Prelude.{Ok, Err}
use Rattle.std.proofs.lemmas.Result.{err_from_is_err_and}
use Rattle.toml.specs.View.{view, items_view}
use Rattle.cany_text.specs.TomlKeys.{each_entry}
use Rattle.cany_scenario.specs.Arrays.{entry_at}
use Rattle.cany_scenario.specs.Entries.{entry_of}
use Rattle.cany_scenario.proofs.ArraysFacts.{from_place-start, from_place-no_entry, from_place-bad, from_place-good, from_place-done}
use Rattle.cany_scenario.proofs.array.each_entry.Goals as goal

pub loop-place-init : goal.loop-place-init
loop-place-init g c = rw c.in_ok-found.ensures.items (from_place-start (each_entry c.args.table c.args.name (g.T.FromEntry.meaning c.args.params.now) 0 (items_view c.args.items.now)))

pub returns-in_err-entry-clause-fault : goal.returns-in_err-entry-clause-fault
returns-in_err-entry-clause-fault g c =
    let p = err_from_is_err_and c.from_residual-in_err-entry.result c.from_residual-in_err-entry.ensures.1 in
    let within : c.loop-place.place < length c.args.items.now = omega arith in
    let bad : entry_at c.args.table c.args.name c.loop-place.place (view c.index-items-place.result) ≡ Err c.in_err-entry.field-0.0 = search rules in
    rw (p.1, p.2) (λ other. c.loop-place.invariant ∙ from_place-no_entry c.args.table c.args.name (g.T.FromEntry.meaning c.args.params.now) c.args.items.now c.loop-place.place c.index-items-place.result
    c.loop-place.found.items within c.index-items-place.is c.in_err-entry.field-0.0 bad)

pub returns-in_err-from_entry-clause-fault : goal.returns-in_err-from_entry-clause-fault
returns-in_err-from_entry-clause-fault g c =
    let p = err_from_is_err_and c.from_residual-in_err-from_entry.result c.from_residual-in_err-from_entry.ensures.1 in
    let within : c.loop-place.place < length c.args.items.now = omega arith in
    let there : entry_at c.args.table c.args.name c.loop-place.place (view c.index-items-place.result) ≡ Ok (entry_of c.in_ok-entry.entry) = search rules in
    let bad : g.T.FromEntry.meaning c.args.params.now (entry_of c.in_ok-entry.entry) ≡ Err c.in_err-from_entry.field-0.0 = search rules in
    rw (p.1, p.2) (λ other. c.loop-place.invariant ∙ from_place-bad c.args.table c.args.name (g.T.FromEntry.meaning c.args.params.now) c.args.items.now c.loop-place.place c.index-items-place.result
    c.loop-place.found.items within c.index-items-place.is (entry_of c.in_ok-entry.entry) there c.in_err-from_entry.field-0.0 bad)

pub loop-place-preserved : goal.loop-place-preserved
loop-place-preserved g c =
    let within : c.loop-place.place < length c.args.items.now = omega arith in
    let there : entry_at c.args.table c.args.name c.loop-place.place (view c.index-items-place.result) ≡ Ok (entry_of c.in_ok-entry.entry) = search rules in
    let good : g.T.FromEntry.meaning c.args.params.now (entry_of c.in_ok-entry.entry) ≡ Ok c.in_ok-from_entry.field-0 = search rules in
    rw c.in_ok-push.ensures.items (c.loop-place.invariant ∙ from_place-good c.args.table c.args.name (g.T.FromEntry.meaning c.args.params.now) c.args.items.now c.loop-place.place c.index-items-place.result
    c.loop-place.found.items within c.index-items-place.is (entry_of c.in_ok-entry.entry) there c.in_ok-from_entry.field-0 good)

pub returns-clause-ok : goal.returns-clause-ok
returns-clause-ok g c =
    c.loop-place.invariant ∙ from_place-done c.args.table c.args.name (g.T.FromEntry.meaning c.args.params.now) c.args.items.now c.loop-place.place c.loop-place.found.items (omega arith)
