use Rattle.std.proofs.Common.{◌≡◌, Some, sym, arith, rules}
use Rattle.toml.specs.Data.{as_array, get_member}
use Rattle.toml.specs.View.{view, items_view}
use Rattle.cany_text.specs.TextNames.{key_name}
use Rattle.cany_scenario.specs.Entries.{entry_of}
use Rattle.cany_scenario.proofs.ArraysFacts.{few_items-many, few_items-few}
use Rattle.cany_scenario.proofs.array.items_at.Goals as goal

pub returns-then-len-most : goal.returns-then-len-most
returns-then-len-most c =
    let there : get_member (key_name c.args.name) (entry_of c.args.top.now).members ≡ Some (view c.in-Some.value.now) = search rules in
    let is : as_array (view c.in-Some.value.now) ≡ Some (items_view c.in_ok-items.items.now.items) = search rules in
    rw there (sym (few_items-many c.args.table c.args.most _ (view c.in-Some.value.now) c.in_ok-items.items.now.items is (omega arith)))

pub returns : goal.returns
returns c =
    let there : get_member (key_name c.args.name) (entry_of c.args.top.now).members ≡ Some (view c.in-Some.value.now) = search rules in
    let is : as_array (view c.in-Some.value.now) ≡ Some (items_view c.in_ok-items.items.now.items) = search rules in
    rw (there, c.deref.ensures.value) (sym (few_items-few c.args.table c.args.most _ (view c.in-Some.value.now) c.in_ok-items.items.now.items is (omega arith)))
