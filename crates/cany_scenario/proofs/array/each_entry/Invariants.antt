use Rattle.std.proofs.Common.{◌≡◌}
use Rattle.toml.specs.View.{items_view}
use Rattle.cany_text.specs.TomlKeys.{each_entry}
use Rattle.cany_scenario.specs.Arrays.{after}
use Rattle.cany_scenario.proofs.ArraysFacts.{from_place}
use Rattle.cany_scenario.proofs.array.each_entry.Given as goal

-- what was found so far, and what the entries that are left stand for
abbrev pub invariant-loop-place : goal.invariant-loop-place
invariant-loop-place g l =
    each_entry l.table l.name (g.T.FromEntry.meaning l.params) 0 (items_view l.items) ≡ after l.found.items (from_place l.table l.name (g.T.FromEntry.meaning l.params) l.items l.place)
