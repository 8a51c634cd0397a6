use Rattle.std.proofs.Common.{◌≡◌}
use Rattle.toml.specs.View.{table_view}
use Rattle.cany_text.specs.TomlKeys.{has_only}
use Rattle.cany_scenario.proofs.EntryFacts.{all_are_among}
use Rattle.cany_scenario.proofs.entry.has_only.Given as goal

-- the keys that are left decide
abbrev pub invariant-loop-key : goal.invariant-loop-key
invariant-loop-key l = has_only l.keys (table_view l.table) ≡ all_are_among l.keys l.key-iterator
