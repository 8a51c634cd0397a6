-- A scenario as the program keeps it.
use Rattle.std.specs.Prelude.{option_map}
use Rattle.cany_base.specs.declared.scenario.Scenario.TheInside.{Inside}
use Rattle.cany_base.specs.Scenario.{ScenarioParts}

abbrev pub parts_of : Inside → ScenarioParts
parts_of s = record {
  params = s.params;
  members = s.members;
  sends = s.sends.items;
  rules = s.rules.items;
  joins = s.joins.items;
  leaves = s.leaves.items;
  restarts = s.restarts.items;
  from = 0;
  inc = 0;
  journal = option_map (λ steps. steps.items) s.journal;
}
