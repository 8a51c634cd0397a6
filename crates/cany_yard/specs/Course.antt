-- The scenario of a name for which none was picked.
use Rattle.std.specs.Prelude.{false, [], None}
use Rattle.cany_base.specs.Nodes.{those_where}
use Rattle.cany_base.specs.Params.{default_parameters}
use Rattle.cany_base.specs.Scenario.{ScenarioParts}

-- no node, and nothing to do
abbrev pub no_scenario : ScenarioParts
no_scenario = record {
  params = default_parameters 0 0;
  members = those_where (λ node. false);
  sends = [];
  rules = [];
  joins = [];
  leaves = [];
  restarts = [];
  from = 0;
  inc = 0;
  journal = None;
}
