-- An incarnation before it has read anything.
use Rattle.std.specs.Prelude.{ℕ}
use Rattle.cany_base.specs.Params.{Parameters}
use Rattle.cany_node.specs.declared.plan.PlanAndLog.{PlanAndLog}
use Rattle.cany_node.specs.declared.protocols.Protocols.{Protocols}
use Rattle.cany_node.specs.Node.{NodeParts}

-- that of these parts
abbrev pub first_parts : ℕ → ℕ → Parameters → Protocols → PlanAndLog → NodeParts
first_parts node inc params protocols own = record {
  node = node;
  inc = inc;
  params = params;
  from = 0;
  cycle = 0;
  log = own.log.items;
  room = own.log.room;
  read = 0;
  edcan = protocols.edcan;
  relcan = protocols.others.others.relcan;
  totcan = protocols.others.totcan;
  membership = protocols.others.others.membership;
  agenda = own.plan.agenda;
  joins = own.plan.joins;
  leaves = own.plan.leaves;
}
