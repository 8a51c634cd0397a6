-- The parts of a node as the program keeps them.
use Rattle.std.specs.Prelude.{◌≤◌}
use Rattle.cany_base.specs.Limits.{most_restarts_of_node}
use Rattle.cany_node.specs.declared.node.Node.TheInside.{Inside}
use Rattle.cany_node.specs.Node.{NodeParts}
use Rattle.cany_node.specs.Resting.{IsIdleUntil}

abbrev pub parts_of : Inside → NodeParts
parts_of n = record {
  node = n.node;
  inc = n.inc;
  params = n.params;
  from = n.from;
  cycle = n.cycle;
  log = n.log.items;
  room = n.log.room;
  read = n.read;
  edcan = n.edcan;
  relcan = n.relcan;
  totcan = n.totcan;
  membership = n.membership;
  agenda = n.agenda;
  joins = n.joins;
  leaves = n.leaves;
}

-- four bits can number the incarnation, and the node is idle as it has noted
pub record IsSound (n : Inside) : Type 0 where
  pub few : n.inc ≤ most_restarts_of_node
  pub idle_until : IsIdleUntil n.idle_until (parts_of n)
