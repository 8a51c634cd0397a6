use Rattle.std.proofs.Common.{◌≤◌, vec_capacity}
use Rattle.cany_watch.specs.Halls.{AreFirst}
use Rattle.cany_watch.proofs.publishing.publishers_of.Given as goal

abbrev pub invariant-loop : goal.invariant-loop
invariant-loop g l = record {
  first : AreFirst l.counter l.publishers.items l.readings.items;
  publishers : l.nodes ≤ vec_capacity l.publishers;
  readings : l.nodes ≤ vec_capacity l.readings;
}
