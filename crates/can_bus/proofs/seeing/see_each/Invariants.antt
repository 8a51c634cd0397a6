use Rattle.std.proofs.Common.{◌≡◌}
use Rattle.std.specs.Prelude.{not}
use Rattle.cany_model.specs.Bus.State.{node_at, runs}
use Rattle.can_bus.specs.Contest.{seen_by}
use Rattle.can_bus.specs.Each.{each}
use Rattle.can_bus.specs.Controllers.{nodes_of}
use Rattle.can_bus.proofs.EachFacts.{changed}
use Rattle.can_bus.proofs.SetFacts.{SetSoFar}
use Rattle.can_bus.proofs.seeing.see_each.Given as goal

abbrev pub invariant-loop-i : goal.invariant-loop-i
invariant-loop-i l = record {
  seen : l.controllers ≡ changed (seen_by l.note) 0 l.i l.initial.controllers;
  stopped : SetSoFar l.stopped l.i (λ k. not (runs (node_at (nodes_of (each (seen_by l.note) 0 l.initial.controllers)) k)));
}
