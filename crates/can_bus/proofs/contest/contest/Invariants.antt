use Rattle.std.proofs.Common.{ℕ, ◌<◌}
use Rattle.std.specs.Prelude.{IfSome}
use Rattle.cany_model.specs.Bus.Slot.{offered}
use Rattle.cany_model.specs.Bus.State.{node_at, runs}
use Rattle.can_frame.specs.Identifier.{FitsFormat, FitsIdentifier}
use Rattle.can_arbiter.specs.Outcome.{IsOutcomeAmong, frame_of}
use Rattle.can_bus.specs.Contest.{StandInOrder}
use Rattle.can_bus.specs.Controllers.{nodes_of}
use Rattle.can_bus.proofs.OfferFacts.{offers_below}
use Rattle.can_bus.proofs.SetFacts.{SetSoFar}
use Rattle.can_bus.proofs.WinnerFacts.{offer_of}
use Rattle.can_bus.proofs.contest.contest.Given as goal

abbrev pub invariant-loop-i : goal.invariant-loop-i
invariant-loop-i l = record {
  running : SetSoFar l.running l.i (λ k. runs (node_at (nodes_of l.controllers) k));
  outcome : IsOutcomeAmong l.format (offers_below (nodes_of l.controllers) l.i) l.outcome;
  best : IfSome (frame_of l.outcome) (FitsFormat l.format);
  fit : (k : ℕ) → k < l.i → IfSome (offer_of (nodes_of l.controllers) k) (FitsIdentifier l.format);
  in_order : (k : ℕ) → k < l.i → StandInOrder l.format (offered (node_at (nodes_of l.controllers) k));
}
