use Rattle.std.proofs.Common.{◌≡◌, ℕ, ◌<◌}
use Rattle.cany_world.proofs.RoundFacts.{IsInRounds}
use Rattle.cany_watch.specs.declared.hall.Shown.TheVariants as shown
use Rattle.cany_watch.specs.Halls.{published_of, publisher_at}
use Rattle.cany_watch.specs.Lines.{line_of, nodes_of}
use Rattle.cany_watch.proofs.watching.run_rounds.Given as goal

abbrev pub invariant-loop-left : goal.invariant-loop-left
invariant-loop-left g l = record {
  rounds : IsInRounds l.fn.hall.world l.hall.world l.left;
  books : (i : ℕ) → (publisher_at l.hall.publishers i).book ≡ (publisher_at l.fn.hall.publishers i).book;
  all : l.shown ≡ shown.All → (i : ℕ) → i < nodes_of l.hall.world → published_of l.hall i ≡ line_of l.hall.world i;
}

abbrev pub decreases-loop-left : goal.decreases-loop-left
decreases-loop-left g l = l.left
