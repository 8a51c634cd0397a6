use Rattle.std.proofs.Common.{◌≡◌, ℕ, ◌<◌, take}
use Rattle.cany_watch.specs.declared.hall.Shown.TheVariants as shown
use Rattle.cany_watch.specs.Halls.{published_of, publisher_at}
use Rattle.cany_watch.specs.Lines.{line_of, nodes_of}
use Rattle.cany_watch.proofs.watching.run_steps.Given as goal

abbrev pub invariant-loop-step : goal.invariant-loop-step
invariant-loop-step g l = record {
  world : l.hall.world ≡ record l.fn.hall.world { journal = take l.step-index l.steps };
  books : (i : ℕ) → (publisher_at l.hall.publishers i).book ≡ (publisher_at l.fn.hall.publishers i).book;
  all : l.shown ≡ shown.All → (i : ℕ) → i < nodes_of l.hall.world → published_of l.hall i ≡ line_of l.hall.world i;
}
