use Rattle.std.proofs.Common.{◌≡◌, ◌+◌, length}
use Rattle.std.specs.Prelude.{false}
use Rattle.cany_world.specs.World.{state_of}
use Rattle.cany_watch.specs.Halls.{HasTakenUp}
use Rattle.cany_watch.specs.Lines.{line_of}
use Rattle.cany_watch.proofs.LineFacts.{logs_below}
use Rattle.cany_watch.proofs.publishing.take_line.Given as goal

abbrev pub invariant-loop-inc : goal.invariant-loop-inc
invariant-loop-inc l = record {
  left : l.known + length (logs_below l.world.scenario (state_of l.world) l.node l.inc) ≡ length l.publisher.taken;
  taken : HasTakenUp false (line_of l.world l.node) l.fn.publisher l.publisher;
}
