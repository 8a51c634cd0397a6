use Rattle.std.proofs.Common.{◌≡◌, length}
use Rattle.cany_replay.specs.Storm.{below}
use Rattle.cany_replay.proofs.DrawFacts.{HaveDrawn}
use Rattle.cany_replay.proofs.storm.payload_drawn.Given as goal

abbrev pub invariant-loop : goal.invariant-loop
invariant-loop l = record {
  drawn : HaveDrawn (λ _. below 256) l.counter l.initial.words l.bytes.items l.words;
  count : length l.bytes.items ≡ l.counter;
}
