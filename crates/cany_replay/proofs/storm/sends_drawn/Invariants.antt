use Rattle.cany_replay.specs.Storm.{send_drawn}
use Rattle.cany_replay.proofs.DrawFacts.{HaveDrawn}
use Rattle.cany_replay.proofs.storm.sends_drawn.Given as goal

abbrev pub invariant-loop-i : goal.invariant-loop-i
invariant-loop-i l = HaveDrawn send_drawn l.i l.initial.words l.sends.items l.words
