use Rattle.cany_replay.specs.Storm.{send_drawn}
use Rattle.cany_replay.proofs.DrawFacts.{drawn-none, drawn-next}
use Rattle.cany_replay.proofs.storm.sends_drawn.Goals as goal

pub loop-i-init : goal.loop-i-init
loop-i-init c = drawn-none send_drawn _ _ c.in_ok-sends.ensures.items

pub loop-i-preserved : goal.loop-i-preserved
loop-i-preserved c = drawn-next send_drawn c.loop-i.i _ _ _ c.loop-i.sends.items _ c.send_drawn.result c.loop-i.invariant c.send_drawn.ensures c.in_ok-push.ensures.items
