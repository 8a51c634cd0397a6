use Rattle.std.proofs.Common.{ap, sym}
use Rattle.cany_world.specs.Replies.{step_reply}
use Rattle.cany_world.proofs.turn.step_reply.Goals as goal

pub returns-in-Turned : goal.returns-in-Turned
returns-in-Turned c = sym (ap step_reply c.in-Turned.is)
