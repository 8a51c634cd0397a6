use Rattle.std.proofs.Common.{◌∙◌, arith}
use Rattle.cany_world.proofs.turn.turn_step.Goals as goal

pub take_turn-requires-clause-node : goal.take_turn-requires-clause-node
take_turn-requires-clause-node c = omega (arith, c.from-i.ensures ∙ c.get.ensures.value)

pub returns-clause-reply : goal.returns-clause-reply
returns-clause-reply c scenario journal row kept = c.step_reply.ensures ∙ c.take_turn.ensures.reply scenario journal row kept

pub returns-clause-done : goal.returns-clause-done
returns-clause-done c scenario journal legal row kept = rw c.step_reply.ensures (c.take_turn.ensures.done scenario journal legal row kept)

pub returns-clause-refused : goal.returns-clause-refused
returns-clause-refused c = rw c.step_reply.ensures c.take_turn.ensures.refused
