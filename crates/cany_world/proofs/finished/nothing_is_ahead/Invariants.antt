use Rattle.cany_base.specs.declared.message.MsgKey.{MsgKey}
use Rattle.cany_world.proofs.SettledFacts.{IsLeftTo}
use Rattle.cany_world.proofs.finished.nothing_is_ahead.Given as goal

abbrev pub invariant-loop-i : goal.invariant-loop-i
invariant-loop-i l = (key : MsgKey) → IsLeftTo l.i l.service key l.controllers l.nodes
