use Rattle.std.proofs.Common.{sym, ◌∙◌}
use Rattle.cany_crew.proofs.FinishFacts.{slot_can_be, slot_push, turn_can_be, turn_push}
use Rattle.cany_crew.proofs.finish.next_step.Goals as goal

pub returns-in-Some-clause-done : goal.returns-in-Some-clause-done
returns-in-Some-clause-done c = turn_can_be c.args.world.now.scenario c.args.world.now.journal c.in-Some.node c.in-Some.ensures.node

pub returns-in-Some-clause-legal : goal.returns-in-Some-clause-legal
returns-in-Some-clause-legal c = turn_push c.args.world.now.scenario c.args.world.now.journal c.in-Some.node c.journal.ensures.legal c.in-Some.ensures.node

pub returns-in-None-clause-done : goal.returns-in-None-clause-done
returns-in-None-clause-done c =
    slot_can_be c.args.world.now.scenario c.args.world.now.journal c.in-None.ensures.none (sym c.ended.ensures ∙ c.if-ended.false)

pub returns-in-None-clause-legal : goal.returns-in-None-clause-legal
returns-in-None-clause-legal c =
    slot_push c.args.world.now.scenario c.args.world.now.journal c.journal.ensures.legal c.in-None.ensures.none (sym c.ended.ensures ∙ c.if-ended.false)

pub returns-in-None-clause-ended : goal.returns-in-None-clause-ended
returns-in-None-clause-ended c = tt
