use Rattle.cany_world.proofs.StepFacts.{slot_replies, slot_stands, turn_replies, turn_stands}
use Rattle.cany_world.proofs.TurnFacts.{can_turn}
use Rattle.cany_model.specs.Runs.Run.{run}
use Rattle.cany_world.proofs.step.make.Goals as goal

pub run_slot-requires : goal.run_slot-requires
run_slot-requires c = record { legal = c.requires.legal; rules = c.requires.rules; journal = c.requires.journal; stands = c.requires.stands }

pub turn_step-requires-clause-turn : goal.turn_step-requires-clause-turn
turn_step-requires-clause-turn c v x at_node at =
    can_turn c.args.scenario.now c.requires.journal c.in-Turn.node v x c.args.actions.now c.requires.legal c.requires.opening
    (c.requires.stands.nodes.each c.in-Turn.node v at_node) (c.requires.stands.controllers.each c.in-Turn.node x at) c.requires.free

pub returns-in-Slot-clause-reply : goal.returns-in-Slot-clause-reply
returns-in-Slot-clause-reply c journal stands =
    slot_replies c.args.scenario.now (run c.args.scenario.now journal) c.args.step c.run_slot.result c.in-Slot.is (c.run_slot.ensures.reply journal stands)

pub returns-in-Slot-clause-done : goal.returns-in-Slot-clause-done
returns-in-Slot-clause-done c journal stands =
    slot_stands c.args.scenario.now (run c.args.scenario.now journal) c.args.step c.run_slot.result c.run_slot.new.bus c.run_slot.new.controllers c.run_slot.new.nodes
    c.in-Slot.is (c.run_slot.ensures.done journal stands)

pub returns-in-Turn-clause-reply : goal.returns-in-Turn-clause-reply
returns-in-Turn-clause-reply c journal stands =
    turn_replies c.args.scenario.now (run c.args.scenario.now journal) c.args.step c.in-Turn.node c.turn_step.result c.in-Turn.is
    (c.turn_step.ensures.reply c.args.scenario.now journal stands.controllers stands.nodes)

pub returns-in-Turn-clause-done : goal.returns-in-Turn-clause-done
returns-in-Turn-clause-done c journal stands =
    turn_stands c.args.scenario.now journal c.args.step c.in-Turn.node c.turn_step.result c.args.bus.now c.args.controllers.now c.turn_step.new.controllers c.args.nodes.now c.turn_step.new.nodes
    c.in-Turn.is stands (c.turn_step.ensures.done c.args.scenario.now journal c.requires.legal stands.controllers stands.nodes)
