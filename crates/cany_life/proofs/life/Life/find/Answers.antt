-- Before the slot from which silence may find somebody nobody is found.
use Rattle.std.proofs.Common.{◌≡◌, [], arith}
use Rattle.cany_life.specs.LifeSteps.{found_below}
use Rattle.cany_life.proofs.IdleFacts.{none_found, idle_actions, idle_state}
use Rattle.cany_life.proofs.life.Life.find.Goals as goal

pub returns-else-next_silent-slot-clause-state : goal.returns-else-next_silent-slot-clause-state
returns-else-next_silent-slot-clause-state c =
    let none : found_below c.args.self.now c.args.members c.args.slot c.args.self.now.params.nodes ≡ [] =
    none_found c.args.self.now c.args.members c.args.slot c.requires.silence (c.next_silent.ensures c.args.slot (omega arith) c.if-next_silent-slot.false)
    c.args.self.now.params.nodes c.requires.finds.nodes in
    idle_state c.args.self.now c.args.members c.args.slot none

pub returns-else-next_silent-slot-clause-actions : goal.returns-else-next_silent-slot-clause-actions
returns-else-next_silent-slot-clause-actions c =
    let none : found_below c.args.self.now c.args.members c.args.slot c.args.self.now.params.nodes ≡ [] =
    none_found c.args.self.now c.args.members c.args.slot c.requires.silence (c.next_silent.ensures c.args.slot (omega arith) c.if-next_silent-slot.false)
    c.args.self.now.params.nodes c.requires.finds.nodes in
    idle_actions c.args.self.now c.args.members c.args.slot c.args.out.now.items none
