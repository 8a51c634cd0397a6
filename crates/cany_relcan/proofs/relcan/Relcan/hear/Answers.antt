-- What the notice calls for comes first, and then the timer that ends in the turn.
use Rattle.std.proofs.Common.{◌++◌, [], ap}
use Rattle.cany_base.specs.declared.message.Service.TheVariants as service
use Rattle.cany_message.specs.Calls.{actions_called}
use Rattle.cany_relcan.proofs.EndFacts.{can_end_after, ended_stands, turn_actions}
use Rattle.cany_relcan.proofs.relcan.Relcan.hear.Goals as goal

pub end_timer-requires-clause-takes : goal.end_timer-requires-clause-takes
end_timer-requires-clause-takes c = can_end_after c.args.self.now c.on_notice-calls.new.self c.args.notice.now c.requires.reads c.on_notice-calls.ensures.stands

pub returns-clause-actions : goal.returns-clause-actions
returns-clause-actions c = λ scenario past h next.
    let called = actions_called service.Rel c.args.notice.now c.on_notice-calls.result in
    turn_actions scenario c.args.self.now.node c.args.notice.now.slot c.args.notice.now.kind past c.on_notice-calls.new.self
    [] called (called ++ c.end_timer.new.out.items) (c.on_notice-calls.ensures.stands scenario past h next) next.slot c.end_timer.ensures.in_range
    (c.on_notice-calls.ensures.actions scenario past h next) (ap (λ actions. called ++ actions) (rw c.requires.free at c.end_timer.ensures.actions))

pub returns-clause-stands : goal.returns-clause-stands
returns-clause-stands c = λ scenario past h next.
    ended_stands scenario c.args.self.now.node c.args.notice.now.slot c.args.notice.now.kind past c.on_notice-calls.new.self c.end_timer.new.self
    (c.on_notice-calls.ensures.stands scenario past h next) next.slot c.end_timer.ensures.in_range c.end_timer.ensures.state c.end_timer.ensures.marks
