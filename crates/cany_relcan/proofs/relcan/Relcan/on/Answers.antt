-- The turn is the notice, and then the timer that ends in it.
use Rattle.std.proofs.Common.{◌++◌, ap, ◌∙◌}
use Rattle.cany_relcan.proofs.EndFacts.{can_end_after, ended_stands, turn_actions}
use Rattle.cany_relcan.proofs.relcan.Relcan.on.Goals as goal

pub end_timer-requires-clause-takes : goal.end_timer-requires-clause-takes
end_timer-requires-clause-takes c = can_end_after c.args.self.now c.on_notice-calls.new.self c.args.notice.now c.requires.reads c.on_notice-calls.ensures.stands

pub returns-clause-actions : goal.returns-clause-actions
returns-clause-actions c = λ scenario past h next.
    turn_actions scenario c.args.self.now.node c.args.notice.now.slot c.args.notice.now.kind past c.on_notice-calls.new.self
    c.args.out.now.items c.put.new.out.items c.end_timer.new.out.items (c.on_notice-calls.ensures.stands scenario past h next) next.slot c.end_timer.ensures.in_range
    (c.put.ensures.actions ∙ ap (λ actions. c.args.out.now.items ++ actions) (c.on_notice-calls.ensures.actions scenario past h next)) c.end_timer.ensures.actions

pub returns-clause-stands : goal.returns-clause-stands
returns-clause-stands c = λ scenario past h next.
    ended_stands scenario c.args.self.now.node c.args.notice.now.slot c.args.notice.now.kind past c.on_notice-calls.new.self c.end_timer.new.self
    (c.on_notice-calls.ensures.stands scenario past h next) next.slot c.end_timer.ensures.in_range c.end_timer.ensures.state c.end_timer.ensures.marks
