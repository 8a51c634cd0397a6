use Rattle.std.proofs.Common.{◌++◌, [], ap, sym, ◌∙◌, append-nil}
use Rattle.cany_base.specs.declared.message.Service.TheVariants as service
use Rattle.cany_base.specs.declared.notice.NoticeKind.TheVariants.{Idle, Got, Sent, Bad}
use Rattle.cany_message.specs.Actions.{delivery_actions}
use Rattle.cany_message.specs.Calls.{actions_at, replied}
use Rattle.cany_message.proofs.CallFacts.{nothing_called}
use Rattle.cany_edcan.proofs.EdcanFacts.{small_copy, takes_got, takes_sent, got_stands, sent_stands, got_acts, sent_acts, sent_other, other_stands, other_acts}
use Rattle.cany_edcan.proofs.edcan.Edcan.hear.Goals as goal

pub on_copy-requires-clause-takes : goal.on_copy-requires-clause-takes
on_copy-requires-clause-takes c =
    takes_got c.args.self.now c.args.notice.now c.in-Got.frame c.requires c.in-Got.is (sym c.is_data.ensures ∙ c.if-is_data.true)

pub on_copy-requires-clause-small : goal.on_copy-requires-clause-small
on_copy-requires-clause-small c = small_copy c.args.self.now c.args.notice.now c.in-Got.frame c.requires c.in-Got.is

pub on_own-requires : goal.on_own-requires
on_own-requires c = record {
  takes = takes_sent c.args.self.now c.args.notice.now c.in-Sent.frame c.requires c.in-Sent.is (sym c.is_data-in-Sent.ensures ∙ c.if-is_data-2.true);
}

pub returns-then-is_data-clause-stands : goal.returns-then-is_data-clause-stands
returns-then-is_data-clause-stands c = λ scenario past h next.
    got_stands scenario past c.args.self.now c.on_copy.new.self c.args.notice.now c.in-Got.frame h next (sym c.is_data.ensures ∙ c.if-is_data.true)
    c.on_copy.ensures.in_range c.in-Got.is c.on_copy.ensures.learnt c.on_copy.ensures.state

pub returns-then-is_data-clause-actions : goal.returns-then-is_data-clause-actions
returns-then-is_data-clause-actions c = λ scenario past h next.
    ap (actions_at service.Ed c.args.notice.now.slot c.on_copy.result) c.in-Got.is
    ∙ got_acts scenario past c.args.self.now c.on_copy.new.self c.args.notice.now c.in-Got.frame h next (sym c.is_data.ensures ∙ c.if-is_data.true)
    c.on_copy.ensures.in_range [] _ c.in-Got.is
    (returns-then-is_data-clause-stands c scenario past h next)
    (λ j. delivery_actions service.Ed c.args.notice.now.slot (c.on_copy.ensures.delivers j) c.in-Got.frame ++ c.on_copy.ensures.reply j)

pub returns-else-is_data-clause-stands : goal.returns-else-is_data-clause-stands
returns-else-is_data-clause-stands c = λ scenario past h next.
    other_stands scenario c.args.self.now.node past c.args.notice.now.kind (Got c.in-Got.frame) c.in-Got.is (sym c.is_data.ensures ∙ c.if-is_data.false) c.args.self.now h

pub returns-else-is_data-clause-actions : goal.returns-else-is_data-clause-actions
returns-else-is_data-clause-actions c = λ scenario past h next.
    nothing_called service.Ed c.args.notice.now.slot c.args.notice.now.kind
    ∙ other_acts scenario c.args.self.now.node past c.args.notice.now.kind (Got c.in-Got.frame) c.in-Got.is (sym c.is_data.ensures ∙ c.if-is_data.false) []

pub returns-then-is_data-2-clause-stands : goal.returns-then-is_data-2-clause-stands
returns-then-is_data-2-clause-stands c = λ scenario past h next.
    sent_stands scenario past c.args.self.now c.on_own.new.self c.args.notice.now c.in-Sent.frame h next (sym c.is_data-in-Sent.ensures ∙ c.if-is_data-2.true)
    c.on_own.ensures.in_range c.in-Sent.is c.on_own.ensures.owned c.on_own.ensures.state

pub returns-then-is_data-2-clause-actions : goal.returns-then-is_data-2-clause-actions
returns-then-is_data-2-clause-actions c = λ scenario past h next.
    ap (actions_at service.Ed c.args.notice.now.slot c.on_own.result) c.in-Sent.is
    ∙ sent_acts scenario past c.args.self.now c.on_own.new.self c.args.notice.now c.in-Sent.frame h next (sym c.is_data-in-Sent.ensures ∙ c.if-is_data-2.true)
    c.on_own.ensures.in_range [] _ c.in-Sent.is
    ((λ j. delivery_actions service.Ed c.args.notice.now.slot (c.on_own.ensures.delivers j) c.in-Sent.frame ++ replied (c.on_own.ensures.reply j) c.in-Sent.frame) ∙ append-nil _)

pub returns-else-is_data-2-clause-stands : goal.returns-else-is_data-2-clause-stands
returns-else-is_data-2-clause-stands c = λ scenario past h next.
    other_stands scenario c.args.self.now.node past c.args.notice.now.kind (Sent c.in-Sent.frame) c.in-Sent.is
    (sent_other c.in-Sent.frame (sym c.is_data-in-Sent.ensures ∙ c.if-is_data-2.false)) c.args.self.now h

pub returns-else-is_data-2-clause-actions : goal.returns-else-is_data-2-clause-actions
returns-else-is_data-2-clause-actions c = λ scenario past h next.
    nothing_called service.Ed c.args.notice.now.slot c.args.notice.now.kind
    ∙ other_acts scenario c.args.self.now.node past c.args.notice.now.kind (Sent c.in-Sent.frame) c.in-Sent.is
    (sent_other c.in-Sent.frame (sym c.is_data-in-Sent.ensures ∙ c.if-is_data-2.false)) []

pub returns-in-Idle-clause-stands : goal.returns-in-Idle-clause-stands
returns-in-Idle-clause-stands c = λ scenario past h next. other_stands scenario c.args.self.now.node past c.args.notice.now.kind Idle c.in-Idle.is tt c.args.self.now h

pub returns-in-Idle-clause-actions : goal.returns-in-Idle-clause-actions
returns-in-Idle-clause-actions c = λ scenario past h next.
    nothing_called service.Ed c.args.notice.now.slot _ ∙ other_acts scenario c.args.self.now.node past _ Idle c.in-Idle.is tt []

pub returns-in-Bad-clause-stands : goal.returns-in-Bad-clause-stands
returns-in-Bad-clause-stands c = λ scenario past h next. other_stands scenario c.args.self.now.node past c.args.notice.now.kind Bad c.in-Bad.is tt c.args.self.now h

pub returns-in-Bad-clause-actions : goal.returns-in-Bad-clause-actions
returns-in-Bad-clause-actions c = λ scenario past h next.
    nothing_called service.Ed c.args.notice.now.slot _ ∙ other_acts scenario c.args.self.now.node past _ Bad c.in-Bad.is tt []
