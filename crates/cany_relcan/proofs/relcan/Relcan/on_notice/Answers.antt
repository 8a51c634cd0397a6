-- A notice, before the timer that ends in its turn.
use Rattle.std.proofs.Common.{◌≡◌, ◌==◌, ◌&&◌, true, [], ◌++◌, ap, subst, sym, ◌∙◌, arith}
use Rattle.std.proofs.lemmas.Bool.{and_parts, eqb-true}
use Rattle.cany_base.specs.declared.class.Class.TheVariants as class
use Rattle.cany_base.specs.declared.message.Service.TheVariants as service
use Rattle.cany_base.specs.declared.notice.NoticeKind.TheVariants.{Idle, Got, Sent, Bad}
use Rattle.cany_message.specs.Actions.{delivery_actions}
use Rattle.cany_message.proofs.DeliveryFacts.{no_actions}
use Rattle.cany_message.proofs.NoticeFacts.{got_names, got_small, sent_names}
use Rattle.cany_message.proofs.TableFacts.{can_take}
use Rattle.cany_model.specs.Bus.Frames.{same_class}
use Rattle.cany_model.specs.Bus.History.{has_own}
use Rattle.cany_model.proofs.Bus.Identities.{same_class-true}
use Rattle.cany_message.specs.Calls.{replied}
use Rattle.cany_relcan.specs.Relcan.{HasRead, data_identity, of_own, of_none}
use Rattle.cany_relcan.proofs.ActionFacts.{got_actions, sent_actions, none_at}
use Rattle.cany_relcan.proofs.ReadFacts.{one_more_timer, read_copy, read_confirmation, read_sent, read_other, timers_before}
use Rattle.cany_relcan.proofs.TablesFacts.{confirm_names, none_noted}
use Rattle.cany_relcan.proofs.relcan.Relcan.on_notice.Goals as goal

pub on_copy-requires-clause-takes : goal.on_copy-requires-clause-takes
on_copy-requires-clause-takes c =
    let reads = c.requires in
    can_take reads.scenario service.Rel class.Rel (of_own c.args.self.now.node) reads.past c.args.self.now.copies c.in-Got.frame reads.stands.tables.data_frames
    (got_names reads.scenario reads.past c.args.notice.now c.in-Got.frame reads.next service.Rel c.in-Got.is (same_class-true c.in-Got.frame.class class.Rel (sym c.is_of_class.ensures ∙ c.if-is_of_class.true)))

pub on_copy-requires-clause-small : goal.on_copy-requires-clause-small
on_copy-requires-clause-small c =
    let reads = c.requires in
    rw reads.stands.limits.format (got_small reads.scenario reads.past c.args.notice.now c.in-Got.frame reads.next reads.stands.limits.legal c.in-Got.is)

pub on_copy-requires-clause-there : goal.on_copy-requires-clause-there
on_copy-requires-clause-there c = c.requires.stands.tables.data_frames.there _

pub on_copy-requires-clause-own : goal.on_copy-requires-clause-own
on_copy-requires-clause-own c = λ near other.
    c.requires.stands.tables.data_frames.owned c.in-Got.frame.number c.in-Got.frame.node near
    ∙ ap (λ own. own && has_own (data_identity c.in-Got.frame.number c.in-Got.frame.node) c.requires.past) other

pub on_copy-requires-clause-timers : goal.on_copy-requires-clause-timers
on_copy-requires-clause-timers c =
    one_more_timer c.requires.scenario c.args.self.now.node c.requires.past c.args.self.now c.requires.stands

pub on_copy-requires-clause-later : goal.on_copy-requires-clause-later
on_copy-requires-clause-later c =
    timers_before c.requires.scenario c.args.self.now.node c.requires.past c.args.self.now c.args.notice.now.slot c.requires.stands c.requires.next.slot

pub on_confirmation-requires : goal.on_confirmation-requires
on_confirmation-requires c =
    let reads = c.requires in
    can_take reads.scenario service.Rel class.Confirm of_none reads.past c.args.self.now.confirms c.in-Got.frame reads.stands.tables.confirmations
    (confirm_names reads.scenario reads.past c.args.notice.now c.in-Got.frame reads.next c.in-Got.is (same_class-true c.in-Got.frame.class class.Confirm (sym c.is_of_class-else-is_of_class.ensures ∙ c.if-is_of_class-2.true)))

pub on_own-requires : goal.on_own-requires
on_own-requires c =
    let reads = c.requires in
    let own = and_parts (same_class c.in-Sent.frame.class class.Rel) (c.in-Sent.frame.node == c.args.self.now.node) (sym c.is_own.ensures ∙ c.if-is_own.true) in
    record {
      takes =
          can_take reads.scenario service.Rel class.Rel (of_own c.args.self.now.node) reads.past c.args.self.now.copies c.in-Sent.frame reads.stands.tables.data_frames
          (sent_names reads.scenario reads.past c.args.notice.now c.in-Sent.frame reads.next service.Rel c.in-Sent.is (same_class-true c.in-Sent.frame.class class.Rel own.0));
    }

pub returns-then-is_of_class-clause-stands : goal.returns-then-is_of_class-clause-stands
returns-then-is_of_class-clause-stands c = λ scenario past h next.
    let is : same_class c.in-Got.frame.class class.Rel ≡ true = sym c.is_of_class.ensures ∙ c.if-is_of_class.true in
    let rel = same_class-true c.in-Got.frame.class class.Rel is in
    rw c.in-Got.is
    (read_copy scenario c.args.self.now.node past c.args.self.now c.on_copy.new.self c.in-Got.frame h c.on_copy.ensures.in_range
    (got_names scenario past c.args.notice.now c.in-Got.frame next service.Rel c.in-Got.is rel) c.args.notice.now.slot rel is next.slot next.within
    c.on_copy.ensures.learnt c.on_copy.ensures.state)

pub returns-then-is_of_class-clause-actions : goal.returns-then-is_of_class-clause-actions
returns-then-is_of_class-clause-actions c = λ scenario past h next.
    let is : same_class c.in-Got.frame.class class.Rel ≡ true = sym c.is_of_class.ensures ∙ c.if-is_of_class.true in
    let read : HasRead scenario c.args.self.now.node (Got c.in-Got.frame) past c.on_copy.new.self =
    subst (λ kind. HasRead scenario c.args.self.now.node kind past c.on_copy.new.self) c.in-Got.is (returns-then-is_of_class-clause-stands c scenario past h next) in
    rw c.in-Got.is
    ((λ j. delivery_actions service.Rel c.args.notice.now.slot (c.on_copy.ensures.delivers j) c.in-Got.frame ++ c.on_copy.ensures.reply j)
    ∙ got_actions scenario c.args.self.now.node c.args.notice.now.slot past c.args.self.now c.on_copy.new.self c.in-Got.frame []
    h (same_class-true c.in-Got.frame.class class.Rel is) is c.on_copy.ensures.in_range next.slot read)

pub returns-then-is_of_class-2-clause-stands : goal.returns-then-is_of_class-2-clause-stands
returns-then-is_of_class-2-clause-stands c = λ scenario past h next.
    let confirm = same_class-true c.in-Got.frame.class class.Confirm (sym c.is_of_class-else-is_of_class.ensures ∙ c.if-is_of_class-2.true) in
    rw c.in-Got.is
    (read_confirmation scenario c.args.self.now.node past c.args.self.now c.on_confirmation.new.self c.in-Got.frame h c.on_confirmation.ensures.in_range
    (confirm_names scenario past c.args.notice.now c.in-Got.frame next c.in-Got.is confirm) confirm (sym c.is_of_class.ensures ∙ c.if-is_of_class.false)
    (omega (arith, next.slot, next.within)) c.on_confirmation.ensures.learnt c.on_confirmation.ensures.state)

pub returns-then-is_of_class-2-clause-actions : goal.returns-then-is_of_class-2-clause-actions
returns-then-is_of_class-2-clause-actions c = λ scenario past h next.
    rw c.in-Got.is (no_actions scenario.params.format [] _ (none_at scenario.params c.args.self.now.node (Got c.in-Got.frame) past (sym c.is_of_class.ensures ∙ c.if-is_of_class.false)))

pub returns-else-is_of_class-2-clause-stands : goal.returns-else-is_of_class-2-clause-stands
returns-else-is_of_class-2-clause-stands c = λ scenario past h next.
    rw c.in-Got.is
    (read_other scenario c.args.self.now.node (Got c.in-Got.frame) past c.args.self.now (sym c.is_of_class.ensures ∙ c.if-is_of_class.false)
    (sym c.is_of_class-else-is_of_class.ensures ∙ c.if-is_of_class-2.false) h)

pub returns-else-is_of_class-2-clause-actions : goal.returns-else-is_of_class-2-clause-actions
returns-else-is_of_class-2-clause-actions c = λ scenario past h next.
    rw c.in-Got.is (no_actions scenario.params.format [] _ (none_at scenario.params c.args.self.now.node (Got c.in-Got.frame) past (sym c.is_of_class.ensures ∙ c.if-is_of_class.false)))

pub returns-then-is_own-clause-stands : goal.returns-then-is_own-clause-stands
returns-then-is_own-clause-stands c = λ scenario past h next.
    let own = and_parts (same_class c.in-Sent.frame.class class.Rel) (c.in-Sent.frame.node == c.args.self.now.node) (sym c.is_own.ensures ∙ c.if-is_own.true) in
    let rel = same_class-true c.in-Sent.frame.class class.Rel own.0 in
    rw c.in-Sent.is
    (read_sent scenario c.args.self.now.node past c.args.self.now c.on_own.new.self c.in-Sent.frame h c.on_own.ensures.in_range
    (sent_names scenario past c.args.notice.now c.in-Sent.frame next service.Rel c.in-Sent.is rel) rel (eqb-true c.in-Sent.frame.node c.args.self.now.node own.1)
    c.on_own.ensures.owned c.on_own.ensures.state)

pub returns-then-is_own-clause-actions : goal.returns-then-is_own-clause-actions
returns-then-is_own-clause-actions c = λ scenario past h next.
    let own = and_parts (same_class c.in-Sent.frame.class class.Rel) (c.in-Sent.frame.node == c.args.self.now.node) (sym c.is_own.ensures ∙ c.if-is_own.true) in
    rw c.in-Sent.is
    ((λ j. delivery_actions service.Rel c.args.notice.now.slot (c.on_own.ensures.delivers j) c.in-Sent.frame ++ replied (c.on_own.ensures.reply j) c.in-Sent.frame)
    ∙ sent_actions scenario c.args.self.now.node c.args.notice.now.slot past c.args.self.now c.args.self.now c.in-Sent.frame []
    h (same_class-true c.in-Sent.frame.class class.Rel own.0) own.0 c.on_own.ensures.in_range next.slot (eqb-true c.in-Sent.frame.node c.args.self.now.node own.1))

pub returns-else-is_own-clause-stands : goal.returns-else-is_own-clause-stands
returns-else-is_own-clause-stands c = λ scenario past h next.
    rw c.in-Sent.is
    (read_other scenario c.args.self.now.node (Sent c.in-Sent.frame) past c.args.self.now (sym c.is_own.ensures ∙ c.if-is_own.false) (none_noted c.in-Sent.frame) h)

pub returns-else-is_own-clause-actions : goal.returns-else-is_own-clause-actions
returns-else-is_own-clause-actions c = λ scenario past h next.
    rw c.in-Sent.is (no_actions scenario.params.format [] _ (none_at scenario.params c.args.self.now.node (Sent c.in-Sent.frame) past (sym c.is_own.ensures ∙ c.if-is_own.false)))

pub returns-in-Idle-clause-stands : goal.returns-in-Idle-clause-stands
returns-in-Idle-clause-stands c = λ scenario past h next. rw c.in-Idle.is (read_other scenario c.args.self.now.node Idle past c.args.self.now tt tt h)

pub returns-in-Idle-clause-actions : goal.returns-in-Idle-clause-actions
returns-in-Idle-clause-actions c = λ scenario past h next. rw c.in-Idle.is (no_actions scenario.params.format [] _ (none_at scenario.params c.args.self.now.node Idle past tt))

pub returns-in-Bad-clause-stands : goal.returns-in-Bad-clause-stands
returns-in-Bad-clause-stands c = λ scenario past h next. rw c.in-Bad.is (read_other scenario c.args.self.now.node Bad past c.args.self.now tt tt h)

pub returns-in-Bad-clause-actions : goal.returns-in-Bad-clause-actions
returns-in-Bad-clause-actions c = λ scenario past h next. rw c.in-Bad.is (no_actions scenario.params.format [] _ (none_at scenario.params c.args.self.now.node Bad past tt))
