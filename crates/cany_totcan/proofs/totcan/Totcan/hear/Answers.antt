-- A notice, before what closes and what is delivered in its turn.
use Rattle.std.proofs.Common.{◌≡◌, ◌++◌, ◌&&◌, ℕ, List, false, true, ap, sym, ◌∙◌, arith}
use Rattle.std.proofs.lemmas.Bool.{and_parts}
use Rattle.cany_base.specs.declared.actions.Action.{Action}
use Rattle.cany_base.specs.declared.class.Class.TheVariants as class
use Rattle.cany_base.specs.declared.message.Service.TheVariants as service
use Rattle.cany_base.specs.declared.notice.NoticeKind.{NoticeKind}
use Rattle.cany_base.specs.declared.notice.NoticeKind.TheVariants.{Got, Sent}
use Rattle.cany_base.specs.Frame.{FrameParts}
use Rattle.cany_base.specs.Scenario.{ScenarioParts}
use Rattle.cany_diffuse.specs.declared.learnt.Learnt.{Learnt}
use Rattle.cany_diffuse.specs.Eager.{learnt_of}
use Rattle.cany_message.specs.Actions.{relay_actions}
use Rattle.cany_message.proofs.DeliveryFacts.{no_actions}
use Rattle.cany_message.proofs.NoticeFacts.{got_names, got_small, sent_names}
use Rattle.cany_model.specs.Bus.Frames.{same_class}
use Rattle.cany_model.proofs.Bus.Identities.{same_class-true}
use Rattle.cany_model.specs.Rules.Actions.{actions_of}
use Rattle.cany_model.specs.Rules.Totcan.{accept_effects, message_in}
use Rattle.cany_totcan.specs.Acceptances.{noted_of}
use Rattle.cany_totcan.specs.Totcan.{HasHeard}
use Rattle.cany_totcan.specs.TotcanSteps.{has_open}
use Rattle.cany_totcan.proofs.HeardFacts.{can_hold, got_accepts, heard_acceptance, heard_bad, heard_got, heard_got_other, heard_idle, heard_own_acceptance, heard_sent, heard_sent_other, nothing_bad, nothing_data, nothing_got, nothing_idle, nothing_sent, open_now, origin_is, relay_is, sent_accepts}
use Rattle.cany_totcan.proofs.totcan.Totcan.hear.Goals as goal

-- nothing is done at a frame of the node's own that is no data frame
sent_acts : (scenario : ScenarioParts) (i : ℕ) (f : FrameParts) (before : List NoticeKind) (out : List Action) → same_class f.class class.Tot ≡ false
    → out ≡ out ++ actions_of scenario.params.format (accept_effects scenario.params i (Sent f) before)
sent_acts scenario i f before out other = no_actions scenario.params.format out _ (nothing_sent scenario i f before other)

-- ---- what the parts require

pub hold-requires : goal.hold-requires
hold-requires c =
    let reads = c.requires.reads in
    let is = sym c.is_of_class.ensures ∙ c.if-is_of_class.true in
    can_hold reads.scenario c.args.self.now.node reads.past reads.messages reads.count c.args.self.now c.args.self.now reads.stands c.in-Got.frame
    (got_names reads.scenario reads.past c.args.notice.now c.in-Got.frame reads.next service.Tot c.in-Got.is
    (same_class-true c.in-Got.frame.class class.Tot is)) c.args.notice.now.slot reads.next.slot

pub on_own_data-requires-clause-holds : goal.on_own_data-requires-clause-holds
on_own_data-requires-clause-holds c =
    let reads = c.requires.reads in
    can_hold reads.scenario c.args.self.now.node reads.past reads.messages reads.count c.args.self.now c.args.self.now reads.stands c.in-Sent.frame
    (sent_names reads.scenario reads.past c.args.notice.now c.in-Sent.frame reads.next service.Tot c.in-Sent.is
    (same_class-true c.in-Sent.frame.class class.Tot (sym c.is_of_class-in-Sent.ensures ∙ c.if-is_of_class-2.true))) c.args.notice.now.slot reads.next.slot

pub on_acceptance-requires-clause-small : goal.on_acceptance-requires-clause-small
on_acceptance-requires-clause-small c =
    let reads = c.requires.reads in
    rw reads.stands.limits.format (got_small reads.scenario reads.past c.args.notice.now c.in-Got.frame reads.next reads.stands.limits.legal c.in-Got.is)

pub on_acceptance-requires-clause-there : goal.on_acceptance-requires-clause-there
on_acceptance-requires-clause-there c =
    (and_parts (same_class c.in-Got.frame.class class.Accept) (has_open c.args.self.now c.in-Got.frame) (sym c.accepts_open.ensures ∙ c.if-accepts_open.true)).1

pub on_own_acceptance-requires : goal.on_own_acceptance-requires
on_own_acceptance-requires c =
    (and_parts (same_class c.in-Sent.frame.class class.Accept) (has_open c.args.self.now c.in-Sent.frame)
    (sym c.accepts_open-else-is_of_class-2.ensures ∙ c.if-accepts_open-2.true)).1

-- ---- a data frame

pub returns-then-is_of_class-clause-stands : goal.returns-then-is_of_class-clause-stands
returns-then-is_of_class-clause-stands c = λ scenario past messages count h next.
    let is : same_class c.in-Got.frame.class class.Tot ≡ true = sym c.is_of_class.ensures ∙ c.if-is_of_class.true in
    rw c.in-Got.is
    (heard_got scenario c.args.self.now.node past messages count c.args.self.now c.hold.new.self h c.in-Got.frame
    (got_names scenario past c.args.notice.now c.in-Got.frame next service.Tot c.in-Got.is (same_class-true c.in-Got.frame.class class.Tot is))
    c.args.notice.now.slot is next.slot c.hold.ensures.forgotten c.hold.ensures.state)

pub returns-then-is_of_class-clause-actions : goal.returns-then-is_of_class-clause-actions
returns-then-is_of_class-clause-actions c = λ scenario past messages count h next.
    rw c.in-Got.is
    (no_actions scenario.params.format c.args.out.now.items _
    (nothing_data scenario c.args.self.now.node c.in-Got.frame past (same_class-true c.in-Got.frame.class class.Tot (sym c.is_of_class.ensures ∙ c.if-is_of_class.true))))

pub returns-then-is_of_class-2-clause-stands : goal.returns-then-is_of_class-2-clause-stands
returns-then-is_of_class-2-clause-stands c = λ scenario past messages count h next.
    let is : same_class c.in-Sent.frame.class class.Tot ≡ true = sym c.is_of_class-in-Sent.ensures ∙ c.if-is_of_class-2.true in
    rw c.in-Sent.is
    (heard_sent scenario c.args.self.now.node past messages count c.args.self.now c.on_own_data.new.self h c.in-Sent.frame
    (sent_names scenario past c.args.notice.now c.in-Sent.frame next service.Tot c.in-Sent.is (same_class-true c.in-Sent.frame.class class.Tot is))
    c.args.notice.now.slot is next.slot c.on_own_data.ensures.forgotten c.on_own_data.ensures.state)

pub returns-then-is_of_class-2-clause-actions : goal.returns-then-is_of_class-2-clause-actions
returns-then-is_of_class-2-clause-actions c = λ scenario past messages count h next.
    rw c.in-Sent.is
    (c.on_own_data.ensures.actions
    ∙ ap (λ actions. c.args.out.now.items ++ actions) (origin_is scenario c.args.self.now.node c.in-Sent.frame past (sym c.is_of_class-in-Sent.ensures ∙ c.if-is_of_class-2.true)))

-- ---- a frame that accepts an open message

pub returns-then-accepts_open-clause-stands : goal.returns-then-accepts_open-clause-stands
returns-then-accepts_open-clause-stands c = λ scenario past messages count h next.
    let accepts = and_parts (same_class c.in-Got.frame.class class.Accept) (has_open c.args.self.now c.in-Got.frame) (sym c.accepts_open.ensures ∙ c.if-accepts_open.true) in
    let accept = same_class-true c.in-Got.frame.class class.Accept accepts.0 in
    rw c.in-Got.is
    (heard_acceptance scenario c.args.self.now.node past messages count c.args.self.now c.on_acceptance.new.self h c.in-Got.frame
    (got_accepts scenario past c.args.notice.now c.in-Got.frame next c.in-Got.is accept) accept c.on_acceptance.ensures.state
    (omega (arith, next.slot, next.within)) c.on_acceptance.ensures.learnt)

pub returns-then-accepts_open-clause-actions : goal.returns-then-accepts_open-clause-actions
returns-then-accepts_open-clause-actions c = λ scenario past messages count h next.
    let accepts_open : (same_class c.in-Got.frame.class class.Accept && has_open c.args.self.now c.in-Got.frame) ≡ true = sym c.accepts_open.ensures ∙ c.if-accepts_open.true in
    let accepts = and_parts (same_class c.in-Got.frame.class class.Accept) (has_open c.args.self.now c.in-Got.frame) accepts_open in
    let accept = same_class-true c.in-Got.frame.class class.Accept accepts.0 in
    let heard : HasHeard scenario c.args.self.now.node (Got c.in-Got.frame) past messages count c.on_acceptance.new.self =
    heard_acceptance scenario c.args.self.now.node past messages count c.args.self.now c.on_acceptance.new.self h c.in-Got.frame
    (got_accepts scenario past c.args.notice.now c.in-Got.frame next c.in-Got.is accept) accept c.on_acceptance.ensures.state
    (omega (arith, next.slot, next.within)) c.on_acceptance.ensures.learnt in
    let learnt : Learnt =
    learnt_of c.args.self.now.omit (noted_of c.on_acceptance.new.self.acceptances (message_in c.in-Got.frame)).copies
    (noted_of c.on_acceptance.new.self.acceptances (message_in c.in-Got.frame)).owned in
    rw c.in-Got.is
    (c.on_acceptance.ensures.actions
    ∙ ap (λ format. c.args.out.now.items ++ relay_actions format learnt c.in-Got.frame) h.limits.format
    ∙ ap (λ actions. c.args.out.now.items ++ actions)
    (relay_is scenario c.args.self.now.node c.in-Got.frame past c.args.self.now.omit c.on_acceptance.new.self.acceptances accept
    (open_now scenario c.args.self.now.node past messages count c.args.self.now c.in-Got.frame h ∙ accepts_open) h.limits.omit heard.acceptances))

pub returns-then-accepts_open-2-clause-stands : goal.returns-then-accepts_open-2-clause-stands
returns-then-accepts_open-2-clause-stands c = λ scenario past messages count h next.
    let accepts = and_parts (same_class c.in-Sent.frame.class class.Accept) (has_open c.args.self.now c.in-Sent.frame)
    (sym c.accepts_open-else-is_of_class-2.ensures ∙ c.if-accepts_open-2.true) in
    let accept = same_class-true c.in-Sent.frame.class class.Accept accepts.0 in
    rw c.in-Sent.is
    (heard_own_acceptance scenario c.args.self.now.node past messages count c.args.self.now c.on_own_acceptance.new.self h c.in-Sent.frame
    (sent_accepts scenario past c.args.notice.now c.in-Sent.frame next c.in-Sent.is accept) accept c.on_own_acceptance.ensures.state
    c.on_own_acceptance.ensures.owned)

pub returns-then-accepts_open-2-clause-actions : goal.returns-then-accepts_open-2-clause-actions
returns-then-accepts_open-2-clause-actions c = λ scenario past messages count h next.
    rw c.in-Sent.is (sent_acts scenario c.args.self.now.node c.in-Sent.frame past c.args.out.now.items (sym c.is_of_class-in-Sent.ensures ∙ c.if-is_of_class-2.false))

-- ---- any other frame

pub returns-else-accepts_open-clause-stands : goal.returns-else-accepts_open-clause-stands
returns-else-accepts_open-clause-stands c = λ scenario past messages count h next.
    rw c.in-Got.is
    (heard_got_other scenario c.args.self.now.node past messages count c.args.self.now c.args.self.now h c.in-Got.frame
    (sym c.is_of_class.ensures ∙ c.if-is_of_class.false) (sym c.accepts_open.ensures ∙ c.if-accepts_open.false))

pub returns-else-accepts_open-clause-actions : goal.returns-else-accepts_open-clause-actions
returns-else-accepts_open-clause-actions c = λ scenario past messages count h next.
    rw c.in-Got.is
    (no_actions scenario.params.format c.args.out.now.items _
    (nothing_got scenario c.args.self.now.node c.in-Got.frame past
    (open_now scenario c.args.self.now.node past messages count c.args.self.now c.in-Got.frame h ∙ sym c.accepts_open.ensures ∙ c.if-accepts_open.false)))

pub returns-else-accepts_open-2-clause-stands : goal.returns-else-accepts_open-2-clause-stands
returns-else-accepts_open-2-clause-stands c = λ scenario past messages count h next.
    rw c.in-Sent.is
    (heard_sent_other scenario c.args.self.now.node past messages count c.args.self.now c.args.self.now h c.in-Sent.frame
    (sym c.is_of_class-in-Sent.ensures ∙ c.if-is_of_class-2.false) (sym c.accepts_open-else-is_of_class-2.ensures ∙ c.if-accepts_open-2.false))

pub returns-else-accepts_open-2-clause-actions : goal.returns-else-accepts_open-2-clause-actions
returns-else-accepts_open-2-clause-actions c = λ scenario past messages count h next.
    rw c.in-Sent.is (sent_acts scenario c.args.self.now.node c.in-Sent.frame past c.args.out.now.items (sym c.is_of_class-in-Sent.ensures ∙ c.if-is_of_class-2.false))

-- ---- no frame

pub returns-in-Idle-clause-stands : goal.returns-in-Idle-clause-stands
returns-in-Idle-clause-stands c = λ scenario past messages count h next. rw c.in-Idle.is (heard_idle scenario c.args.self.now.node past messages count c.args.self.now h)

pub returns-in-Idle-clause-actions : goal.returns-in-Idle-clause-actions
returns-in-Idle-clause-actions c = λ scenario past messages count h next.
    rw c.in-Idle.is (no_actions scenario.params.format c.args.out.now.items _ (nothing_idle scenario c.args.self.now.node past))

pub returns-in-Bad-clause-stands : goal.returns-in-Bad-clause-stands
returns-in-Bad-clause-stands c = λ scenario past messages count h next. rw c.in-Bad.is (heard_bad scenario c.args.self.now.node past messages count c.args.self.now h)

pub returns-in-Bad-clause-actions : goal.returns-in-Bad-clause-actions
returns-in-Bad-clause-actions c = λ scenario past messages count h next.
    rw c.in-Bad.is (no_actions scenario.params.format c.args.out.now.items _ (nothing_bad scenario c.args.self.now.node past))
