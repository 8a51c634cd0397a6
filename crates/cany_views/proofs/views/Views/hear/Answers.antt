use Rattle.std.proofs.Common.{◌≡◌, ◌<◌, true, subst, sym, ◌∙◌}
use Rattle.cany_base.specs.declared.class.Class.TheVariants as class
use Rattle.cany_base.specs.declared.notice.Notice.{Notice}
use Rattle.cany_base.specs.declared.notice.NoticeKind.TheVariants.{Got, Sent}
use Rattle.cany_base.specs.Frame.{FrameParts}
use Rattle.cany_model.specs.Bus.Frames.{same_class}
use Rattle.cany_model.specs.Rules.Notices.{IsReadable}
use Rattle.cany_views.specs.Views.{CanHear, ViewsParts}
use Rattle.cany_views.proofs.HeardFacts.{bad_asks, got_join, got_leave, got_other, idle_asks, joiner_near, leaver_near, sent_leave, sent_other}
use Rattle.cany_views.proofs.views.Views.hear.Goals as goal

-- ---- who asks is a node of the bus

module _ (v : ViewsParts) (notice : Notice) (can : CanHear v notice) (f : FrameParts) where
  joiner_got : notice.kind ≡ Got f → same_class f.class class.Join ≡ true → f.node < v.params.nodes
  joiner_got is join = joiner_near can.scenario v.node can.knowledge v can.stands notice.slot f (subst (IsReadable can.scenario notice.slot) is can.readable) join

  leaver_got : notice.kind ≡ Got f → same_class f.class class.Leave ≡ true → f.node < v.params.nodes
  leaver_got is leave = leaver_near can.scenario v.node can.knowledge v can.stands notice.slot f (subst (IsReadable can.scenario notice.slot) is can.readable) leave

  leaver_sent : notice.kind ≡ Sent f → same_class f.class class.Leave ≡ true → f.node < v.params.nodes
  leaver_sent is leave = leaver_near can.scenario v.node can.knowledge v can.stands notice.slot f (subst (IsReadable can.scenario notice.slot) is can.readable) leave

pub hear_join-requires : goal.hear_join-requires
hear_join-requires c = joiner_got c.args.self.now c.args.notice.now c.requires c.in-Got.frame c.in-Got.is (sym c.is_of_class.ensures ∙ c.if-is_of_class.true)

pub hear_leave-requires : goal.hear_leave-requires
hear_leave-requires c =
    leaver_got c.args.self.now c.args.notice.now c.requires c.in-Got.frame c.in-Got.is (sym c.is_of_class-else-is_of_class.ensures ∙ c.if-is_of_class-2.true)

pub hear_leave-requires-then-is_of_class-3 : goal.hear_leave-requires-then-is_of_class-3
hear_leave-requires-then-is_of_class-3 c =
    leaver_sent c.args.self.now c.args.notice.now c.requires c.in-Sent.frame c.in-Sent.is (sym c.is_of_class-in-Sent.ensures ∙ c.if-is_of_class-3.true)

-- ---- what is got

pub returns-then-is_of_class-clause-stands : goal.returns-then-is_of_class-clause-stands
returns-then-is_of_class-clause-stands c = λ scenario knowledge h readable.
    let notice = c.args.notice.now in
    got_join scenario c.args.self.now.node knowledge c.args.self.now h notice.slot c.in-Got.frame
    (subst (IsReadable scenario notice.slot) c.in-Got.is readable) notice.kind c.hear_join.new.self c.in-Got.is
    (sym c.is_of_class.ensures ∙ c.if-is_of_class.true) c.hear_join.ensures

pub returns-then-is_of_class-2-clause-stands : goal.returns-then-is_of_class-2-clause-stands
returns-then-is_of_class-2-clause-stands c = λ scenario knowledge h readable.
    let notice = c.args.notice.now in
    got_leave scenario c.args.self.now.node knowledge c.args.self.now h notice.slot c.in-Got.frame
    (subst (IsReadable scenario notice.slot) c.in-Got.is readable) notice.kind c.hear_leave.new.self c.in-Got.is
    (sym c.is_of_class.ensures ∙ c.if-is_of_class.false)
    (sym c.is_of_class-else-is_of_class.ensures ∙ c.if-is_of_class-2.true) c.hear_leave.ensures

pub returns-else-is_of_class-2-clause-stands : goal.returns-else-is_of_class-2-clause-stands
returns-else-is_of_class-2-clause-stands c = λ scenario knowledge h readable.
    got_other scenario c.args.self.now.node knowledge c.args.self.now h c.args.notice.now.kind c.in-Got.frame c.in-Got.is
    (sym c.is_of_class.ensures ∙ c.if-is_of_class.false)
    (sym c.is_of_class-else-is_of_class.ensures ∙ c.if-is_of_class-2.false)

-- ---- what is sent

pub returns-then-is_of_class-3-clause-stands : goal.returns-then-is_of_class-3-clause-stands
returns-then-is_of_class-3-clause-stands c = λ scenario knowledge h readable.
    let notice = c.args.notice.now in
    sent_leave scenario c.args.self.now.node knowledge c.args.self.now h notice.slot c.in-Sent.frame
    (subst (IsReadable scenario notice.slot) c.in-Sent.is readable) notice.kind c.hear_leave-then-is_of_class-3.new.self c.in-Sent.is
    (sym c.is_of_class-in-Sent.ensures ∙ c.if-is_of_class-3.true) c.hear_leave-then-is_of_class-3.ensures

pub returns-else-is_of_class-3-clause-stands : goal.returns-else-is_of_class-3-clause-stands
returns-else-is_of_class-3-clause-stands c = λ scenario knowledge h readable.
    sent_other scenario c.args.self.now.node knowledge c.args.self.now h c.args.notice.now.kind c.in-Sent.frame c.in-Sent.is
    (sym c.is_of_class-in-Sent.ensures ∙ c.if-is_of_class-3.false)

-- ---- no frame

pub returns-in-Idle-clause-stands : goal.returns-in-Idle-clause-stands
returns-in-Idle-clause-stands c = λ scenario knowledge h readable.
    idle_asks scenario c.args.self.now.node knowledge c.args.self.now h c.args.notice.now.kind c.in-Idle.is

pub returns-in-Bad-clause-stands : goal.returns-in-Bad-clause-stands
returns-in-Bad-clause-stands c = λ scenario knowledge h readable.
    bad_asks scenario c.args.self.now.node knowledge c.args.self.now h c.args.notice.now.kind c.in-Bad.is
