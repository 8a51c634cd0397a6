-- A copy of the frame of a sign, and the notices that are none.
use Rattle.std.proofs.Common.{◌≡◌, true, ◌∷◌, length, ap, subst, sym, ◌∙◌, arith}
use Rattle.cany_base.specs.declared.class.Class.TheVariants as class
use Rattle.cany_base.specs.declared.notice.NoticeKind.TheVariants.{Idle, Got, Sent, Bad}
use Rattle.cany_base.specs.Params.{Parameters}
use Rattle.cany_base.proofs.ParamsFacts.{few_slots}
use Rattle.cany_message.proofs.NoticeFacts.{got_small}
use Rattle.cany_model.specs.Bus.Frames.{same_class}
use Rattle.cany_model.specs.Rules.Knowledge.{sign_of, told, with_signs}
use Rattle.cany_life.specs.Life.{IsReading}
use Rattle.cany_life.specs.LifeSteps.{unknown}
use Rattle.cany_life.proofs.CopyFacts.{can_take}
use Rattle.cany_life.proofs.LearnFacts.{copy_acts, copy_stands, none_acts, none_stands, told_of_run}
use Rattle.cany_life.proofs.MarkFacts.{marked-node, marked-params}
use Rattle.cany_life.proofs.life.Life.learn.Goals as goal

pub on_copy-requires-clause-small : goal.on_copy-requires-clause-small
on_copy-requires-clause-small c =
    rw c.requires.learns.stands.limits.are_params
    (got_small c.requires.learns.scenario c.requires.learns.past c.args.notice.now c.in-Got.frame c.requires.learns.next c.requires.learns.stands.limits.legal c.in-Got.is)

pub on_copy-requires-clause-takes : goal.on_copy-requires-clause-takes
on_copy-requires-clause-takes c =
    let learns = c.requires.learns in
    can_take learns.scenario learns.past c.args.self.now.copies (sign_of c.in-Got.frame) learns.stands.copies
    (told_of_run learns.scenario learns.past c.args.notice.now c.in-Got.frame learns.stands.limits.legal learns.next c.in-Got.is (sym c.is_of_class.ensures ∙ c.if-is_of_class.true))

pub on_copy-requires-clause-omit : goal.on_copy-requires-clause-omit
on_copy-requires-clause-omit c =
    let learns = c.requires.learns in
    learns.stands.copies.omit ∙ sym (ap (λ (p : Parameters). p.omit) learns.stands.limits.are_params)

pub on_copy-requires-clause-cycle : goal.on_copy-requires-clause-cycle
on_copy-requires-clause-cycle c =
    let learns = c.requires.learns in
    let of = told_of_run learns.scenario learns.past c.args.notice.now c.in-Got.frame learns.stands.limits.legal learns.next c.in-Got.is (sym c.is_of_class.ensures ∙ c.if-is_of_class.true) in
    omega (arith, of.cycle, learns.stands.signs.cycles)

pub returns-then-is_of_class-clause-stands : goal.returns-then-is_of_class-clause-stands
returns-then-is_of_class-clause-stands c = λ scenario past knowledge h next.
    let is : same_class c.in-Got.frame.class class.Fda ≡ true = sym c.is_of_class.ensures ∙ c.if-is_of_class.true in
    let got : IsReading scenario c.args.self.now.node past (Got c.in-Got.frame ∷ past) knowledge c.args.self.now = rw c.in-Got.is at h in
    rw c.in-Got.is
    (copy_stands scenario c.args.self.now.node past knowledge c.args.self.now c.on_copy.new.self c.in-Got.frame got is
    (told_of_run scenario past c.args.notice.now c.in-Got.frame h.limits.legal next c.in-Got.is is)
    (omega (arith, next.slot, next.within, few_slots scenario.params h.limits.legal.in_range)) c.on_copy.ensures.learnt c.on_copy.ensures.state)

pub returns-then-is_of_class-clause-actions : goal.returns-then-is_of_class-clause-actions
returns-then-is_of_class-clause-actions c = λ scenario past knowledge h next.
    let is : same_class c.in-Got.frame.class class.Fda ≡ true = sym c.is_of_class.ensures ∙ c.if-is_of_class.true in
    let got : IsReading scenario c.args.self.now.node past (Got c.in-Got.frame ∷ past) knowledge c.args.self.now = rw c.in-Got.is at h in
    let stands : IsReading scenario c.args.self.now.node (Got c.in-Got.frame ∷ past) (Got c.in-Got.frame ∷ past)
    (with_signs (told (Got c.in-Got.frame) knowledge) knowledge) c.on_copy.new.self =
    subst (λ kind. IsReading scenario c.args.self.now.node (kind ∷ past) (kind ∷ past) (with_signs (told kind knowledge) knowledge) c.on_copy.new.self)
    c.in-Got.is (returns-then-is_of_class-clause-stands c scenario past knowledge h next) in
    rw c.in-Got.is
    (copy_acts scenario c.args.self.now.node past knowledge c.args.self.now c.on_copy.new.self c.in-Got.frame got is
    (told_of_run scenario past c.args.notice.now c.in-Got.frame h.limits.legal next c.in-Got.is is) c.args.notice.now.slot
    c.args.out.now.items c.on_copy.new.out.items next.slot stands c.on_copy.ensures.actions)

pub returns-then-is_of_class-clause-node : goal.returns-then-is_of_class-clause-node
returns-then-is_of_class-clause-node c =
    marked-node (unknown (sign_of c.in-Got.frame) c.args.self.now) (record c.args.self.now { copies = c.on_copy.new.self.copies }) c.on_copy.new.self c.on_copy.ensures.state

pub returns-then-is_of_class-clause-params : goal.returns-then-is_of_class-clause-params
returns-then-is_of_class-clause-params c =
    marked-params (unknown (sign_of c.in-Got.frame) c.args.self.now) (record c.args.self.now { copies = c.on_copy.new.self.copies }) c.on_copy.new.self c.on_copy.ensures.state

pub returns-else-is_of_class-clause-stands : goal.returns-else-is_of_class-clause-stands
returns-else-is_of_class-clause-stands c = λ scenario past knowledge h next.
    none_stands scenario c.args.self.now.node past knowledge c.args.notice.now.kind (Got c.in-Got.frame) c.in-Got.is
    (sym c.is_of_class.ensures ∙ c.if-is_of_class.false) c.args.self.now h

pub returns-else-is_of_class-clause-actions : goal.returns-else-is_of_class-clause-actions
returns-else-is_of_class-clause-actions c = λ scenario past knowledge h next.
    none_acts scenario c.args.self.now.node past knowledge c.args.notice.now.kind (Got c.in-Got.frame) c.in-Got.is
    (sym c.is_of_class.ensures ∙ c.if-is_of_class.false) (length past) c.args.out.now.items

pub returns-in-Sent-clause-stands : goal.returns-in-Sent-clause-stands
returns-in-Sent-clause-stands c = λ scenario past knowledge h next.
    none_stands scenario c.args.self.now.node past knowledge c.args.notice.now.kind (Sent c.in-Sent.field-0) c.in-Sent.is tt c.args.self.now h

pub returns-in-Sent-clause-actions : goal.returns-in-Sent-clause-actions
returns-in-Sent-clause-actions c = λ scenario past knowledge h next.
    none_acts scenario c.args.self.now.node past knowledge c.args.notice.now.kind (Sent c.in-Sent.field-0) c.in-Sent.is tt (length past) c.args.out.now.items

pub returns-in-Idle-clause-stands : goal.returns-in-Idle-clause-stands
returns-in-Idle-clause-stands c = λ scenario past knowledge h next. none_stands _ _ _ _ _ Idle c.in-Idle.is tt _ h

pub returns-in-Idle-clause-actions : goal.returns-in-Idle-clause-actions
returns-in-Idle-clause-actions c = λ scenario past knowledge h next.
    none_acts scenario c.args.self.now.node past knowledge c.args.notice.now.kind Idle c.in-Idle.is tt (length past) c.args.out.now.items

pub returns-in-Bad-clause-stands : goal.returns-in-Bad-clause-stands
returns-in-Bad-clause-stands c = λ scenario past knowledge h next. none_stands _ _ _ _ _ Bad c.in-Bad.is tt _ h

pub returns-in-Bad-clause-actions : goal.returns-in-Bad-clause-actions
returns-in-Bad-clause-actions c = λ scenario past knowledge h next.
    none_acts scenario c.args.self.now.node past knowledge c.args.notice.now.kind Bad c.in-Bad.is tt (length past) c.args.out.now.items
