use Rattle.std.proofs.Common.{◌≡◌, ◌++◌, ◌∙◌, true, false, refl, ap, sym, subst, append-nil, arith}
use Rattle.cany_base.specs.declared.class.Class.{Class}
use Rattle.cany_base.specs.declared.class.Class.TheVariants as class
use Rattle.cany_base.specs.declared.notice.NoticeKind.{NoticeKind}
use Rattle.cany_base.specs.declared.notice.NoticeKind.TheVariants.{Idle, Got, Sent, Bad}
use Rattle.cany_model.specs.Bus.Frames.{same_class}
use Rattle.cany_model.specs.Rules.Actions.{actions_of}
use Rattle.cany_model.proofs.Bus.Identities.{same_class-true}
use Rattle.cany_node.specs.Resting.{is_life_sign}
use Rattle.cany_node.proofs.TellsNothingOfPlaces.{IsUnplaced, is_of_totcan, totcan_same, totcan_unheard, unplaced_got, unplaced_sent}
use Rattle.cany_node.proofs.node.follow_totcan.Goals as goal

not_placed : (c : Class) → same_class c class.Els ≡ true → is_of_totcan c ≡ false
unfolding same_class
not_placed c is = subst (λ d. is_of_totcan d ≡ false) (sym (same_class-true c class.Els is)) refl

places_nothing : (e : NoticeKind) → is_life_sign e ≡ true → IsUnplaced e
places_nothing Idle is = absurd (cc)
places_nothing (Got f) is = unplaced_got f (not_placed f.class is)
places_nothing (Sent f) is = unplaced_sent f (not_placed f.class is)
places_nothing Bad is = absurd (cc)

pub returns-then-is_life_sign-clause-actions : goal.returns-then-is_life_sign-clause-actions
returns-then-is_life_sign-clause-actions c = λ scenario past messages asked rests h next.
    let e = c.args.notice.now.kind in
    let out = c.args.out.now.items in
    let i = c.args.totcan.now.node in
    let places = places_nothing e (sym c.if-is_life_sign.ensures) in
    sym (append-nil out) ∙ sym (ap (λ effects. out ++ actions_of scenario.params.format effects) (totcan_same e places past scenario i ∙ rests.effects))

pub returns-then-is_life_sign-clause-stands : goal.returns-then-is_life_sign-clause-stands
returns-then-is_life_sign-clause-stands c = λ scenario past messages asked rests h next.
    let e = c.args.notice.now.kind in
    totcan_unheard e (places_nothing e (sym c.if-is_life_sign.ensures)) past scenario c.args.totcan.now.node messages asked c.args.totcan.now rests.stands

pub returns-clause-actions : goal.returns-clause-actions
returns-clause-actions c = λ scenario past messages asked rests h next. c.on.ensures.actions scenario past messages asked h next

pub returns-clause-stands : goal.returns-clause-stands
returns-clause-stands c = λ scenario past messages asked rests h next. c.on.ensures.stands scenario past messages asked h next

pub returns-clause-rests : goal.returns-clause-rests
returns-clause-rests c = λ scenario past messages asked h early. c.wake.ensures.rests scenario past messages asked h (omega (arith, early, c.min.ensures))
