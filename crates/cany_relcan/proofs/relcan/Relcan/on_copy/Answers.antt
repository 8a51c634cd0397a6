-- A copy: what the table learns of it, whether it delivers, and whether it starts a timer.
use Rattle.std.proofs.Common.{◌≡◌, ◌==◌, ◌&&◌, not, ap, arith, subst, sym, ◌∙◌}
use Rattle.std.proofs.lemmas.Bool.{and_parts}
use Rattle.std.proofs.lemmas.Bool.Decides.{nat_tests}
use Rattle.cany_diffuse.specs.Eager.{IsLearnt, copies_of, is_enough, is_first_copy, is_owned, learnt_of}
use Rattle.cany_message.specs.Actions.{withdraw_actions}
use Rattle.cany_message.specs.Numbers.{frame_number}
use Rattle.cany_message.proofs.NumberFacts.{room_to_take}
use Rattle.cany_relcan.specs.Relcan.{RelcanParts}
use Rattle.cany_relcan.specs.RelcanSteps.{holds_own, is_fallen, timers_with, was_delivered}
use Rattle.cany_relcan.proofs.ReadFacts.{delivers_is, room_for_timer}
use Rattle.cany_relcan.proofs.relcan.Relcan.on_copy.Goals.{then-is_first_copy, else-is_first_copy}
use Rattle.cany_relcan.proofs.relcan.Relcan.on_copy.Goals as goal

pub learn-learnt-requires-clause-room : goal.learn-learnt-requires-clause-room
learn-learnt-requires-clause-room c =
    rw (c.of.ensures.seq, c.of.ensures.origin, ap (λ (v : RelcanParts). v.copies) c.self.view_is)
    (room_to_take _ _ c.requires.takes c.holds_own-was_held.ensures.counted)

pub start_timer-requires-clause-room : goal.start_timer-requires-clause-room
start_timer-requires-clause-room c = λ starts.
    let v = c.args.self.now in
    let f = c.args.frame.now in
    let new = c.learn-learnt.new.self in
    let parts = and_parts c.if-is_first_copy.is_first (not (f.node == c.self.inside.node)) starts in
    let held : holds_own v f ≡ c.holds_own-was_held.result = sym c.holds_own-was_held.ensures.held in
    let first : (is_first_copy c.learn-learnt.result && not (holds_own v f)) ≡ c.if-is_first_copy.is_first = elim c.if-is_first_copy.branch [
      | then-is_first_copy w ↦ grind (arith, nat_tests, w.if-is_first_copy, w.is_first-is, c.is_first_copy.ensures, held)
      | else-is_first_copy w ↦ grind (arith, nat_tests, w.if-is_first_copy, w.is_first-is, c.is_first_copy.ensures, held)
    ] in
    let learnt : IsLearnt (frame_number f) c.self.inside.copies new = rw (c.of.ensures.seq, c.of.ensures.origin) at c.learn-learnt.ensures.learnt in
    let answer : c.learn-learnt.result ≡ learnt_of c.self.inside.copies.omit (copies_of new (frame_number f)) (is_owned c.self.inside.copies (frame_number f)) =
    rw (c.of.ensures.seq, c.of.ensures.origin) at c.learn-learnt.ensures.answer in
    let none = sym (delivers_is _ v f new c.learn-learnt.result c.self.view_is answer learnt (c.requires.own c.of.ensures.in_range)) ∙ first ∙ parts.0 in
    let other = ap (λ (u : RelcanParts). not (f.node == u.node)) (sym c.self.view_is) ∙ parts.1 in
    rw (ap (λ (u : RelcanParts). u.timers) c.self.view_is)
    (room_for_timer v f new c.requires.there c.requires.timers (subst (λ (u : RelcanParts). IsLearnt (frame_number f) u.copies new) c.self.view_is learnt).put
    (ap (λ b. b && not (f.node == v.node)) none ∙ other))

pub start_timer-requires-clause-later : goal.start_timer-requires-clause-later
start_timer-requires-clause-later c = rw (ap (λ (v : RelcanParts). v.timers) c.self.view_is) c.requires.later

pub returns-clause-learnt : goal.returns-clause-learnt
returns-clause-learnt c =
    let n = frame_number c.args.frame.now in
    subst (λ (w : RelcanParts). IsLearnt n c.args.self.now.copies w.copies) (sym c.start_timer.ensures)
    (subst (λ (u : RelcanParts). IsLearnt n u.copies c.learn-learnt.new.self) c.self.view_is (rw (c.of.ensures.seq, c.of.ensures.origin) at c.learn-learnt.ensures.learnt))

delivers : (c : goal.After-reply_to_copy) → c.if-is_first_copy.is_first ≡ not (was_delivered c.args.self.now c.args.frame.now)
delivers c =
    let v = c.args.self.now in
    let f = c.args.frame.now in
    let held : holds_own v f ≡ c.holds_own-was_held.result = sym c.holds_own-was_held.ensures.held in
    let first : c.if-is_first_copy.is_first ≡ (is_first_copy c.learn-learnt.result && not (holds_own v f)) = elim c.if-is_first_copy.branch [
      | then-is_first_copy w ↦ grind (arith, nat_tests, w.if-is_first_copy, w.is_first-is, c.is_first_copy.ensures, held)
      | else-is_first_copy w ↦ grind (arith, nat_tests, w.if-is_first_copy, w.is_first-is, c.is_first_copy.ensures, held)
    ] in
    first
    ∙ delivers_is _ v f c.learn-learnt.new.self c.learn-learnt.result c.self.view_is (rw (c.of.ensures.seq, c.of.ensures.origin) at c.learn-learnt.ensures.answer)
    (rw (c.of.ensures.seq, c.of.ensures.origin) at c.learn-learnt.ensures.learnt) (c.requires.own c.of.ensures.in_range)

pub returns-clause-delivers : goal.returns-clause-delivers
returns-clause-delivers c = delivers c

pub returns-clause-state : goal.returns-clause-state
returns-clause-state c =
    let f = c.args.frame.now in
    let kept = ap (λ (w : RelcanParts). w.copies) (sym c.start_timer.ensures) in
    c.start_timer.ensures
    ∙ (λ k. record (c.self.view_is k) {
      copies = kept k;
      timers = timers_with (delivers c k && not (f.node == (c.self.view_is k).node)) c.args.slot f (c.self.view_is k).timers;
    })

pub returns-clause-reply : goal.returns-clause-reply
returns-clause-reply c =
    let f = c.args.frame.now in
    let n = frame_number f in
    let format = ap (λ (w : RelcanParts). w.format) (c.self-2.view_is ∙ c.start_timer.ensures) ∙ ap (λ (u : RelcanParts). u.format) c.self.view_is in
    let answer : c.learn-learnt.result ≡ learnt_of c.self.inside.copies.omit (copies_of c.learn-learnt.new.self n) (is_owned c.self.inside.copies n) =
    rw (c.of.ensures.seq, c.of.ensures.origin) at c.learn-learnt.ensures.answer in
    let learnt = answer
    ∙ ap (λ (w : RelcanParts). learnt_of c.self.inside.copies.omit (copies_of w.copies n) (is_owned c.self.inside.copies n)) (sym c.start_timer.ensures)
    ∙ ap (λ (u : RelcanParts). learnt_of u.copies.omit (copies_of c.start_timer.new.self.copies n) (is_owned u.copies n)) c.self.view_is in
    let fallen = ap (λ (w : RelcanParts). is_fallen w f) c.start_timer.ensures ∙ ap (λ (u : RelcanParts). is_fallen u f) c.self.view_is in
    c.reply_to_copy.ensures
    ∙ (λ k. withdraw_actions (format k) ((c.is_late-is_late.ensures ∙ (λ j. is_enough (learnt j) && fallen j)) k) f)
