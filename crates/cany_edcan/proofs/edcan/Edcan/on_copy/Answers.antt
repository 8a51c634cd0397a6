-- A copy: what the table learns of it, and what follows.
use Rattle.std.proofs.Common.{◌≡◌, ap, subst, ◌∙◌}
use Rattle.cany_diffuse.specs.Eager.{IsLearnt, copies_of, is_owned, learnt_of}
use Rattle.cany_message.specs.Actions.{relay_actions}
use Rattle.cany_message.specs.Numbers.{frame_number}
use Rattle.cany_message.proofs.NumberFacts.{room_to_take}
use Rattle.cany_edcan.specs.Edcan.{EdcanParts}
use Rattle.cany_edcan.proofs.edcan.Edcan.on_copy.Goals as goal

pub learn-learnt-requires-clause-room : goal.learn-learnt-requires-clause-room
learn-learnt-requires-clause-room c =
    rw (c.of.ensures.seq, c.of.ensures.origin, ap (λ (v : EdcanParts). v.copies) c.self.view_is)
    (room_to_take _ _ c.requires.takes c.holds_own-was_held.ensures.counted)

pub returns-clause-learnt : goal.returns-clause-learnt
returns-clause-learnt c =
    subst (λ (v : EdcanParts). IsLearnt (frame_number c.args.frame.now) v.copies c.learn-learnt.new.self) c.self.view_is
    (rw (c.of.ensures.seq, c.of.ensures.origin) at c.learn-learnt.ensures.learnt)

pub returns-clause-reply : goal.returns-clause-reply
returns-clause-reply c =
    let f = c.args.frame.now in
    let n = frame_number f in
    let answer : c.learn-learnt.result ≡ learnt_of c.self.inside.copies.omit (copies_of c.learn-learnt.new.self n) (is_owned c.self.inside.copies n) =
    rw (c.of.ensures.seq, c.of.ensures.origin) at c.learn-learnt.ensures.answer in
    c.reply_to_copy.ensures
    ∙ ap (λ learnt. relay_actions c.self.inside.format learnt f) answer
    ∙ ap (λ (v : EdcanParts). relay_actions v.format (learnt_of v.copies.omit (copies_of c.learn-learnt.new.self n) (is_owned v.copies n)) f) c.self.view_is

pub returns-clause-state : goal.returns-clause-state
returns-clause-state c = ap (λ (v : EdcanParts). record v { copies = c.learn-learnt.new.self }) c.self.view_is
