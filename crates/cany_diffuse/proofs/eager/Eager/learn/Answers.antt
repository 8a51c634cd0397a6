use Rattle.std.proofs.Common.{◌∙◌}
use Rattle.cany_diffuse.specs.Eager.{HasRoomFor}
use Rattle.cany_diffuse.proofs.EagerFacts.{kept, room_for, IsLearnt-entered, learnt-entered}
use Rattle.cany_diffuse.proofs.eager.Eager.learn.Goals as goal

pub count-noted-requires : goal.count-noted-requires
count-noted-requires g c =
    let room : HasRoomFor (g.K.Diffused.key c.args.k) (kept c.self.inside.omit c.self.inside.counts) = rw (← c.self.view_is) at c.requires.room in
    rw c.key.ensures (room_for c.self.inside.omit c.self.inside.counts (g.K.Diffused.key c.args.k) room)

pub returns-clause-answer : goal.returns-clause-answer
returns-clause-answer g c =
    let put = rw c.key.ensures at c.count-noted.ensures.entered in
    let owned = rw c.key.ensures at c.count-noted.ensures.owned in
    rw (← c.self.view_is) (c.of.ensures ∙ learnt-entered c.self.inside.omit c.self.inside.counts c.count-noted.new.self _ c.count-noted.result put owned)

pub returns-clause-learnt : goal.returns-clause-learnt
returns-clause-learnt g c =
    let room : HasRoomFor (g.K.Diffused.key c.args.k) (kept c.self.inside.omit c.self.inside.counts) = rw (← c.self.view_is) at c.requires.room in
    let put = rw c.key.ensures at c.count-noted.ensures.entered in
    let copies = rw c.key.ensures at c.count-noted.ensures.copies in
    let owned = rw c.key.ensures at c.count-noted.ensures.owned in
    rw (← c.self.view_is) (IsLearnt-entered c.self.inside.omit c.self.inside.counts c.count-noted.new.self _ c.count-noted.result put room copies owned)
