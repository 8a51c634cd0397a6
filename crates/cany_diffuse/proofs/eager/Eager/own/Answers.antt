use Rattle.std.proofs.Common.{refl}
use Rattle.cany_diffuse.specs.Eager.{HasRoomFor}
use Rattle.cany_diffuse.proofs.EagerFacts.{kept, room_for, IsOwned-entered}
use Rattle.cany_diffuse.proofs.eager.Eager.own.Goals as goal

pub own-requires : goal.own-requires
own-requires g c =
    let room : HasRoomFor (g.K.Diffused.key c.args.k) (kept c.self.inside.omit c.self.inside.counts) = rw (← c.self.view_is) at c.requires.room in
    rw c.key.ensures (room_for c.self.inside.omit c.self.inside.counts (g.K.Diffused.key c.args.k) room)

pub returns : goal.returns
returns g c =
    let room : HasRoomFor (g.K.Diffused.key c.args.k) (kept c.self.inside.omit c.self.inside.counts) = rw (← c.self.view_is) at c.requires.room in
    let put = rw c.key.ensures at c.own.ensures in
    rw (← c.self.view_is) (IsOwned-entered c.self.inside.omit c.self.inside.counts c.own.new.self (g.K.Diffused.key c.args.k) _ put room refl refl)
