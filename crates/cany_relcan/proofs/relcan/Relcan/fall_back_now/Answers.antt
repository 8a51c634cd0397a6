use Rattle.std.proofs.Common.{ap}
use Rattle.cany_message.proofs.NumberFacts.{room_to_take}
use Rattle.cany_relcan.specs.Relcan.{RelcanParts}
use Rattle.cany_relcan.proofs.relcan.Relcan.fall_back_now.Goals as goal

pub own-requires-clause-room : goal.own-requires-clause-room
own-requires-clause-room c =
    rw (c.of-data.ensures.seq, c.of-data.ensures.origin, ap (λ (v : RelcanParts). v.fallen) c.self.view_is)
    (room_to_take _ _ c.requires.takes (rw (ap (λ (v : RelcanParts). v.fallen) c.self.view_is) at c.spare-spare.ensures.counted))
