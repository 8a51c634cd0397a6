use Rattle.std.proofs.Common.{ap}
use Rattle.cany_message.proofs.NumberFacts.{room_to_take}
use Rattle.cany_relcan.specs.Relcan.{RelcanParts}
use Rattle.cany_relcan.proofs.relcan.Relcan.on_confirmation.Goals as goal

pub learn-requires-clause-room : goal.learn-requires-clause-room
learn-requires-clause-room c =
    rw (c.confirmation_of-confirmation.ensures.msg, c.of.ensures.seq, c.of.ensures.origin, ap (λ (v : RelcanParts). v.confirms) c.self.view_is)
    (room_to_take _ _ c.requires (rw (ap (λ (v : RelcanParts). v.confirms) c.self.view_is) at c.spare-spare.ensures.counted))
