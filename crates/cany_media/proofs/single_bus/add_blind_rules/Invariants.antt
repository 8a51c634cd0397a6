use Rattle.std.proofs.Common.{◌≡◌, ◌++◌, map, take}
use Rattle.cany_media.specs.Single.{blind_rule}
use Rattle.cany_media.proofs.single_bus.add_blind_rules.Given as goal

-- the rules of the slots so far are appended
abbrev pub invariant-loop-slot : goal.invariant-loop-slot
invariant-loop-slot l = l.rules.items ≡ l.fn.rules.items ++ map (blind_rule l.script) (take l.slot-index l.slots)
