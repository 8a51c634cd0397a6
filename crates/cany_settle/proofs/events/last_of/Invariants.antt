use Rattle.std.proofs.Common.{◌≡◌, drop, map}
use Rattle.cany_settle.specs.LastEvent.{greater, greatest}
use Rattle.cany_settle.proofs.events.last_of.Given as goal

-- the last so far and the last of what is left make the last of all
abbrev pub invariant-loop-i : goal.invariant-loop-i
invariant-loop-i g l = greater l.last (greatest (map g.A.Scripted.slot (drop l.i l.asks))) ≡ greatest (map g.A.Scripted.slot l.asks)
