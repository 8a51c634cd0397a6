use Rattle.std.specs.Prelude.{◌≡◌, ◌+◌}
use Rattle.cany_yard.specs.Seats.{AreFirstSeats}
use Rattle.cany_yard.proofs.seating.seats_of.Given as goal

abbrev pub invariant-loop-i : goal.invariant-loop-i
invariant-loop-i g l = (l.rest.parts + l.i ≡ l.count) × (l.rest.amount ≡ 0) × AreFirstSeats l.i l.seats.items
