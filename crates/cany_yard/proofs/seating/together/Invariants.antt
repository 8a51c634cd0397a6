use Rattle.std.specs.Prelude.{◌≡◌, ◌+◌, ◌≤◌, vec_len}
use Rattle.cany_yard.specs.Seats.{turns_counted}
use Rattle.cany_yard.proofs.seating.together.Given as goal

abbrev pub invariant-loop-seat : goal.invariant-loop-seat
invariant-loop-seat g l =
    (l.all.parts + vec_len l.others ≡ vec_len l.fn.seats)
    × (l.all.parts ≤ g.L.Ledger.parts)
    × (l.all.amount + turns_counted l.others.items ≡ turns_counted l.fn.seats.items)

abbrev pub decreases-loop-seat : goal.decreases-loop-seat
decreases-loop-seat g l = goal.left-loop-seat g l
