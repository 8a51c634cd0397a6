-- One more seat, of the next node, by which no turn was made.
use Rattle.std.proofs.Common.{◌≡◌, ℕ, ◌+◌, List, [], ◌∷◌, ◌++◌, sym, subst}
use Rattle.cany_world.proofs.PlaceFacts.{one_more}
use Rattle.cany_yard.specs.Seats.{SeatParts, AreFirstSeats}

pub one_more_seat : (count : ℕ) (seats after : List SeatParts) (seat : SeatParts) → AreFirstSeats count seats
    → seat ≡ record { node = count; turns = 0 } → after ≡ seats ++ seat ∷ [] → AreFirstSeats (count + 1) after
one_more_seat count seats after seat so is e =
    subst (AreFirstSeats (count + 1)) (sym e) (one_more (λ i (s : SeatParts). s ≡ record { node = i; turns = 0 }) count seats seat so is)
