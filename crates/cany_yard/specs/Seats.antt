-- What a contract sees of the seats of the nodes.
use Rattle.std.specs.Prelude.{◌≡◌, ℕ, ◌+◌, Bool, List, if◌then◌else◌}
use Rattle.std.specs.List.{sum_by}
use Rattle.cany_world.specs.Places.{AreOfNodes}

-- whose seat it is, and how many turns were made by it
pub record SeatParts : Type 0 where
  pub node : ℕ
  pub turns : ℕ

-- a seat for each of so many nodes, at the place of its number, and no turn was made by any of them
abbrev pub AreFirstSeats : ℕ → List SeatParts → Type 0
AreFirstSeats count seats = AreOfNodes (λ i (seat : SeatParts). seat ≡ record { node = i; turns = 0 }) count seats

-- the turns that the seats counted together
abbrev pub turns_counted : List SeatParts → ℕ
turns_counted seats = sum_by (λ (seat : SeatParts). seat.turns) seats

-- a seat, and the number that the seat of the bus counted, after a step that was done or refused
abbrev pub seat_after : Bool → SeatParts → SeatParts
seat_after done seat = if done then record seat { turns = seat.turns + 1 } else seat

abbrev pub count_after : Bool → ℕ → ℕ
count_after done count = if done then count + 1 else count
