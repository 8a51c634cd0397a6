pub mod SeatFacts
