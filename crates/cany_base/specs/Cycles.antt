-- Membership cycles: where one starts, where vectors are exchanged, and where it ends.
use Rattle.std.specs.Prelude.{ℕ, ◌/◌, ◌%◌, ◌==◌, ◌&&◌, Bool, nat_lt, nat_le}
use Rattle.cany_base.specs.Params.{Parameters}

-- Cycle k starts at k times the length of a cycle. It has a start for k ≥ 1 alone: there is none at
-- slot 0.
abbrev pub cycle_of : Parameters → ℕ → ℕ
cycle_of p slot = slot / p.cycle

abbrev pub is_start : Parameters → ℕ → Bool
is_start p slot = slot % p.cycle == 0 && nat_lt 0 (cycle_of p slot)

-- vectors are exchanged in as many slots after the start as the bound has
abbrev pub is_exchange : Parameters → ℕ → Bool
is_exchange p slot = nat_lt 0 (slot % p.cycle) && nat_le (slot % p.cycle) p.bound && nat_lt 0 (cycle_of p slot)

-- and the last of these ends the cycle
abbrev pub is_end : Parameters → ℕ → Bool
is_end p slot = slot % p.cycle == p.bound && nat_lt 0 (cycle_of p slot)
