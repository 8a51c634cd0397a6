-- The bus as the program keeps it.
use Rattle.std.specs.Prelude.{◌≡◌, ◌≤◌, length, reverse}
use Rattle.cany_base.specs.Params.{IsInRange}
use Rattle.can_fault.specs.Tally.{IsTallyOf}
use Rattle.can_bus.specs.declared.bus.Bus.TheInside.{Inside}
use Rattle.can_bus.specs.Bus.{BusParts}

-- the program keeps the trace oldest first
abbrev pub parts_of : Inside → BusParts
parts_of b = record {
  params = b.params;
  trace = reverse b.trace.items;
  attempts = b.attempts;
  rules = b.tally.rules;
}

-- the parameters are in their ranges, and the tally has noted the trace, which has room for each
-- slot of the run
pub record IsSound (b : Inside) : Type 0 where
  pub in_range : IsInRange b.params
  pub tally : IsTallyOf (reverse b.trace.items) b.tally
  pub params : b.tally.params ≡ b.params
  pub room : b.trace.room ≡ b.params.slots
  pub in_room : length b.trace.items ≤ b.params.slots
