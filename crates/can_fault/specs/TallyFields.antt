-- A tally as the program keeps it.
use Rattle.std.specs.Prelude.{◌≡◌, ◌+◌, ◌≤◌, length}
use Rattle.std.specs.Option.{option_map_or}
use Rattle.can_fault.specs.declared.tally.Tally.TheInside.{Inside}
use Rattle.can_fault.specs.Tally.{TallyParts}

abbrev pub parts_of : Inside → TallyParts
parts_of t = record {
  params = t.params;
  rules = t.rules;
  slots = option_map_or (λ slot. slot + 1) t.newest 0;
  partials = t.partials;
  first = t.first;
  counts = t.breaks.counts.items;
  recent = t.breaks.window.recent;
}

-- the limits are those of the parameters, there is room for each rule, and each count stands for a
-- Partial slot
pub record IsSound (t : Inside) : Type 0 where
  pub omit : t.breaks.omit ≡ t.params.omit
  pub errors : t.breaks.window.errors ≡ t.params.errors
  pub span : t.breaks.window.span ≡ t.params.bound + t.params.lag
  pub room : t.breaks.counts.room ≡ t.rules
  pub counted : length t.breaks.counts.items ≤ t.partials
