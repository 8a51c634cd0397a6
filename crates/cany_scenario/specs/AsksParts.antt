-- The joins, the leaves and the restarts of a text, one after another.
use Rattle.std.specs.Prelude.{Ok}
use Rattle.cany_base.specs.Params.{Parameters}
use Rattle.cany_text.specs.AsksText.{joins_of, leaves_of, restarts_of}
use Rattle.cany_text.specs.TomlKeys.{Read, ◌>>=◌, Entry}

abbrev pub all_good : Read (Unit {0})
all_good = Ok tt

-- whether all are good, or the first fault
abbrev pub asks_of : Parameters → Entry → Read (Unit {0})
asks_of params top = do
  joins ← joins_of params top
  leaves ← leaves_of params top
  restarts ← restarts_of params top
  all_good
