-- Joins and leaves, which are looked at alike.
use Rattle.std.specs.Prelude.{List}
use Rattle.cany_base.specs.declared.class.Class.{Class}
use Rattle.cany_base.specs.declared.class.Class.TheVariants as class
use Rattle.cany_base.specs.declared.message.NodeAsk.{NodeAsk}
use Rattle.cany_base.specs.Scenario.{ScenarioParts}
use Rattle.cany_check.specs.declared.unused_entries.unused_asks.Asks.{Asks}
use Rattle.cany_check.specs.declared.unused_entries.unused_asks.Asks.TheVariants.{Joins, Leaves}
use Rattle.cany_check.specs.declared.unused_entries.unused_entry.NoAsk.{NoAsk}
use Rattle.cany_check.specs.declared.unused_entries.unused_entry.UnusedEntry.{UnusedEntry}
use Rattle.cany_check.specs.declared.unused_entries.unused_entry.UnusedEntry.TheVariants as entry

-- the class of the frames by which nodes ask
abbrev pub ask_class : Asks → Class
ask_class Joins = class.Join
ask_class Leaves = class.Leave

abbrev pub asks_of : Asks → ScenarioParts → List NodeAsk
asks_of Joins scenario = scenario.joins
asks_of Leaves scenario = scenario.leaves

-- what is told of an ask that did nothing
abbrev pub ask_entry : Asks → NoAsk → UnusedEntry
ask_entry Joins why = entry.Join why
ask_entry Leaves why = entry.Leave why
