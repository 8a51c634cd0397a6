-- When the fields of a world are the run of its scenario by its journal.
use Rattle.std.specs.Prelude.{◌≡◌, ◌+◌, ◌*◌, [], map}
use Rattle.cany_base.specs.Scenario.{IsLegalScenario}
use Rattle.cany_model.specs.Rules.Messages.{message_key, messages_of}
use Rattle.cany_model.specs.Rules.Rooms.{actions_room}
use Rattle.cany_model.specs.Runs.Run.{IsLegal}
use Rattle.cany_world.specs.declared.world.World.TheInside.{Inside}
use Rattle.cany_world.specs.Kept.{StandFor}
use Rattle.cany_world.specs.World.{WorldParts, state_of}

abbrev pub world_parts : Inside → WorldParts
world_parts w = record { scenario = w.scenario; journal = w.journal.items }

-- the journal has only steps that were done, and room for a slot and a turn of each node in each
-- slot of the run
pub record IsRun (w : Inside) : Type 0 where
  pub legal : IsLegalScenario w.scenario
  pub opening : w.scenario.inc ≡ 0
  pub script : w.script ≡ w.scenario.rules
  pub steps : IsLegal w.scenario w.journal.items
  pub room : w.journal.room ≡ w.scenario.params.slots * (w.scenario.params.nodes + 1)
  pub stands : StandFor w.scenario (state_of (world_parts w)) w.bus w.controllers.items w.nodes.items
  pub actions : w.actions ≡ record { items = []; room = actions_room w.scenario }
  pub keys : w.keys.items ≡ map message_key (messages_of w.scenario.sends)
