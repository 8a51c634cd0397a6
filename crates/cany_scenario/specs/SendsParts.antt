-- An entry of `send` that has each of its four keys, and no other, by their values.
use Rattle.std.specs.Prelude.{◌-◌, Ok}
use Rattle.toml.specs.Data.{Members, no_members, member}
use Rattle.toml.specs.View.{view}
use Rattle.cany_base.specs.declared.message.SendAsk.{SendAsk}
use Rattle.cany_base.specs.Params.{Parameters}
use Rattle.cany_text.specs.declared.scenario_fault.KeyName.TheVariants as key
use Rattle.cany_text.specs.SendsText.{payload_from, service_from}
use Rattle.cany_text.specs.TextNames.{key_name}
use Rattle.cany_text.specs.TomlKeys.{Read, ◌>>=◌, Entry, number_from, position_of}
use Rattle.cany_scenario.specs.declared.sends.SendValues.{SendValues}

-- the members of a table that holds these values at the four keys, which ascend
abbrev pub four_members : SendValues → Members
four_members values =
    member (key_name key.DataKey) (view values.payload.now)
    (member (key_name key.Node) (view values.node.now)
    (member (key_name key.Service) (view values.service.now) (member (key_name key.Slot) (view values.slot.now) no_members)))

-- the send that these values make
unfoldable pub send_of_values : Parameters → Entry → SendValues → Read SendAsk
send_of_values params entry values = do
  slot ← number_from 0 (params.slots - 1) (position_of key.Slot entry) (view values.slot.now)
  node ← number_from 0 (params.nodes - 1) (position_of key.Node entry) (view values.node.now)
  service ← service_from (position_of key.Service entry) (view values.service.now)
  payload ← payload_from (position_of key.DataKey entry) (view values.payload.now)
  Ok (record { slot = slot; node = node; service = service; payload = payload })
