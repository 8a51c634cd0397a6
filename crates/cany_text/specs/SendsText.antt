-- The scripted sends that a scenario text gives.
use Rattle.std.specs.Prelude.{ℕ, ◌-◌, nat_le, List, [], ◌∷◌, length, Option, None, option_and_then, Ok, if◌then◌else◌}
use Rattle.std.specs.Result.{result_ok}
use Rattle.hex.specs.Hex.{decode_of}
use Rattle.toml.specs.Data.{Data, as_str}
use Rattle.cany_base.specs.declared.message.Service.{Service}
use Rattle.cany_base.specs.declared.message.Service.TheVariants.{Ed, Rel, Tot}
use Rattle.cany_base.specs.declared.message.SendAsk.{SendAsk}
use Rattle.cany_base.specs.Limits.{most_sends}
use Rattle.cany_base.specs.Params.{Parameters}
use Rattle.cany_text.specs.declared.scenario_fault.KeyName.{KeyName}
use Rattle.cany_text.specs.declared.scenario_fault.KeyName.TheVariants as key
use Rattle.cany_text.specs.declared.scenario_fault.Position.{Position}
use Rattle.cany_text.specs.declared.scenario_fault.ScenarioFault.TheVariants.{BadData}
use Rattle.cany_text.specs.declared.scenario_fault.TableName.TheVariants as table
use Rattle.cany_text.specs.TextNames.{named, service_name}
use Rattle.cany_text.specs.TomlKeys.{Read, ◌>>=◌, Entry, or_fault, only_keys, required, optional, of_kind, number_from, entries_of}

-- at most 16 hexadecimal digits, in pairs, each pair a byte
abbrev pub bytes_of : List ℕ → Option (List ℕ)
bytes_of digits = if nat_le (length digits) 16 then result_ok (decode_of digits) else None

unfoldable pub payload_from : Position → Data → Read (List ℕ)
payload_from at value = do
  digits ← of_kind at (as_str value)
  or_fault (BadData at.place) (bytes_of digits)

abbrev pub services : List Service
services = Ed ∷ Rel ∷ Tot ∷ []

unfoldable pub service_from : Position → Data → Read Service
service_from at value = of_kind at (option_and_then (named service_name services) (as_str value))

abbrev pub send_keys : List KeyName
send_keys = key.Slot ∷ key.Node ∷ key.Service ∷ key.DataKey ∷ []

-- an entry of `send`: a send in a slot of the run, at a node of the bus
unfoldable pub send_from : Parameters → Entry → Read SendAsk
send_from params entry = do
  _ ← only_keys send_keys entry
  slot ← required (number_from 0 (params.slots - 1)) key.Slot entry
  node ← required (number_from 0 (params.nodes - 1)) key.Node entry
  service ← required service_from key.Service entry
  payload ← optional payload_from [] key.DataKey entry
  Ok (record { slot = slot; node = node; service = service; payload = payload })

-- the key `send`: at most 20,000 entries, in file order
abbrev pub sends_of : Parameters → Entry → Read (List SendAsk)
sends_of params top = entries_of table.Send most_sends (send_from params) key.Send top
