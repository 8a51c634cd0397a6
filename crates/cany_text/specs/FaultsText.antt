-- The scripted faults that a scenario text gives.
use Rattle.std.specs.Prelude.{◌-◌, Bool, List, [], ◌∷◌, is_some, option_and_then, Ok, if◌then◌else◌}
use Rattle.std.specs.List.{list_any}
use Rattle.toml.specs.Data.{Data, as_str, get_member}
use Rattle.cany_base.specs.declared.class.Class.{Class}
use Rattle.cany_base.specs.declared.class.Class.TheVariants.{Accept, Rha, Els, Fda, Join, Leave, Confirm, Tot, Rel, Ed}
use Rattle.cany_base.specs.declared.rule.Place.{Place}
use Rattle.cany_base.specs.declared.rule.Place.TheVariants.{At, FrameNth}
use Rattle.cany_base.specs.declared.rule.Rule.{Rule}
use Rattle.cany_base.specs.declared.rule.Verdict.{Verdict}
use Rattle.cany_base.specs.declared.rule.Verdict.TheVariants.{Clean, Lost, Partial, Silent}
use Rattle.cany_base.specs.Limits.{greatest_attempt, greatest_number, most_rules}
use Rattle.cany_base.specs.Nodes.{Nodes}
use Rattle.cany_base.specs.Params.{Parameters}
use Rattle.cany_base.specs.Scenario.{same_place}
use Rattle.cany_text.specs.declared.scenario_fault.KeyName.{KeyName}
use Rattle.cany_text.specs.declared.scenario_fault.KeyName.TheVariants as key
use Rattle.cany_text.specs.declared.scenario_fault.Position.{Position}
use Rattle.cany_text.specs.declared.scenario_fault.ScenarioFault.TheVariants.{RepeatedRule}
use Rattle.cany_text.specs.declared.scenario_fault.TableName.TheVariants as table
use Rattle.cany_text.specs.NodesText.{set_of, nodes_from}
use Rattle.cany_text.specs.TextNames.{class_name, key_name, named, verdict_name}
use Rattle.cany_text.specs.TomlKeys.{Read, ◌>>=◌, Entry, of_kind, only_keys, required, optional, number_from, entries_of, fault_at_first}

-- the verdicts, by which nobody rejects the frame as yet
abbrev pub verdicts : List Verdict
verdicts = Clean ∷ Lost ∷ Partial (set_of []) ∷ Silent (set_of []) ∷ []

unfoldable pub verdict_from : Position → Data → Read Verdict
verdict_from at value = of_kind at (option_and_then (named verdict_name verdicts) (as_str value))

-- the verdict by which these nodes reject the frame: two of the verdicts have no use for them
abbrev pub rejected_by : Nodes → Verdict → Verdict
rejected_by reject Clean = Clean
rejected_by reject Lost = Lost
rejected_by reject (Partial nobody) = Partial reject
rejected_by reject (Silent nobody) = Silent reject

-- the classes, in the order of their numbers
abbrev pub classes : List Class
classes = Accept ∷ Rha ∷ Els ∷ Fda ∷ Join ∷ Leave ∷ Confirm ∷ Tot ∷ Rel ∷ Ed ∷ []

unfoldable pub class_from : Position → Data → Read Class
class_from at value = of_kind at (option_and_then (named class_name classes) (as_str value))

abbrev pub slot_rule_keys : List KeyName
slot_rule_keys = key.Slot ∷ key.Verdict ∷ key.Reject ∷ key.Stop ∷ []

abbrev pub frame_rule_keys : List KeyName
frame_rule_keys = key.Class ∷ key.Number ∷ key.Node ∷ key.Nth ∷ key.Verdict ∷ key.Reject ∷ key.Stop ∷ []

-- where a rule for a slot acts: in a slot of the run
unfoldable pub slot_place_from : Parameters → Entry → Read Place
slot_place_from params entry = do
  _ ← only_keys slot_rule_keys entry
  slot ← required (number_from 0 (params.slots - 1)) key.Slot entry
  Ok (At slot)

-- where a rule for a frame acts: at an attempt, counted from 1, to carry the frame of this class,
-- number and node
unfoldable pub frame_place_from : Parameters → Entry → Read Place
frame_place_from params entry = do
  _ ← only_keys frame_rule_keys entry
  class ← required class_from key.Class entry
  number ← required (number_from 0 (greatest_number params.format)) key.Number entry
  node ← required (number_from 0 (params.nodes - 1)) key.Node entry
  nth ← required (number_from 1 (greatest_attempt params.format)) key.Nth entry
  Ok (FrameNth class number node nth)

-- an entry with the key `class`, whatever it holds, is a rule for a frame
abbrev pub is_frame_rule : Entry → Bool
is_frame_rule entry = is_some (get_member (key_name key.Class) entry.members)

-- where the rule of an entry acts
unfoldable pub place_from : Parameters → Entry → Read Place
place_from params entry = if is_frame_rule entry then frame_place_from params entry else slot_place_from params entry

-- an entry of `fault`
unfoldable pub rule_from : Parameters → Entry → Read Rule
rule_from params entry = do
  place ← place_from params entry
  verdict ← optional verdict_from Clean key.Verdict entry
  reject ← optional (nodes_from params) (set_of []) key.Reject entry
  stop ← optional (nodes_from params) (set_of []) key.Stop entry
  Ok (record { place = place; verdict = rejected_by reject verdict; stop = stop })

-- an earlier rule has its place
abbrev pub repeats : List Rule → Rule → Bool
repeats before rule = list_any (λ earlier. same_place earlier.place rule.place) before

-- the key `fault`: at most 20,000 entries, in file order, no two for one place
unfoldable pub rules_of : Parameters → Entry → Read (List Rule)
rules_of params top = do
  rules ← entries_of table.Fault most_rules (rule_from params) key.Fault top
  _ ← fault_at_first repeats RepeatedRule rules
  Ok rules
