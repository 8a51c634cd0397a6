-- What the worked rows of texts are written with: tables, and what is read from them.
use Rattle.std.specs.Prelude.{ℕ, pos, List, [], ◌∷◌, map, Option, Some, None, Ok, Err, codes}
use Rattle.hex.specs.Hex.{decode_pairs}
use Rattle.toml.specs.Data.{Data, string, integer, array, table, Items, no_items, item, Members, no_members, member}
use Rattle.cany_base.specs.Nodes.{bits_where, those_where}
use Rattle.cany_base.specs.Scenario.{ScenarioParts}
use Rattle.cany_text.specs.declared.scenario_fault.ScenarioFault.{ScenarioFault}
use Rattle.cany_text.specs.AsksText.{ask_from, restarts_of}
use Rattle.cany_text.specs.FaultsText.{verdict_from, class_from, slot_place_from, frame_place_from, place_from, rule_from, rules_of}
use Rattle.cany_text.specs.JournalText.{step_of, steps_from, journal_from}
use Rattle.cany_text.specs.NodesText.{nodes_from}
use Rattle.cany_text.specs.ParamsText.{given_params, params_of}
use Rattle.cany_text.specs.ScenarioText.{top_table, scenario_from}
use Rattle.cany_text.specs.SendsText.{payload_from, service_from, send_from}
use Rattle.cany_text.specs.TextNames.{class_name, service_name, verdict_name, key_name}
use Rattle.cany_text.specs.TomlKeys.{Read}
use Rattle.cany_rows.proofs.RowWords.{three}

-- ---- tables: a key, its value, and the other keys

abbrev pub number : List ℕ → ℕ → Members → Members
number key n others = member key (integer (pos n)) others

abbrev pub text : List ℕ → List ℕ → Members → Members
text key value others = member key (string value) others

abbrev pub items : List Data → Items
items [] = no_items
items (value ∷ values) = item value (items values)

abbrev pub values : List ℕ → List Data → Members → Members
values key these others = member key (array (items these)) others

-- an array of numbers
abbrev pub numbers : List ℕ → List ℕ → Members → Members
numbers key these others = values key (map (λ n. integer (pos n)) these) others

-- an array of texts
abbrev pub texts : List ℕ → List (List ℕ) → Members → Members
texts key these others = values key (map string these) others

-- an array of tables
abbrev pub tables : List ℕ → List Members → Members → Members
tables key these others = values key (map table these) others

-- ---- scenarios

-- the keys that a scenario has to have, with others besides
abbrev pub run_in : ℕ → ℕ → ℕ → Members → Members
run_in format nodes slots others = number (codes "format") format (number (codes "nodes") nodes (number (codes "slots") slots others))

-- five slots on three nodes, in format one
abbrev pub five_slots : Members → Members
five_slots others = run_in 1 3 5 others

-- an entry with a slot and a node, and other keys besides
abbrev pub at_node : ℕ → ℕ → Members → Members
at_node slot node others = number (codes "slot") slot (number (codes "node") node others)

-- an entry for a message without bytes
abbrev pub send_of : ℕ → ℕ → List ℕ → Members
send_of slot node service = at_node slot node (text (codes "service") service no_members)

-- an entry for an attempt to carry a frame, with other keys besides
abbrev pub attempt : List ℕ → ℕ → ℕ → ℕ → Members → Members
attempt class seq node nth others =
    text (codes "class") class (number (codes "number") seq (number (codes "node") node (number (codes "nth") nth others)))

-- the scenario of a table, or the first fault; what computes it is opened here, once for all rows
unfoldable pub read : Members → Read ScenarioParts
unfolding decode_pairs key_name class_name service_name verdict_name bits_where those_where nodes_from given_params params_of payload_from service_from send_from verdict_from class_from slot_place_from frame_place_from place_from rule_from rules_of ask_from restarts_of step_of steps_from journal_from scenario_from
read top = scenario_from (top_table top)

-- something of what is read
abbrev pub of_ok : {A B : Type 0} → (A → B) → Read A → Read B
of_ok f (Ok x) = Ok (f x)
of_ok f (Err fault) = Err fault

-- the fault, where there is one
abbrev pub fault_of : {A : Type 0} → Read A → Option ScenarioFault
fault_of (Ok x) = None
fault_of (Err fault) = Some fault

-- the first fault of a table
unfoldable pub fault_in : Members → Option ScenarioFault
unfolding read
fault_in top = fault_of (read top)

-- opens all that the rows of texts are written with
unfoldable pub text_row : Unit {0}
unfolding three read fault_in
text_row = tt
