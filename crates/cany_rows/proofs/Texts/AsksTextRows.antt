-- Worked rows of the joins, leaves and restarts that a text gives.
use Rattle.std.specs.Prelude.{◌≡◌, ℕ, pos, negsuc, List, [], ◌∷◌, ◌++◌, length, map, replicate, Ok, Err, refl, codes}
use Rattle.toml.specs.Data.{Data, integer, table, Members, no_members, member}
use Rattle.cany_base.specs.declared.message.NodeAsk.{NodeAsk}
use Rattle.cany_text.specs.declared.scenario_fault.KeyName.TheVariants as key
use Rattle.cany_text.specs.declared.scenario_fault.ScenarioFault.TheVariants.{UnknownKey, MissingKey, WrongKind, OutOfRange, TooMany, TooOften}
use Rattle.cany_text.specs.declared.scenario_fault.TableName.TheVariants as in_table
use Rattle.cany_text.specs.AsksText.{ask_from, joins_of, restarts_of}
use Rattle.cany_text.specs.ScenarioText.{top_table}
use Rattle.cany_text.specs.TextNames.{key_name}
use Rattle.cany_text.specs.TomlKeys.{Read}
use Rattle.cany_rows.proofs.RowWords.{three}
use Rattle.cany_rows.proofs.Texts.TextWords.{number, text, values, at_node, of_ok}

-- an entry for an ask of a node in a slot
abbrev ask : ℕ → ℕ → Members
ask slot node = at_node slot node no_members

abbrev asks_at : ℕ → ℕ → NodeAsk
asks_at slot node = record { slot = slot; node = node }

-- the joins and the restarts that values stand for in a run of five slots on three nodes
unfoldable joins_in : List Data → Read (List NodeAsk)
unfolding three key_name ask_from
joins_in these = joins_of (three 5 1 2) (top_table (values (codes "join") these no_members))

unfoldable restarts_in : List Data → Read (List NodeAsk)
unfolding three key_name ask_from restarts_of
restarts_in these = restarts_of (three 5 1 2) (top_table (values (codes "restart") these no_members))

-- one entry for a join
abbrev one_join : Members → Read (List NodeAsk)
one_join members = joins_in (table members ∷ [])

-- in file order, whatever their slots; an ask may stand twice
asks_in_file_order :
    joins_in (map table (ask 4 2 ∷ number (codes "node") 0 (number (codes "slot") 0 no_members) ∷ ask 4 2 ∷ []))
    ≡ Ok (asks_at 4 2 ∷ asks_at 0 0 ∷ asks_at 4 2 ∷ [])
unfolding joins_in
asks_in_file_order = refl

no_entries : joins_in [] ≡ Ok []
unfolding joins_in
no_entries = refl

a_slot_past_the_run : one_join (ask 5 0) ≡ Err (OutOfRange in_table.Join 0 key.Slot (pos 5))
unfolding joins_in
a_slot_past_the_run = refl

a_node_off_the_bus : one_join (ask 0 3) ≡ Err (OutOfRange in_table.Join 0 key.Node (pos 3))
unfolding joins_in
a_node_off_the_bus = refl

a_negative_node : one_join (number (codes "slot") 0 (member (codes "node") (integer (negsuc 0)) no_members))
    ≡ Err (OutOfRange in_table.Join 0 key.Node (negsuc 0))
unfolding joins_in
a_negative_node = refl

no_slot : one_join (number (codes "node") 0 no_members) ≡ Err (MissingKey in_table.Join 0 key.Slot)
unfolding joins_in
no_slot = refl

no_node : one_join (number (codes "slot") 0 no_members) ≡ Err (MissingKey in_table.Join 0 key.Node)
unfolding joins_in
no_node = refl

-- an ask has no other key, also none that a send has
a_service_besides : one_join (at_node 0 0 (text (codes "service") (codes "ed") no_members)) ≡ Err (UnknownKey in_table.Join 0)
unfolding joins_in
a_service_besides = refl

a_key_in_another_case : one_join (number (codes "Slot") 0 (number (codes "node") 0 no_members)) ≡ Err (UnknownKey in_table.Join 0)
unfolding joins_in
a_key_in_another_case = refl

a_text_for_a_slot : one_join (text (codes "slot") (codes "0") (number (codes "node") 0 no_members))
    ≡ Err (WrongKind in_table.Join 0 key.Slot)
unfolding joins_in
a_text_for_a_slot = refl

-- an entry that is no table is told by the key of the array, and by its place among the entries
an_entry_that_is_no_table : joins_in (table (ask 0 0) ∷ integer (pos 0) ∷ []) ≡ Err (WrongKind in_table.Join 1 key.Join)
unfolding joins_in
an_entry_that_is_no_table = refl

a_table_alone_is_no_array : joins_of (three 5 1 2) (top_table (member (codes "join") (table (ask 0 0)) no_members))
    ≡ Err (WrongKind in_table.Top 0 key.Join)
unfolding three key_name
a_table_alone_is_no_array = refl

-- ---- restarts

restarts_in_file_order : restarts_in (map table (ask 4 2 ∷ ask 0 0 ∷ ask 4 2 ∷ [])) ≡ Ok (asks_at 4 2 ∷ asks_at 0 0 ∷ asks_at 4 2 ∷ [])
unfolding restarts_in
restarts_in_file_order = refl

a_restart_past_the_run : restarts_in (map table (ask 4 0 ∷ ask 5 0 ∷ [])) ≡ Err (OutOfRange in_table.Restart 1 key.Slot (pos 5))
unfolding restarts_in
a_restart_past_the_run = refl

-- the sixteenth of a node is one too many, also of one slot
fifteen_of_a_node : of_ok length (restarts_in (replicate 15 (table (ask 0 0)))) ≡ Ok 15
unfolding restarts_in
fifteen_of_a_node = refl

sixteen_of_a_node : restarts_in (replicate 16 (table (ask 0 0))) ≡ Err (TooOften 15)
unfolding restarts_in
sixteen_of_a_node = refl

fifteen_of_each_node : of_ok length
    (restarts_in (replicate 15 (table (ask 0 0)) ++ replicate 15 (table (ask 1 1)) ++ replicate 15 (table (ask 2 2)))) ≡ Ok 45
unfolding restarts_in
fifteen_of_each_node = refl

-- the place counts the entries of all nodes, and the first such entry is told
the_first_that_is_too_often :
    restarts_in (replicate 15 (table (ask 0 0)) ++ replicate 16 (table (ask 1 1)) ++ table (ask 2 0) ∷ table (ask 2 1) ∷ [])
    ≡ Err (TooOften 30)
unfolding restarts_in
the_first_that_is_too_often = refl

-- it comes after the faults of all entries, and `too many` comes before them
a_fault_behind_the_sixteenth : restarts_in (replicate 16 (table (ask 0 0)) ++ table (ask 0 3) ∷ [])
    ≡ Err (OutOfRange in_table.Restart 16 key.Node (pos 3))
unfolding restarts_in
a_fault_behind_the_sixteenth = refl

sixty_four_of_a_node : restarts_in (replicate 64 (table (ask 0 0))) ≡ Err (TooOften 15)
unfolding restarts_in
sixty_four_of_a_node = refl

sixty_five_restarts : restarts_in (integer (pos 0) ∷ replicate 64 (table (ask 0 0))) ≡ Err (TooMany in_table.Restart)
unfolding restarts_in
sixty_five_restarts = refl

-- ---- how many joins there may be

a_thousand : of_ok length (joins_in (replicate 1000 (table (ask 0 0)))) ≡ Ok 1000
unfolding joins_in
a_thousand = refl

one_too_many : joins_in (replicate 1001 (table (ask 0 0))) ≡ Err (TooMany in_table.Join)
unfolding joins_in
one_too_many = refl
