-- Worked rows of the order of the faults in a text: of two, the one that the order names first is
-- told.
use Rattle.std.specs.Prelude.{◌≡◌, ℕ, pos, List, [], ◌∷◌, replicate, Some, refl, codes}
use Rattle.toml.specs.Data.{string, integer, table, Members, no_members, member}
use Rattle.cany_base.specs.declared.params.ParamName.TheVariants.{Bound, Cycle}
use Rattle.cany_text.specs.declared.scenario_fault.KeyName.TheVariants as key
use Rattle.cany_text.specs.declared.scenario_fault.ScenarioFault.TheVariants.{UnknownKey, MissingKey, WrongKind, OutOfRange, TooMany, BadData, BoundTooSmall, RepeatedRule, TooOften, BadJournal}
use Rattle.cany_text.specs.declared.scenario_fault.TableName.TheVariants as in_table
use Rattle.cany_rows.proofs.Texts.TextWords.{number, text, values, numbers, texts, tables, run_in, five_slots, at_node, send_of, fault_in, text_row}

-- a number where an array is listed
abbrev no_array : List ℕ → Members → Members
no_array key others = number key 0 others

-- ---- the keys of the top table

nothing_at_all : fault_in no_members ≡ Some (MissingKey in_table.Top 0 key.Format)
unfolding text_row
nothing_at_all = refl

an_unknown_key_and_no_format : fault_in (number (codes "speed") 1 no_members) ≡ Some (UnknownKey in_table.Top 0)
unfolding text_row
an_unknown_key_and_no_format = refl

an_unknown_key_behind_all_others : fault_in (run_in 3 99 0 (no_array (codes "send") (number (codes "Slots") 1 no_members)))
    ≡ Some (UnknownKey in_table.Top 0)
unfolding text_row
an_unknown_key_behind_all_others = refl

-- a key of an entry is none of the top table
a_slot_at_the_top : fault_in (five_slots (number (codes "slot") 1 no_members)) ≡ Some (UnknownKey in_table.Top 0)
unfolding text_row
a_slot_at_the_top = refl

-- all that is wrong with a key comes before all that is wrong with the next
no_format_and_nodes_of_another_kind : fault_in (text (codes "nodes") (codes "3") no_members) ≡ Some (MissingKey in_table.Top 0 key.Format)
unfolding text_row
no_format_and_nodes_of_another_kind = refl

a_format_of_another_kind_and_no_nodes : fault_in (text (codes "format") (codes "1") no_members) ≡ Some (WrongKind in_table.Top 0 key.Format)
unfolding text_row
a_format_of_another_kind_and_no_nodes = refl

a_format_out_of_range_and_no_nodes : fault_in (number (codes "format") 3 no_members) ≡ Some (OutOfRange in_table.Top 0 key.Format (pos 3))
unfolding text_row
a_format_out_of_range_and_no_nodes = refl

no_nodes_and_no_slots : fault_in (number (codes "format") 1 no_members) ≡ Some (MissingKey in_table.Top 0 key.Nodes)
unfolding text_row
no_nodes_and_no_slots = refl

no_slots_and_a_lag_of_another_kind :
    fault_in (number (codes "format") 1 (number (codes "nodes") 3 (text (codes "lag") (codes "0") no_members)))
    ≡ Some (MissingKey in_table.Top 0 key.Slots)
unfolding text_row
no_slots_and_a_lag_of_another_kind = refl

-- the range of the timer comes before the formulas, also where its cycle is itself too small
a_timer_past_a_cycle_too_small :
    fault_in (five_slots (number (codes "cycle") 5 (number (codes "confirm") 6 no_members)))
    ≡ Some (OutOfRange in_table.Top 0 key.Confirm (pos 6))
unfolding text_row
a_timer_past_a_cycle_too_small = refl

-- its default is not tested for range, so the formula of the cycle is told
no_timer_and_a_cycle_too_small : fault_in (five_slots (number (codes "cycle") 5 no_members)) ≡ Some (BoundTooSmall Cycle 72)
unfolding text_row
no_timer_and_a_cycle_too_small = refl

-- ---- one part of the text after the other: each row has a fault of each of two parts

a_timer_of_another_kind_and_a_bound_too_small :
    fault_in (five_slots (number (codes "bound") 1 (text (codes "confirm") (codes "1") no_members)))
    ≡ Some (WrongKind in_table.Top 0 key.Confirm)
unfolding text_row
a_timer_of_another_kind_and_a_bound_too_small = refl

a_bound_too_small_and_no_members : fault_in (five_slots (number (codes "bound") 35 (no_array (codes "members") no_members)))
    ≡ Some (BoundTooSmall Bound 36)
unfolding text_row
a_bound_too_small_and_no_members = refl

a_member_off_the_bus_and_no_sends :
    fault_in (five_slots (numbers (codes "members") (3 ∷ []) (no_array (codes "send") no_members)))
    ≡ Some (OutOfRange in_table.Top 0 key.Members (pos 3))
unfolding text_row
a_member_off_the_bus_and_no_sends = refl

no_sends_and_no_faults : fault_in (five_slots (no_array (codes "fault") (no_array (codes "send") no_members)))
    ≡ Some (WrongKind in_table.Top 0 key.Send)
unfolding text_row
no_sends_and_no_faults = refl

bad_data_and_no_faults :
    fault_in (five_slots (no_array (codes "fault")
    (tables (codes "send")
    (at_node 0 0 (text (codes "service") (codes "ed") (text (codes "data") (codes "1") no_members)) ∷ []) no_members)))
    ≡ Some (BadData 0)
unfolding text_row
bad_data_and_no_faults = refl

a_repeated_rule_and_no_joins :
    fault_in (five_slots (no_array (codes "join")
    (tables (codes "fault") (number (codes "slot") 0 no_members ∷ number (codes "slot") 0 no_members ∷ []) no_members)))
    ≡ Some (RepeatedRule 1)
unfolding text_row
a_repeated_rule_and_no_joins = refl

no_joins_and_no_leaves : fault_in (five_slots (no_array (codes "leave") (no_array (codes "join") no_members)))
    ≡ Some (WrongKind in_table.Top 0 key.Join)
unfolding text_row
no_joins_and_no_leaves = refl

no_leaves_and_no_restarts : fault_in (five_slots (no_array (codes "restart") (no_array (codes "leave") no_members)))
    ≡ Some (WrongKind in_table.Top 0 key.Leave)
unfolding text_row
no_leaves_and_no_restarts = refl

no_restarts_and_no_journal : fault_in (five_slots (no_array (codes "journal") (no_array (codes "restart") no_members)))
    ≡ Some (WrongKind in_table.Top 0 key.Restart)
unfolding text_row
no_restarts_and_no_journal = refl

too_often_and_a_bad_journal :
    fault_in (five_slots (texts (codes "journal") (codes "!" ∷ [])
    (tables (codes "restart") (replicate 16 (at_node 0 0 no_members)) no_members))) ≡ Some (TooOften 15)
unfolding text_row
too_often_and_a_bad_journal = refl

a_bad_journal_alone : fault_in (five_slots (texts (codes "journal") (codes ".0" ∷ codes "1!" ∷ []) no_members)) ≡ Some (BadJournal 3)
unfolding text_row
a_bad_journal_alone = refl

-- the letters are those of the format
a_letter_of_format_two : fault_in (five_slots (texts (codes "journal") (codes ".w" ∷ []) no_members)) ≡ Some (BadJournal 1)
unfolding text_row
a_letter_of_format_two = refl

-- ---- an array of tables

-- a dotted key makes a table, which is no array
a_table_for_the_sends : fault_in (five_slots (member (codes "send") (table (number (codes "slot") 1 no_members)) no_members))
    ≡ Some (WrongKind in_table.Top 0 key.Send)
unfolding text_row
a_table_for_the_sends = refl

too_many_and_an_entry_of_another_kind :
    fault_in (five_slots (values (codes "leave") (replicate 1001 (integer (pos 0))) no_members)) ≡ Some (TooMany in_table.Leave)
unfolding text_row
too_many_and_an_entry_of_another_kind = refl

-- the entries in their order: all that is wrong with one comes before all that is wrong with the
-- next
an_entry_of_another_kind_and_an_unknown_key :
    fault_in (five_slots (values (codes "send") (integer (pos 0) ∷ table (number (codes "speed") 1 no_members) ∷ []) no_members))
    ≡ Some (WrongKind in_table.Send 0 key.Send)
unfolding text_row
an_entry_of_another_kind_and_an_unknown_key = refl

a_node_off_the_bus_and_an_entry_of_another_kind :
    fault_in (five_slots (values (codes "send")
    (table (send_of 0 0 (codes "ed")) ∷ table (send_of 0 3 (codes "ed")) ∷ integer (pos 0) ∷ []) no_members))
    ≡ Some (OutOfRange in_table.Send 1 key.Node (pos 3))
unfolding text_row
a_node_off_the_bus_and_an_entry_of_another_kind = refl

-- in an entry: an unknown key, and then the keys in their order
an_unknown_key_and_a_slot_of_another_kind :
    fault_in (five_slots (tables (codes "send") (text (codes "slot") (codes "0") (number (codes "speed") 1 no_members) ∷ []) no_members))
    ≡ Some (UnknownKey in_table.Send 0)
unfolding text_row
an_unknown_key_and_a_slot_of_another_kind = refl

a_slot_past_the_run_and_no_node :
    fault_in (five_slots (tables (codes "leave") (number (codes "slot") 5 no_members ∷ []) no_members))
    ≡ Some (OutOfRange in_table.Leave 0 key.Slot (pos 5))
unfolding text_row
a_slot_past_the_run_and_no_node = refl

a_service_of_no_name_and_bad_data :
    fault_in (five_slots (tables (codes "send")
    (at_node 0 0 (text (codes "service") (codes "can") (text (codes "data") (codes "1") no_members)) ∷ []) no_members))
    ≡ Some (WrongKind in_table.Send 0 key.Service)
unfolding text_row
a_service_of_no_name_and_bad_data = refl

-- the kinds of all elements of an array come before their ranges
a_text_behind_a_member_off_the_bus :
    fault_in (five_slots (values (codes "members") (integer (pos 9) ∷ string (codes "0") ∷ []) no_members))
    ≡ Some (WrongKind in_table.Top 0 key.Members)
unfolding text_row
a_text_behind_a_member_off_the_bus = refl

a_number_behind_a_byte_that_is_no_step :
    fault_in (five_slots (values (codes "journal") (string (codes "!") ∷ integer (pos 0) ∷ []) no_members))
    ≡ Some (WrongKind in_table.Top 0 key.Journal)
unfolding text_row
a_number_behind_a_byte_that_is_no_step = refl
