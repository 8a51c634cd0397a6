-- Worked rows of the sends that a text gives.
use Rattle.std.specs.Prelude.{◌≡◌, ℕ, pos, List, [], ◌∷◌, map, replicate, Ok, Err, refl, codes}
use Rattle.hex.specs.Hex.{decode_pairs}
use Rattle.toml.specs.Data.{Data, string, integer, table, no_members}
use Rattle.cany_base.specs.declared.message.SendAsk.{SendAsk}
use Rattle.cany_base.specs.declared.message.Service.{Service}
use Rattle.cany_base.specs.declared.message.Service.TheVariants as service
use Rattle.cany_text.specs.declared.scenario_fault.KeyName.TheVariants as key
use Rattle.cany_text.specs.declared.scenario_fault.ScenarioFault.TheVariants.{UnknownKey, MissingKey, WrongKind, OutOfRange, TooMany, BadData}
use Rattle.cany_text.specs.declared.scenario_fault.TableName.TheVariants as in_table
use Rattle.cany_text.specs.ScenarioText.{top_table}
use Rattle.cany_text.specs.SendsText.{payload_from, service_from, send_from, sends_of}
use Rattle.cany_text.specs.TextNames.{key_name, service_name}
use Rattle.cany_text.specs.TomlKeys.{Read}
use Rattle.cany_rows.proofs.RowWords.{three, send}
use Rattle.cany_rows.proofs.Texts.TextWords.{number, text, values, at_node, send_of}

-- the sends that values stand for in a run of five slots on three nodes
unfoldable sends_in : List Data → Read (List SendAsk)
unfolding three send decode_pairs key_name service_name payload_from service_from send_from
sends_in these = sends_of (three 5 1 2) (top_table (values (codes "send") these no_members))

-- the sends of two entries, of which the second has this text for its bytes
abbrev with_data : List ℕ → Read (List SendAsk)
with_data digits =
    let entry = at_node 4 2 (text (codes "service") (codes "ed") (text (codes "data") digits no_members)) in
    sends_in (table (send_of 0 0 (codes "ed")) ∷ table entry ∷ [])

-- ---- services

unfoldable service_named : List ℕ → Read Service
unfolding service_name service_from
service_named name = service_from (record { table = in_table.Send; place = 3; name = key.Service }) (string name)

services : map service_named (codes "ed" ∷ codes "rel" ∷ codes "tot" ∷ codes "Rel" ∷ [])
    ≡ Ok service.Ed ∷ Ok service.Rel ∷ Ok service.Tot ∷ Err (WrongKind in_table.Send 3 key.Service) ∷ []
unfolding service_named
services = refl

-- ---- bytes

no_data : sends_in (table (send_of 0 0 (codes "ed")) ∷ []) ≡ Ok (send 0 0 [] ∷ [])
unfolding sends_in
no_data = refl

digits_of_either_case : with_data (codes "00fFA9") ≡ Ok (send 0 0 [] ∷ send 4 2 (0 ∷ 255 ∷ 169 ∷ []) ∷ [])
unfolding sends_in
digits_of_either_case = refl

eight_bytes : with_data (codes "0102030405060708") ≡ Ok (send 0 0 [] ∷ send 4 2 (1 ∷ 2 ∷ 3 ∷ 4 ∷ 5 ∷ 6 ∷ 7 ∷ 8 ∷ []) ∷ [])
unfolding sends_in
eight_bytes = refl

no_data_of_other_length_or_digits : map with_data (codes "010203040506070809" ∷ codes "1" ∷ codes "0g" ∷ codes "0 " ∷ [])
    ≡ replicate 4 (Err (BadData 1))
unfolding sends_in
no_data_of_other_length_or_digits = refl

-- ---- which key is told

an_entry_without_keys : sends_in (table no_members ∷ []) ≡ Err (MissingKey in_table.Send 0 key.Slot)
unfolding sends_in
an_entry_without_keys = refl

a_slot_past_the_run_and_no_node : sends_in (table (number (codes "slot") 5 no_members) ∷ [])
    ≡ Err (OutOfRange in_table.Send 0 key.Slot (pos 5))
unfolding sends_in
a_slot_past_the_run_and_no_node = refl

no_service_and_bad_data : sends_in (table (at_node 0 0 (text (codes "data") (codes "x") no_members)) ∷ [])
    ≡ Err (MissingKey in_table.Send 0 key.Service)
unfolding sends_in
no_service_and_bad_data = refl

a_number_for_data : sends_in (table (at_node 0 0 (text (codes "service") (codes "tot") (number (codes "data") 1 no_members))) ∷ [])
    ≡ Err (WrongKind in_table.Send 0 key.DataKey)
unfolding sends_in
a_number_for_data = refl

a_key_of_another_table : sends_in (table (at_node 9 9 (number (codes "nth") 1 no_members)) ∷ []) ≡ Err (UnknownKey in_table.Send 0)
unfolding sends_in
a_key_of_another_table = refl

-- ---- how many there may be

twenty_thousand_values : sends_in (replicate 20000 (integer (pos 0))) ≡ Err (WrongKind in_table.Send 0 key.Send)
unfolding sends_in
twenty_thousand_values = refl

one_value_too_many : sends_in (replicate 20001 (integer (pos 0))) ≡ Err (TooMany in_table.Send)
unfolding sends_in
one_value_too_many = refl
