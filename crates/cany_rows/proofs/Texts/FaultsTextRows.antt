-- Worked rows of the fault rules that a text gives.
use Rattle.std.specs.Prelude.{◌≡◌, ℕ, pos, negsuc, List, [], ◌∷◌, map, replicate, Ok, Err, refl, codes}
use Rattle.toml.specs.Data.{Data, string, integer, table, Members, no_members, member}
use Rattle.cany_base.specs.declared.class.Class.{Class}
use Rattle.cany_base.specs.declared.class.Class.TheVariants as class
use Rattle.cany_base.specs.declared.format.Format.TheVariants.{Two}
use Rattle.cany_base.specs.declared.rule.Rule.{Rule}
use Rattle.cany_base.specs.declared.rule.Verdict.TheVariants.{Clean, Lost, Partial, Silent}
use Rattle.cany_base.specs.Nodes.{bits_where, those_where}
use Rattle.cany_base.specs.Params.{Parameters}
use Rattle.cany_text.specs.declared.scenario_fault.KeyName.TheVariants as key
use Rattle.cany_text.specs.declared.scenario_fault.Position.{Position}
use Rattle.cany_text.specs.declared.scenario_fault.ScenarioFault.TheVariants.{UnknownKey, MissingKey, WrongKind, OutOfRange, TooMany, RepeatedRule}
use Rattle.cany_text.specs.declared.scenario_fault.TableName.TheVariants as in_table
use Rattle.cany_text.specs.FaultsText.{verdict_from, class_from, slot_place_from, frame_place_from, place_from, rule_from, rules_of}
use Rattle.cany_text.specs.NodesText.{nodes_from}
use Rattle.cany_text.specs.ScenarioText.{top_table}
use Rattle.cany_text.specs.TextNames.{class_name, key_name, verdict_name}
use Rattle.cany_text.specs.TomlKeys.{Read}
use Rattle.cany_rows.proofs.RowWords.{three, slot_rule, frame_rule, set}
use Rattle.cany_rows.proofs.Texts.TextWords.{number, text, numbers, values, attempt}

-- the rules that values stand for, in a run of these parameters; what computes them is opened here,
-- once for all rows
unfoldable rules_by : Parameters → List Data → Read (List Rule)
unfolding key_name class_name verdict_name bits_where those_where nodes_from verdict_from class_from slot_place_from frame_place_from place_from rule_from rules_of
rules_by params these = rules_of params (top_table (values (codes "fault") these no_members))

-- in a run of five slots on three nodes, of format one and of format two
unfoldable rules_in : List Data → Read (List Rule)
unfolding three slot_rule frame_rule rules_by
rules_in these = rules_by (three 5 1 2) these

unfoldable rules_in_two : List Data → Read (List Rule)
unfolding three slot_rule frame_rule rules_by
rules_in_two these = rules_by (record (three 5 1 2) { format = Two }) these

abbrev one_rule : Members → Read (List Rule)
one_rule entry = rules_in (table entry ∷ [])

abbrev one_rule_in_two : Members → Read (List Rule)
one_rule_in_two entry = rules_in_two (table entry ∷ [])

-- a rule for slot 1, with other keys besides
abbrev in_slot_1 : Members → Members
in_slot_1 others = number (codes "slot") 1 others

-- ---- what rules are read

a_rule_for_a_frame :
    one_rule (attempt (codes "confirm") 65535 2 100000 (text (codes "verdict") (codes "partial")
    (numbers (codes "reject") (1 ∷ []) (numbers (codes "stop") (0 ∷ 2 ∷ []) no_members))))
    ≡ Ok (frame_rule class.Confirm 65535 2 100000 (Partial (set 2)) 5 ∷ [])
unfolding rules_in
a_rule_for_a_frame = refl

-- the verdict is Clean and nobody stops where the keys are absent
the_keys_of_the_attempt_alone : one_rule (attempt (codes "ed") 0 0 1 no_members) ≡ Ok (frame_rule class.Ed 0 0 1 Clean 0 ∷ [])
unfolding rules_in
the_keys_of_the_attempt_alone = refl

a_rule_for_a_slot : one_rule (number (codes "slot") 4 (text (codes "verdict") (codes "lost") no_members)) ≡ Ok (slot_rule 4 Lost 0 ∷ [])
unfolding rules_in
a_rule_for_a_slot = refl

-- nodes that reject have a use for two of the verdicts
unfoldable verdict_with_reject : List ℕ → Read (List Rule)
unfolding rules_in
verdict_with_reject name = one_rule (in_slot_1 (text (codes "verdict") name (numbers (codes "reject") (2 ∷ 0 ∷ 2 ∷ []) no_members)))

each_verdict : map verdict_with_reject (codes "clean" ∷ codes "lost" ∷ codes "partial" ∷ codes "silent" ∷ [])
    ≡ Ok (slot_rule 1 Clean 0 ∷ []) ∷ Ok (slot_rule 1 Lost 0 ∷ []) ∷ Ok (slot_rule 1 (Partial (set 5)) 0 ∷ [])
    ∷ Ok (slot_rule 1 (Silent (set 5)) 0 ∷ []) ∷ []
unfolding verdict_with_reject
each_verdict = refl

no_verdict_of_another_name : verdict_with_reject (codes "Clean") ≡ Err (WrongKind in_table.Fault 0 key.Verdict)
unfolding verdict_with_reject
no_verdict_of_another_name = refl

a_verdict_alone : one_rule (in_slot_1 (text (codes "verdict") (codes "silent") no_members)) ≡ Ok (slot_rule 1 (Silent (set 0)) 0 ∷ [])
unfolding rules_in
a_verdict_alone = refl

-- ---- classes

abbrev here : Position
here = record { table = in_table.Fault; place = 0; name = key.Class }

unfoldable class_named : List ℕ → Read Class
unfolding class_name class_from
class_named name = class_from here (string name)

each_class_has_its_name : map class_named
    (codes "accept" ∷ codes "rha" ∷ codes "els" ∷ codes "fda" ∷ codes "join" ∷ codes "leave" ∷ codes "confirm" ∷ codes "tot" ∷ codes "rel"
    ∷ codes "ed" ∷ [])
    ≡ Ok class.Accept ∷ Ok class.Rha ∷ Ok class.Els ∷ Ok class.Fda ∷ Ok class.Join ∷ Ok class.Leave ∷ Ok class.Confirm ∷ Ok class.Tot
    ∷ Ok class.Rel ∷ Ok class.Ed ∷ []
unfolding class_named
each_class_has_its_name = refl

no_class_has_another_name : map class_named (codes "Ed" ∷ codes "edcan" ∷ codes "e" ∷ [] ∷ [])
    ≡ replicate 4 (Err (WrongKind in_table.Fault 0 key.Class))
unfolding class_named
no_class_has_another_name = refl

-- ---- the key `class` decides, whatever it holds: a slot is unknown then, before all that is wrong with the values

a_slot_besides : one_rule (attempt (codes "ed") 0 0 1 (in_slot_1 no_members)) ≡ Err (UnknownKey in_table.Fault 0)
unfolding rules_in
a_slot_besides = refl

a_slot_and_a_class_of_another_kind : one_rule (number (codes "class") 9 (in_slot_1 no_members)) ≡ Err (UnknownKey in_table.Fault 0)
unfolding rules_in
a_slot_and_a_class_of_another_kind = refl

a_class_of_another_kind : one_rule (number (codes "class") 9 no_members) ≡ Err (WrongKind in_table.Fault 0 key.Class)
unfolding rules_in
a_class_of_another_kind = refl

a_class_of_no_name : one_rule (attempt (codes "Ed") 0 0 1 no_members) ≡ Err (WrongKind in_table.Fault 0 key.Class)
unfolding rules_in
a_class_of_no_name = refl

-- without it the keys of an attempt are unknown, and a rule is for a slot
no_class : one_rule (number (codes "number") 0 (number (codes "node") 0 (number (codes "nth") 1 no_members)))
    ≡ Err (UnknownKey in_table.Fault 0)
unfolding rules_in
no_class = refl

no_slot : one_rule (text (codes "verdict") (codes "lost") no_members) ≡ Err (MissingKey in_table.Fault 0 key.Slot)
unfolding rules_in
no_slot = refl

-- ---- which key is told

no_number : one_rule (text (codes "class") (codes "ed") (number (codes "node") 3 no_members)) ≡ Err (MissingKey in_table.Fault 0 key.Number)
unfolding rules_in
no_number = refl

a_node_off_the_bus : one_rule (attempt (codes "ed") 0 3 0 no_members) ≡ Err (OutOfRange in_table.Fault 0 key.Node (pos 3))
unfolding rules_in
a_node_off_the_bus = refl

no_attempt_named : one_rule (text (codes "class") (codes "ed") (number (codes "number") 0 (number (codes "node") 0 no_members)))
    ≡ Err (MissingKey in_table.Fault 0 key.Nth)
unfolding rules_in
no_attempt_named = refl

a_slot_past_the_run : one_rule (number (codes "slot") 5 no_members) ≡ Err (OutOfRange in_table.Fault 0 key.Slot (pos 5))
unfolding rules_in
a_slot_past_the_run = refl

-- the verdict comes before those who reject, and these before those who stop
a_verdict_and_a_reject_of_another_kind :
    one_rule (in_slot_1 (number (codes "reject") 0 (number (codes "verdict") 0 no_members))) ≡ Err (WrongKind in_table.Fault 0 key.Verdict)
unfolding rules_in
a_verdict_and_a_reject_of_another_kind = refl

nobody_of_that_number_rejects :
    one_rule (in_slot_1 (numbers (codes "stop") (4 ∷ []) (numbers (codes "reject") (0 ∷ 3 ∷ 9 ∷ []) no_members)))
    ≡ Err (OutOfRange in_table.Fault 0 key.Reject (pos 3))
unfolding rules_in
nobody_of_that_number_rejects = refl

nobody_of_that_number_stops : one_rule (in_slot_1 (numbers (codes "stop") (3 ∷ []) no_members))
    ≡ Err (OutOfRange in_table.Fault 0 key.Stop (pos 3))
unfolding rules_in
nobody_of_that_number_stops = refl

-- the kinds of all elements of an array come before the range of the first
a_text_behind_a_node_off_the_bus :
    one_rule (in_slot_1 (values (codes "stop") (integer (pos 9) ∷ string (codes "0") ∷ []) no_members))
    ≡ Err (WrongKind in_table.Fault 0 key.Stop)
unfolding rules_in
a_text_behind_a_node_off_the_bus = refl

-- ---- ranges, at each end and by one past it

attempts_of_format_one : map (λ nth. one_rule (attempt (codes "ed") 0 0 nth no_members)) (0 ∷ 1 ∷ 100000 ∷ 100001 ∷ [])
    ≡ Err (OutOfRange in_table.Fault 0 key.Nth (pos 0)) ∷ Ok (frame_rule class.Ed 0 0 1 Clean 0 ∷ [])
    ∷ Ok (frame_rule class.Ed 0 0 100000 Clean 0 ∷ [])
    ∷ Err (OutOfRange in_table.Fault 0 key.Nth (pos 100001)) ∷ []
unfolding rules_in
attempts_of_format_one = refl

attempts_of_format_two : map (λ nth. one_rule_in_two (attempt (codes "ed") 0 0 nth no_members)) (0 ∷ 1 ∷ 400000 ∷ 400001 ∷ [])
    ≡ Err (OutOfRange in_table.Fault 0 key.Nth (pos 0)) ∷ Ok (frame_rule class.Ed 0 0 1 Clean 0 ∷ [])
    ∷ Ok (frame_rule class.Ed 0 0 400000 Clean 0 ∷ [])
    ∷ Err (OutOfRange in_table.Fault 0 key.Nth (pos 400001)) ∷ []
unfolding rules_in_two
attempts_of_format_two = refl

numbers_of_format_one : map (λ seq. one_rule (attempt (codes "ed") seq 0 1 no_members)) (0 ∷ 65535 ∷ 65536 ∷ [])
    ≡ Ok (frame_rule class.Ed 0 0 1 Clean 0 ∷ []) ∷ Ok (frame_rule class.Ed 65535 0 1 Clean 0 ∷ [])
    ∷ Err (OutOfRange in_table.Fault 0 key.Number (pos 65536)) ∷ []
unfolding rules_in
numbers_of_format_one = refl

numbers_of_format_two : map (λ seq. one_rule_in_two (attempt (codes "ed") seq 0 1 no_members)) (0 ∷ 32767 ∷ 32768 ∷ [])
    ≡ Ok (frame_rule class.Ed 0 0 1 Clean 0 ∷ []) ∷ Ok (frame_rule class.Ed 32767 0 1 Clean 0 ∷ [])
    ∷ Err (OutOfRange in_table.Fault 0 key.Number (pos 32768)) ∷ []
unfolding rules_in_two
numbers_of_format_two = refl

a_negative_number :
    one_rule (text (codes "class") (codes "ed") (member (codes "number") (integer (negsuc 0)) no_members))
    ≡ Err (OutOfRange in_table.Fault 0 key.Number (negsuc 0))
unfolding rules_in
a_negative_number = refl

-- ---- one rule a place

two_attempts_of_a_frame :
    rules_in (table (attempt (codes "rel") 0 0 1 no_members) ∷ table (attempt (codes "rel") 0 0 2 no_members) ∷ [])
    ≡ Ok (frame_rule class.Rel 0 0 1 Clean 0 ∷ frame_rule class.Rel 0 0 2 Clean 0 ∷ [])
unfolding rules_in
two_attempts_of_a_frame = refl

two_rules_for_an_attempt :
    rules_in (table (attempt (codes "rel") 0 0 1 no_members) ∷ table (in_slot_1 no_members)
    ∷ table (attempt (codes "rel") 0 0 1 (text (codes "verdict") (codes "lost") no_members)) ∷ table (in_slot_1 no_members) ∷ [])
    ≡ Err (RepeatedRule 2)
unfolding rules_in
two_rules_for_an_attempt = refl

-- it comes after the faults of all entries
a_fault_behind_a_repeated_rule :
    rules_in (table (in_slot_1 no_members) ∷ table (in_slot_1 no_members) ∷ integer (pos 0) ∷ [])
    ≡ Err (WrongKind in_table.Fault 2 key.Fault)
unfolding rules_in
a_fault_behind_a_repeated_rule = refl

-- ---- how many there may be: that they are too many comes before the faults of the entries

twenty_thousand_values : rules_in (replicate 20000 (integer (pos 0))) ≡ Err (WrongKind in_table.Fault 0 key.Fault)
unfolding rules_in
twenty_thousand_values = refl

one_value_too_many : rules_in (replicate 20001 (integer (pos 0))) ≡ Err (TooMany in_table.Fault)
unfolding rules_in
one_value_too_many = refl
