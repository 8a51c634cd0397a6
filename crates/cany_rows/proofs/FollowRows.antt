-- Worked rows of journals that are refused, and their lines.
use Rattle.std.specs.Prelude.{ℕ, ◌≡◌, List, [], ◌∷◌, Option, Some, None, option_map, refl, codes}
use Rattle.std.specs.Fmt.{digits}
use Rattle.cany_base.specs.declared.rule.Rule.{Rule}
use Rattle.cany_base.specs.declared.rule.Verdict.TheVariants.{Clean}
use Rattle.cany_base.specs.Scenario.{ScenarioParts}
use Rattle.cany_model.specs.Runs.Follow.{first_refused_from, journal_fault}
use Rattle.cany_text.specs.RefusalLines.{journal_refusal_line}
use Rattle.cany_text.specs.ReportLines.{line_of}
use Rattle.cany_rows.proofs.RowWords.{report, row, scenario, slot_rule, steps, three}

-- two slots, three nodes at lag 0, and no sends
unfoldable two_slots : List Rule → ScenarioParts
two_slots rules = scenario (three 2 1 2) [] rules

-- what is written of a journal, where it is refused
unfoldable line_for : List Rule → List ℕ → Option (List ℕ)
unfolding report first_refused_from journal_fault line_of digits journal_refusal_line
line_for rules journal = option_map journal_refusal_line (journal_fault (two_slots rules) (steps journal))

-- opens all that a row here is written with
unfoldable refused : Unit {0}
unfolding row report first_refused_from journal_fault two_slots line_for line_of digits journal_refusal_line
refused = tt

a_slot_while_nobody_has_read : line_for [] (codes "..012012") ≡ Some (codes "refused journal step 1 lagging node 0 unread 1\n")
unfolding refused
a_slot_while_nobody_has_read = refl

a_node_that_is_not_there : line_for [] (codes ".3") ≡ Some (codes "refused journal step 1 no node 3\n")
unfolding refused
a_node_that_is_not_there = refl

the_last_node_of_the_alphabet : line_for [] (codes ".v") ≡ Some (codes "refused journal step 1 no node 31\n")
unfolding refused
the_last_node_of_the_alphabet = refl

a_turn_with_nothing_to_read : line_for [] (codes ".0120") ≡ Some (codes "refused journal step 4 nothing yet now 1\n")
unfolding refused
a_turn_with_nothing_to_read = refl

a_notice_left_unread : line_for [] (codes ".012.01") ≡ Some (codes "refused journal unfinished ran 2 node 2\n")
unfolding refused
a_notice_left_unread = refl

a_slot_left : line_for [] (codes ".012") ≡ Some (codes "refused journal unfinished ran 1\n")
unfolding refused
a_slot_left = refl

a_slot_too_many : line_for [] (codes ".012.012.") ≡ Some (codes "refused journal step 8 over slots 2\n")
unfolding refused
a_slot_too_many = refl

a_turn_of_a_stopped_node : line_for (slot_rule 0 Clean 2 ∷ []) (codes ".021") ≡ Some (codes "refused journal step 3 stopped slot 0\n")
unfolding refused
a_turn_of_a_stopped_node = refl

an_empty_journal : line_for [] [] ≡ Some (codes "refused journal unfinished ran 0\n")
unfolding refused
an_empty_journal = refl

a_whole_journal : line_for [] (codes ".210.102") ≡ None
unfolding refused
a_whole_journal = refl
