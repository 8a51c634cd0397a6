-- Worked rows of the journal that a text gives.
use Rattle.std.specs.Prelude.{◌≡◌, pos, List, [], ◌∷◌, map, Option, Some, None, Ok, Err, refl, codes}
use Rattle.toml.specs.Data.{Data, string, integer, array, no_members}
use Rattle.cany_base.specs.declared.format.Format.{Format}
use Rattle.cany_base.specs.declared.format.Format.TheVariants.{One, Two}
use Rattle.cany_base.specs.declared.step.Step.{Step}
use Rattle.cany_base.specs.declared.step.Step.TheVariants.{Slot, Turn}
use Rattle.cany_text.specs.declared.scenario_fault.KeyName.TheVariants as key
use Rattle.cany_text.specs.declared.scenario_fault.Position.{Position}
use Rattle.cany_text.specs.declared.scenario_fault.ScenarioFault.TheVariants.{WrongKind, BadJournal}
use Rattle.cany_text.specs.declared.scenario_fault.TableName.TheVariants as in_table
use Rattle.cany_text.specs.JournalText.{step_of, steps_from, journal_from, journal_of_text}
use Rattle.cany_text.specs.ScenarioText.{top_table}
use Rattle.cany_text.specs.TextNames.{key_name}
use Rattle.cany_text.specs.TomlKeys.{Read}
use Rattle.cany_rows.proofs.Texts.TextWords.{items, values}

abbrev here : Position
here = record { table = in_table.Top; place = 0; name = key.Journal }

-- the journal of these values
unfoldable journal_in : Format → List Data → Read (Option (List Step))
unfolding step_of steps_from journal_from
journal_in format these = journal_from format here (array (items these))

-- texts are joined in order, and the last node of the alphabet of format one is 31
two_texts_are_one_journal :
    journal_in One (string (codes ".09") ∷ string (codes "av.") ∷ []) ≡ Ok (Some (Slot ∷ Turn 0 ∷ Turn 9 ∷ Turn 10 ∷ Turn 31 ∷ Slot ∷ []))
unfolding journal_in
two_texts_are_one_journal = refl

-- format two has these too, and then 32 to 63
the_letters_of_format_two :
    journal_in Two (string (codes ".09avwzAZ+-") ∷ [])
    ≡ Ok (Some (Slot ∷ Turn 0 ∷ Turn 9 ∷ Turn 10 ∷ Turn 31 ∷ Turn 32 ∷ Turn 35 ∷ Turn 36 ∷ Turn 61 ∷ Turn 62 ∷ Turn 63 ∷ []))
unfolding journal_in
the_letters_of_format_two = refl

the_alphabet_of_format_one_ends_at_v : map (λ letters. journal_in One (string letters ∷ []))
    (codes ".w" ∷ codes ".A" ∷ codes ".+" ∷ codes ".-" ∷ [])
    ≡ Err (BadJournal 1) ∷ Err (BadJournal 1) ∷ Err (BadJournal 1) ∷ Err (BadJournal 1) ∷ []
unfolding journal_in
the_alphabet_of_format_one_ends_at_v = refl

-- the bytes beside those of the alphabet
other_bytes_are_no_steps :
    map (λ letters. journal_in Two (string letters ∷ []))
    (codes "/" ∷ codes ":" ∷ codes "@" ∷ codes "[" ∷ codes "`" ∷ codes "{" ∷ codes "*" ∷ codes "," ∷ [])
    ≡ Err (BadJournal 0) ∷ Err (BadJournal 0) ∷ Err (BadJournal 0) ∷ Err (BadJournal 0) ∷ Err (BadJournal 0) ∷ Err (BadJournal 0)
    ∷ Err (BadJournal 0)
    ∷ Err (BadJournal 0) ∷ []
unfolding journal_in
other_bytes_are_no_steps = refl

-- the place counts the bytes of all texts, and the first such byte is told
a_space_is_no_step : journal_in One (string (codes ".0") ∷ string [] ∷ string (codes "1 2 ") ∷ []) ≡ Err (BadJournal 3)
unfolding journal_in
a_space_is_no_step = refl

-- the kinds of all elements come before the bytes
a_number_is_no_text : journal_in One (string (codes "!") ∷ integer (pos 0) ∷ []) ≡ Err (WrongKind in_table.Top 0 key.Journal)
unfolding journal_in
a_number_is_no_text = refl

a_text_alone_is_no_array : journal_from One here (string (codes ".012")) ≡ Err (WrongKind in_table.Top 0 key.Journal)
unfolding journal_from
a_text_alone_is_no_array = refl

-- a journal without steps is a journal
no_texts : journal_in One [] ≡ Ok (Some [])
unfolding journal_in
no_texts = refl

an_empty_text : journal_in One (string [] ∷ []) ≡ Ok (Some [])
unfolding journal_in
an_empty_text = refl

a_journal_without_steps : journal_of_text One (top_table (values (codes "journal") [] no_members)) ≡ Ok (Some [])
unfolding step_of steps_from journal_from key_name
a_journal_without_steps = refl

no_journal : journal_of_text One (top_table no_members) ≡ Ok None
unfolding key_name
no_journal = refl
