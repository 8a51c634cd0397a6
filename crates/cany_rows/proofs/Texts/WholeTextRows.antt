-- Worked rows of whole texts, from their bytes on.
use Rattle.std.specs.Prelude.{◌≡◌, ℕ, List, [], ◌∷◌, map, Option, Some, Ok, refl, codes}
use Rattle.std.specs.List.{concat}
use Rattle.std.specs.Str.{chars, is_utf8}
use Rattle.toml.proofs.OnLiterals.{toml_on_literals}
use Rattle.cany_base.specs.declared.class.Class.TheVariants as class
use Rattle.cany_base.specs.declared.rule.Verdict.TheVariants.{Clean, Partial}
use Rattle.cany_base.specs.declared.step.Step.TheVariants.{Slot, Turn}
use Rattle.cany_base.specs.Scenario.{ScenarioParts}
use Rattle.cany_text.specs.declared.scenario_fault.KeyName.TheVariants as key
use Rattle.cany_text.specs.declared.scenario_fault.ScenarioFault.{ScenarioFault}
use Rattle.cany_text.specs.declared.scenario_fault.ScenarioFault.TheVariants.{NotText, NotToml, UnknownKey, WrongKind}
use Rattle.cany_text.specs.declared.scenario_fault.TableName.TheVariants as in_table
use Rattle.cany_text.specs.ScenarioText.{document_of, scenario_of}
use Rattle.cany_text.specs.TomlKeys.{Read}
use Rattle.cany_rows.proofs.RowWords.{frame_rule, send, set, slot_rule, three}
use Rattle.cany_rows.proofs.Texts.TextWords.{fault_of, text_row}

-- the scenario of the lines of a text; what computes it is opened here, once for all rows
unfoldable scenario_of_lines : List (List ℕ) → Read ScenarioParts
unfolding text_row toml_on_literals chars is_utf8 document_of scenario_of
scenario_of_lines lines = scenario_of (concat lines)

-- five slots on three nodes, and other lines besides
unfoldable fault_in_lines : List (List ℕ) → Option ScenarioFault
unfolding scenario_of_lines
fault_in_lines lines = fault_of (scenario_of_lines (codes "format = 1\nnodes = 3\nslots = 5\n" ∷ lines))

a_whole_text : scenario_of_lines (
    codes "# Node 0 sends one message, and node 1 rejects it at first.\n"
    ∷ codes "format = 1\nnodes = 3\nslots = 5\nmembers = [2, 0]\njournal = [\".0\", \"12\"]\n\n"
    ∷ codes "[[send]]\nslot = 0\nnode = 0\nservice = \"ed\"\ndata = \"0aF0\"\n\n"
    ∷ codes "[[fault]]\nclass = \"ed\"\nnumber = 0\nnode = 0\nnth = 1\nverdict = \"partial\"\nreject = [1]\n\n"
    ∷ codes "[[fault]]\nslot = 4\nstop = [0, 1, 0]\n\n"
    ∷ codes "[[join]]\nslot = 1\nnode = 1\n\n[[leave]]\nslot = 2\nnode = 2\n\n[[restart]]\nslot = 4\nnode = 0\n" ∷ []) ≡ Ok (record {
      params = three 5 1 2;
      members = set 5;
      sends = send 0 0 (10 ∷ 240 ∷ []) ∷ [];
      rules = frame_rule class.Ed 0 0 1 (Partial (set 2)) 0 ∷ slot_rule 4 Clean 3 ∷ [];
      joins = record { slot = 1; node = 1 } ∷ [];
      leaves = record { slot = 2; node = 2 } ∷ [];
      restarts = record { slot = 4; node = 0 } ∷ [];
      from = 0;
      inc = 0;
      journal = Some (Slot ∷ Turn 0 ∷ Turn 1 ∷ Turn 2 ∷ []);
    })
unfolding scenario_of_lines send frame_rule slot_rule
a_whole_text = refl

-- bytes that are no text, and texts that are no document: without a value, with a key that stands
-- twice, and with an integer past 64 bits
no_text : fault_in_lines ((255 ∷ []) ∷ []) ≡ Some NotText
unfolding fault_in_lines
no_text = refl

no_documents : map (λ line. fault_in_lines (line ∷ [])) (codes "lag =\n" ∷ codes "slots = 5\n" ∷ codes "lag = 9223372036854775808\n" ∷ [])
    ≡ Some NotToml ∷ Some NotToml ∷ Some NotToml ∷ []
unfolding fault_in_lines
no_documents = refl

-- a key in another case is unknown, and so is one with a dot whose first part is
unknown_keys : map (λ line. fault_in_lines (line ∷ [])) (codes "Lag = 0\n" ∷ codes "speed.lag = 0\n" ∷ [])
    ≡ Some (UnknownKey in_table.Top 0) ∷ Some (UnknownKey in_table.Top 0) ∷ []
unfolding fault_in_lines
unknown_keys = refl

-- a dotted key makes a table, so that the sends are no array
a_dotted_key : fault_in_lines (codes "send.slot = 1\n" ∷ []) ≡ Some (WrongKind in_table.Top 0 key.Send)
unfolding fault_in_lines
a_dotted_key = refl

-- neither a boolean nor a float is an integer
no_integers : map (λ line. fault_in_lines (line ∷ [])) (codes "lag = true\n" ∷ codes "lag = 1.0\n" ∷ codes "lag = \"1\"\n" ∷ [])
    ≡ Some (WrongKind in_table.Top 0 key.Lag) ∷ Some (WrongKind in_table.Top 0 key.Lag) ∷ Some (WrongKind in_table.Top 0 key.Lag) ∷ []
unfolding fault_in_lines
no_integers = refl
