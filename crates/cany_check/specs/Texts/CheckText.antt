-- The text of the verdict of a run.
use Rattle.std.specs.Prelude.{ℕ, List, [], ◌∷◌, ◌++◌, map, Option, codes, option_to_list}
use Rattle.std.specs.List.{concat}
use Rattle.cany_base.specs.declared.step.Step.{Step}
use Rattle.cany_base.specs.Scenario.{ScenarioParts}
use Rattle.cany_model.specs.declared.breaks.Break.{Break}
use Rattle.cany_model.specs.Promises.Hypothesis.{first_break}
use Rattle.cany_model.specs.Runs.Run.{run}
use Rattle.cany_text.specs.ReportLines.{line_of}
use Rattle.cany_check.specs.declared.unused_entries.unused_entry.Unused.{Unused}
use Rattle.cany_check.specs.Accounts.Account.{AccountParts, account_of}
use Rattle.cany_check.specs.Deciding.Accuracy.{accusations}
use Rattle.cany_check.specs.Texts.CheckHead.{head_lines}
use Rattle.cany_check.specs.Texts.CheckLines.{accused_line, entry_line, message_line, parted_line, sign_line, unused_line, view_line}
use Rattle.cany_check.specs.Deciding.Fates.{message_told, sign_told}
use Rattle.cany_check.specs.Deciding.Integrity.{wrong_entry}
use Rattle.cany_check.specs.Deciding.OneOrder.{parting}
use Rattle.cany_check.specs.Idle.Unused.{unused}
use Rattle.cany_check.specs.Deciding.Views.{view_partings}

-- the messages in file order
abbrev pub message_lines : AccountParts → List (List ℕ)
message_lines a = map (λ m. message_line a.params m (message_told a m)) a.messages

abbrev pub sign_lines : AccountParts → List (List ℕ)
sign_lines a = map (λ sign. sign_line sign (sign_told a sign)) a.signs

-- of an account, where the run leaves the fault hypothesis first, and the entries of its scenario
-- that did nothing
unfoldable pub verdict_lines : AccountParts → Option Break → List Unused → List (List ℕ)
verdict_lines a found idle =
    head_lines a found
    ++ map entry_line (option_to_list (wrong_entry a))
    ++ message_lines a
    ++ map parted_line (option_to_list (parting a))
    ++ map view_line (view_partings a)
    ++ sign_lines a
    ++ map accused_line (accusations a)
    ++ map unused_line idle
    ++ line_of (codes "end" ∷ []) ∷ []

unfoldable pub verdict_text : AccountParts → Option Break → List Unused → List ℕ
verdict_text a found idle = concat (verdict_lines a found idle)

-- the bytes of the text for the run of a scenario by a journal
unfoldable pub check_text : ScenarioParts → List Step → List ℕ
check_text scenario journal =
    let s = run scenario journal in verdict_text (account_of scenario s) (first_break scenario.params s.trace) (unused scenario s)
