-- The lines of a verdict after its head in three parts.
use Rattle.std.specs.Prelude.{ℕ, List, [], ◌∷◌, ◌++◌, map, codes, option_to_list}
use Rattle.cany_text.specs.ReportLines.{line_of}
use Rattle.cany_check.specs.declared.unused_entries.unused_entry.Unused.{Unused}
use Rattle.cany_check.specs.Accounts.Account.{AccountParts}
use Rattle.cany_check.specs.Deciding.Accuracy.{accusations}
use Rattle.cany_check.specs.Texts.CheckLines.{accused_line, entry_line, parted_line, unused_line, view_line}
use Rattle.cany_check.specs.Texts.CheckText.{message_lines, sign_lines}
use Rattle.cany_check.specs.Deciding.Integrity.{wrong_entry}
use Rattle.cany_check.specs.Deciding.OneOrder.{parting}
use Rattle.cany_check.specs.Deciding.Views.{view_partings}

unfoldable pub delivery_lines : AccountParts → List (List ℕ)
delivery_lines a = map entry_line (option_to_list (wrong_entry a)) ++ message_lines a ++ map parted_line (option_to_list (parting a))

unfoldable pub membership_lines : AccountParts → List (List ℕ)
membership_lines a = map view_line (view_partings a) ++ sign_lines a ++ map accused_line (accusations a)

unfoldable pub ending_lines : List Unused → List (List ℕ)
ending_lines idle = map unused_line idle ++ line_of (codes "end" ∷ []) ∷ []
