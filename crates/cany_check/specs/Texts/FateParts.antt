-- The parts of the lines of messages and signs, as the code puts them together.
use Rattle.std.specs.Prelude.{ℕ, ◌+◌, List, [], ◌∷◌, ◌++◌, Option, Some, None, codes, decimal}
use Rattle.cany_log.specs.Fields.{most_bytes, texts_of}
use Rattle.cany_check.specs.declared.text.fate_fields.FateFields.{FateFields}
use Rattle.cany_check.specs.declared.account.record.FirstAndLast.{FirstAndLast}

abbrev pub fate_texts : FateFields → List (List ℕ)
fate_texts f = texts_of f.first ++ (texts_of f.second ++ (texts_of f.third ++ (texts_of f.fourth ++ texts_of f.fifth)))

abbrev pub fate_room : FateFields → ℕ
fate_room f = most_bytes f.first + most_bytes f.second + most_bytes f.third + most_bytes f.fourth + most_bytes f.fifth

-- a fate with the sets and the number that it can name
abbrev pub most_fate_bytes : ℕ
most_fate_bytes = 500

abbrev pub first_or_dash : Option FirstAndLast → List (List ℕ)
first_or_dash None = codes "-" ∷ []
first_or_dash (Some slots) = decimal slots.first ∷ []

abbrev pub last_if_any : Option FirstAndLast → List (List ℕ)
last_if_any None = []
last_if_any (Some slots) = decimal slots.last ∷ []
