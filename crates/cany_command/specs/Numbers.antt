-- A number among the words of a command.
use Rattle.std.specs.Prelude.{ℕ, ◌&&◌, Bool, nat_le, if◌then◌else◌, List, [], ◌∷◌, length, Option, Some, None}
use Rattle.std.specs.Char.{is_ascii_digit}
use Rattle.std.specs.List.{list_all}
use Rattle.std.specs.Str.{bytes_eq}
use Rattle.std.specs.Str.Parse.{digits_value}

-- no number that a command is given has more digits
abbrev pub most_digits : ℕ
most_digits = 10

-- 1 to so many digits
abbrev pub is_numeral : ℕ → List ℕ → Bool
is_numeral most word = nat_le 1 (length word) && nat_le (length word) most && list_all is_ascii_digit word

-- the number that they write
unfoldable pub number_of : ℕ → List ℕ → Option ℕ
number_of most word = if is_numeral most word then Some (digits_value 10 word) else None

-- the number behind the word of the command, where there are these two words
unfoldable pub named_number : List ℕ → ℕ → List (List ℕ) → Option ℕ
named_number command most [] = None
named_number command most (name ∷ []) = None
named_number command most (name ∷ word ∷ []) = if bytes_eq name command then number_of most word else None
named_number command most (name ∷ word ∷ other ∷ others) = None
