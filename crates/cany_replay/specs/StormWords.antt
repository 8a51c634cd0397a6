-- The words of the command `storm`: the word of the command, and the number of a storm.
use Rattle.std.specs.Prelude.{ℕ, ◌^◌, nat_lt, if◌then◌else◌, List, Option, Some, None, option_and_then, codes}
use Rattle.cany_command.specs.Numbers.{named_number}

-- the numbers of 32 bits are those of storms
abbrev pub if_storm : ℕ → Option ℕ
if_storm number = if nat_lt number (2 ^ 32) then Some number else None

-- the number of the storm that the words name, in 1 to 10 digits
unfoldable pub storm_number : List (List ℕ) → Option ℕ
storm_number words = option_and_then if_storm (named_number (codes "storm") 10 words)
