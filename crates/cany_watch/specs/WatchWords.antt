-- The words of the command `watch`: the word of the command, and the number of a node.
use Rattle.std.specs.Prelude.{ℕ, List, Option, codes}
use Rattle.cany_command.specs.Numbers.{named_number}

-- the node that the words name, in 1 or 2 digits
unfoldable pub watched_node : List (List ℕ) → Option ℕ
watched_node words = named_number (codes "watch") 2 words
