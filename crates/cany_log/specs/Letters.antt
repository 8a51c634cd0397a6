-- The letters of a journal.
use Rattle.std.specs.Prelude.{ℕ, slice_index, codes}

-- the letter at a place of the alphabet: those of the nodes' turns, and then that of a slot
unfoldable pub letter_of : ℕ → ℕ
letter_of n = slice_index (codes "0123456789abcdefghijklmnopqrstuvwxyzABCDEFGHIJKLMNOPQRSTUVWXYZ+-.") n
