-- The rule of a book: its first word is the length of the line. A book has two words, of which this
-- one leaves the second at 0.
use Rattle.std.specs.Prelude.{ℕ, ◌≡◌, ◌==◌, true, List, [], ◌∷◌, ◌++◌, length, MatchBool}
use Rattle.logbook.specs.Pages.{Cell, Step, View, Book, Named}
use Rattle.cany_base.specs.declared.log_entry.LogEntry.{LogEntry}

abbrev pub IsKept : List Cell → List LogEntry → Type 0
IsKept cells line = cells ≡ (length line, true) ∷ (0, true) ∷ []

abbrev pub head_of : Book → Named
head_of b = record { tracked = true; key = 0; book = b }

-- the entry was added to all that was known, or the word was another
abbrev pub Adds : Step LogEntry → View LogEntry ℕ → ℕ → View LogEntry ℕ → Type 0
Adds s v found w = MatchBool (found == s.old) (w.0 ≡ v.0 ++ s.ask ∷ []) (Unit {0})
