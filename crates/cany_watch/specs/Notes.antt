-- What a contract sees of a beginning of a node's line.
use Rattle.std.specs.Prelude.{◌≡◌, List}
use mathlib.Core.List.{IsPrefix}
use Rattle.cany_base.specs.declared.log_entry.LogEntry.{LogEntry}
use Rattle.logbook.specs.Pages.{Book}

-- the book is that of one node of one hall
pub record NoteParts : Type 0 where
  pub book : Book
  pub entries : List LogEntry

-- m follows n: it is of the same node, and begins with it
abbrev pub Follows : NoteParts → NoteParts → Type 0
Follows n m = (m.book ≡ n.book) × IsPrefix n.entries m.entries
