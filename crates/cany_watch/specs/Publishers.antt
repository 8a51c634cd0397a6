-- What a contract sees of the writer's part for one node.
use Rattle.std.specs.Prelude.{◌≡◌, List, [], ◌∷◌, Option, Some, None, fold}
use Rattle.std.specs.Option.{option_map_or}
use Rattle.cany_base.specs.declared.log_entry.LogEntry.{LogEntry}
use Rattle.logbook.specs.Pages.{Book}
use Rattle.cany_watch.specs.declared.published.Growth.{Growth}
use Rattle.cany_watch.specs.declared.published.Published.{Published}
use Rattle.cany_watch.specs.Notes.{NoteParts}
use Rattle.cany_watch.specs.Shown.{IsShown, grown, state_of}

-- the list that is published, and all entries that were taken
pub record PublisherParts : Type 0 where
  pub book : Book
  pub shown : List LogEntry
  pub taken : List LogEntry

-- the note of what is published
abbrev pub note_of : PublisherParts → NoteParts
note_of s = record { book = s.book; entries = s.shown }

abbrev pub held_list : Option Growth → List Growth
held_list None = []
held_list (Some g) = g ∷ []

abbrev pub shown_of : {W : Type 0} → Option W → (W → Published) → List LogEntry
shown_of w value = option_map_or (λ x. (value x).entries.items) w []

-- what is published, with the entries that wait, is all that the note tells
pub record IsWriterOf (taken : NoteParts) (value : Published) (waiting : List Growth) : Type 0 where
  pub shown : IsShown value
  pub book : value.front.book ≡ taken.book
  pub next : fold grown (state_of value) waiting ≡ (taken.entries, taken)
