-- What a contract sees of a hall, and what a step publishes.
use Rattle.std.specs.Prelude.{◌≡◌, ◌≢◌, ℕ, ◌<◌, ◌≤◌, Bool, true, List, [], ◌++◌, length, map, slice_index_or, Option, Some, None}
use mathlib.Core.List.{IsPrefix}
use Rattle.cany_base.specs.declared.log_entry.LogEntry.{LogEntry}
use Rattle.cany_world.specs.World.{WorldParts}
use Rattle.cany_watch.specs.Lines.{line_of, nodes_of}
use Rattle.cany_watch.specs.Notes.{NoteParts}
use Rattle.cany_watch.specs.Publishers.{PublisherParts, note_of}

-- the world, and the publisher of each node
pub record HallParts : Type 0 where
  pub world : WorldParts
  pub publishers : List PublisherParts

abbrev pub no_publisher : PublisherParts
no_publisher = record { book = record { number = 0; log_name = 0; cells_name = 0 }; shown = []; taken = [] }

abbrev pub publisher_at : List PublisherParts → ℕ → PublisherParts
publisher_at publishers i = slice_index_or publishers i no_publisher

-- the list that is published for node i
abbrev pub published_of : HallParts → ℕ → List LogEntry
published_of hall i = (publisher_at hall.publishers i).shown

-- what is published and what was taken are beginnings of the line
pub record IsPublisherOf (line : List LogEntry) (p : PublisherParts) : Type 0 where
  pub taken : IsPrefix p.taken line
  pub shown : IsPrefix p.shown p.taken

-- one publisher for each node
pub record ArePublishersOf (world : WorldParts) (publishers : List PublisherParts) : Type 0 where
  pub count : length publishers ≡ nodes_of world
  pub each : (i : ℕ) → i < length publishers → IsPublisherOf (line_of world i) (publisher_at publishers i)

-- so many new publishers, and the notes of them
pub record AreFirst (many : ℕ) (publishers : List PublisherParts) (told : List NoteParts) : Type 0 where
  pub count : length publishers ≡ many
  pub notes : told ≡ map note_of publishers
  pub empty : (i : ℕ) → ((publisher_at publishers i).shown ≡ []) × ((publisher_at publishers i).taken ≡ [])

-- all of the entries were taken, or the first of them
pub record HasTaken (is_all : Bool) (entries : List LogEntry) (p p' : PublisherParts) : Type 0 where
  pub same : (p'.book ≡ p.book) × (p'.shown ≡ p.shown)
  pub grows : IsPrefix p.taken p'.taken
  pub some : IsPrefix p'.taken (p.taken ++ entries)
  pub all : is_all ≡ true → p'.taken ≡ p.taken ++ entries

-- the same of the entries of a line that were not taken yet
pub record HasTakenUp (is_all : Bool) (line : List LogEntry) (p p' : PublisherParts) : Type 0 where
  pub same : (p'.book ≡ p.book) × (p'.shown ≡ p.shown)
  pub grows : IsPrefix p.taken p'.taken
  pub some : IsPrefix p'.taken line
  pub all : is_all ≡ true → p'.taken ≡ line

-- the line of a node was published, or a beginning of it, which is not shorter than before
pub record HasPublished (is_all : Bool) (line : List LogEntry) (p p' : PublisherParts) : Type 0 where
  pub book : p'.book ≡ p.book
  pub beginning : IsPublisherOf line p'
  pub grows : IsPrefix p.shown p'.shown
  pub all : is_all ≡ true → p'.shown ≡ line

-- the same of all nodes below this one; those from it on are as they were
pub record HavePublished (is_all : Bool) (world : WorldParts) (below : ℕ) (publishers publishers' : List PublisherParts) : Type 0 where
  pub count : length publishers' ≡ length publishers
  pub each : (i : ℕ) → i < below → HasPublished is_all (line_of world i) (publisher_at publishers i) (publisher_at publishers' i)
  pub rest : (i : ℕ) → below ≤ i → publisher_at publishers' i ≡ publisher_at publishers i

-- the line of each node but this one is published
abbrev pub IsShownBut : Option ℕ → WorldParts → List PublisherParts → Type 0
IsShownBut node world publishers = (i : ℕ) → i < nodes_of world → node ≢ Some i → (publisher_at publishers i).shown ≡ line_of world i

abbrev pub IsAllShown : WorldParts → List PublisherParts → Type 0
IsAllShown = IsShownBut None
