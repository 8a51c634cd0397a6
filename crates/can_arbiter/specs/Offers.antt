-- What each node offers.
use Rattle.std.specs.Prelude.{◌≡◌, ℕ, Bool, List, Option, Some, None, is_some, length, slice_index_or}
use Rattle.std.specs.Option.{option_map_or}
use Rattle.cany_base.specs.declared.format.Format.{Format}
use Rattle.cany_base.specs.Frame.{FrameParts}
use Rattle.cany_base.specs.Limits.{most_nodes}
use Rattle.cany_base.specs.Nodes.{Nodes, has}
use Rattle.can_frame.specs.Identifier.{FitsFormat}
use Rattle.can_arbiter.specs.Levels.{levels_of}

-- the offers, one place for each node, in the order of the nodes
pub record OfferTable : Type 0 where
  pub format : Format
  pub frames : List (Option FrameParts)

-- what a node offers
abbrev pub offer_at : OfferTable → ℕ → Option FrameParts
offer_at offers node = slice_index_or offers.frames node None

-- whether a node offers a frame
abbrev pub does_offer : OfferTable → ℕ → Bool
does_offer offers node = is_some (offer_at offers node)

-- the levels that a node's frame sends, as a word; 0 where it offers none
abbrev pub word_at : OfferTable → ℕ → ℕ
word_at offers node = option_map_or (levels_of offers.format) (offer_at offers node) 0

-- the offered frames fit the format
abbrev pub AllFit : Format → List (Option FrameParts) → Type 0
AllFit format frames =
    (node : ℕ) (f : FrameParts) → slice_index_or frames node None ≡ Some f → FitsFormat format f

-- a place for each node that there can be, and the set of the nodes that offer
pub record IsOfferTable (format : Format) (frames : List (Option FrameParts)) (offering : Nodes) : Type 0 where
  pub whole : length frames ≡ most_nodes
  pub fit : AllFit format frames
  pub known : (node : ℕ) → has offering node ≡ is_some (slice_index_or frames node None)
