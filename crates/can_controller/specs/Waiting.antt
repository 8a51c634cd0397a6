-- The waiting frames as the program keeps them.
use Rattle.std.specs.Prelude.{◌≡◌, ℕ, ◌<◌, ◌≤◌, ◌⊎◌, List, [], ◌∷◌, length, take, drop, nat_lt, All, IsTrue}
use Rattle.std.specs.List.{HoldsAt}
use Rattle.cany_base.specs.declared.format.Format.{Format}
use Rattle.cany_base.specs.Frame.{FrameParts, identifier_of, key_of}
use Rattle.cany_model.specs.Bus.Frames.{bare, identity_of, is_before}
use Rattle.cany_model.specs.Bus.Waiting.{waits}
use Rattle.can_frame.specs.Identifier.{FitsIdentifier}

-- the frames in the order in which they win, and how many there may be
pub record WaitingFrames : Type 0 where
  pub format : Format
  pub frames : List FrameParts
  pub room : ℕ

-- the identifier of a frame but for the incarnation: it tells the frame's identity
abbrev pub identity_number : Format → FrameParts → ℕ
identity_number format f = identifier_of format (bare (identity_of f))

-- each frame has a smaller number than those after it
abbrev pub IsAscendingBy : (FrameParts → ℕ) → List FrameParts → Type 0
IsAscendingBy number [] = Unit {0}
IsAscendingBy number (f ∷ fs) = All (λ g. number f < number g) fs × IsAscendingBy number fs

-- the frames ascend by identity, so that no two of them have one
abbrev pub IsAscending : Format → List FrameParts → Type 0
IsAscending format frames = IsAscendingBy (identity_number format) frames

-- what is true of the frames and of the memory that holds them
pub record IsKept (format : Format) (frames : List FrameParts) (room capacity : ℕ) : Type 0 where
  pub fit : All (FitsIdentifier format) frames
  pub ascending : IsAscending format frames
  pub in_room : length frames ≤ room
  pub reserved : room ≤ capacity

-- a frame may be asked for: there is room for one more, or one of its identity waits
abbrev pub HasRoomFor : FrameParts → List FrameParts → ℕ → Type 0
HasRoomFor f frames room = (length frames < room) ⊎ IsTrue (waits (identity_of f) frames)

-- a frame with this number stands at the place
pub record IsPlaceOf (number : FrameParts → ℕ) (n place : ℕ) (frames : List FrameParts) : Type 0 where
  pub within : place < length frames
  pub numbered : HoldsAt (λ f. number f ≡ n) frames place

-- no frame has this number, and one that has would stand at the place
pub record IsGapFor (number : FrameParts → ℕ) (n place : ℕ) (frames : List FrameParts) : Type 0 where
  pub within : place ≤ length frames
  pub before : All (λ f. number f < n) (take place frames)
  pub after : All (λ f. n < number f) (drop place frames)

-- of frames that fit, one wins over another exactly where its key is less
abbrev pub LesserKeyWins : Format → Type 0
LesserKeyWins format = (a b : FrameParts) → FitsIdentifier format a → FitsIdentifier format b → is_before a b ≡ nat_lt (key_of format a) (key_of format b)
