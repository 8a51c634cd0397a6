-- The incarnation in the frames that a node asks for, and in the identifiers of those that it
-- withdraws.
use Rattle.std.specs.Prelude.{◌≡◌, ℕ, ◌+◌, true, if◌then◌else◌, List}
use Rattle.std.specs.List.{AllByRecursion}
use Rattle.cany_base.specs.Frame.{FrameParts, has_incarnation}
use Rattle.can_frame.specs.Classes.{tells_incarnation}
use Rattle.cany_model.specs.Rules.Effect.{Effect, Ask, Withdraw, Enter}

-- the frame with this incarnation, if frames of its class tell one
abbrev pub with_incarnation : ℕ → FrameParts → FrameParts
with_incarnation inc f = record f { inc = if has_incarnation f.class then inc else f.inc }

-- the identifier with this incarnation, if frames of its class tell one
abbrev pub ident_with : ℕ → ℕ → ℕ
ident_with inc ident = if tells_incarnation ident then ident + inc else ident

-- the effect stamped with it: what is withdrawn is named without an incarnation
abbrev pub stamped_effect : ℕ → Effect → Effect
stamped_effect inc (Ask f) = Ask (with_incarnation inc f)
stamped_effect inc (Withdraw x) = Withdraw x
stamped_effect inc (Enter entry) = Enter entry

-- the frame is stamped with this incarnation, if frames of its class tell one
abbrev pub IsStamped : ℕ → FrameParts → Type 0
IsStamped inc f = has_incarnation f.class ≡ true → f.inc ≡ inc

abbrev pub AreStamped : ℕ → List FrameParts → Type 0
AreStamped inc frames = AllByRecursion (IsStamped inc) frames
