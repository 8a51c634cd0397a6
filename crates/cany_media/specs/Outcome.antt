-- What a slot comes to over two lines.
use Rattle.std.specs.Prelude.{◌≡◌, ℕ, true, false, None}
use Rattle.can_arbiter.specs.Offers.{OfferTable, offer_at}
use Rattle.can_arbiter.specs.Outcome.{IsWinner, AreSenders}
use Rattle.cany_media.specs.declared.line.Line.{Line}
use Rattle.cany_media.specs.declared.outcome.MediaOutcome.{MediaOutcome}
use Rattle.cany_media.specs.declared.outcome.MediaOutcome.TheVariants.{Idle, Joined, Parted}
use Rattle.cany_media.specs.Lines.{has_whole}

-- Nobody offers; or a frame wins as on one bus, and every node reads one level at each bit, or
-- there is no whole line.
abbrev pub IsMediaOutcome : OfferTable → Line × Line → ℕ → MediaOutcome → Type 0
IsMediaOutcome offers lines nodes Idle = (node : ℕ) → offer_at offers node ≡ None
IsMediaOutcome offers lines nodes (Joined frame senders) =
    IsWinner offers frame × AreSenders offers frame senders × (has_whole nodes lines ≡ true)
IsMediaOutcome offers lines nodes (Parted frame senders) =
    IsWinner offers frame × AreSenders offers frame senders × (has_whole nodes lines ≡ false)
