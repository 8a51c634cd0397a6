-- Which frame wins the slot, and who sends it.
use Rattle.std.specs.Prelude.{◌≡◌, ◌≢◌, ℕ, ◌≤◌, ◌↔◌, Option, Some, None, IsTrue}
use Rattle.cany_base.specs.declared.format.Format.{Format}
use Rattle.cany_base.specs.Frame.{FrameParts, key_of}
use Rattle.cany_base.specs.Nodes.{Nodes, has}
use Rattle.can_arbiter.specs.declared.arbitration.Outcome.{Outcome}
use Rattle.can_arbiter.specs.declared.arbitration.Outcome.TheVariants.{Idle, Won}
use Rattle.can_arbiter.specs.Offers.{OfferTable, offer_at}

-- of what the nodes offer, the offer of the least key, and of equal keys that of the least node
pub record Wins (format : Format) (offers : ℕ → Option FrameParts) (frame : FrameParts) : Type 0 where
  pub node : ℕ
  pub offered : offers node ≡ Some frame
  pub least_key :
      (other : ℕ) (rival : FrameParts) → offers other ≡ Some rival → key_of format frame ≤ key_of format rival
  pub least_node :
      (other : ℕ) (rival : FrameParts) → offers other ≡ Some rival →
      key_of format rival ≡ key_of format frame → node ≤ other

-- the nodes that offer this frame
abbrev pub AreSendersAmong : (ℕ → Option FrameParts) → FrameParts → Nodes → Type 0
AreSendersAmong offers frame senders =
    (node : ℕ) → IsTrue (has senders node) ↔ (offers node ≡ Some frame)

-- nobody offers, or a frame wins and all that offer it send it
abbrev pub IsOutcomeAmong : Format → (ℕ → Option FrameParts) → Outcome → Type 0
IsOutcomeAmong format offers Idle = (node : ℕ) → offers node ≡ None
IsOutcomeAmong format offers (Won frame senders) = Wins format offers frame × AreSendersAmong offers frame senders

-- the same of a table of offers
abbrev pub IsWinner : OfferTable → FrameParts → Type 0
IsWinner offers frame = Wins offers.format (offer_at offers) frame

abbrev pub AreSenders : OfferTable → FrameParts → Nodes → Type 0
AreSenders offers frame senders = AreSendersAmong (offer_at offers) frame senders

abbrev pub IsOutcome : OfferTable → Outcome → Type 0
IsOutcome offers Idle = (node : ℕ) → offer_at offers node ≡ None
IsOutcome offers (Won frame senders) = IsWinner offers frame × AreSenders offers frame senders

-- the frame that wins
abbrev pub frame_of : Outcome → Option FrameParts
frame_of Idle = None
frame_of (Won frame senders) = Some frame

-- what the nodes offer, where before only lesser nodes than this one did: it now offers this too
pub record IsEntered (node : ℕ) (offer : Option FrameParts) (before after : ℕ → Option FrameParts) : Type 0 where
  pub last : (other : ℕ) → node ≤ other → before other ≡ None
  pub here : after node ≡ offer
  pub others : (other : ℕ) → other ≢ node → after other ≡ before other
