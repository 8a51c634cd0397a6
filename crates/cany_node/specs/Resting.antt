-- The turns of idle slots in which a node has nothing to do: it stands for them as it is. In a slot
-- for which nothing but a timer of RELCAN is due, it does at a frame of EDCAN or of RELCAN no more
-- than what these two do.
use Rattle.std.specs.Prelude.{◌≡◌, ◌+◌, ◌<◌, ◌≤◌, ◌||◌, ℕ, Bool, false, true, List, [], ◌∷◌, length}
use Rattle.cany_base.specs.declared.class.Class.{Class}
use Rattle.cany_base.specs.declared.class.Class.TheVariants as class
use Rattle.cany_base.specs.declared.notice.NoticeKind.{NoticeKind}
use Rattle.cany_base.specs.declared.notice.NoticeKind.TheVariants.{Idle, Got, Sent, Bad}
use Rattle.cany_base.specs.Scenario.{ScenarioParts}
use Rattle.cany_model.specs.Bus.Frames.{same_class}
use Rattle.cany_model.specs.Rules.Messages.{Message}
use Rattle.cany_model.specs.Rules.KnowledgeOf.{knowledge_of}
use Rattle.cany_model.specs.Rules.Turn.{turn_effects}
use Rattle.cany_relcan.specs.Relcan as relcan
use Rattle.cany_relcan.specs.Relcan.{IsRelcanOf, RelcanParts, brings_no_relcan}
use Rattle.cany_totcan.specs.Rests as totcan
use Rattle.cany_totcan.specs.Totcan.{IsTotcanOf, TotcanParts}
use Rattle.cany_node.specs.Agenda.{IsRising}
use Rattle.cany_node.specs.Asks.{IsRisingFrom}
use Rattle.cany_node.specs.Node.{NodeParts, IsNodeOf}
use Rattle.cany_node.specs.Membership.{IsMembershipOf, MembershipParts, membership_effects}

-- after one more idle slot node i knows of the site what it knew, and nothing is done for it
pub record MembershipRests (scenario : ScenarioParts) (i : ℕ) (past : List NoticeKind) (v : MembershipParts) : Type 0 where
  pub stands : IsMembershipOf scenario i (Idle ∷ past) v
  pub effects : membership_effects scenario i (Idle ∷ past) ≡ []
  pub knowledge : knowledge_of scenario i (Idle ∷ past) ≡ knowledge_of scenario i past

-- after one more idle slot the node is as it was, but that it has read one more notice, and nothing
-- is done in the turn
pub record Rests (scenario : ScenarioParts) (past : List NoticeKind) (v : NodeParts) : Type 0 where
  pub stands : IsNodeOf scenario (Idle ∷ past) (record v { read = length past + 1 })
  pub effects : turn_effects scenario v.node (Idle ∷ past) ≡ []

-- The node rests in each slot before this one from which it has read on, once it stands for what it
-- has heard before the slot. That is so after idle slots in which it rested.
abbrev pub RestsUntil : ℕ → NodeParts → Type 0
RestsUntil wake v =
    (scenario : ScenarioParts) (past : List NoticeKind) → IsNodeOf scenario past (record v { read = length past })
    → v.read ≤ length past → length past < wake → length past < scenario.params.slots → Rests scenario past v

-- whether frames of the class are of EDCAN or of RELCAN, which nothing else hears
abbrev pub is_of_relays : Class → Bool
is_of_relays c = same_class c class.Ed || (same_class c class.Rel || same_class c class.Confirm)

-- whether nothing was heard, or a frame of theirs
abbrev pub is_for_relays : NoticeKind → Bool
is_for_relays Idle = true
is_for_relays (Got f) = is_of_relays f.class
is_for_relays (Sent f) = is_of_relays f.class
is_for_relays Bad = true

-- whether a frame was heard whose class is one of some
abbrev pub brings_of : (Class → Bool) → NoticeKind → Bool
brings_of is_one Idle = false
brings_of is_one (Got f) = is_one f.class
brings_of is_one (Sent f) = is_one f.class
brings_of is_one Bad = false

-- whether a frame of EDCAN was heard
abbrev pub is_for_edcan : NoticeKind → Bool
is_for_edcan e = brings_of (λ c. same_class c class.Ed) e

-- whether frames of the class are of TOTCAN, or life signs
abbrev pub is_of_totcan_or_life : Class → Bool
is_of_totcan_or_life c = same_class c class.Tot || (same_class c class.Accept || same_class c class.Els)

-- whether such a frame was heard: neither EDCAN nor RELCAN hears it
abbrev pub brings_totcan_or_life : NoticeKind → Bool
brings_totcan_or_life e = brings_of is_of_totcan_or_life e

-- whether a life sign was heard
abbrev pub is_life_sign : NoticeKind → Bool
is_life_sign e = brings_of (λ c. same_class c class.Els) e

-- before this slot RELCAN has nothing to do at a notice that brings none of its frames
abbrev pub RelcanRestsUntil : ℕ → RelcanParts → Type 0
RelcanRestsUntil wake v =
    (scenario : ScenarioParts) (past : List NoticeKind) (notice : NoticeKind) → IsRelcanOf scenario v.node past v → length past < wake
    → brings_no_relcan notice ≡ true → relcan.Rests scenario v.node notice past v

-- before this slot TOTCAN has nothing to do in an idle one
abbrev pub TotcanRestsUntil : ℕ → TotcanParts → Type 0
TotcanRestsUntil idle_until v =
    (scenario : ScenarioParts) (past : List NoticeKind) (messages : List Message) (count : ℕ) → IsTotcanOf scenario v.node past messages count v
    → length past < idle_until → totcan.Rests scenario v.node past messages count v

-- nor is there anything to do for the site, once so many notices are read
abbrev pub SiteRestsUntil : (read idle_until : ℕ) → MembershipParts → Type 0
SiteRestsUntil read idle_until v =
    (scenario : ScenarioParts) (i : ℕ) (past : List NoticeKind) → IsMembershipOf scenario i past v → read ≤ length past → length past < idle_until
    → length past < scenario.params.slots → MembershipRests scenario i past v

-- In an idle slot before this one, from which the node has read on, no part of it but EDCAN and
-- RELCAN has anything to do. EDCAN has nothing to do in any, and RELCAN tells itself when its next
-- timer is due.
pub record IsIdleUntil (idle_until : ℕ) (v : NodeParts) : Type 0 where
  pub totcan : TotcanRestsUntil idle_until v.totcan
  pub membership : SiteRestsUntil v.read idle_until v.membership
  pub sends : (n : ℕ) → n < idle_until → IsRising n v.agenda.left → IsRising (n + 1) v.agenda.left
  pub joins : (n : ℕ) → n < idle_until → IsRisingFrom n v.joins → IsRisingFrom (n + 1) v.joins
  pub leaves : (n : ℕ) → n < idle_until → IsRisingFrom n v.leaves → IsRisingFrom (n + 1) v.leaves
