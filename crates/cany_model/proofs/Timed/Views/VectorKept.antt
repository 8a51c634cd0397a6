-- What is kept of a node's vector of a membership cycle, and of the frames by which it sends it: of
-- the trace that its incarnation sees, of what it has read, and of what waits.
use Rattle.std.proofs.Common.{◌≡◌, ◌≢◌, ℕ, ◌+◌, ◌*◌, ◌<◌, ◌≤◌, ◌⊎◌, List, [], ◌∷◌, length, Option, Some, None, count_by}
use Rattle.std.specs.List.{AllByRecursion}
use Rattle.cany_base.specs.declared.notice.NoticeKind.{NoticeKind}
use Rattle.cany_base.specs.declared.notice.NoticeKind.TheVariants.{Sent}
use Rattle.cany_base.specs.declared.slot_note.SlotNote.{SlotNote}
use Rattle.cany_base.specs.Frame.{FrameParts}
use Rattle.cany_base.specs.Nodes.{AllBelow, Nodes}
use Rattle.cany_base.specs.Scenario.{ScenarioParts}
use Rattle.cany_model.specs.Bus.Frames.{Identity, identity_of}
use Rattle.cany_model.specs.Bus.History.{given}
use Rattle.cany_model.specs.Bus.State.{NodeState}
use Rattle.cany_model.specs.Rules.Notices.{IsPart}
use Rattle.cany_model.specs.Rules.Turn.{scenario_for}
use Rattle.cany_model.specs.Rules.Vectors.{is_vector_got, rha_frame, rha_of}
use Rattle.cany_model.proofs.Among.{Among}
use Rattle.cany_model.proofs.Promises.Diffusion.{past_of}
use Rattle.cany_model.proofs.Promises.KeptVectors.{vector_at}
use Rattle.cany_model.proofs.Timed.Common.LastEffect.{held}

-- ---- what is said of a frame

-- the slot gave node i success with a frame of the identity
abbrev pub IsSentOf : ℕ → Identity → SlotNote → Type 0
IsSentOf i x note = (f : FrameParts) × (given i note ≡ Sent f) × (x ≡ identity_of f)

-- the node waits with no frame of the identity, and has sent none
abbrev pub Untouched : ℕ → Identity → List SlotNote → List FrameParts → Type 0
Untouched i x trace waiting = (held x waiting ≡ []) × (Among (IsSentOf i x) trace → ⊥)

-- the frame of node i's vector
abbrev pub own_frame : ScenarioParts → ℕ → ℕ → Nodes → FrameParts
own_frame scenario k i v = rha_frame scenario.params.format scenario.inc k i v

-- it is node i's frame for the cycle, with a vector that has all of this one
pub record Covers (scenario : ScenarioParts) (k i : ℕ) (v : Nodes) (f : FrameParts) : Type 0 where
  pub what : Nodes
  pub below : AllBelow scenario.params.nodes what
  pub frame : f ≡ own_frame scenario k i what
  pub part : IsPart v what

-- ---- what is said of a node, by the scenario that its incarnation follows

-- none of its frames of the cycle waits, or one whose vector has all of this one
abbrev pub WaitCovers : ScenarioParts → ℕ → ℕ → Nodes → List FrameParts → Type 0
WaitCovers scenario k i v waiting =
    (held (rha_of k i) waiting ≡ []) ⊎ ((f : FrameParts) × (held (rha_of k i) waiting ≡ f ∷ []) × Covers scenario k i v f)

-- what it sent for the cycle in the slot has all of the vector
abbrev pub SentCovers : ScenarioParts → ℕ → ℕ → Nodes → SlotNote → Type 0
SentCovers scenario k i v note = (f : FrameParts) → given i note ≡ Sent f → rha_of k i ≡ identity_of f → Covers scenario k i v f

-- its vector waits to be sent, or was sent, or was got more than omit times
abbrev pub Answered : ScenarioParts → ℕ → ℕ → List SlotNote → List NoticeKind → List FrameParts → Nodes → Type 0
Answered scenario k i trace past waiting v =
    (held (rha_of k i) waiting ≡ own_frame scenario k i v ∷ [])
    ⊎ (Among (λ note. given i note ≡ Sent (own_frame scenario k i v)) trace
    ⊎ (scenario.params.omit < count_by (is_vector_got scenario.params.format k v) past))

-- of a node that has this vector while vectors of the cycle are exchanged
pub record HasVector (scenario : ScenarioParts) (k i : ℕ) (trace : List SlotNote) (past : List NoticeKind) (waiting : List FrameParts) (v : Nodes)
    : Type 0 where
  pub below : AllBelow scenario.params.nodes v
  pub waits : WaitCovers scenario k i v waiting
  pub sent : AllByRecursion (SentCovers scenario k i v) trace
  pub answer : Answered scenario k i trace past waiting v

abbrev pub IsOpen : ScenarioParts → ℕ → ℕ → List SlotNote → List NoticeKind → List FrameParts → Option Nodes → Type 0
IsOpen scenario k i trace past waiting None = Untouched i (rha_of k i) trace waiting
IsOpen scenario k i trace past waiting (Some v) = HasVector scenario k i trace past waiting v

pub record VectorKept (scenario : ScenarioParts) (k i : ℕ) (trace : List SlotNote) (past : List NoticeKind) (waiting : List FrameParts) : Type 0 where
  -- it sends no vectors of others
  pub other : (r : ℕ) → r ≢ i → Untouched i (rha_of k r) trace waiting
  pub early : length past ≤ k * scenario.params.cycle → Untouched i (rha_of k i) trace waiting
  pub during : k * scenario.params.cycle < length past → length past ≤ k * scenario.params.cycle + scenario.params.bound
      → IsOpen scenario k i trace past waiting (vector_at scenario i past)
  pub late : k * scenario.params.cycle + scenario.params.bound < length past → held (rha_of k i) waiting ≡ []

abbrev pub NodeVector : ScenarioParts → ℕ → List SlotNote → ℕ → NodeState → Type 0
NodeVector scenario k trace i node = VectorKept (scenario_for scenario node.present) k i trace (past_of i trace node) node.waiting

-- what the node has read, the trace has
abbrev pub HasRead : ℕ → List SlotNote → List NoticeKind → Type 1
HasRead i trace past = (P : NoticeKind → Type 0) → Among P past → Among (λ note. P (given i note)) trace
