-- When a log may tell that a node has failed, which nodes are taken for failed nowhere, and which
-- stay in the views.
use Rattle.std.specs.Prelude.{◌≡◌, ℕ, ◌+◌, ◌*◌, ◌<◌, ◌==◌, ◌&&◌, Bool, true, false, Contains, Some}
use Rattle.cany_base.specs.declared.class.Class.TheVariants as class
use Rattle.cany_base.specs.declared.log_entry.LogEntry.TheVariants.{Failed}
use Rattle.cany_base.specs.declared.slot_note.SlotNote.{SlotNote}
use Rattle.cany_base.specs.Frame.{FrameParts}
use Rattle.cany_base.specs.Nodes.{Nodes, has}
use Rattle.cany_base.specs.Scenario.{ScenarioParts}
use Rattle.cany_model.specs.Bus.Frames.{same_class}
use Rattle.cany_model.specs.Bus.Slot.{carried}
use Rattle.cany_model.specs.Bus.State.{EndedIncarnation, RunState}
use Rattle.cany_laws.specs.Logs.{IsIncarnation, log_as}
use Rattle.cany_laws.specs.Membership.{knowledge_as, members_as}
use Rattle.cany_laws.specs.Views.{installed_as}

-- an incarnation of node r stopped more than `silence` - `life` - `lag` - `bound` slots before slot
-- u
pub record HasStoppedBefore (scenario : ScenarioParts) (s : RunState) (r u : ℕ) : Type 0 where
  pub which : EndedIncarnation
  pub is : IsIncarnation scenario s r which
  pub slot : ℕ
  pub stopped : which.stopped ≡ Some slot
  pub long : slot + scenario.params.silence < u + (scenario.params.life + scenario.params.lag + scenario.params.bound)

-- each failure that the log of an incarnation tells of, of whatever node, is that of a node of
-- which an incarnation stopped so many slots before the entry
abbrev pub RaisesNoFalseAlarm : ScenarioParts → RunState → Type 0
RaisesNoFalseAlarm scenario s =
    (i : ℕ) (e : EndedIncarnation) → IsIncarnation scenario s i e → (u r cycle : ℕ) → Contains (log_as scenario s i e) (Failed u r cycle)
    → HasStoppedBefore scenario s r u

-- node r has failed at no incarnation, of whatever node, after any turn of that incarnation, and no
-- log tells that it has
pub record IsTakenForFailedNowhere (scenario : ScenarioParts) (s : RunState) (r : ℕ) : Type 0 where
  pub counted : (i : ℕ) (e : EndedIncarnation) → IsIncarnation scenario s i e → (t : ℕ) → t < e.next → has (knowledge_as scenario s t i e).failed r ≡ false
  pub told : (i : ℕ) (e : EndedIncarnation) → IsIncarnation scenario s i e → (u cycle : ℕ) → Contains (log_as scenario s i e) (Failed u r cycle) → ⊥

-- ---- staying

abbrev pub is_leave_of : ℕ → FrameParts → Bool
is_leave_of r f = same_class f.class class.Leave && f.node == r

-- no slot carried a LEAVE of node r
abbrev pub NoLeaveWasCarried : RunState → ℕ → Type 0
NoLeaveWasCarried s r = (note : SlotNote) → Contains s.trace note → carried (is_leave_of r) note ≡ false

-- an incarnation of node i had node r in its view after its turn of slot t
pub record HadInView (scenario : ScenarioParts) (s : RunState) (r t i : ℕ) (e : EndedIncarnation) : Type 0 where
  pub is : IsIncarnation scenario s i e
  pub read : t < e.next
  pub member : has (members_as scenario s t i e) r ≡ true

-- node r is in each vector that an incarnation, of whatever node, installs in a cycle that ends
-- after slot t
abbrev pub StandsInEachVector : ScenarioParts → RunState → (r t : ℕ) → Type 0
StandsInEachVector scenario s r t =
    (j : ℕ) (f : EndedIncarnation) → IsIncarnation scenario s j f → (k : ℕ) (v : Nodes) → installed_as scenario s j f k ≡ Some v
    → t < k * scenario.params.cycle + scenario.params.bound → has v r ≡ true
