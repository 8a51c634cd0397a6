-- What users of the failure detector and of the membership are promised: is a running node ever
-- thrown out, is a stopped one removed, is one that asks to join admitted.
use Rattle.std.specs.Prelude.{◌≡◌, ℕ, ◌+◌, ◌-◌, ◌*◌, ◌<◌, ◌≤◌, ◌⊎◌, ◌||◌, Bool, true, false, List, [], ◌∷◌, Some, Contains}
use Rattle.std.specs.List.{list_any}
use Rattle.cany_base.specs.declared.class.Class.TheVariants as class
use Rattle.cany_base.specs.declared.log_entry.LogEntry.TheVariants.{View}
use Rattle.cany_base.specs.declared.notice.NoticeKind.{NoticeKind}
use Rattle.cany_base.specs.declared.rule.Verdict.TheVariants.{Clean}
use Rattle.cany_base.specs.declared.slot_note.SlotNote.{SlotNote}
use Rattle.cany_base.specs.Frame.{FrameParts}
use Rattle.cany_base.specs.Nodes.{Nodes, has}
use Rattle.cany_base.specs.Scenario.{ScenarioParts}
use Rattle.cany_model.specs.Bus.Frames.{same_class}
use Rattle.cany_model.specs.Bus.History.{history, history_but}
use Rattle.cany_model.specs.Bus.State.{RunState, node_at, slots_run}
use Rattle.cany_model.specs.Promises.OneView.{installed}
use Rattle.cany_model.specs.Promises.Settled.{IsCorrect}
use Rattle.cany_model.specs.Rules.Effect.{Effect, Ask, Withdraw, Enter}
use Rattle.cany_model.specs.Rules.Log.{log}
use Rattle.cany_model.specs.Rules.KnowledgeOf.{knowledge_of}
use Rattle.cany_model.specs.Rules.Membership.{ask_effects}
use Rattle.cany_model.specs.Rules.Turn.{scenario_at}

-- the view that node i has, or will have, before its turn of slot t
abbrev pub members_before : ScenarioParts → RunState → (t i : ℕ) → Nodes
members_before scenario s t i = (knowledge_of (scenario_at scenario s i) i (history_but (slots_run s - t) i s)).members

-- after its turn of slot t, which ran, each correct node has node r in its view
pub record StandsAfter (scenario : ScenarioParts) (s : RunState) (r t : ℕ) : Type 0 where
  pub ran : t < slots_run s
  pub member : (i : ℕ) → IsCorrect scenario s i → has (members_before scenario s (t + 1) i) r ≡ true

-- ---- accuracy

-- node r has failed at no correct node
abbrev pub HasNotFailed : ScenarioParts → RunState → ℕ → Type 0
HasNotFailed scenario s r = (i : ℕ) → IsCorrect scenario s i → has (knowledge_of (scenario_at scenario s i) i (history i s)).failed r ≡ false

-- whether an effect asks to leave the view
abbrev pub asks_leave : Effect → Bool
asks_leave (Ask f) = same_class f.class class.Leave
asks_leave (Withdraw x) = false
asks_leave (Enter entry) = false

-- whether node i asked to leave in one of its turns so far, as a member does by a scripted leave of
-- the slot
unfoldable pub has_asked_leave : ScenarioParts → ℕ → List NoticeKind → Bool
has_asked_leave scenario i [] = false
has_asked_leave scenario i (notice ∷ before) =
    list_any asks_leave (ask_effects scenario i (notice ∷ before)) || has_asked_leave scenario i before

-- it has asked for no leave in the run
abbrev pub AsksNoLeave : ScenarioParts → RunState → ℕ → Type 0
AsksNoLeave scenario s r = has_asked_leave (scenario_at scenario s r) r (history r s) ≡ false

-- it stands in each view that a correct node holds of a cycle that ends after slot t
abbrev pub StaysInViews : ScenarioParts → RunState → (r t : ℕ) → Type 0
StaysInViews scenario s r t =
    (i : ℕ) → IsCorrect scenario s i → (slot number : ℕ) (members : Nodes) → Contains (log scenario s i) (View slot number members)
    → t < number * scenario.params.cycle + scenario.params.bound → has members r ≡ true

-- ---- removal

-- node r stands in no view that a correct node holds of a cycle that starts more than `silence`
-- slots after slot t
abbrev pub IsRemoved : ScenarioParts → RunState → (r t : ℕ) → Type 0
IsRemoved scenario s r t =
    (i : ℕ) → IsCorrect scenario s i → (slot number : ℕ) (members : Nodes) → Contains (log scenario s i) (View slot number members)
    → t + scenario.params.silence < number * scenario.params.cycle → has members r ≡ false

-- ---- admission

-- A JOIN of node r was carried Clean in a slot after the start of the cycle before cycle k, and not
-- after that of cycle k. Before its turn of that slot no correct node had r in its view.
pub record JoinWasCarried (scenario : ScenarioParts) (s : RunState) (r k : ℕ) : Type 0 where
  pub note : SlotNote
  pub stands : Contains s.trace note
  pub what : FrameParts
  pub frame : note.frame ≡ Some what
  pub join : what.class ≡ class.Join
  pub asker : what.node ≡ r
  pub clean : note.verdict ≡ Clean
  pub after : (k - 1) * scenario.params.cycle < note.slot
  pub by_start : note.slot ≤ k * scenario.params.cycle
  pub outside : (i : ℕ) → IsCorrect scenario s i → has (members_before scenario s note.slot i) r ≡ false

-- each correct node that installs a vector at the end of cycle k has r in it, or, for k > 1, in the
-- one that it installed in the cycle before
abbrev pub IsAdmitted : ScenarioParts → RunState → (r k : ℕ) → Type 0
IsAdmitted scenario s r k =
    (i : ℕ) → IsCorrect scenario s i → (v : Nodes) → installed scenario s i k ≡ Some v
    → (has v r ≡ true) ⊎ ((1 < k) × ((w : Nodes) × (installed scenario s i (k - 1) ≡ Some w) × (has w r ≡ true)))

-- ---- the promise

-- what a run within the fault hypothesis of a scenario without restart entries keeps
pub record KeepsMembers (scenario : ScenarioParts) (s : RunState) : Type 0 where
  -- a running node has failed at no correct node
  pub accuracy : (r : ℕ) → IsCorrect scenario s r → HasNotFailed scenario s r
  -- one that stands in the views, and has asked for no leave, stays in them
  pub staying : (r t : ℕ) → IsCorrect scenario s r → AsksNoLeave scenario s r → StandsAfter scenario s r t → StaysInViews scenario s r t
  -- one that stops while it stands in the views is removed from them
  pub removal : (r t : ℕ) → r < scenario.params.nodes → (node_at s.nodes r).stopped ≡ Some t → StandsAfter scenario s r t
      → IsRemoved scenario s r t
  -- one whose ask to join gets through is admitted
  pub admission : (r k : ℕ) → r < scenario.params.nodes → JoinWasCarried scenario s r k → IsAdmitted scenario s r k
