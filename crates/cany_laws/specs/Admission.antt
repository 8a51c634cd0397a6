-- A node outside the view that asks to join it, and the vectors that admit it.
use Rattle.std.specs.Prelude.{◌≡◌, ℕ, ◌+◌, ◌-◌, ◌*◌, ◌<◌, ◌≤◌, ◌⊎◌, true, false, Some, Contains}
use Rattle.cany_base.specs.declared.class.Class.TheVariants as class
use Rattle.cany_base.specs.declared.rule.Verdict.TheVariants.{Clean}
use Rattle.cany_base.specs.declared.slot_note.SlotNote.{SlotNote}
use Rattle.cany_base.specs.Frame.{FrameParts}
use Rattle.cany_base.specs.Nodes.{Nodes, has}
use Rattle.cany_base.specs.Scenario.{ScenarioParts}
use Rattle.cany_model.specs.Bus.State.{EndedIncarnation, RunState}
use Rattle.cany_laws.specs.Logs.{IsIncarnation}
use Rattle.cany_laws.specs.Membership.{members_as}
use Rattle.cany_laws.specs.Views.{installed_as}

-- a JOIN of node r was carried Clean in this slot, after the start of the cycle before cycle k and
-- not after that of cycle k
pub record JoinIsCarried (scenario : ScenarioParts) (s : RunState) (r k slot : ℕ) : Type 0 where
  pub note : SlotNote
  pub stands : Contains s.trace note
  pub here : note.slot ≡ slot
  pub what : FrameParts
  pub frame : note.frame ≡ Some what
  pub join : what.class ≡ class.Join
  pub asker : what.node ≡ r
  pub clean : note.verdict ≡ Clean
  pub after : (k - 1) * scenario.params.cycle < slot
  pub by_start : slot ≤ k * scenario.params.cycle

-- before its turn of the slot each incarnation that takes part since the cycle before cycle k
-- started, and reads the slot in which cycle k starts, has r outside its view
abbrev pub IsOutsideAtEach : ScenarioParts → RunState → (r k slot : ℕ) → Type 0
IsOutsideAtEach scenario s r k slot =
    (i : ℕ) (e : EndedIncarnation) → IsIncarnation scenario s i e → e.incarnation.from ≤ (k - 1) * scenario.params.cycle
    → k * scenario.params.cycle < e.next → has (members_as scenario s (slot - 1) i e) r ≡ false

-- the incarnation has a view by then: it is an incarnation of the opening, or it has installed a
-- vector in a cycle that ended before the slot
abbrev pub HasViewBefore : ScenarioParts → RunState → (slot i : ℕ) → EndedIncarnation → Type 0
HasViewBefore scenario s slot i e =
    (e.incarnation.number ≡ 0)
    ⊎ ((d : ℕ) × (v : Nodes) × (d * scenario.params.cycle + scenario.params.bound < slot) × (installed_as scenario s i e d ≡ Some v))

-- An incarnation of node i, which may be r itself, has a view by this slot, has read all slots
-- before it, and has r outside its view before its turn of it.
pub record KnowsItOutside (scenario : ScenarioParts) (s : RunState) (r slot i : ℕ) (e : EndedIncarnation) : Type 0 where
  pub is : IsIncarnation scenario s i e
  pub view : HasViewBefore scenario s slot i e
  pub read : slot ≤ e.next
  pub outside : has (members_as scenario s (slot - 1) i e) r ≡ false

-- it installed a vector with node r in the cycle before cycle k
abbrev pub InstalledItBefore : ScenarioParts → RunState → (r k i : ℕ) → EndedIncarnation → Type 0
InstalledItBefore scenario s r k i e = (1 < k) × ((w : Nodes) × (installed_as scenario s i e (k - 1) ≡ Some w) × (has w r ≡ true))

-- Each incarnation that installs a vector in cycle k has node r in it, or, if it takes part since
-- the cycle before started, in the one that it installed in that cycle; and if it takes part only
-- since later, some incarnation had it there.
pub record IsAdmittedByEach (scenario : ScenarioParts) (s : RunState) (r k : ℕ) : Type 0 where
  pub since : (i : ℕ) (e : EndedIncarnation) → IsIncarnation scenario s i e → e.incarnation.from ≤ (k - 1) * scenario.params.cycle
      → (v : Nodes) → installed_as scenario s i e k ≡ Some v → (has v r ≡ true) ⊎ InstalledItBefore scenario s r k i e
  pub each : (i : ℕ) (e : EndedIncarnation) → IsIncarnation scenario s i e → (v : Nodes) → installed_as scenario s i e k ≡ Some v
      → (has v r ≡ true) ⊎ ((j : ℕ) × (f : EndedIncarnation) × IsIncarnation scenario s j f × InstalledItBefore scenario s r k j f)
