-- What the incarnations of all nodes install, and the views in their logs.
use Rattle.std.specs.Prelude.{◌≡◌, ℕ, ◌*◌, ◌<◌, Contains, Option, None}
use Rattle.cany_base.specs.declared.log_entry.LogEntry.TheVariants.{View}
use Rattle.cany_base.specs.Nodes.{Nodes}
use Rattle.cany_base.specs.Scenario.{ScenarioParts}
use Rattle.cany_model.specs.Bus.State.{EndedIncarnation, RunState}
use Rattle.cany_model.specs.Promises.OneView.{installed_of}
use Rattle.cany_laws.specs.Logs.{HasReadClosingAs, IsIncarnation, followed_by, log_as, past_of}

-- the vector that an incarnation of node i installs at the end of cycle k, if it has one there
abbrev pub installed_as : ScenarioParts → RunState → (i : ℕ) → EndedIncarnation → (k : ℕ) → Option Nodes
installed_as scenario s i e k = installed_of (followed_by scenario e) i k (past_of s i e)

-- an incarnation that takes part since cycle k starts, and has read its end
abbrev pub HasReadEndAs : ScenarioParts → RunState → (k i : ℕ) → EndedIncarnation → Type 0
HasReadEndAs scenario s k i e = HasReadClosingAs scenario s (k * scenario.params.cycle) i e

-- Such incarnations, of whatever nodes, install one vector, or none of them has one; and one that
-- takes part only since later has none.
pub record EachInstallsOneVector (scenario : ScenarioParts) (s : RunState) (k : ℕ) : Type 0 where
  pub alike : (i j : ℕ) (e f : EndedIncarnation) → HasReadEndAs scenario s k i e → HasReadEndAs scenario s k j f
      → installed_as scenario s i e k ≡ installed_as scenario s j f k
  pub late : (i : ℕ) (e : EndedIncarnation) → IsIncarnation scenario s i e → k * scenario.params.cycle < e.incarnation.from
      → installed_as scenario s i e k ≡ None

-- incarnations whose logs have a view of one number have equal members in it
abbrev pub EachHasOneView : ScenarioParts → RunState → Type 0
EachHasOneView scenario s =
    (i j : ℕ) (e f : EndedIncarnation) → IsIncarnation scenario s i e → IsIncarnation scenario s j f
    → (number : ℕ) (here there : ℕ) (members others : Nodes)
    → Contains (log_as scenario s i e) (View here number members) → Contains (log_as scenario s j f) (View there number others) → members ≡ others
