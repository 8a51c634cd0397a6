-- That nodes have one view of the site.
use Rattle.std.specs.Prelude.{◌≡◌, ℕ, ◌+◌, ◌*◌, ◌<◌, ◌==◌, if◌then◌else◌, List, [], ◌∷◌, length, Contains, Option, None}
use Rattle.cany_base.specs.declared.log_entry.LogEntry.TheVariants.{View}
use Rattle.cany_base.specs.declared.notice.NoticeKind.{NoticeKind}
use Rattle.cany_base.specs.Nodes.{Nodes}
use Rattle.cany_base.specs.Scenario.{ScenarioParts}
use Rattle.cany_model.specs.Bus.History.{history}
use Rattle.cany_model.specs.Bus.State.{RunState, node_at, reads}
use Rattle.cany_model.specs.Promises.Settled.{IsCorrect, IsCorrectFrom}
use Rattle.cany_model.specs.Rules.Log.{log}
use Rattle.cany_model.specs.Rules.KnowledgeOf.{ended_in, knowledge_of}
use Rattle.cany_model.specs.Rules.Turn.{scenario_at}

-- the vector that node i installs at the end of cycle k, if it has one there
unfoldable pub installed_of : ScenarioParts → (i k : ℕ) → List NoticeKind → Option Nodes
installed_of scenario i k [] = None
installed_of scenario i k (notice ∷ before) =
    if length before == k * scenario.params.cycle + scenario.params.bound
    then ended_in scenario.params (length before) notice (knowledge_of scenario i before)
    else installed_of scenario i k before

abbrev pub installed : ScenarioParts → RunState → (i k : ℕ) → Option Nodes
installed scenario s i k = installed_of (scenario_at scenario s i) i k (history i s)

-- a correct node that takes part since cycle k starts and has read its end
pub record HasReadEnd (scenario : ScenarioParts) (s : RunState) (k i : ℕ) : Type 0 where
  pub correct : IsCorrectFrom scenario s (k * scenario.params.cycle) i
  pub read : k * scenario.params.cycle + scenario.params.bound < reads s i

-- such nodes install one vector, or none of them has one; and a correct node that takes part only
-- since later has none
pub record InstallsOneVector (scenario : ScenarioParts) (s : RunState) (k : ℕ) : Type 0 where
  pub alike : (i j : ℕ) → HasReadEnd scenario s k i → HasReadEnd scenario s k j → installed scenario s i k ≡ installed scenario s j k
  pub late : (i : ℕ) → IsCorrect scenario s i → k * scenario.params.cycle < (node_at s.nodes i).present.from → installed scenario s i k ≡ None

-- correct nodes whose logs have a view of one number have equal members in it
abbrev pub HasOneView : ScenarioParts → RunState → Type 0
HasOneView scenario s =
    (i j : ℕ) → IsCorrect scenario s i → IsCorrect scenario s j → (number : ℕ) (here there : ℕ) (members others : Nodes)
    → Contains (log scenario s i) (View here number members) → Contains (log scenario s j) (View there number others) → members ≡ others
