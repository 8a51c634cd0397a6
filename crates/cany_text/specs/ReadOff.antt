-- What can be read off a report: two runs with equal reports agree on it.
use Rattle.std.specs.Prelude.{◌≡◌, ◌<◌, ◌≤◌, ℕ, List, All}
use Rattle.cany_base.specs.declared.step.Step.{Step}
use Rattle.cany_base.specs.Scenario.{ScenarioParts}
use Rattle.cany_model.specs.Runs.Incarnations.{log_of}
use Rattle.cany_model.specs.Runs.Run.{run}
use Rattle.cany_model.specs.Bus.State.{RunState, node_at}

-- The payloads of the scripted sends are bytes, as those of every program are: a report has two
-- digits for each byte.
abbrev pub SendsBytes : ScenarioParts → Type 0
SendsBytes scenario = All (λ send. All (λ b. b < 256) send.payload) scenario.sends

-- the number of the incarnation that a node came to
abbrev pub last_incarnation : RunState → ℕ → ℕ
last_incarnation s i = (node_at s.nodes i).present.number

-- The two runs have the same parameters and the same journal, each of their nodes came to the same
-- incarnation, and each incarnation has the same log: the same messages delivered in the same
-- slots, the same failure signs and the same views.
pub record AgreeOnWhatIsTold (a : ScenarioParts) (j : List Step) (b : ScenarioParts) (k : List Step) : Type 0 where
  pub parameters : a.params ≡ b.params
  pub journals : j ≡ k
  pub incarnations : (i : ℕ) → i < a.params.nodes → last_incarnation (run a j) i ≡ last_incarnation (run b k) i
  pub logs : SendsBytes a → SendsBytes b → (i number : ℕ) → i < a.params.nodes → number ≤ last_incarnation (run a j) i
      → log_of a (run a j) i number ≡ log_of b (run b k) i number
