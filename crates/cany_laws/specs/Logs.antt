-- The incarnations of the nodes of the bus, what each has read, and its log.
use Rattle.std.specs.Prelude.{ℕ, ◌+◌, ◌-◌, ◌<◌, ◌≤◌, List, Contains, count_by, drop}
use Rattle.cany_base.specs.declared.log_entry.LogEntry.{LogEntry}
use Rattle.cany_base.specs.declared.message.MsgKey.{MsgKey}
use Rattle.cany_base.specs.declared.notice.NoticeKind.{NoticeKind}
use Rattle.cany_base.specs.Scenario.{ScenarioParts}
use Rattle.cany_model.specs.Bus.History.{ended_history}
use Rattle.cany_model.specs.Bus.State.{EndedIncarnation, RunState, node_at, reads}
use Rattle.cany_model.specs.Promises.Entries.{delivers_key}
use Rattle.cany_model.specs.Promises.Safe.{IsSound}
use Rattle.cany_model.specs.Rules.Log.{log_from}
use Rattle.cany_model.specs.Rules.Turn.{scenario_for}
use Rattle.cany_model.specs.Runs.Incarnations.{incarnations, log_of}

-- An incarnation of node i: an earlier one as it was when the next one began, or the present one,
-- as if it ended now. It may run or have stopped.
pub record IsIncarnation (scenario : ScenarioParts) (s : RunState) (i : ℕ) (e : EndedIncarnation) : Type 0 where
  pub there : i < scenario.params.nodes
  pub stands : Contains (incarnations s i) e

-- an incarnation that takes part since slot c, and has read slot c + bound
pub record HasReadClosingAs (scenario : ScenarioParts) (s : RunState) (c i : ℕ) (e : EndedIncarnation) : Type 0 where
  pub is : IsIncarnation scenario s i e
  pub took_part : e.incarnation.from ≤ c
  pub read : c + scenario.params.bound < e.next

-- the present incarnation of node i, as if it ended now
abbrev pub present_of : RunState → ℕ → EndedIncarnation
present_of s i = record { incarnation = (node_at s.nodes i).present; next = reads s i; stopped = (node_at s.nodes i).stopped }

-- all that an incarnation of node i has read, newest first
abbrev pub past_of : RunState → ℕ → EndedIncarnation → List NoticeKind
past_of s i e = ended_history i s.trace e

-- what the incarnation had read after its turn of a slot, where it has read that slot
abbrev pub past_to : ℕ → RunState → ℕ → EndedIncarnation → List NoticeKind
past_to slot s i e = drop (e.next - (slot + 1)) (past_of s i e)

-- the scenario as an incarnation follows it
abbrev pub followed_by : ScenarioParts → EndedIncarnation → ScenarioParts
followed_by scenario e = scenario_for scenario e.incarnation

-- the log of an incarnation of node i
abbrev pub log_as : ScenarioParts → RunState → ℕ → EndedIncarnation → List LogEntry
log_as scenario s i e = log_from (followed_by scenario e) i (past_of s i e)

-- ---- integrity

-- no message twice or unsent in the log of an incarnation, which a number names, no failure of a
-- node that is not there, and in each view the number of its cycle
pub record EachLogIsIntegral (scenario : ScenarioParts) (s : RunState) : Type 0 where
  pub once : (i number : ℕ) → i < scenario.params.nodes → (key : MsgKey) → count_by (delivers_key key) (log_of scenario s i number) ≤ 1
  pub sent : (i number : ℕ) → i < scenario.params.nodes → (entry : LogEntry) → Contains (log_of scenario s i number) entry → IsSound scenario s entry
