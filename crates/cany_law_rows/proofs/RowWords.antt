-- What the worked rows of the laws are written with: small runs, and what each incarnation of their
-- nodes came to.
use Rattle.std.specs.Prelude.{ℕ, zero, suc, ◌-◌, ◌==◌, ◌++◌, Bool, if◌then◌else◌, List, [], ◌∷◌, Option, None, map, take}
use Rattle.std.specs.List.{range_with_len}
use Rattle.std.proofs.Common.{◌≡◌, ap}
use Rattle.cany_base.specs.declared.format.Format.TheVariants.{One}
use Rattle.cany_base.specs.declared.log_entry.LogEntry.{LogEntry}
use Rattle.cany_base.specs.declared.log_entry.LogEntry.TheVariants.{Deliver}
use Rattle.cany_base.specs.declared.message.MsgKey.{MsgKey}
use Rattle.cany_base.specs.declared.message.NodeAsk.{NodeAsk}
use Rattle.cany_base.specs.declared.message.SendAsk.{SendAsk}
use Rattle.cany_base.specs.declared.message.Service.{Service}
use Rattle.cany_base.specs.declared.rule.Rule.{Rule}
use Rattle.cany_base.specs.declared.step.Step.{Step}
use Rattle.cany_base.specs.declared.step.Step.TheVariants.{Slot, Turn}
use Rattle.cany_base.specs.Nodes.{Nodes}
use Rattle.cany_base.specs.Params.{default_parameters}
use Rattle.cany_base.specs.Scenario.{ScenarioParts}
use Rattle.cany_model.proofs.RowWords.{run_words, scenario_of, after_rounds, after_rounds_is}
use Rattle.cany_model.specs.declared.breaks.Break.{Break}
use Rattle.cany_model.specs.Bus.History.{ended_history}
use Rattle.cany_model.specs.Bus.State.{EndedIncarnation, RunState, opening}
use Rattle.cany_model.specs.Promises.Hypothesis.{first_break}
use Rattle.cany_model.specs.Promises.OneView.{installed_of}
use Rattle.cany_model.specs.Promises.Order.{order_by}
use Rattle.cany_model.specs.Promises.Settled.{is_settled}
use Rattle.cany_model.specs.Rules.Messages.{Message}
use Rattle.cany_model.specs.Runs.Incarnations.{incarnation_of, incarnations}
use Rattle.cany_model.specs.Runs.RoundRobin.{round_robin}
use Rattle.cany_model.specs.Runs.Run.{run}
use Rattle.cany_laws.specs.Logs.{log_as}
-- ---- scenarios

pub use Rattle.cany_model.proofs.RowWords.{set}
unfoldable pub use Rattle.cany_model.proofs.RowWords.{ask as again, send, slot_rule}

-- So many nodes, all members, at lag 0, with one omission and two errors. The other parameters are
-- the least: of two nodes a cycle has 38 slots and ends in its slot 19, and a member has failed
-- after 39 slots without life; of three these are 72, 36 and 73.
unfoldable pub two : ℕ → List SendAsk → List Rule → List NodeAsk → ScenarioParts
unfolding scenario_of
two slots sends rules restarts = scenario_of (default_parameters 2 slots) 3 sends rules restarts

unfoldable pub three_by : (silence confirm : ℕ) → ℕ → List SendAsk → List Rule → List NodeAsk → ScenarioParts
unfolding scenario_of
three_by silence confirm slots sends rules restarts =
    scenario_of (record (default_parameters 3 slots) { silence = silence; confirm = confirm }) 7 sends rules restarts

unfoldable pub three : ℕ → List SendAsk → List Rule → List NodeAsk → ScenarioParts
unfolding three_by
three = three_by 73 10

-- the same three with a lag of one slot
unfoldable pub three_at_lag_1 : ℕ → List SendAsk → List Rule → ScenarioParts
unfolding three
three_at_lag_1 slots sends rules =
    let sc = three slots sends rules [] in
    record sc { params = record { format = One; nodes = 3; lag = 1; omit = 1; errors = 2; bound = 75; cycle = 152; life = 76; silence = 153; confirm = 10; slots = slots } }

-- Two nodes, of which these are members, with cycles of this length and with these JOINs, stops and
-- restarts. A cycle ends 19 slots after its start.
unfoldable pub joining : (slots cycle : ℕ) → Nodes → List NodeAsk → List Rule → List NodeAsk → ScenarioParts
unfolding two
joining slots cycle members joins rules restarts =
    let sc = two slots [] rules restarts in
    record sc { params = record sc.params { cycle = cycle }; members = members; joins = joins }

-- ---- journals, as reports have them: a point is a slot, and a digit the turn of that node

unfoldable pub steps : List ℕ → List Step
steps [] = []
steps (c ∷ cs) = (if c == 46 then Slot else Turn (c - 48)) ∷ steps cs

unfoldable pub repeated : ℕ → List ℕ → List ℕ
repeated zero cs = []
repeated (suc n) cs = cs ++ repeated n cs

-- ---- what is found

-- an incarnation: since which slot it takes part, the next slot that it would read, and its log
pub record Lived : Type 0 where
  pub from : ℕ
  pub next : ℕ
  pub log : List LogEntry

-- what was asked of each incarnation of each node, by node and the newest first
abbrev pub of_nodes : {A : Type 0} → (RunState → ℕ → EndedIncarnation → A) → ℕ → RunState → List (List A)
of_nodes ask nodes s = map (λ i. map (ask s i) (incarnations s i)) (range_with_len 0 nodes)

abbrev pub lived_in : ScenarioParts → RunState → ℕ → EndedIncarnation → Lived
lived_in sc s i e = record { from = e.incarnation.from; next = e.next; log = log_as sc s i e }

-- Of the run of a scenario: where it leaves the hypothesis, and what was asked of it. So all rows
-- of a run are one, and it is computed once.
pub record Seen (A : Type 0) : Type 0 where
  pub broken : Option Break
  pub seen : A

-- what computes a run is opened here, once for all rows
unfoldable pub seen_in : {A : Type 0} → (RunState → A) → ScenarioParts → RunState → Seen A
unfolding run_words ended_history incarnation_of installed_of order_by
seen_in ask sc s = record { broken = first_break sc.params s.trace; seen = ask s }

-- by a journal
unfoldable pub seen_by : {A : Type 0} → (RunState → A) → ScenarioParts → List Step → Seen A
seen_by ask sc journal = seen_in ask sc (run sc journal)

-- by the round robin journal
unfoldable pub seen_of : {A : Type 0} → (RunState → A) → ScenarioParts → Seen A
unfolding seen_in after_rounds
seen_of ask sc = seen_in ask sc (after_rounds sc sc.params.slots (opening sc.params.nodes))

pub seen_of_is : {A : Type 0} (ask : RunState → A) (sc : ScenarioParts) → seen_of ask sc ≡ seen_by ask sc (round_robin sc)
unfolding seen_of seen_by
seen_of_is ask sc = ap (seen_in ask sc) (after_rounds_is sc sc.params.slots (opening sc.params.nodes))

-- of a run within the hypothesis
abbrev pub within : {A : Type 0} → A → Seen A
within seen = record { broken = None; seen = seen }

-- what each incarnation of the nodes came to
unfoldable pub lives_of : ScenarioParts → Seen (List (List Lived))
unfolding seen_of
lives_of sc = seen_of (of_nodes (lived_in sc) sc.params.nodes) sc

-- whether a message is settled after so many steps of it
unfoldable pub settled_after : ℕ → ScenarioParts → Message → Bool
unfolding seen_in
settled_after n sc m = is_settled sc (run sc (take n (round_robin sc))) m

abbrev pub lived : ℕ → ℕ → List LogEntry → Lived
lived from next log = record { from = from; next = next; log = log }

abbrev pub delivers : ℕ → Service → ℕ → ℕ → List ℕ → LogEntry
delivers slot by origin seq payload = Deliver slot by (record { origin = origin; seq = seq }) payload

abbrev pub key : ℕ → ℕ → MsgKey
key origin seq = record { origin = origin; seq = seq }

unfoldable pub row : Unit {0}
unfolding seen_in seen_by seen_of lives_of settled_after send slot_rule again two joining three_by three three_at_lag_1 steps repeated
row = tt
