-- A quiet slot: no frame that accepts a message, no vector and no life sign is to be sent, nor will
-- an unread notice make a node ask for one of the first two. So whatever was to be agreed on by
-- such frames was sent before it.
use Rattle.std.specs.Prelude.{◌≡◌, ℕ, ◌+◌, ◌<◌, ◌≤◌, ◌||◌, Bool, true, false, List, Some, count_by, drop, map}
use Rattle.std.specs.List.{list_any, range_with_len}
use Rattle.cany_base.specs.declared.class.Class.{Class}
use Rattle.cany_base.specs.declared.class.Class.TheVariants as class
use Rattle.cany_base.specs.declared.step.Step.{Step}
use Rattle.cany_base.specs.Params.{Parameters, top_frames}
use Rattle.cany_base.specs.Scenario.{ScenarioParts}
use Rattle.cany_model.specs.Bus.Frames.{same_class}
use Rattle.cany_model.specs.Bus.History.{given, trace_for}
use Rattle.cany_model.specs.Runs.Incarnations.{incarnations}
use Rattle.cany_model.specs.Runs.Run.{run, slot_state}
use Rattle.cany_model.specs.Bus.State.{Incarnation, RunState, node_at, runs, slots_run}
use Rattle.cany_model.specs.Rules.Effect.{Effect, Ask, Withdraw, Enter}
use Rattle.cany_model.specs.Rules.Turn.{effects_for}

-- the classes whose frames win over all others
abbrev pub is_top : Class → Bool
is_top c = same_class c class.Accept || same_class c class.Rha || same_class c class.Els

-- whether an effect asks for a frame that accepts, or for a vector
abbrev pub asks_for_first_class : Effect → Bool
asks_for_first_class (Ask f) = same_class f.class class.Accept || same_class f.class class.Rha
asks_for_first_class (Withdraw x) = false
asks_for_first_class (Enter entry) = false

-- Whether an incarnation of node i asks for such a frame in its turn of the slot that so many newer
-- ones follow: also where the same turn withdraws it, and also where this incarnation has not read
-- that slot.
unfoldable pub asks_as : ScenarioParts → RunState → ℕ → Incarnation → ℕ → Bool
asks_as scenario s i inc age =
    list_any asks_for_first_class (effects_for inc.number scenario inc i (map (given i) (drop age (trace_for inc.number inc s.trace))))

-- the present one
abbrev pub asks_at : ScenarioParts → RunState → ℕ → ℕ → Bool
asks_at scenario s i age = asks_as scenario s i (node_at s.nodes i).present age

-- no running node waits with a frame of those classes, and none will ask for one but a life sign at
-- a notice that it has not read
pub record IsQuiet (scenario : ScenarioParts) (s : RunState) : Type 0 where
  pub waits : (i : ℕ) → runs (node_at s.nodes i) ≡ true → list_any (λ f. is_top f.class) (node_at s.nodes i).waiting ≡ false
  pub asks : (i : ℕ) → runs (node_at s.nodes i) ≡ true → (age : ℕ) → age < (node_at s.nodes i).unread → asks_at scenario s i age ≡ false

-- slot t was run in a quiet state
pub record WasQuiet (scenario : ScenarioParts) (journal : List Step) (t : ℕ) : Type 0 where
  pub state : RunState
  pub ran : slot_state scenario t journal ≡ Some state
  pub quiet : IsQuiet scenario state

-- of any `bound` consecutive slots that ran, one was run in a quiet state
abbrev pub HasQuietSlots : ScenarioParts → List Step → Type 0
HasQuietSlots scenario journal =
    (first : ℕ) → first + scenario.params.bound ≤ slots_run (run scenario journal)
    → (t : ℕ) × (first ≤ t) × (t < first + scenario.params.bound) × WasQuiet scenario journal t

-- ---- the slots that make a node ask

-- whether the notice of this age makes a node ask: each node counts, also one that has stopped,
-- with each of its incarnations
abbrev pub makes_ask : ScenarioParts → RunState → ℕ → Bool
makes_ask scenario s age =
    list_any (λ i. list_any (λ e. asks_as scenario s i e.incarnation age) (incarnations s i)) (range_with_len 0 scenario.params.nodes)

-- at most so many of a window of bound + lag slots do
abbrev pub most_asking : Parameters → ℕ
most_asking p = top_frames p.nodes + p.errors + p.nodes + 1

abbrev pub HasFewAskingSlots : ScenarioParts → RunState → Type 0
HasFewAskingSlots scenario s =
    (newest : ℕ) → count_by (makes_ask scenario s) (range_with_len newest (scenario.params.bound + scenario.params.lag)) ≤ most_asking scenario.params
