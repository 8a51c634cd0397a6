-- The one order of TOTCAN, and the logs of all incarnations.
use Rattle.std.specs.Prelude.{◌≡◌, ℕ, ◌||◌, ◌++◌, Bool, List, filter}
use Rattle.cany_base.specs.declared.message.MsgKey.{MsgKey}
use Rattle.cany_base.specs.Scenario.{ScenarioParts}
use Rattle.cany_model.specs.Bus.State.{EndedIncarnation, RunState}
use Rattle.cany_model.specs.Promises.Order.{Content, is_accepted_by_some, order, order_by, tot_deliveries}
use Rattle.cany_model.specs.Rules.Totcan.{is_accepted}
use Rattle.cany_laws.specs.Logs.{IsIncarnation, log_as, past_of}

-- the second list begins with the first
abbrev pub IsPrefixOf : List Content → List Content → Type 0
IsPrefixOf first all = (rest : List Content) × (all ≡ first ++ rest)

-- whether an incarnation of node i has accepted the message, or a running node has by now
abbrev pub is_accepted_by_it_or_some : ScenarioParts → RunState → (i : ℕ) → EndedIncarnation → MsgKey → Bool
is_accepted_by_it_or_some scenario s i e key =
    is_accepted scenario.params.bound i key (past_of s i e) || is_accepted_by_some scenario s key

-- what an incarnation of node i has delivered by TOTCAN
abbrev pub deliveries_as : ScenarioParts → RunState → (i : ℕ) → EndedIncarnation → List Content
deliveries_as scenario s i e = tot_deliveries (log_as scenario s i e)

-- of these, the messages that a running node has accepted by now
abbrev pub ordered_deliveries : ScenarioParts → RunState → (i : ℕ) → EndedIncarnation → List Content
ordered_deliveries scenario s i e = filter (λ c. is_accepted_by_some scenario s c.msg) (deliveries_as scenario s i e)

-- Of an incarnation of node i, from the first slot in which it takes part. Of what it has
-- delivered, the messages that a running node has accepted are a prefix of the order. All that it
-- has delivered is a prefix of the longer order, which also has what this incarnation has accepted.
pub record FollowsOrderAs (scenario : ScenarioParts) (s : RunState) (i : ℕ) (e : EndedIncarnation) : Type 0 where
  pub ordered : IsPrefixOf (ordered_deliveries scenario s i e) (order scenario s e.incarnation.from)
  pub whole : IsPrefixOf (deliveries_as scenario s i e) (order_by (is_accepted_by_it_or_some scenario s i e) e.incarnation.from s.trace)

abbrev pub EachFollowsOrder : ScenarioParts → RunState → Type 0
EachFollowsOrder scenario s = (i : ℕ) (e : EndedIncarnation) → IsIncarnation scenario s i e → FollowsOrderAs scenario s i e
