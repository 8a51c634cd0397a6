-- What a node knows of another one that it does not hear.
use Rattle.std.specs.Prelude.{◌≡◌, ℕ, ◌+◌, ◌-◌, ◌*◌, ◌<◌, ◌≤◌, ◌==◌, ◌&&◌, ◌⊎◌, Bool, true, false, take, Some}
use Rattle.std.specs.List.{list_any}
use Rattle.cany_base.specs.declared.notice.NoticeKind.{NoticeKind}
use Rattle.cany_base.specs.declared.notice.NoticeKind.TheVariants.{Idle, Got, Sent, Bad}
use Rattle.cany_base.specs.Cycles.{cycle_of}
use Rattle.cany_base.specs.Nodes.{Nodes, has}
use Rattle.cany_base.specs.Scenario.{ScenarioParts}
use Rattle.cany_model.specs.Bus.State.{EndedIncarnation, RunState}
use Rattle.cany_model.specs.Rules.Knowledge.{hears_life, knows, sign_in}
use Rattle.cany_laws.specs.Logs.{IsIncarnation, past_to}
use Rattle.cany_laws.specs.Membership.{knowledge_as, members_as}
use Rattle.cany_laws.specs.Views.{installed_as}

-- An incarnation of node i had another node r in its view after each of its turns of the slots from
-- t on and before slot u, and heard no life of it in the slots after t and up to u, which it has
-- read.
pub record HearsNothingOf (scenario : ScenarioParts) (s : RunState) (i : ℕ) (e : EndedIncarnation) (r t u : ℕ) : Type 0 where
  pub is : IsIncarnation scenario s i e
  pub there : r < scenario.params.nodes
  pub other : r ≡ i → ⊥
  pub later : t < u
  pub read : u < e.next
  pub member : (slot : ℕ) → t ≤ slot → slot < u → has (members_as scenario s slot i e) r ≡ true
  pub nothing : list_any (hears_life r) (take (u - t) (past_to u s i e)) ≡ false

-- node r has failed at it after its turn of slot u
abbrev pub HasFailedBy : ScenarioParts → RunState → (u i : ℕ) → EndedIncarnation → ℕ → Type 0
HasFailedBy scenario s u i e r = has (knowledge_as scenario s u i e).failed r ≡ true

-- After the silence it has failed, unless its sign of the cycle of slot u was known by the turn of
-- slot t: a sign counts once. From the start of the next cycle on it has failed in any case.
pub record IsDetected (scenario : ScenarioParts) (s : RunState) (i : ℕ) (e : EndedIncarnation) (r t u : ℕ) : Type 0 where
  pub failed : HasFailedBy scenario s u i e r ⊎ (knows (sign_in scenario.params u r) (knowledge_as scenario s t i e) ≡ true)
  pub after_start : t < cycle_of scenario.params u * scenario.params.cycle → HasFailedBy scenario s u i e r

-- ---- a cycle that starts without a node

-- An incarnation of node i has read cycle k to its end. At its turn of the slot in which the cycle
-- starts it stands in its own view, and so does r, and r has failed there.
pub record FailedAtStart (scenario : ScenarioParts) (s : RunState) (r k i : ℕ) (e : EndedIncarnation) : Type 0 where
  pub is : IsIncarnation scenario s i e
  pub some : 0 < k
  pub read : k * scenario.params.cycle + scenario.params.bound < e.next
  pub own : has (members_as scenario s (k * scenario.params.cycle) i e) i ≡ true
  pub member : has (members_as scenario s (k * scenario.params.cycle) i e) r ≡ true
  pub failed : HasFailedBy scenario s (k * scenario.params.cycle) i e r

-- no incarnation, of whatever node, installs a vector with r in the cycle
abbrev pub IsLeftOut : ScenarioParts → RunState → (r k : ℕ) → Type 0
IsLeftOut scenario s r k =
    (j : ℕ) (f : EndedIncarnation) → IsIncarnation scenario s j f → (v : Nodes) → installed_as scenario s j f k ≡ Some v → has v r ≡ false

-- An incarnation of node i has read cycle k to its end. It stood in its own view before its turn of
-- the slot in which the cycle starts, had r in its view in as many slots before that one as the
-- silence has, and heard no life of r in them, but for the first, nor in that slot itself.
pub record WasSilentAtStart (scenario : ScenarioParts) (s : RunState) (r k i : ℕ) (e : EndedIncarnation) : Type 0 where
  pub some : 0 < k
  pub enough : scenario.params.silence ≤ k * scenario.params.cycle
  pub heard : HearsNothingOf scenario s i e r (k * scenario.params.cycle - scenario.params.silence) (k * scenario.params.cycle)
  pub own : has (members_as scenario s (k * scenario.params.cycle - 1) i e) i ≡ true
  pub read_end : k * scenario.params.cycle + scenario.params.bound < e.next
