-- The views of all incarnations, slot by slot.
use Rattle.std.specs.Prelude.{◌≡◌, ℕ, ◌+◌, ◌*◌, ◌<◌, ◌≤◌, Some}
use Rattle.cany_base.specs.Nodes.{Nodes}
use Rattle.cany_base.specs.Scenario.{ScenarioParts}
use Rattle.cany_model.specs.Bus.State.{EndedIncarnation, RunState}
use Rattle.cany_model.specs.Rules.Knowledge.{Knowledge}
use Rattle.cany_model.specs.Rules.KnowledgeOf.{knowledge_of}
use Rattle.cany_laws.specs.Logs.{IsIncarnation, followed_by, past_to}
use Rattle.cany_laws.specs.Views.{installed_as}

-- what an incarnation of node i knew after its turn of slot t
abbrev pub knowledge_as : ScenarioParts → RunState → (t i : ℕ) → EndedIncarnation → Knowledge
knowledge_as scenario s t i e = knowledge_of (followed_by scenario e) i (past_to t s i e)

-- and its view
abbrev pub members_as : ScenarioParts → RunState → (t i : ℕ) → EndedIncarnation → Nodes
members_as scenario s t i e = (knowledge_as scenario s t i e).members

-- two incarnations have equal views after each slot from this one on that both have read
abbrev pub HaveEqualMembers : ScenarioParts → RunState → (since : ℕ) → (i : ℕ) → EndedIncarnation → (j : ℕ) → EndedIncarnation → Type 0
HaveEqualMembers scenario s since i e j f =
    (t : ℕ) → since ≤ t → t < e.next → t < f.next → members_as scenario s t i e ≡ members_as scenario s t j f

-- Any two incarnations have equal views from the end of a cycle on in which one of them installed a
-- vector, where both take part since that cycle started; and from slot 0 on, where both are those
-- of the opening.
pub record HasOneMembership (scenario : ScenarioParts) (s : RunState) : Type 0 where
  pub installed : (i j : ℕ) (e f : EndedIncarnation) → IsIncarnation scenario s i e → IsIncarnation scenario s j f
      → (k : ℕ) → e.incarnation.from ≤ k * scenario.params.cycle → f.incarnation.from ≤ k * scenario.params.cycle
      → (v : Nodes) → installed_as scenario s i e k ≡ Some v
      → HaveEqualMembers scenario s (k * scenario.params.cycle + scenario.params.bound) i e j f
  pub original : (i j : ℕ) (e f : EndedIncarnation) → IsIncarnation scenario s i e → IsIncarnation scenario s j f
      → e.incarnation.number ≡ 0 → f.incarnation.number ≡ 0 → HaveEqualMembers scenario s 0 i e j f
