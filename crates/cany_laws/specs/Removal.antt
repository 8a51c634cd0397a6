-- A node that is heard no more, and has not asked lately to join.
use Rattle.std.specs.Prelude.{◌≡◌, ℕ, ◌+◌, ◌-◌, ◌*◌, ◌<◌, ◌≤◌, ◌==◌, ◌&&◌, Bool, true, false, take, Contains}
use Rattle.std.specs.List.{list_any}
use Rattle.cany_base.specs.declared.class.Class.TheVariants as class
use Rattle.cany_base.specs.declared.notice.NoticeKind.{NoticeKind}
use Rattle.cany_base.specs.declared.notice.NoticeKind.TheVariants.{Idle, Got, Sent, Bad}
use Rattle.cany_base.specs.declared.slot_note.SlotNote.{SlotNote}
use Rattle.cany_base.specs.Nodes.{has}
use Rattle.cany_base.specs.Params.{Parameters}
use Rattle.cany_base.specs.Scenario.{ScenarioParts}
use Rattle.cany_model.specs.Bus.Frames.{same_class}
use Rattle.cany_model.specs.Bus.History.{given}
use Rattle.cany_model.specs.Bus.State.{EndedIncarnation, RunState}
use Rattle.cany_model.specs.Rules.Knowledge.{hears_life}
use Rattle.cany_laws.specs.Logs.{IsIncarnation, past_to}
use Rattle.cany_laws.specs.Membership.{members_as}

-- whether the notice is that the node got a JOIN of node r
abbrev pub got_join : ℕ → NoticeKind → Bool
got_join r Idle = false
got_join r (Got f) = same_class f.class class.Join && f.node == r
got_join r (Sent f) = false
got_join r Bad = false

-- slot u comes after slot t - `cycle` - `bound`, if there is one
abbrev pub IsInStretchOf : Parameters → (t u : ℕ) → Type 0
IsInStretchOf p t u = t < u + (p.cycle + p.bound)

-- no node took a JOIN of node r from the slot
abbrev pub GaveNoJoin : ℕ → SlotNote → Type 0
GaveNoJoin r note = (j : ℕ) → got_join r (given j note) ≡ false

-- no slot of the stretch after slot t - `cycle` - `bound`, and up to slot `until`, carried a JOIN
-- of node r that some node took
abbrev pub NobodyGotJoin : ScenarioParts → RunState → (r t until : ℕ) → Type 0
NobodyGotJoin scenario s r t until =
    (note : SlotNote) → Contains s.trace note → IsInStretchOf scenario.params t note.slot → note.slot ≤ until → GaveNoJoin r note

-- An incarnation of node i has another node r in its view after its turn of slot t. Cycle k starts
-- a silence or more after slot t: before its turn of the slot in which it starts the incarnation
-- stands in its own view, and it has read the cycle to its end.
pub record HadItLongBefore (scenario : ScenarioParts) (s : RunState) (r t k i : ℕ) (e : EndedIncarnation) : Type 0 where
  pub is : IsIncarnation scenario s i e
  pub other : r ≡ i → ⊥
  pub late : t + scenario.params.silence ≤ k * scenario.params.cycle
  pub member : has (members_as scenario s t i e) r ≡ true
  pub own : has (members_as scenario s (k * scenario.params.cycle - 1) i e) i ≡ true
  pub read_end : k * scenario.params.cycle + scenario.params.bound < e.next

-- it hears no life of r in the slots after t and up to this one
abbrev pub HearsNoLifeOf : ScenarioParts → RunState → (r t until i : ℕ) → EndedIncarnation → Type 0
HearsNoLifeOf scenario s r t until i e = list_any (hears_life r) (take (until - t) (past_to until s i e)) ≡ false
