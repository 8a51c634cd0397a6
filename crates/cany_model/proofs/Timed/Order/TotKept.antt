-- What is kept of TOTCAN in every run without a Silent slot: of the trace, and of each running node
-- by what its incarnation sees. Slots are told by their ages, 0 for the newest.
use Rattle.std.specs.Prelude.{◌≡◌, ℕ, ◌+◌, ◌<◌, ◌≤◌, ◌⊎◌, true, false, List, [], length, slice_index_or}
use Rattle.std.specs.List.{AllByRecursion}
use Rattle.cany_base.specs.declared.message.MsgKey.{MsgKey}
use Rattle.cany_base.specs.declared.message.Service.TheVariants as service
use Rattle.cany_base.specs.declared.notice.NoticeKind.{NoticeKind}
use Rattle.cany_base.specs.declared.slot_note.SlotNote.{SlotNote}
use Rattle.cany_base.specs.Frame.{FrameParts}
use Rattle.cany_base.specs.Scenario.{ScenarioParts}
use Rattle.cany_model.specs.Bus.Frames.{Identity}
use Rattle.cany_model.specs.Bus.State.{NodeState, RunState}
use Rattle.cany_model.specs.Bus.Waiting.{waits}
use Rattle.cany_model.specs.Promises.Hypothesis.{is_partial_slot_of, is_silent_slot}
use Rattle.cany_model.specs.Rules.Backlog.{asked, backlog}
use Rattle.cany_model.specs.Rules.Messages.{Message, accept_of_key, data_id}
use Rattle.cany_model.specs.Rules.Totcan.{tot_of_key}
use Rattle.cany_model.specs.Rules.Turn.{scenario_for}
use Rattle.cany_model.proofs.Bus.States.{note_at}
use Rattle.cany_model.proofs.Promises.EachNode.{EachRunning}
use Rattle.cany_model.proofs.Timed.Common.Ages.{Carried, Clean, Done, Gets, Sends, past}

abbrev pub NoSilent : List SlotNote → Type 0
NoSilent trace = AllByRecursion (λ note. is_silent_slot note ≡ false) trace

-- no message stands past the end of the backlog
abbrev pub no_message : Message
no_message = record { slot = 0; origin = 0; seq = 0; service = service.Ed; payload = [] }

-- node i has asked for the message, at a place of its backlog
pub record IsPlanned (scenario : ScenarioParts) (i : ℕ) (past : List NoticeKind) (key : MsgKey) : Type 0 where
  pub place : ℕ
  pub asked_for : place < asked scenario i past
  pub there : place < length (backlog scenario i past)
  pub is : data_id (slice_index_or (backlog scenario i past) place no_message) ≡ tot_of_key key

-- Of the trace of a run, of all incarnations.
pub record TraceKept (scenario : ScenarioParts) (T : List SlotNote) : Type 0 where
  -- data frames of one origin that were carried Clean lie more than bound + lag slots apart
  pub spaced : (p q : ℕ) (m k : MsgKey) → p < q → Done T p m → Done T q k → m.origin ≡ k.origin
      → p + (scenario.params.bound + scenario.params.lag) < q
  -- a data frame that was carried Clean is never carried after that
  pub data_first : (p q : ℕ) (m : MsgKey) → p < q → Carried T p (tot_of_key m) → Done T q m → ⊥
  -- a frame that accepts is carried at most bound + lag slots after the data frame was carried
  -- Clean
  pub accept_after : (p : ℕ) (m : MsgKey) → Carried T p (accept_of_key m)
      → (q : ℕ) × (p < q) × (q ≤ p + (scenario.params.bound + scenario.params.lag)) × Done T q m
  pub origin_there : (p : ℕ) (m : MsgKey) → Done T p m → m.origin < scenario.params.nodes
  pub sender : (p : ℕ) (x : Identity) → Clean T p x → (i : ℕ) × (i < scenario.params.nodes) × Sends i T p x
  pub got_from : (i p : ℕ) (x : Identity) → Gets i T p x → Clean T p x ⊎ (is_partial_slot_of x (note_at T p) ≡ true)
  pub own_data : (i p : ℕ) (m : MsgKey) → Sends i T p (tot_of_key m) → m.origin ≡ i
  pub no_own_got : (p : ℕ) (m : MsgKey) → Gets m.origin T p (tot_of_key m) → ⊥
  -- no node sends a frame that accepts twice, whatever its incarnations
  pub sent_once : (i p q : ℕ) (m : MsgKey) → p < q → Sends i T p (accept_of_key m) → Sends i T q (accept_of_key m) → ⊥

-- why node i sends a frame that accepts: it has read its own transmission of the data frame, or a
-- copy of the one that accepts
abbrev pub Cause : ℕ → List SlotNote → ℕ → MsgKey → Type 0
Cause i T u m =
    ((m.origin ≡ i) × ((q : ℕ) × (u ≤ q) × Sends i T q (tot_of_key m)))
    ⊎ ((m.origin ≡ i → ⊥) × ((q : ℕ) × (u ≤ q) × Gets i T q (accept_of_key m)))

-- Of a running node that waits with W, has not read the u newest slots, and whose incarnation sees
-- the trace T and follows the scenario.
pub record NodeKept (scenario : ScenarioParts) (i : ℕ) (T : List SlotNote) (u : ℕ) (W : List FrameParts) : Type 0 where
  pub heard : (p : ℕ) (x : Identity) → Clean T p x → Gets i T p x ⊎ Sends i T p x
  pub data_mine : (m : MsgKey) → waits (tot_of_key m) W ≡ true → m.origin ≡ i
  pub data_far : (m : MsgKey) (q : ℕ) (k : MsgKey) → waits (tot_of_key m) W ≡ true → Done T q k → k.origin ≡ i
      → scenario.params.bound + scenario.params.lag ≤ q
  pub data_new : (m : MsgKey) (q : ℕ) → waits (tot_of_key m) W ≡ true → Done T q m → ⊥
  pub data_one : (m k : MsgKey) → waits (tot_of_key m) W ≡ true → waits (tot_of_key k) W ≡ true → m ≡ k
  pub data_asked : (m : MsgKey) → (waits (tot_of_key m) W ≡ true) ⊎ ((q : ℕ) × Done T q m × (m.origin ≡ i)) → IsPlanned scenario i (past i T u) m
  pub accept_age : (m : MsgKey) → waits (accept_of_key m) W ≡ true → (q : ℕ) × Done T q m × (q < u + scenario.params.bound)
  pub accept_cause : (m : MsgKey) → (waits (accept_of_key m) W ≡ true) ⊎ ((p : ℕ) × Sends i T p (accept_of_key m)) → Cause i T u m
  pub accept_once : (m : MsgKey) (p : ℕ) → waits (accept_of_key m) W ≡ true → Sends i T p (accept_of_key m) → ⊥
  -- where node i is the origin: it waits with the frame that accepts so long as it is carried,
  -- unless it has sent it, or has read the closing
  pub origin_waits : (m : MsgKey) (p : ℕ) → m.origin ≡ i → Carried T p (accept_of_key m)
      → (waits (accept_of_key m) W ≡ true) ⊎ (((q : ℕ) × Sends i T q (accept_of_key m)) ⊎ ((q : ℕ) × Done T q m × (u + scenario.params.bound ≤ q)))
  -- and a copy of it that it gets comes after its own, or after the message closed
  pub origin_sends : (m : MsgKey) (p : ℕ) → m.origin ≡ i → Gets i T p (accept_of_key m)
      → ((q : ℕ) × (p < q) × Sends i T q (accept_of_key m)) ⊎ ((q : ℕ) × (p + scenario.params.bound < q) × Done T q m)

abbrev pub KeptNode : ScenarioParts → List SlotNote → ℕ → NodeState → Type 0
KeptNode scenario T i node = NodeKept (scenario_for scenario node.present) i T node.unread node.waiting

-- of a run without a Silent slot
pub record TotKept (scenario : ScenarioParts) (s : RunState) : Type 0 where
  pub trace : TraceKept scenario s.trace
  pub nodes : EachRunning (KeptNode scenario) s
