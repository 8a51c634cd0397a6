-- Where data frames come from: each one that waits or was carried is that of a message, and its
-- origin sent it first.
use Rattle.std.specs.Prelude.{◌≡◌, ℕ, suc, ◌≤◌, true, false, List, ◌∷◌, Some, length, Contains, ◌⊎◌}
use Rattle.cany_base.specs.Limits.{most_nodes}
use Rattle.std.specs.List.{AllByRecursion}
use Rattle.std.proofs.Common.{sym, ap, ◌∙◌, inl, inr, arith}
use Rattle.std.proofs.lemmas.Bool.{false≢true}
use Rattle.cany_base.specs.declared.class.Class.{Class}
use Rattle.cany_base.specs.declared.notice.NoticeKind.TheVariants.{Got}
use Rattle.cany_base.specs.declared.slot_note.SlotNote.{SlotNote}
use Rattle.cany_base.specs.declared.step.Step.{Step}
use Rattle.cany_base.specs.Frame.{FrameParts}
use Rattle.cany_base.specs.Nodes.{has}
use Rattle.cany_base.specs.Scenario.{ScenarioParts}
use Rattle.cany_model.specs.Bus.History.{history}
use Rattle.cany_model.specs.Promises.Safe.{WasSent}
use Rattle.cany_model.specs.Rules.Messages.{Message, messages_of, data_frame}
use Rattle.cany_model.specs.Runs.Run.{run}
use Rattle.cany_model.specs.Bus.State.{RunState}
use Rattle.cany_model.specs.Rules.Turn.{scenario_at, turn_effects}
use Rattle.cany_model.proofs.Among.{Among, Among-weaker, Contains-cons, Contains-head, Contains-from_Among}
use Rattle.cany_model.proofs.Bus.Carried.{Has}
use Rattle.cany_model.proofs.Runs.FrameInvariants.{HoldsOfFrames, IsKeptByFrames, frames_alone, nothing_known, slot_of_note, turn_note}
use Rattle.cany_model.proofs.Runs.Runs.{IsOrderly}
use Rattle.cany_model.proofs.Runs.Steps.{MayTurn, next_notice}
use Rattle.cany_model.proofs.Rules.ProtocolFacts.{MayAsk, MayRequest, accepts, confirms, exchanges, lives, originates, relays, request_class, requests, signals, is_data}
use Rattle.cany_model.proofs.Rules.TurnFacts.{turn_only}
use Rattle.cany_model.proofs.Rules.Waits.{AsksOnly}

-- the frame is that of a message which its origin had sent by then
pub record IsSent (scenario : ScenarioParts) (trace : List SlotNote) (f : FrameParts) (slot : ℕ) : Type 0 where
  pub message : Message
  pub stands : Contains (messages_of scenario.sends) message
  pub is : data_frame message ≡ f
  pub sent : WasSent trace message slot

-- node i may wait with the frame: it is that of its own message, or of one that its origin has sent
pub record MayWait (scenario : ScenarioParts) (trace : List SlotNote) (i : ℕ) (f : FrameParts) : Type 0 where
  pub message : Message
  pub stands : Contains (messages_of scenario.sends) message
  pub is : data_frame message ≡ f
  pub why : (message.origin ≡ i) ⊎ WasSent trace message (length trace)

-- the frame, if it carries a message, may wait at node i
abbrev pub MayHold : ScenarioParts → List SlotNote → ℕ → FrameParts → Type 0
MayHold scenario trace i f = is_data f.class ≡ true → MayWait scenario trace i f

-- the frame, if it carries a message, was that of one that its origin had sent
abbrev pub WasData : ScenarioParts → List SlotNote → ℕ → FrameParts → Type 0
WasData scenario trace slot f = is_data f.class ≡ true → IsSent scenario trace f slot

abbrev pub IsSourced : ScenarioParts → RunState → Type 0
IsSourced scenario s = HoldsOfFrames (MayHold scenario) (WasData scenario) s

-- ---- a longer trace

pub sent_later : (note : SlotNote) (trace : List SlotNote) (m : Message) (early late : ℕ) → early ≤ late → WasSent trace m early → WasSent (note ∷ trace) m late
sent_later note trace m early late h w = record {
  note = w.note;
  stands = Contains-cons note w.note trace w.stands;
  by_then = omega (arith, w.by_then);
  frame = w.frame;
  sender = w.sender;
}

may_wait_later : (scenario : ScenarioParts) (note : SlotNote) (trace : List SlotNote) (i : ℕ) (f : FrameParts)
    → MayWait scenario trace i f → MayWait scenario (note ∷ trace) i f
may_wait_later scenario note trace i f w = record {
  message = w.message;
  stands = w.stands;
  is = w.is;
  why = elim w.why [ inl own ↦ inl own | inr sent ↦ inr (sent_later note trace w.message (length trace) (suc (length trace)) (omega arith) sent) ];
}

sent_then : (scenario : ScenarioParts) (note : SlotNote) (trace : List SlotNote) (f : FrameParts) (slot : ℕ)
    → IsSent scenario trace f slot → IsSent scenario (note ∷ trace) f slot
sent_then scenario note trace f slot w = record {
  message = w.message;
  stands = w.stands;
  is = w.is;
  sent = sent_later note trace w.message slot slot (omega arith) w.sent;
}

-- ---- a slot

-- the frame of a new note was offered by a node that may wait with it
sent_now : (scenario : ScenarioParts) (note : SlotNote) (trace : List SlotNote) (i : ℕ) (f : FrameParts) → note.slot ≡ length trace → note.frame ≡ Some f
    → has note.senders i ≡ true → MayWait scenario trace i f → IsSent scenario (note ∷ trace) f note.slot
sent_now scenario note trace i f number frame sender w = record {
  message = w.message;
  stands = w.stands;
  is = w.is;
  sent = elim w.why [
    | inl own ↦ record {
      note = note;
      stands = Contains-head note trace;
      by_then = omega arith;
      frame = frame ∙ ap (λ x. Some x) (sym w.is);
      sender = ap (λ k. has note.senders k) own ∙ sender;
    }
    | inr sent ↦ sent_later note trace w.message (length trace) note.slot (omega arith) sent
  ];
}

-- ---- a turn

-- a frame that was sent may wait anywhere
may_wait_sent : (scenario : ScenarioParts) (trace : List SlotNote) (i : ℕ) (f : FrameParts) (slot : ℕ) → slot ≤ length trace
    → IsSent scenario trace f slot → MayWait scenario trace i f
may_wait_sent scenario trace i f slot h w = record {
  message = w.message;
  stands = w.stands;
  is = w.is;
  why = inr (record { note = w.sent.note; stands = w.sent.stands; by_then = omega (arith, w.sent.by_then); frame = w.sent.frame; sender = w.sent.sender });
}

-- so may one that the node has got, with the notice of its turn
may_hold_got : (scenario : ScenarioParts) (s : RunState) (i : ℕ) (f : FrameParts) → IsOrderly scenario.params.nodes s → MayTurn s i → IsSourced scenario s
    → Among (λ n. n ≡ Got f) (next_notice s i ∷ history i s) → MayHold scenario s.trace i f
may_hold_got scenario s i f o may h got carries =
    may_wait_sent scenario s.trace i f note.0.slot (slot_of_note scenario.params.nodes s o note.0 note.1) (h.carried note.0 f note.1 note.2 carries)
  where
    note : (note : SlotNote) × Contains s.trace note × (note.frame ≡ Some f)
    note = turn_note scenario s i f may (o.unread i) (Among-weaker (λ n. n ≡ Got f) (Has f) (λ n e. inl e) (next_notice s i ∷ history i s) got)

-- what asks to join or to leave carries no message
request_carries_none : (scenario : ScenarioParts) (s : RunState) (i slot : ℕ) (c : Class)
    → MayRequest (scenario_at scenario s i) i (next_notice s i ∷ history i s) slot c → is_data c ≡ false
request_carries_none scenario s i slot c request = elim (request_class (scenario_at scenario s i) i (next_notice s i ∷ history i s) slot c request) [
  | inl join ↦ ap is_data join
  | inr leave ↦ ap is_data leave
]

may_hold_asked : (scenario : ScenarioParts) (s : RunState) (i : ℕ) → IsOrderly scenario.params.nodes s → MayTurn s i → IsSourced scenario s
    → AllByRecursion (AsksOnly (MayHold scenario s.trace i)) (turn_effects (scenario_at scenario s i) i (next_notice s i ∷ history i s))
may_hold_asked scenario s i o may h =
    turn_only (MayHold scenario s.trace i) (scenario_at scenario s i) i (next_notice s i ∷ history i s) (λ f. by_reason f)
  where
    by_reason : (f : FrameParts) → MayAsk (scenario_at scenario s i) i (next_notice s i ∷ history i s) f → MayHold scenario s.trace i f
    by_reason f (relays relayed got) = may_hold_got scenario s i f o may h got
    by_reason f (originates m is origin slot late frame) = λ carries.
        record { message = m; stands = Contains-from_Among (messages_of scenario.sends) m is; is = frame; why = inl origin }
    by_reason f (confirms g sent rel own frame) = λ carries. absurd (false≢true (ap (λ (x : FrameParts). is_data x.class) frame ∙ carries))
    by_reason f (accepts g sent tot own frame) = λ carries. absurd (false≢true (ap (λ (x : FrameParts). is_data x.class) frame ∙ carries))
    by_reason f (signals sign slot now known frame) = λ carries. absurd (false≢true (ap (λ (x : FrameParts). is_data x.class) frame ∙ carries))
    by_reason f (lives slot now due frame) = λ carries. absurd (false≢true (ap (λ (x : FrameParts). is_data x.class) frame ∙ carries))
    by_reason f (exchanges slot v sends frame) = λ carries.
        absurd (false≢true (ap (λ (x : FrameParts). is_data x.class) frame ∙ carries))
    by_reason f (requests slot c request frame) = λ carries.
        absurd (false≢true (sym (request_carries_none scenario s i slot c request)
        ∙ ap (λ (x : FrameParts). is_data x.class) frame ∙ carries))

-- ---- every run

sources_kept : (scenario : ScenarioParts) → IsKeptByFrames scenario nothing_known (MayHold scenario) (WasData scenario)
sources_kept scenario = record {
  waiting_later = λ note trace i f may carries. may_wait_later scenario note trace i f (may carries);
  carried_later = λ note trace slot f was carries. sent_then scenario note trace f slot (was carries);
  sent = λ note trace i f number frame sender may carries. sent_now scenario note trace i f number frame sender (may carries);
  asked = λ s i o may known h. may_hold_asked scenario s i o may h;
}

pub sourced : (scenario : ScenarioParts) (journal : List Step) → scenario.params.nodes ≤ most_nodes → IsSourced scenario (run scenario journal)
sourced scenario journal few = frames_alone scenario (MayHold scenario) (WasData scenario) (sources_kept scenario) journal few
