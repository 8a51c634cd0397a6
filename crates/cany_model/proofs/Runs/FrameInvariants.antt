-- How a property is proved of the frames of every run: of each that waits at a running node, and of
-- each that was carried.
use Rattle.std.specs.Prelude.{◌≡◌, ℕ, ◌<◌, ◌≤◌, true, List, ◌∷◌, Some, None, length, Contains}
use Rattle.cany_base.specs.Limits.{most_nodes}
use Rattle.std.specs.List.{AllByRecursion}
use Rattle.std.proofs.Common.{sym, ap, ◌∙◌, subst, inl, inr, arith}
use Rattle.std.proofs.lemmas.List.{get_or_default}
use Rattle.std.proofs.lemmas.List.Elements.{All-contains, All-from_recursion}
use Rattle.cany_base.specs.declared.notice.NoticeKind.{NoticeKind}
use Rattle.cany_base.specs.declared.slot_note.SlotNote.{SlotNote}
use Rattle.cany_base.specs.declared.step.Step.{Step}
use Rattle.cany_base.specs.Frame.{FrameParts}
use Rattle.cany_base.specs.Nodes.{has}
use Rattle.cany_base.specs.Scenario.{ScenarioParts}
use Rattle.cany_model.specs.Bus.History.{given, history, seen}
use Rattle.cany_model.specs.Bus.Restart.{after_restarts}
use Rattle.cany_model.specs.Runs.Run.{after_turn, run}
use Rattle.cany_model.specs.Bus.Slot.{FaultScript, script, slot_note_of, after_slot}
use Rattle.cany_model.specs.Bus.State.{Incarnation, RunState, opening, node_at, runs}
use Rattle.cany_model.specs.Rules.Turn.{scenario_at, turn_effects}
use Rattle.cany_model.proofs.Among.{Among, Among-from_Contains, Among-weaker, Among-which, Each-weaker, Contains-cons_cases, Contains-none}
use Rattle.cany_model.proofs.Bus.Carried.{Has, read_among, read_note}
use Rattle.cany_model.proofs.Bus.Notes.{note_of-slot, note_of-offered, waiting_sends}
use Rattle.cany_model.proofs.Bus.Restarts.{after_restarts-trace, restarts_or_stays}
use Rattle.cany_model.proofs.Runs.Runs.{IsKept, IsOrderly, along_run, opening_within}
use Rattle.cany_model.proofs.Bus.Seen.{Among-seen, history-is}
use Rattle.cany_model.proofs.Bus.States.{no_note, note_at, node_at-opening, runs_within}
use Rattle.cany_model.proofs.Runs.Steps.{MayTurn, next_notice, after_slot-trace, after_slot-waiting, running_before_slot, after_turn-trace, after_turn-node, after_turn-history, each_turned, Each-kept}
use Rattle.cany_model.proofs.Rules.Waits.{AsksOnly, Each-after}

-- what is said of a frame that waits at a node, and of one that a slot carried
abbrev pub OfWaiting : Type 1
OfWaiting = List SlotNote → ℕ → FrameParts → Type 0

abbrev pub OfCarried : Type 1
OfCarried = List SlotNote → ℕ → FrameParts → Type 0

pub record HoldsOfFrames (W : OfWaiting) (C : OfCarried) (s : RunState) : Type 0 where
  pub waiting : (i : ℕ) → runs (node_at s.nodes i) ≡ true → AllByRecursion (W s.trace i) (node_at s.nodes i).waiting
  pub carried : (note : SlotNote) (f : FrameParts) → Contains s.trace note → note.frame ≡ Some f → C s.trace note.slot f

-- what a proof of it has to show, where something else is known of each state
pub record IsKeptByFrames (scenario : ScenarioParts) (J : RunState → Type 0) (W : OfWaiting) (C : OfCarried) : Type 0 where
  -- it is kept as the trace grows
  pub waiting_later : (note : SlotNote) (trace : List SlotNote) (i : ℕ) (f : FrameParts) → W trace i f → W (note ∷ trace) i f
  pub carried_later : (note : SlotNote) (trace : List SlotNote) (slot : ℕ) (f : FrameParts) → C trace slot f → C (note ∷ trace) slot f
  -- a frame that waits may be carried, with the node among the senders
  pub sent : (note : SlotNote) (trace : List SlotNote) (i : ℕ) (f : FrameParts) → note.slot ≡ length trace → note.frame ≡ Some f
      → has note.senders i ≡ true → W trace i f → C (note ∷ trace) note.slot f
  -- and a frame that a turn asks for may wait
  pub asked : (s : RunState) (i : ℕ) → IsOrderly scenario.params.nodes s → MayTurn s i → J s → HoldsOfFrames W C s
      → AllByRecursion (AsksOnly (W s.trace i)) (turn_effects (scenario_at scenario s i) i (next_notice s i ∷ history i s))

-- ---- a slot

carried_slot : (scenario : ScenarioParts) (J : RunState → Type 0) (W : OfWaiting) (C : OfCarried) → IsKeptByFrames scenario J W C → (rules : FaultScript) (s : RunState) → length s.nodes ≤ most_nodes
    → HoldsOfFrames W C s → (note : SlotNote) (f : FrameParts) → Contains (slot_note_of rules s ∷ s.trace) note → note.frame ≡ Some f
    → C (slot_note_of rules s ∷ s.trace) note.slot f
carried_slot scenario J W C keeps rules s few h note f c frame =
    elim (Contains-cons_cases (slot_note_of rules s) note s.trace c) [
      | inl now ↦
          let frame' : (slot_note_of rules s).frame ≡ Some f = ap (λ n. n.frame) now ∙ frame in
          let offer = note_of-offered rules s f frame' in
          let below : offer.node < length s.nodes = runs_within s.nodes offer.node offer.running in
          let holds : W s.trace offer.node f =
          All-contains (W s.trace offer.node) (node_at s.nodes offer.node).waiting f
          (All-from_recursion (W s.trace offer.node) (node_at s.nodes offer.node).waiting (h.waiting offer.node offer.running)) offer.waits in
          subst (λ (n : SlotNote). C (slot_note_of rules s ∷ s.trace) n.slot f) now
          (keeps.sent (slot_note_of rules s) s.trace offer.node f (note_of-slot rules s) frame'
          (waiting_sends rules s f offer.node (omega (arith, below, few)) frame' offer.running offer.waits) holds)
      | inr before ↦ keeps.carried_later (slot_note_of rules s) s.trace note.slot f (h.carried note f before frame)
    ]

waiting_slot : (scenario : ScenarioParts) (J : RunState → Type 0) (W : OfWaiting) (C : OfCarried) → IsKeptByFrames scenario J W C → (rules : FaultScript) (s : RunState) → HoldsOfFrames W C s
    → (i : ℕ) → runs (node_at (after_slot rules s).nodes i) ≡ true
    → AllByRecursion (W (slot_note_of rules s ∷ s.trace) i) (node_at (after_slot rules s).nodes i).waiting
waiting_slot scenario J W C keeps rules s h i running =
    let ran = (running_before_slot rules s i running).0 in
    Each-weaker (W s.trace i) (W (slot_note_of rules s ∷ s.trace) i) (keeps.waiting_later (slot_note_of rules s) s.trace i)
    (node_at (after_slot rules s).nodes i).waiting
    (rw (after_slot-waiting rules s i ran) (Each-kept (W s.trace i) (given i (slot_note_of rules s)) (node_at s.nodes i).waiting (h.waiting i ran)))

holds_slot : (scenario : ScenarioParts) (J : RunState → Type 0) (W : OfWaiting) (C : OfCarried) → IsKeptByFrames scenario J W C → (rules : FaultScript) (s : RunState) → length s.nodes ≤ most_nodes
    → HoldsOfFrames W C s → HoldsOfFrames W C (after_slot rules s)
holds_slot scenario J W C keeps rules s few h =
    let at : slot_note_of rules s ∷ s.trace ≡ (after_slot rules s).trace = sym (after_slot-trace rules s) in
    record {
      waiting = λ i running. subst (λ trace. AllByRecursion (W trace i) (node_at (after_slot rules s).nodes i).waiting) at
          (waiting_slot scenario J W C keeps rules s h i running);
      carried = subst (λ trace. (note : SlotNote) (f : FrameParts) → Contains trace note → note.frame ≡ Some f → C trace note.slot f) at
          (carried_slot scenario J W C keeps rules s few h);
    }

-- ---- restarts

holds_restarts : (scenario : ScenarioParts) (W : OfWaiting) (C : OfCarried) (s : RunState) → HoldsOfFrames W C s → HoldsOfFrames W C (after_restarts scenario s)
holds_restarts scenario W C s h =
    let at : s.trace ≡ (after_restarts scenario s).trace = sym (after_restarts-trace scenario s) in
    record {
      waiting = λ i running. subst (λ trace. AllByRecursion (W trace i) (node_at (after_restarts scenario s).nodes i).waiting) at (waiting i running);
      carried = subst (λ trace. (note : SlotNote) (f : FrameParts) → Contains trace note → note.frame ≡ Some f → C trace note.slot f) at h.carried;
    }
  where
    waiting : (i : ℕ) → runs (node_at (after_restarts scenario s).nodes i) ≡ true
        → AllByRecursion (W s.trace i) (node_at (after_restarts scenario s).nodes i).waiting
    waiting i running = elim (restarts_or_stays scenario s i) [
      | inl new ↦ rw new.is tt
      | inr same ↦ rw same (h.waiting i (sym (ap (λ node. runs node) same) ∙ running))
    ]

-- ---- a turn

pub slot_of_note : (nodes : ℕ) (s : RunState) → IsOrderly nodes s → (note : SlotNote) → Contains s.trace note → note.slot ≤ length s.trace
slot_of_note nodes s o note c =
    let at : (note_at s.trace c.0).slot ≡ note.slot = ap (λ n. n.slot) (get_or_default s.trace c.0 no_note note c.1 ∙ c.2) in
    let number = o.numbered c.0 c.1 in
    omega (arith, at, number)

-- a slot that an incarnation sees to carry a frame carried it
pub seen_note : (trace : List SlotNote) (inc : Incarnation) (f : FrameParts) → (note : SlotNote) × Contains (seen inc trace) note × (note.frame ≡ Some f)
    → (note : SlotNote) × Contains trace note × (note.frame ≡ Some f)
seen_note trace inc f w =
    let P : SlotNote → Type 0 = λ note. note.frame ≡ Some f in
    Among-which P trace
    (Among-seen P (λ note none some. idle note none some) inc trace
    (Among-weaker (λ note. note ≡ w.0) P (λ note e. ap (λ (n : SlotNote). n.frame) e ∙ w.2) (seen inc trace) (Among-from_Contains (seen inc trace) w.0 w.1)))
  where
    idle : (note : SlotNote) → note.frame ≡ None → note.frame ≡ Some f → ⊥
    idle note a b = cc

-- what follows of the slots whose notices a node has read, and of no idle one
pub history_among : (s : RunState) (i : ℕ) (P : NoticeKind → Type 0) (Q : SlotNote → Type 0) → ((note : SlotNote) → note.frame ≡ None → Q note → ⊥)
    → ((note : SlotNote) → P (given i note) → Q note) → Among P (history i s) → Among Q s.trace
history_among s i P Q never follows h =
    let node = node_at s.nodes i in
    Among-seen Q never node.present s.trace
    (read_among i node.unread P Q follows (seen node.present s.trace) (subst (Among P) (history-is i s) h))

-- a frame that a node has read was carried
pub history_note : (s : RunState) (i : ℕ) (f : FrameParts) → Among (Has f) (history i s) → (note : SlotNote) × Contains s.trace note × (note.frame ≡ Some f)
history_note s i f h =
    let node = node_at s.nodes i in
    seen_note s.trace node.present f (read_note i node.unread (seen node.present s.trace) f (subst (Among (Has f)) (history-is i s) h))

-- so was one that it has read or reads in its turn
pub turn_note : (scenario : ScenarioParts) (s : RunState) (i : ℕ) (f : FrameParts) → MayTurn s i → (node_at s.nodes i).unread ≤ length s.trace
    → Among (Has f) (next_notice s i ∷ history i s) → (note : SlotNote) × Contains s.trace note × (note.frame ≡ Some f)
turn_note scenario s i f may short h =
    subst (λ trace. (note : SlotNote) × Contains trace note × (note.frame ≡ Some f)) (after_turn-trace scenario i s)
    (history_note (after_turn scenario i s) i f (subst (Among (Has f)) (sym (after_turn-history scenario i s may short)) h))

waiting_turn : (scenario : ScenarioParts) (J : RunState → Type 0) (W : OfWaiting) (C : OfCarried) → IsKeptByFrames scenario J W C → (s : RunState) (i : ℕ) → IsOrderly scenario.params.nodes s
    → MayTurn s i → J s → HoldsOfFrames W C s → AllByRecursion (W s.trace i) (node_at (after_turn scenario i s).nodes i).waiting
waiting_turn scenario J W C keeps s i o may known h =
    rw (after_turn-node scenario i s may (o.unread i))
    (Each-after (W s.trace i) (turn_effects (scenario_at scenario s i) i (next_notice s i ∷ history i s)) (node_at s.nodes i).waiting
    (keeps.asked s i o may known h) (h.waiting i may.running))

holds_turn : (scenario : ScenarioParts) (J : RunState → Type 0) (W : OfWaiting) (C : OfCarried) → IsKeptByFrames scenario J W C → (s : RunState) (i : ℕ) → IsOrderly scenario.params.nodes s
    → MayTurn s i → J s → HoldsOfFrames W C s → HoldsOfFrames W C (after_turn scenario i s)
holds_turn scenario J W C keeps s i o may known h =
    record {
      waiting = each_turned scenario i s may (o.unread i) (λ trace j node. AllByRecursion (W trace j) node.waiting)
          (waiting_turn scenario J W C keeps s i o may known h) h.waiting;
      carried = subst (λ trace. (note : SlotNote) (f : FrameParts) → Contains trace note → note.frame ≡ Some f → C trace note.slot f)
          (sym (after_turn-trace scenario i s)) h.carried;
    }

-- ---- every run

holds_opening : (W : OfWaiting) (C : OfCarried) (nodes : ℕ) → HoldsOfFrames W C (opening nodes)
holds_opening W C nodes = record {
  waiting = λ i running. rw (node_at-opening nodes i (opening_within nodes i running)) tt;
  carried = λ note f c. absurd (Contains-none note c);
}

-- a set of nodes has room for the greatest number of nodes, so a sender with a greater number would
-- not be noted
pub holds_of_frames : (scenario : ScenarioParts) (J : RunState → Type 0) → J (opening scenario.params.nodes) → IsKept scenario J → (W : OfWaiting) (C : OfCarried)
    → IsKeptByFrames scenario J W C → (journal : List Step) → scenario.params.nodes ≤ most_nodes → HoldsOfFrames W C (run scenario journal)
holds_of_frames scenario J first known W C keeps journal few =
    (along_run scenario (λ s. J s × HoldsOfFrames W C s) (first, holds_opening W C scenario.params.nodes)
    (record {
      slot = λ s o may h. (
        known.slot s o may h.0,
        holds_slot scenario J W C keeps (script scenario.rules) s (subst (λ n. n ≤ most_nodes) (sym o.count) few) h.1,
      );
      restarts = λ s o some h. (known.restarts s o some h.0, holds_restarts scenario W C s h.1);
      turn = λ s i o may h. (known.turn s i o may h.0, holds_turn scenario J W C keeps s i o may h.0 h.1);
    })
    journal).1

-- where nothing else has to be known
abbrev pub nothing_known : RunState → Type 0
nothing_known s = Unit {0}

pub frames_alone : (scenario : ScenarioParts) (W : OfWaiting) (C : OfCarried) → IsKeptByFrames scenario nothing_known W C → (journal : List Step)
    → scenario.params.nodes ≤ most_nodes → HoldsOfFrames W C (run scenario journal)
frames_alone scenario W C keeps journal few =
    holds_of_frames scenario nothing_known tt (record { slot = λ s o may h. tt; restarts = λ s o some h. tt; turn = λ s i o may h. tt }) W C keeps journal few
