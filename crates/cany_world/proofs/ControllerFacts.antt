-- What a controller that is kept as a node of a run has unread, and how a slot, a restart and a
-- turn keep it.
use Rattle.std.specs.Prelude.{◌≡◌, ℕ, zero, suc, ◌+◌, ◌-◌, ◌<◌, ◌≤◌, Bool, true, false, is_none, if◌then◌else◌, List, [], ◌∷◌, ◌++◌, length, map, reverse, take, drop, slice_get, Option, Some, None, refl}
use Rattle.std.proofs.Common.{sym, ap, ◌∙◌, subst, arith, add-one}
use Rattle.std.proofs.Math.Seq.{take-suc, take-length}
use Rattle.std.proofs.lemmas.Bool.{true≢false}
use Rattle.std.proofs.lemmas.List.{length-reverse, length-map, length-take-le, map-append, reverse-append, take_all, take-append-le}
use Rattle.cany_base.specs.declared.notice.Notice.{Notice}
use Rattle.cany_base.specs.declared.slot_note.SlotNote.{SlotNote}
use Rattle.cany_base.specs.Nodes.{has}
use Rattle.cany_base.specs.Params.{Parameters}
use Rattle.cany_base.specs.Scenario.{ScenarioParts}
use Rattle.cany_model.specs.Rules.Effect.{Effect, waiting_after}
use Rattle.cany_model.specs.declared.share.Share.{Share}
use Rattle.cany_model.specs.declared.share.Share.TheVariants.{Idle, Took, Rejected, Confirmed, Errored}
use Rattle.cany_model.specs.Bus.Restart.{restarted}
use Rattle.cany_model.specs.Bus.Slot.{after_share, node_after, share_of}
use Rattle.cany_model.specs.Bus.State.{NodeState, original, runs}
use Rattle.cany_model.proofs.Bus.States.{no_note, note_at}
use Rattle.can_bus.specs.Controllers.{controller_after}
use Rattle.can_controller.specs.Controller.{ControllerState, HasStoppedBy, node_state, restarted_at, seen, stopped_at}
use Rattle.cany_node.specs.Node.{turned}
use Rattle.cany_world.specs.Kept.{notice_in, newest_notices, IsKeptAs}

-- ---- the notices of the newest slots

length-newest_notices : (i count : ℕ) (trace : List SlotNote) → count ≤ length trace → length (newest_notices i count trace) ≡ count
unfolding newest_notices
length-newest_notices i count trace h =
    length-reverse (map (notice_in i) (take count trace)) ∙ length-map (take count trace) (notice_in i) ∙ length-take-le count trace h

-- one slot more
newest_more : (i count : ℕ) (note : SlotNote) (trace : List SlotNote)
    → newest_notices i (count + 1) (note ∷ trace) ≡ newest_notices i count trace ++ notice_in i note ∷ []
unfolding newest_notices
newest_more i count note trace =
    ap (λ k. reverse (map (notice_in i) (take k (note ∷ trace)))) (add-one count)
    ∙ reverse-append (notice_in i note ∷ []) (map (notice_in i) (take count trace))

-- the oldest comes first
newest_first : (i count : ℕ) (trace : List SlotNote) → count < length trace
    → newest_notices i (suc count) trace ≡ notice_in i (note_at trace count) ∷ newest_notices i count trace
unfolding newest_notices
newest_first i count trace h =
    ap (λ notes. reverse (map (notice_in i) notes)) (take-suc trace count no_note h)
    ∙ ap reverse (map-append (notice_in i) (take count trace) (note_at trace count ∷ []))
    ∙ reverse-append (map (notice_in i) (take count trace)) (notice_in i (note_at trace count) ∷ [])

newest_none : (i : ℕ) (trace : List SlotNote) → newest_notices i 0 trace ≡ []
unfolding newest_notices
newest_none i trace = refl

-- ---- what a controller has unread

-- a running controller has all that its node has not read
pub all_unread : (scenario : ScenarioParts) (trace : List SlotNote) (i : ℕ) (node : NodeState) (c : ControllerState) → IsKeptAs scenario trace i node c
    → node.unread ≤ length trace → c.stopped ≡ None → c.unread ≡ newest_notices i node.unread trace
all_unread scenario trace i node c kept short running =
    let many : length (newest_notices i node.unread trace) ≤ length c.unread = omega (arith, kept.all running, length-newest_notices i node.unread trace short) in
    kept.unread ∙ take_all (length c.unread) (newest_notices i node.unread trace) many

-- the node without its incarnations, of which a controller knows nothing
abbrev alone : NodeState → NodeState
alone node = record node { present = original; ended = [] }

-- a running controller is the node of the run
running_state : (scenario : ScenarioParts) (trace : List SlotNote) (i : ℕ) (node : NodeState) (c : ControllerState) → IsKeptAs scenario trace i node c
    → c.stopped ≡ None → node_state c ≡ alone node
running_state scenario trace i node c kept running = λ k. record {
  present = original;
  ended = [];
  unread = (kept.all running) k;
  waiting = kept.waiting k;
  transmit = kept.transmit k;
  receive = kept.receive k;
  stopped = kept.stopped k;
}

first_of_prefix : (xs all : List Notice) (x : Notice) → xs ≡ take (length xs) all → slice_get xs 0 ≡ Some x → slice_get all 0 ≡ Some x
first_of_prefix [] all x e first = absurd (cc)
first_of_prefix (y ∷ ys) [] x e first = absurd (cc)
first_of_prefix (y ∷ ys) (z ∷ all) x e first = let same : y ≡ z = cc in ap (λ w. Some w) (sym same) ∙ first

-- the oldest unread notice is that of the oldest slot that the node has not read
pub record IsOldest (trace : List SlotNote) (i : ℕ) (node : NodeState) (notice : Notice) : Type 0 where
  pub some : 0 < node.unread
  pub is : notice ≡ notice_in i (note_at trace (node.unread - 1))

oldest_by : (trace : List SlotNote) (i unread : ℕ) (notice : Notice) → unread ≤ length trace → slice_get (newest_notices i unread trace) 0 ≡ Some notice
    → (0 < unread) × (notice ≡ notice_in i (note_at trace (unread - 1)))
oldest_by trace i zero notice short first =
    let none : slice_get (newest_notices i 0 trace) 0 ≡ None = ap (λ (l : List Notice). slice_get l 0) (newest_none i trace) in
    absurd (cc)
oldest_by trace i (suc count) notice short first =
    let first' : Some (notice_in i (note_at trace count)) ≡ Some notice = sym (ap (λ (l : List Notice). slice_get l 0) (newest_first i count trace (omega arith))) ∙ first in
    let e : count ≡ suc count - 1 = omega arith in
    let same : notice ≡ notice_in i (note_at trace count) = cc in
    (omega arith, same ∙ ap (λ k. notice_in i (note_at trace k)) e)

pub oldest : (scenario : ScenarioParts) (trace : List SlotNote) (i : ℕ) (node : NodeState) (c : ControllerState) (notice : Notice) → IsKeptAs scenario trace i node c
    → node.unread ≤ length trace → slice_get c.unread 0 ≡ Some notice → IsOldest trace i node notice
oldest scenario trace i node c notice kept short first =
    let is = oldest_by trace i node.unread notice short (first_of_prefix c.unread (newest_notices i node.unread trace) notice kept.unread first) in
    record { some = is.0; is = is.1 }

-- ---- a slot

pub running_after : (i : ℕ) (note : SlotNote) (c : ControllerState) → c.stopped ≡ None
    → controller_after i note c ≡ (if has note.stops i then stopped_at note.slot (seen note.slot (share_of i note) c) else seen note.slot (share_of i note) c)
unfolding controller_after
running_after i note c running = rw running refl

pub stopped_after : (i : ℕ) (note : SlotNote) (c : ControllerState) (slot : ℕ) → c.stopped ≡ Some slot → controller_after i note c ≡ c
unfolding controller_after
stopped_after i note c slot e = rw e refl

-- what a slot adds to a running controller, and what it leaves
record IsSeenBy (i : ℕ) (note : SlotNote) (c c' : ControllerState) : Type 0 where
  number : c'.node ≡ c.node
  params : c'.params ≡ c.params
  room : c'.room ≡ c.room
  read : c'.read ≡ c.read
  unread : c'.unread ≡ c.unread ++ notice_in i note ∷ []

seen_by : (i : ℕ) (note : SlotNote) (c : ControllerState) (b : Bool)
    → IsSeenBy i note c (if b then stopped_at note.slot (seen note.slot (share_of i note) c) else seen note.slot (share_of i note) c)
seen_by i note c true = record { number = refl; params = refl; room = refl; read = refl; unread = refl }
seen_by i note c false = record { number = refl; params = refl; room = refl; read = refl; unread = refl }

node_after-unread : (i : ℕ) (note : SlotNote) (node : NodeState) (b : Bool) → runs node ≡ b → (node_after i note node).unread ≡ node.unread + 1
unfolding node_after
node_after-unread i note node true e = rw e refl
node_after-unread i note node false e = rw e refl

node_after-alone : (i : ℕ) (note : SlotNote) (node : NodeState) → node_after i note (alone node) ≡ alone (node_after i note node)
unfolding node_after after_share
node_after-alone i note node = either (runs node) (share_of i note)
  where
    either : (b : Bool) (share : Share)
        → (if b then record (after_share share (alone node)) { unread = node.unread + 1; stopped = if has note.stops i then Some note.slot else None }
        else record (alone node) { unread = node.unread + 1 })
        ≡ alone (if b then record (after_share share node) { unread = node.unread + 1; stopped = if has note.stops i then Some note.slot else None }
        else record node { unread = node.unread + 1 })
    either true Idle = refl
    either true (Took f) = refl
    either true Rejected = refl
    either true (Confirmed f) = refl
    either true Errored = refl
    either false share = refl

pub stopped_node : (i : ℕ) (note : SlotNote) (node : NodeState) (slot : ℕ) → node.stopped ≡ Some slot → node_after i note node ≡ record node { unread = node.unread + 1 }
unfolding node_after
stopped_node i note node slot e = rw e refl

kept_running : (scenario : ScenarioParts) (trace : List SlotNote) (i : ℕ) (node : NodeState) (c : ControllerState) (note : SlotNote) → IsKeptAs scenario trace i node c
    → node.unread ≤ length trace → c.stopped ≡ None → node_state (controller_after i note c) ≡ node_after i note (node_state c)
    → IsKeptAs scenario (note ∷ trace) i (node_after i note node) (controller_after i note c)
kept_running scenario trace i node c note kept short running law =
    let c' : ControllerState = controller_after i note c in
    let sees : IsSeenBy i note c c' = subst (IsSeenBy i note c) (sym (running_after i note c running)) (seen_by i note c (has note.stops i)) in
    let state : node_state c' ≡ alone (node_after i note node) =
    law ∙ ap (node_after i note) (running_state scenario trace i node c kept running) ∙ node_after-alone i note node in
    let more : (node_after i note node).unread ≡ node.unread + 1 = node_after-unread i note node (runs node) refl in
    let whole : c'.unread ≡ newest_notices i (node_after i note node).unread (note ∷ trace) =
    sees.unread ∙ ap (λ l. l ++ notice_in i note ∷ []) (all_unread scenario trace i node c kept short running)
    ∙ sym (ap (λ k. newest_notices i k (note ∷ trace)) more ∙ newest_more i node.unread note trace) in
    record {
      number = sees.number ∙ kept.number;
      params = sees.params ∙ kept.params;
      room = sees.room ∙ kept.room;
      waiting = ap (λ (n : NodeState). n.waiting) state;
      transmit = ap (λ (n : NodeState). n.transmit) state;
      receive = ap (λ (n : NodeState). n.receive) state;
      stopped = ap (λ (n : NodeState). n.stopped) state;
      read = sees.read ∙ kept.read ∙ omega (arith, more);
      unread = whole ∙ sym (ap (λ (l : List Notice). take (length l) (newest_notices i (node_after i note node).unread (note ∷ trace))) whole
          ∙ take-length (newest_notices i (node_after i note node).unread (note ∷ trace)));
      all = λ _. ap (λ (n : NodeState). n.unread) state;
    }

prefix_short : (xs all : List Notice) → xs ≡ take (length xs) all → length xs ≤ length all
prefix_short [] all e = omega arith
prefix_short (x ∷ xs) [] e = absurd (cc)
prefix_short (x ∷ xs) (y ∷ all) e =
    let tail : xs ≡ take (length xs) all = ap (drop 1) e in
    let h : length xs ≤ length all = prefix_short xs all tail in
    omega arith

kept_stopped : (scenario : ScenarioParts) (trace : List SlotNote) (i : ℕ) (node : NodeState) (c : ControllerState) (note : SlotNote) (slot : ℕ)
    → IsKeptAs scenario trace i node c → node.unread ≤ length trace → c.stopped ≡ Some slot
    → IsKeptAs scenario (note ∷ trace) i (node_after i note node) (controller_after i note c)
kept_stopped scenario trace i node c note slot kept short stopped =
    let still : controller_after i note c ≡ c = stopped_after i note c slot stopped in
    let state : node_after i note node ≡ record node { unread = node.unread + 1 } = stopped_node i note node slot (sym kept.stopped ∙ stopped) in
    let more : (node_after i note node).unread ≡ node.unread + 1 = ap (λ (n : NodeState). n.unread) state in
    let before : List Notice = newest_notices i node.unread trace in
    let within : length c.unread ≤ length before = prefix_short c.unread before kept.unread in
    let longer : take (length c.unread) (newest_notices i (node_after i note node).unread (note ∷ trace)) ≡ take (length c.unread) before =
    ap (take (length c.unread)) (ap (λ k. newest_notices i k (note ∷ trace)) more ∙ newest_more i node.unread note trace)
    ∙ take-append-le (length c.unread) before (notice_in i note ∷ []) within in
    let after : IsKeptAs scenario (note ∷ trace) i (node_after i note node) c = record {
      number = kept.number;
      params = kept.params;
      room = kept.room;
      waiting = kept.waiting ∙ sym (ap (λ (n : NodeState). n.waiting) state);
      transmit = kept.transmit ∙ sym (ap (λ (n : NodeState). n.transmit) state);
      receive = kept.receive ∙ sym (ap (λ (n : NodeState). n.receive) state);
      stopped = kept.stopped ∙ sym (ap (λ (n : NodeState). n.stopped) state);
      read = kept.read ∙ omega (arith, more);
      unread = kept.unread ∙ sym longer;
      all = λ running. absurd (true≢false (sym (ap is_none running) ∙ ap is_none stopped));
    } in
    subst (IsKeptAs scenario (note ∷ trace) i (node_after i note node)) (sym still) after

-- the controller of a node after a slot is that of the node after it
pub kept_slot : (scenario : ScenarioParts) (trace : List SlotNote) (i : ℕ) (node : NodeState) (c : ControllerState) (note : SlotNote)
    → IsKeptAs scenario trace i node c → node.unread ≤ length trace → (c.stopped ≡ None → node_state (controller_after i note c) ≡ node_after i note (node_state c))
    → IsKeptAs scenario (note ∷ trace) i (node_after i note node) (controller_after i note c)
kept_slot scenario trace i node c note kept short law = go c.stopped refl
  where
    go : (o : Option ℕ) → c.stopped ≡ o → IsKeptAs scenario (note ∷ trace) i (node_after i note node) (controller_after i note c)
    go None e = kept_running scenario trace i node c note kept short e (law e)
    go (Some slot) e = kept_stopped scenario trace i node c note slot kept short e

-- ---- a restart

-- the controller of a node that starts again is that of the node after its restart
pub kept_restart : (scenario : ScenarioParts) (trace : List SlotNote) (i slot : ℕ) (node : NodeState) (c : ControllerState) → IsKeptAs scenario trace i node c
    → length trace ≡ slot + 1 → IsKeptAs scenario trace i (restarted scenario.params slot node) (restarted_at slot c)
kept_restart scenario trace i slot node c kept e = record {
  number = kept.number;
  params = kept.params;
  room = kept.room;
  waiting = refl;
  transmit = refl;
  receive = refl;
  stopped = refl;
  read = omega (arith, e);
  unread = refl;
  all = λ _. refl;
}

-- it can start again where the stop was in a slot that ran
pub may_restart : (scenario : ScenarioParts) (trace : List SlotNote) (i slot stop : ℕ) (node : NodeState) (c : ControllerState) → IsKeptAs scenario trace i node c
    → length trace ≡ slot + 1 → length trace ≤ scenario.params.slots → node.stopped ≡ Some stop → stop < length trace → HasStoppedBy slot c
may_restart scenario trace i slot stop node c kept e short stopped before = record {
  within = omega (arith, e, short, ap (λ (p : Parameters). p.slots) kept.params);
  stop = stop;
  stopped = kept.stopped ∙ stopped;
  by_then = omega (arith, e, before);
}

-- ---- a turn

turn_unread : (trace : List SlotNote) (i unread : ℕ) (xs : List Notice) → unread ≤ length trace → 0 < unread → xs ≡ newest_notices i unread trace
    → drop 1 xs ≡ newest_notices i (unread - 1) trace
turn_unread trace i zero xs short some e = absurd (omega arith)
turn_unread trace i (suc count) xs short some e =
    let less : count ≡ suc count - 1 = omega arith in
    ap (drop 1) (e ∙ newest_first i count trace (omega arith)) ∙ ap (λ k. newest_notices i k trace) less

-- the controller of a node after its turn is that of the node after it
pub kept_turn : (scenario : ScenarioParts) (trace : List SlotNote) (i : ℕ) (node : NodeState) (c : ControllerState) (effects : List Effect)
    → IsKeptAs scenario trace i node c → node.unread ≤ length trace → 0 < node.unread → c.stopped ≡ None
    → IsKeptAs scenario trace i (record node { unread = node.unread - 1; waiting = waiting_after effects node.waiting }) (turned effects c)
kept_turn scenario trace i node c effects kept short some running =
    let fewer : drop 1 c.unread ≡ newest_notices i (node.unread - 1) trace =
    turn_unread trace i node.unread c.unread short some (all_unread scenario trace i node c kept short running) in
    let count : length (newest_notices i (node.unread - 1) trace) ≡ node.unread - 1 = length-newest_notices i (node.unread - 1) trace (omega arith) in
    record {
      number = kept.number;
      params = kept.params;
      room = kept.room;
      waiting = ap (waiting_after effects) kept.waiting;
      transmit = kept.transmit;
      receive = kept.receive;
      stopped = kept.stopped;
      read = omega (arith, kept.read);
      unread = fewer ∙ sym (ap (λ (l : List Notice). take (length l) (newest_notices i (node.unread - 1) trace)) fewer ∙ take-length (newest_notices i (node.unread - 1) trace));
      all = λ _. ap length fewer ∙ count;
    }
