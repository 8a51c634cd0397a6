-- What a slot and a turn change and what they leave: facts for invariants, at every verdict rule.
use Rattle.std.specs.Prelude.{◌≡◌, ℕ, suc, ◌+◌, ◌-◌, ◌<◌, ◌≤◌, ◌≢◌, Bool, true, false, if◌then◌else◌, List, ◌∷◌, Some, None, is_none, length, map, drop, slice_set, Contains, refl}
use Rattle.std.specs.List.{AllByRecursion}
use Rattle.std.proofs.Common.{sym, ap, ◌∙◌, subst, inl, inr, arith, add-one}
use Rattle.std.proofs.lemmas.Bool.{false≢true, cases_lt, cases_eq}
use Rattle.std.proofs.lemmas.List.{length-set, drop_more}
use Rattle.cany_base.specs.declared.slot_note.SlotNote.{SlotNote}
use Rattle.cany_base.specs.Frame.{FrameParts}
use Rattle.cany_base.specs.Nodes.{has}
use Rattle.cany_model.specs.Bus.Slot.{node_after, FaultScript, share_of, after_share, slot_note_of, after_slot}
use Rattle.cany_model.specs.Bus.State.{Incarnation, NodeState, RunState, node_at, runs}
use Rattle.cany_model.specs.Bus.Frames.{identity_of}
use Rattle.cany_base.specs.declared.notice.NoticeKind.{NoticeKind}
use Rattle.cany_base.specs.declared.notice.NoticeKind.TheVariants.{Got, Sent, Bad}
use Rattle.cany_base.specs.declared.notice.NoticeKind.TheVariants as notice
use Rattle.cany_model.specs.Bus.History.{notice_of, given, history, seen, trace_for}
use Rattle.cany_model.specs.Bus.Waiting.{without}
use Rattle.cany_model.specs.declared.share.Share.{Share}
use Rattle.cany_model.specs.declared.share.Share.TheVariants.{Took, Rejected, Confirmed, Errored}
use Rattle.cany_model.specs.declared.share.Share.TheVariants as share
use Rattle.cany_base.specs.Scenario.{ScenarioParts}
use Rattle.cany_model.specs.Rules.Effect.{waiting_after}
use Rattle.cany_model.specs.Rules.Turn.{effects_for, scenario_for, turn_effects}
use Rattle.cany_model.specs.Runs.Run.{after_turn}
use Rattle.cany_model.proofs.Among.{Contains-cons, Contains-head}
use Rattle.cany_model.proofs.Bus.Seen.{history-is, length-seen}
use Rattle.cany_model.proofs.Rules.IncarnationFacts.{effects_for-is}
use Rattle.cany_model.proofs.Rules.Waits.{Each-without}
use Rattle.cany_model.proofs.Bus.States.{length-nodes_after, no_note, node_at-nodes_after, node_at-set_other, node_at-set_same, node_at_past, note_at, runs_within}

-- ---- a slot

-- what a node still waits with once a slot gave it this notice
abbrev pub kept_at : NoticeKind → List FrameParts → List FrameParts
kept_at notice.Idle waiting = waiting
kept_at (Got f) waiting = waiting
kept_at (Sent f) waiting = without (identity_of f) waiting
kept_at Bad waiting = waiting

-- a property of every waiting frame is kept
pub Each-kept : (P : FrameParts → Type 0) (notice : NoticeKind) (w : List FrameParts) → AllByRecursion P w → AllByRecursion P (kept_at notice w)
Each-kept P notice.Idle w h = h
Each-kept P (Got f) w h = h
Each-kept P (Sent f) w h = Each-without P (identity_of f) w h
Each-kept P Bad w h = h

after_share-waiting : (share : Share) (node : NodeState) → (after_share share node).waiting ≡ kept_at (notice_of share) node.waiting
unfolding after_share
after_share-waiting share.Idle node = refl
after_share-waiting (Took f) node = refl
after_share-waiting Rejected node = refl
after_share-waiting (Confirmed f) node = refl
after_share-waiting Errored node = refl

node_after-unread : (i : ℕ) (note : SlotNote) (node : NodeState) → (node_after i note node).unread ≡ node.unread + 1
unfolding node_after
node_after-unread i note node = either (runs node)
  where
    either : (b : Bool)
        → (if b then record (after_share (share_of i note) node) { unread = node.unread + 1; stopped = if has note.stops i then Some note.slot else None }
        else record node { unread = node.unread + 1 }).unread ≡ node.unread + 1
    either true = refl
    either false = refl

-- a slot begins and ends no incarnation
abbrev HasSameLives : NodeState → NodeState → Type 0
HasSameLives node after = (after.present ≡ node.present) × (after.ended ≡ node.ended)

node_after-lives : (i : ℕ) (note : SlotNote) (node : NodeState) → HasSameLives node (node_after i note node)
unfolding node_after after_share
node_after-lives i note node = either (runs node) (share_of i note)
  where
    either : (b : Bool) (share : Share) → HasSameLives node
        (if b then record (after_share share node) { unread = node.unread + 1; stopped = if has note.stops i then Some note.slot else None }
        else record node { unread = node.unread + 1 })
    either true share.Idle = (refl, refl)
    either true (Took f) = (refl, refl)
    either true Rejected = (refl, refl)
    either true (Confirmed f) = (refl, refl)
    either true Errored = (refl, refl)
    either false share = (refl, refl)

node_after-present : (i : ℕ) (note : SlotNote) (node : NodeState) → (node_after i note node).present ≡ node.present
node_after-present i note node = (node_after-lives i note node).0

pub node_after-ended : (i : ℕ) (note : SlotNote) (node : NodeState) → (node_after i note node).ended ≡ node.ended
node_after-ended i note node = (node_after-lives i note node).1

node_after-waiting : (i : ℕ) (note : SlotNote) (node : NodeState) → runs node ≡ true
    → (node_after i note node).waiting ≡ kept_at (given i note) node.waiting
unfolding node_after
node_after-waiting i note node h = rw h (after_share-waiting (share_of i note) node)

node_after-stopped : (i : ℕ) (note : SlotNote) (node : NodeState) → runs node ≡ false → (node_after i note node).stopped ≡ node.stopped
unfolding node_after
node_after-stopped i note node h = rw h

node_after-runs : (i : ℕ) (note : SlotNote) (node : NodeState) → runs (node_after i note node) ≡ true
    → (runs node ≡ true) × (has note.stops i ≡ false)
unfolding node_after
node_after-runs i note node h = by_run (runs node) refl
  where
    unstopped : (b : Bool) → is_none (if b then Some note.slot else None) ≡ true → b ≡ false
    unstopped true h = absurd (false≢true h)
    unstopped false h = refl

    by_run : (b : Bool) → runs node ≡ b → (runs node ≡ true) × (has note.stops i ≡ false)
    by_run true e = (e, unstopped (has note.stops i) (rw e at h))
    by_run false e = absurd (false≢true (sym e ∙ (rw e at h)))

pub after_slot-trace : (rules : FaultScript) (s : RunState) → (after_slot rules s).trace ≡ slot_note_of rules s ∷ s.trace
unfolding after_slot
after_slot-trace rules s = refl

pub note_stands : (rules : FaultScript) (s : RunState) → Contains (after_slot rules s).trace (slot_note_of rules s)
unfolding after_slot
note_stands rules s = Contains-head (slot_note_of rules s) s.trace

pub note_still_stands : (rules : FaultScript) (s : RunState) (note : SlotNote) → Contains s.trace note → Contains (after_slot rules s).trace note
unfolding after_slot
note_still_stands rules s note c = Contains-cons (slot_note_of rules s) note s.trace c

pub after_slot-length : (rules : FaultScript) (s : RunState) → length (after_slot rules s).nodes ≡ length s.nodes
unfolding after_slot
after_slot-length rules s = length-nodes_after 0 (slot_note_of rules s) s.nodes

pub after_slot-node : (rules : FaultScript) (s : RunState) (i : ℕ) → i < length s.nodes
    → node_at (after_slot rules s).nodes i ≡ node_after i (slot_note_of rules s) (node_at s.nodes i)
unfolding after_slot
after_slot-node rules s i h =
    let e : 0 + i ≡ i = omega arith in
    node_at-nodes_after 0 (slot_note_of rules s) s.nodes i h ∙ ap (λ n. node_after n (slot_note_of rules s) (node_at s.nodes i)) e

-- a node that runs after a slot ran before it, and did not stop in it
pub running_before_slot : (rules : FaultScript) (s : RunState) (i : ℕ) → runs (node_at (after_slot rules s).nodes i) ≡ true
    → (runs (node_at s.nodes i) ≡ true) × (has (slot_note_of rules s).stops i ≡ false)
running_before_slot rules s i h =
    let below : i < length s.nodes = subst (λ n. i < n) (after_slot-length rules s) (runs_within (after_slot rules s).nodes i h) in
    node_after-runs i (slot_note_of rules s) (node_at s.nodes i) (sym (ap (λ node. runs node) (after_slot-node rules s i below)) ∙ h)

pub stopped_after_slot : (rules : FaultScript) (s : RunState) (i : ℕ) → runs (node_at s.nodes i) ≡ false
    → (node_at (after_slot rules s).nodes i).stopped ≡ (node_at s.nodes i).stopped
stopped_after_slot rules s i h =
    elim (cases_lt i (length s.nodes)) [
      | inl below ↦
          ap (λ node. node.stopped) (after_slot-node rules s i below) ∙ node_after-stopped i (slot_note_of rules s) (node_at s.nodes i) h
      | inr past ↦
          let past' : length (after_slot rules s).nodes ≤ i = omega (arith, after_slot-length rules s) in
          ap (λ node. node.stopped) (node_at_past (after_slot rules s).nodes i past' ∙ sym (node_at_past s.nodes i past))
    ]

pub after_slot-unread : (rules : FaultScript) (s : RunState) (i : ℕ) → i < length s.nodes
    → (node_at (after_slot rules s).nodes i).unread ≡ (node_at s.nodes i).unread + 1
after_slot-unread rules s i h =
    ap (λ node. node.unread) (after_slot-node rules s i h) ∙ node_after-unread i (slot_note_of rules s) (node_at s.nodes i)

pub after_slot-waiting : (rules : FaultScript) (s : RunState) (i : ℕ) → runs (node_at s.nodes i) ≡ true
    → (node_at (after_slot rules s).nodes i).waiting ≡ kept_at (given i (slot_note_of rules s)) (node_at s.nodes i).waiting
after_slot-waiting rules s i h =
    ap (λ node. node.waiting) (after_slot-node rules s i (runs_within s.nodes i h))
    ∙ node_after-waiting i (slot_note_of rules s) (node_at s.nodes i) h

-- a slot ends no incarnation
pub after_slot-present : (rules : FaultScript) (s : RunState) (i : ℕ) → i < length s.nodes
    → (node_at (after_slot rules s).nodes i).present ≡ (node_at s.nodes i).present
after_slot-present rules s i h =
    ap (λ node. node.present) (after_slot-node rules s i h) ∙ node_after-present i (slot_note_of rules s) (node_at s.nodes i)

-- a slot gives nobody anything to have read
pub after_slot-history : (rules : FaultScript) (s : RunState) (i : ℕ) → i < length s.nodes → history i (after_slot rules s) ≡ history i s
after_slot-history rules s i h =
    let node = node_at s.nodes i in
    let after : NodeState = node_at (after_slot rules s).nodes i in
    history-is i (after_slot rules s)
    ∙ ap (λ n. map (given i) (drop n (seen after.present (after_slot rules s).trace))) (after_slot-unread rules s i h ∙ add-one node.unread)
    ∙ ap (λ (inc : Incarnation). map (given i) (drop (suc node.unread) (seen inc (after_slot rules s).trace))) (after_slot-present rules s i h)
    ∙ ap (λ trace. map (given i) (drop (suc node.unread) (seen node.present trace))) (after_slot-trace rules s)
    ∙ sym (history-is i s)

-- ---- a turn

-- what holds where a turn of node i is done
pub record MayTurn (s : RunState) (i : ℕ) : Type 0 where
  pub there : i < length s.nodes
  pub running : runs (node_at s.nodes i) ≡ true
  pub unread : 0 < (node_at s.nodes i).unread

-- it has one more unread than after its turn
pub one_less : (s : RunState) (i : ℕ) → MayTurn s i → (node_at s.nodes i).unread ≡ suc ((node_at s.nodes i).unread - 1)
one_less s i may = let some = may.unread in omega (arith, some)

-- the age of the oldest note that node i has not read, and what its slot gave the present
-- incarnation
abbrev pub next_age : RunState → ℕ → ℕ
next_age s i = (node_at s.nodes i).unread - 1

abbrev pub next_notice : RunState → ℕ → NoticeKind
next_notice s i = given i (note_at (seen (node_at s.nodes i).present s.trace) (next_age s i))

-- the node's state after a turn in which it read this notice
abbrev pub node_after_turn : ScenarioParts → ℕ → List NoticeKind → NodeState → NodeState
node_after_turn scenario i past node =
    record node { unread = node.unread - 1; waiting = waiting_after (turn_effects (scenario_for scenario node.present) i past) node.waiting }

pub after_turn-trace : (scenario : ScenarioParts) (i : ℕ) (s : RunState) → (after_turn scenario i s).trace ≡ s.trace
unfolding after_turn
after_turn-trace scenario i s = refl

pub after_turn-length : (scenario : ScenarioParts) (i : ℕ) (s : RunState) → length (after_turn scenario i s).nodes ≡ length s.nodes
unfolding after_turn
after_turn-length scenario i s = simp length-set

pub after_turn-other : (scenario : ScenarioParts) (i : ℕ) (s : RunState) (j : ℕ) → j ≢ i → node_at (after_turn scenario i s).nodes j ≡ node_at s.nodes j
unfolding after_turn
after_turn-other scenario i s j h = node_at-set_other _ i j _ h ∙ node_at-set_other s.nodes i j _ h

pub after_turn-other_history : (scenario : ScenarioParts) (i : ℕ) (s : RunState) (j : ℕ) → j ≢ i → history j (after_turn scenario i s) ≡ history j s
unfolding history
after_turn-other_history scenario i s j h =
    ap (λ node. map (given j) (drop node.unread (trace_for node.present.number node.present (after_turn scenario i s).trace))) (after_turn-other scenario i s j h)
    ∙ ap (λ trace. map (given j) (drop (node_at s.nodes j).unread (trace_for (node_at s.nodes j).present.number (node_at s.nodes j).present trace))) (after_turn-trace scenario i s)

read_more : (i n : ℕ) (trace : List SlotNote) → 0 < n → n ≤ length trace
    → map (given i) (drop (n - 1) trace) ≡ given i (note_at trace (n - 1)) ∷ map (given i) (drop n trace)
read_more i n trace some short =
    let e : n - 1 + 1 ≡ n = omega arith in
    ap (λ rest. map (given i) rest) (drop_more trace (n - 1) no_note (omega arith))
    ∙ ap (λ k. given i (note_at trace (n - 1)) ∷ map (given i) (drop k trace)) e

short_seen : (inc : Incarnation) (trace : List SlotNote) {n : ℕ} → n ≤ length trace → n ≤ length (seen inc trace)
short_seen inc trace h = omega (arith, h, length-seen inc trace)

-- the state in which the turn's rules look: one notice more is read, and the same frames wait
abbrev reading : ℕ → RunState → RunState
reading i s = record s { nodes = slice_set s.nodes i (record (node_at s.nodes i) { unread = (node_at s.nodes i).unread - 1 }) }

reading-node : (i : ℕ) (s : RunState) → i < length s.nodes
    → node_at (reading i s).nodes i ≡ record (node_at s.nodes i) { unread = (node_at s.nodes i).unread - 1 }
reading-node i s h = node_at-set_same s.nodes i _ h

reading-history : (i : ℕ) (s : RunState) → MayTurn s i → (node_at s.nodes i).unread ≤ length s.trace
    → history i (reading i s) ≡ next_notice s i ∷ history i s
reading-history i s may short =
    let node = node_at s.nodes i in
    history-is i (reading i s)
    ∙ ap (λ n. map (given i) (drop n.unread (seen n.present s.trace))) (reading-node i s may.there)
    ∙ read_more i node.unread (seen node.present s.trace) may.unread (short_seen node.present s.trace short)
    ∙ ap (λ past. next_notice s i ∷ past) (sym (history-is i s))

pub after_turn-node : (scenario : ScenarioParts) (i : ℕ) (s : RunState) → MayTurn s i → (node_at s.nodes i).unread ≤ length s.trace
    → node_at (after_turn scenario i s).nodes i ≡ node_after_turn scenario i (next_notice s i ∷ history i s) (node_at s.nodes i)
unfolding after_turn
after_turn-node scenario i s may short =
    node_at-set_same (reading i s).nodes i _ (subst (λ n. i < n) (sym (length-set s.nodes i _)) may.there)
    ∙ ap (λ node. rest_of_turn (history i (reading i s)) node) (reading-node i s may.there)
    ∙ ap (λ past. rest_of_turn past (record (node_at s.nodes i) { unread = (node_at s.nodes i).unread - 1 })) (reading-history i s may short)
    ∙ ap (λ effects. record (node_at s.nodes i) { unread = (node_at s.nodes i).unread - 1; waiting = waiting_after effects (node_at s.nodes i).waiting })
    (effects_for-is scenario (node_at s.nodes i).present i (next_notice s i ∷ history i s))
  where
    rest_of_turn : List NoticeKind → NodeState → NodeState
    rest_of_turn past node = record node { waiting = waiting_after (effects_for node.present.number scenario node.present i past) node.waiting }

-- a turn ends no incarnation
pub after_turn-present : (scenario : ScenarioParts) (i : ℕ) (s : RunState) (j : ℕ) → MayTurn s i → (node_at s.nodes i).unread ≤ length s.trace
    → (node_at (after_turn scenario i s).nodes j).present ≡ (node_at s.nodes j).present
after_turn-present scenario i s j may short =
    elim (cases_eq j i) [
      | inl same ↦
          subst (λ k. (node_at (after_turn scenario i s).nodes k).present ≡ (node_at s.nodes k).present) (sym same)
          (ap (λ (node : NodeState). node.present) (after_turn-node scenario i s may short))
      | inr other ↦ ap (λ node. node.present) (after_turn-other scenario i s j other)
    ]

-- a turn stops nobody
pub after_turn-runs : (scenario : ScenarioParts) (i : ℕ) (s : RunState) (j : ℕ) → MayTurn s i → (node_at s.nodes i).unread ≤ length s.trace
    → runs (node_at (after_turn scenario i s).nodes j) ≡ runs (node_at s.nodes j)
after_turn-runs scenario i s j may short =
    elim (cases_eq j i) [
      | inl same ↦
          subst (λ k. runs (node_at (after_turn scenario i s).nodes k) ≡ runs (node_at s.nodes k)) (sym same)
          (ap (λ (node : NodeState). runs node) (after_turn-node scenario i s may short))
      | inr other ↦ ap (λ node. runs node) (after_turn-other scenario i s j other)
    ]

-- what holds after a turn of the node whose turn it was, and held before it of each that runs,
-- holds of each that runs after it
pub each_turned : (scenario : ScenarioParts) (i : ℕ) (s : RunState) → MayTurn s i → (node_at s.nodes i).unread ≤ length s.trace
    → (P : List SlotNote → ℕ → NodeState → Type 0) → P s.trace i (node_at (after_turn scenario i s).nodes i)
    → ((j : ℕ) → runs (node_at s.nodes j) ≡ true → P s.trace j (node_at s.nodes j))
    → (j : ℕ) → runs (node_at (after_turn scenario i s).nodes j) ≡ true → P (after_turn scenario i s).trace j (node_at (after_turn scenario i s).nodes j)
each_turned scenario i s may short P own all j running =
    let after : ℕ → NodeState = λ m. node_at (after_turn scenario i s).nodes m in
    subst (λ trace. P trace j (after j)) (sym (after_turn-trace scenario i s)) (elim (cases_eq j i) [
      | inl same ↦ subst (λ m. P s.trace m (after m)) (sym same) own
      | inr other ↦ rw (after_turn-other scenario i s j other) (all j (sym (after_turn-runs scenario i s j may short) ∙ running))
    ])

pub after_turn-history : (scenario : ScenarioParts) (i : ℕ) (s : RunState) → MayTurn s i → (node_at s.nodes i).unread ≤ length s.trace
    → history i (after_turn scenario i s) ≡ next_notice s i ∷ history i s
after_turn-history scenario i s may short =
    let node = node_at s.nodes i in
    history-is i (after_turn scenario i s)
    ∙ ap (λ n. map (given i) (drop n.unread (seen n.present (after_turn scenario i s).trace))) (after_turn-node scenario i s may short)
    ∙ ap (λ trace. map (given i) (drop (node.unread - 1) (seen node.present trace))) (after_turn-trace scenario i s)
    ∙ read_more i node.unread (seen node.present s.trace) may.unread (short_seen node.present s.trace short)
    ∙ ap (λ past. next_notice s i ∷ past) (sym (history-is i s))
