-- What each step changes at one node: the frames that wait, what it has read, and how many
-- incarnations it has had.
use Rattle.std.proofs.Common.{◌≡◌, ℕ, suc, ◌<◌, ◌≤◌, ◌||◌, Bool, true, false, not, List, [], ◌∷◌, length, map, drop, refl, ap, sym, ◌∙◌, arith}
use Rattle.std.specs.Prelude.{Some}
use Rattle.std.proofs.lemmas.Bool.{cond_both, not-true}
use Rattle.cany_base.specs.declared.notice.NoticeKind.{NoticeKind}
use Rattle.cany_base.specs.declared.notice.NoticeKind.TheVariants.{Idle, Got, Sent, Bad}
use Rattle.cany_base.specs.Frame.{FrameParts}
use Rattle.cany_base.specs.Limits.{most_nodes}
use Rattle.cany_base.specs.Scenario.{ScenarioParts}
use Rattle.cany_model.specs.Bus.Frames.{Identity, identity_of, is_of}
use Rattle.cany_model.specs.Bus.History.{given, history, seen}
use Rattle.cany_model.specs.Bus.Restart.{after_restarts}
use Rattle.cany_model.specs.Bus.Slot.{FaultScript, after_slot, is_clean, slot_note_of}
use Rattle.cany_model.specs.Bus.State.{NodeState, RunState, node_at, reads, runs}
use Rattle.cany_model.specs.Bus.Waiting.{waits, without}
use Rattle.cany_model.specs.Runs.Run.{after_turn}
use Rattle.cany_model.proofs.Bus.Identities.{same_identity-true}
use Rattle.cany_model.proofs.Bus.Notes.{IsOffered, given_sender, waiting_sends}
use Rattle.cany_model.proofs.Bus.Restarts.{Restarts, after_restarts-trace}
use Rattle.cany_model.proofs.Bus.Seen.{history-is}
use Rattle.cany_model.proofs.Runs.Runs.{IsOrderly}
use Rattle.cany_model.proofs.Runs.Steps.{MayTurn, after_slot-trace, after_slot-unread, after_slot-waiting, after_turn-node, after_turn-other, after_turn-trace, kept_at}
use Rattle.cany_model.proofs.Rules.Waits.{waits-from_without}
use Rattle.cany_laws.proofs.KeptAlongJournal.{after_slot-ended, after_turn-ended}
use Rattle.cany_laws.proofs.Waiting.WaitTimes.{lives}
use Rattle.cany_model.proofs.Timed.Order.TotSlots.{clean_success}

-- ---- the frames that wait

pub kept_waits : (x : Identity) (e : NoticeKind) (w : List FrameParts) → waits x (kept_at e w) ≡ true → waits x w ≡ true
kept_waits x Idle w h = h
kept_waits x (Got f) w h = h
kept_waits x (Sent f) w h = waits-from_without x (identity_of f) w h
kept_waits x Bad w h = h

pub without_none : (x : Identity) (w : List FrameParts) → waits x (without x w) ≡ false
without_none x [] = refl
without_none x (g ∷ w) =
    cond_both (not (is_of x g)) (g ∷ without x w) (without x w) (λ v. waits x v ≡ false)
    (λ other. neither (is_of x g) (waits x (without x w)) (not-true (is_of x g) other) (without_none x w)) (λ _. without_none x w)
  where
    neither : (a b : Bool) → a ≡ false → b ≡ false → (a || b) ≡ false
    neither a b first second = rw first second

-- a node that waits with the frame that is carried Clean has sent it, and does not wait with it
-- after the slot
pub has_sent : (rules : FaultScript) (s : RunState) (f : FrameParts) → (slot_note_of rules s).frame ≡ Some f → is_clean (slot_note_of rules s).verdict ≡ true
    → (o : IsOffered s.nodes f) → o.node < most_nodes → given o.node (slot_note_of rules s) ≡ Sent f
has_sent rules s f frame clean o few =
    given_sender o.node (slot_note_of rules s) f frame (waiting_sends rules s f o.node few frame o.running o.waits)
    (clean_success (slot_note_of rules s).verdict clean)

pub sent_waits : (rules : FaultScript) (s : RunState) (x : Identity) (f : FrameParts) → is_of x f ≡ true → (i : ℕ) → runs (node_at s.nodes i) ≡ true
    → given i (slot_note_of rules s) ≡ Sent f → waits x (node_at (after_slot rules s).nodes i).waiting ≡ false
sent_waits rules s x f same i running sent =
    ap (waits x) (after_slot-waiting rules s i running ∙ ap (λ e. kept_at e (node_at s.nodes i).waiting) sent)
    ∙ ap (λ y. waits x (without y (node_at s.nodes i).waiting)) (sym (same_identity-true x (identity_of f) same))
    ∙ without_none x (node_at s.nodes i).waiting

-- ---- what a step leaves as it is

-- of a node that a step leaves as it is, where no slot is run
pub record IsSame (s t : RunState) (i : ℕ) : Type 0 where
  pub node : node_at t.nodes i ≡ node_at s.nodes i
  pub trace : t.trace ≡ s.trace

pub same_history : (s t : RunState) (i : ℕ) → IsSame s t i → history i t ≡ history i s
same_history s t i same =
    history-is i t
    ∙ ap (λ (n : NodeState). map (given i) (drop n.unread (seen n.present t.trace))) same.node
    ∙ ap (λ trace. map (given i) (drop (node_at s.nodes i).unread (seen (node_at s.nodes i).present trace))) same.trace
    ∙ sym (history-is i s)

pub same_reads : (s t : RunState) (i : ℕ) → IsSame s t i → reads t i ≡ reads s i
same_reads s t i same = omega (arith, ap length same.trace, ap (λ (n : NodeState). n.unread) same.node)

pub slot_reads : (scenario : ScenarioParts) (rules : FaultScript) (s : RunState) → IsOrderly scenario.params.nodes s → (i : ℕ) → i < scenario.params.nodes
    → reads (after_slot rules s) i ≡ reads s i
slot_reads scenario rules s o i there =
    let short : (node_at s.nodes i).unread ≤ length s.trace = o.unread i in
    omega (arith, short, ap length (after_slot-trace rules s), after_slot-unread rules s i (omega (arith, there, o.count)))

-- ---- incarnations

pub slot_lives : (scenario : ScenarioParts) (rules : FaultScript) (s : RunState) → IsOrderly scenario.params.nodes s → (i : ℕ) → i < scenario.params.nodes
    → lives (after_slot rules s) i ≡ lives s i
slot_lives scenario rules s o i there = ap (λ ended. suc (length ended)) (after_slot-ended rules s i (omega (arith, there, o.count)))

pub turn_lives : (scenario : ScenarioParts) (s : RunState) (i : ℕ) → IsOrderly scenario.params.nodes s → MayTurn s i → (j : ℕ)
    → lives (after_turn scenario i s) j ≡ lives s j
turn_lives scenario s i o may j = ap (λ ended. suc (length ended)) (after_turn-ended scenario i s j may (o.unread i))

pub new_lives : (scenario : ScenarioParts) (s : RunState) (i : ℕ) → Restarts scenario s i → lives (after_restarts scenario s) i ≡ suc (lives s i)
new_lives scenario s i new = ap (λ (n : NodeState). suc (length n.ended)) new.is

-- a node that starts again has read each slot that ran
pub new_reads : (scenario : ScenarioParts) (s : RunState) (i : ℕ) → Restarts scenario s i → reads s i ≤ reads (after_restarts scenario s) i
new_reads scenario s i new = omega (arith, ap length (after_restarts-trace scenario s), ap (λ (n : NodeState). n.unread) new.is)

pub same_after_turn : (scenario : ScenarioParts) (s : RunState) (i j : ℕ) → (j ≡ i → ⊥) → IsSame s (after_turn scenario i s) j
same_after_turn scenario s i j other = record { node = after_turn-other scenario i s j other; trace = after_turn-trace scenario i s }

pub turn_reads : (scenario : ScenarioParts) (s : RunState) (i : ℕ) → MayTurn s i → (node_at s.nodes i).unread ≤ length s.trace
    → reads (after_turn scenario i s) i ≡ suc (reads s i)
turn_reads scenario s i may short =
    let some : 0 < (node_at s.nodes i).unread = may.unread in
    omega (arith, some, short, ap length (after_turn-trace scenario i s), ap (λ (n : NodeState). n.unread) (after_turn-node scenario i s may short))
