-- What happens in a slot depends neither on how many notices the nodes have not read nor on their
-- incarnations.
use Rattle.std.proofs.Common.{◌≡◌, ℕ, zero, suc, ◌&&◌, ◌||◌, not, List, [], ◌∷◌, ◌++◌, length, map, refl, ap, sym, ◌∙◌, arith}
use Rattle.std.specs.Prelude.{Option, Some, None, slice_get}
use Rattle.std.specs.List.{flat_map}
use Rattle.cany_base.specs.declared.rule.Verdict.{Verdict}
use Rattle.cany_base.specs.declared.slot_note.SlotNote.{SlotNote}
use Rattle.cany_base.specs.Frame.{FrameParts}
use Rattle.cany_base.specs.Nodes.{Nodes, has, those_where}
use Rattle.cany_model.specs.declared.share.Share.{Share}
use Rattle.cany_model.specs.declared.share.Share.TheVariants.{Idle, Took, Rejected, Confirmed, Errored}
use Rattle.cany_model.specs.Bus.Slot.{Ruling, FaultScript, after_share, exceeds, transmission, lets_accept, least_frame, note_by, offered, sends, share_of, slot_note_of, stopping, winner, with_stops}
use Rattle.cany_model.specs.Bus.State.{NodeState, node_at, original, runs}
use Rattle.can_controller.specs.Controller.{ControllerState, node_state}
use Rattle.can_bus.specs.Controllers.{IsSameBut, StandFor, nodes_of}

-- the node in its first incarnation, with every notice read
abbrev pub all_read : NodeState → NodeState
all_read node = record node { present = original; ended = []; unread = 0 }

read_at : (nodes : List NodeState) (i : ℕ) → node_at (map all_read nodes) i ≡ all_read (node_at nodes i)
unfolding node_at
read_at [] i = refl
read_at (n ∷ nodes) zero = refl
read_at (n ∷ nodes) (suc i) = read_at nodes i

offered_read : (nodes : List NodeState) → flat_map offered (map all_read nodes) ≡ flat_map offered nodes
offered_read [] = refl
offered_read (n ∷ nodes) = ap (λ t. offered n ++ t) (offered_read nodes)

winner_read : (nodes : List NodeState) → winner (map all_read nodes) ≡ winner nodes
unfolding winner
winner_read nodes = ap least_frame (offered_read nodes)

exceeds_read : (share : Share) (node : NodeState) → exceeds (after_share share (all_read node)) ≡ exceeds (after_share share node)
unfolding after_share
exceeds_read Idle node = refl
exceeds_read (Took f) node = refl
exceeds_read Rejected node = refl
exceeds_read (Confirmed f) node = refl
exceeds_read Errored node = refl

transmission_read : (slot : ℕ) (nodes : List NodeState) (verdict : Verdict) (o : Option FrameParts) → transmission slot (map all_read nodes) verdict o ≡ transmission slot nodes verdict o
transmission_read slot nodes verdict None = refl
transmission_read slot nodes verdict (Some f) = λ j. record {
  slot = slot;
  frame = Some f;
  senders = those_where (λ i. sends f (read_at nodes i j));
  takers = those_where (λ i. runs (read_at nodes i j) && not (sends f (read_at nodes i j)) && lets_accept verdict i);
  verdict = verdict;
  stops = record { bits = 0 };
}

stopping_read : (scripted : Nodes) (nodes : List NodeState) (note : SlotNote) → stopping scripted (map all_read nodes) note ≡ stopping scripted nodes note
stopping_read scripted nodes note =
    (λ j. those_where (λ i. runs (read_at nodes i j) && (has scripted i || exceeds (after_share (share_of i note) (read_at nodes i j)))))
    ∙ (λ j. those_where (λ i. runs (node_at nodes i) && (has scripted i || exceeds_read (share_of i note) (node_at nodes i) j)))

note_read : (slot : ℕ) (nodes : List NodeState) (o : Option FrameParts) (ruling : Ruling) → note_by slot (map all_read nodes) o ruling ≡ note_by slot nodes o ruling
note_read slot nodes o ruling =
    ap (with_stops ruling.stop (map all_read nodes)) (transmission_read slot nodes ruling.verdict o)
    ∙ ap (λ (s : Nodes). record (transmission slot nodes ruling.verdict o) { stops = s }) (stopping_read ruling.stop nodes (transmission slot nodes ruling.verdict o))

slot_read : (rules : FaultScript) (trace : List SlotNote) (nodes : List NodeState)
    → slot_note_of rules (record { trace = trace; nodes = map all_read nodes }) ≡ slot_note_of rules (record { trace = trace; nodes = nodes })
unfolding slot_note_of
slot_read rules trace nodes =
    ap (λ (o : Option FrameParts). note_by (length trace) (map all_read nodes) o (rules trace o)) (winner_read nodes)
    ∙ note_read (length trace) nodes (winner nodes) (rules trace (winner nodes))

same_read : (a b : NodeState) → IsSameBut a b → all_read a ≡ all_read b
same_read a b same = λ j. record { present = original; ended = []; unread = 0; waiting = same.waiting j; transmit = same.transmit j; receive = same.receive j; stopped = same.stopped j }

all_same : (controllers : List ControllerState) (nodes : List NodeState) → length nodes ≡ length controllers
    → ((i : ℕ) (c : ControllerState) → slice_get controllers i ≡ Some c → IsSameBut (node_state c) (node_at nodes i)) → map all_read (nodes_of controllers) ≡ map all_read nodes
unfolding node_at
all_same [] [] long same = refl
all_same [] (m ∷ nodes) long same = absurd (omega arith)
all_same (c ∷ controllers) [] long same = absurd (omega arith)
all_same (c ∷ controllers) (m ∷ nodes) long same =
    ap (λ x. x ∷ map all_read (nodes_of controllers)) (same_read (node_state c) m (same 0 c refl))
    ∙ ap (λ t. all_read m ∷ t) (all_same controllers nodes (omega arith) (λ i x at. same (suc i) x at))

pub slot_without_unread : (rules : FaultScript) (trace : List SlotNote) (controllers : List ControllerState) (nodes : List NodeState) → StandFor controllers nodes
    → slot_note_of rules (record { trace = trace; nodes = nodes_of controllers }) ≡ slot_note_of rules (record { trace = trace; nodes = nodes })
slot_without_unread rules trace controllers nodes stand =
    sym (slot_read rules trace (nodes_of controllers))
    ∙ ap (λ (ns : List NodeState). slot_note_of rules (record { trace = trace; nodes = ns })) (all_same controllers nodes stand.whole stand.each)
    ∙ slot_read rules trace nodes
