-- One bus slot: who wins, what comes of it, and who stops.
use Rattle.std.specs.Prelude.{ℕ, ◌+◌, ◌-◌, Bool, true, false, not, ◌&&◌, ◌||◌, nat_lt, if◌then◌else◌, List, [], ◌∷◌, Option, Some, None, length, count_by, find}
use Rattle.std.specs.List.{flat_map}
use Rattle.std.specs.Option.{option_map_or, option_or}
use Rattle.cany_base.specs.declared.rule.Rule.{Rule}
use Rattle.cany_base.specs.declared.rule.Place.{Place}
use Rattle.cany_base.specs.declared.rule.Place.TheVariants.{At, FrameNth}
use Rattle.cany_base.specs.declared.rule.Verdict.{Verdict}
use Rattle.cany_base.specs.declared.rule.Verdict.TheVariants.{Clean, Lost, Partial, Silent}
use Rattle.cany_base.specs.declared.slot_note.SlotNote.{SlotNote}
use Rattle.cany_base.specs.Frame.{FrameParts}
use Rattle.cany_base.specs.Limits.{greatest_error_counter}
use Rattle.cany_base.specs.Nodes.{Nodes, has, those_where, nobody}
use Rattle.cany_base.specs.Scenario.{same_place}
use Rattle.cany_model.specs.Bus.Frames.{Identity, identity_of, is_of, is_before}
use Rattle.cany_model.specs.declared.share.Share.{Share}
use Rattle.cany_model.specs.declared.share.Share.TheVariants.{Idle, Took, Rejected, Confirmed, Errored}
use Rattle.cany_model.specs.Bus.State.{NodeState, RunState, node_at, runs}
use Rattle.cany_model.specs.Bus.Waiting.{waits_with, without}

-- the one of the two that wins: the first where they tie
abbrev pub better : FrameParts → Option FrameParts → FrameParts
better f None = f
better f (Some g) = if is_before g f then g else f

-- the least frame of a list, the first of those that tie
unfoldable pub least_frame : List FrameParts → Option FrameParts
least_frame [] = None
least_frame (f ∷ fs) = Some (better f (least_frame fs))

-- the frames that a node waits with, where it runs
abbrev pub offered : NodeState → List FrameParts
offered node = if runs node then node.waiting else []

-- the frame that is carried: the least that a running node waits with
unfoldable pub winner : List NodeState → Option FrameParts
winner nodes = least_frame (flat_map offered nodes)

-- what the fault script says of a slot: the verdict, and the nodes that stop at its end
pub record Ruling : Type 0 where
  pub verdict : Verdict
  pub stop : Nodes

-- a fault script rules by the slots before, newest first, and the frame that is carried
abbrev pub FaultScript : Type 0
FaultScript = List SlotNote → Option FrameParts → Ruling

-- whether the slot carried a frame that passes the test
abbrev pub carried : (FrameParts → Bool) → SlotNote → Bool
carried test note = option_map_or test note.frame false

-- how many slots carried a frame of this identity
abbrev pub attempts : Identity → List SlotNote → ℕ
attempts x trace = count_by (carried (is_of x)) trace

-- the first rule that has the place
abbrev pub rule_at : List Rule → Place → Option Rule
rule_at rules place = find (λ rule. same_place rule.place place) rules

-- the rule for this slot
abbrev pub slot_rule : List Rule → ℕ → Option Rule
slot_rule rules slot = rule_at rules (At slot)

-- the rule for this attempt to carry a frame of this identity
abbrev pub frame_rule : List Rule → Identity → ℕ → Option Rule
frame_rule rules x attempt = rule_at rules (FrameNth x.class x.number x.node attempt)

abbrev pub ruling_of : Option Rule → Ruling
ruling_of None = record { verdict = Clean; stop = nobody }
ruling_of (Some rule) = record { verdict = rule.verdict; stop = rule.stop }

-- a rule for the slot is used alone; without one, that for the attempt; without either, the slot is
-- Clean and nobody stops
unfoldable pub script : List Rule → FaultScript
script rules trace None = ruling_of (slot_rule rules (length trace))
script rules trace (Some f) =
    ruling_of (option_or (slot_rule rules (length trace)) (frame_rule rules (identity_of f) (attempts (identity_of f) trace + 1)))

-- whether the verdict lets receiver i accept the frame
abbrev pub lets_accept : Verdict → ℕ → Bool
lets_accept Clean i = true
lets_accept Lost i = false
lets_accept (Partial reject) i = not (has reject i)
lets_accept (Silent reject) i = not (has reject i)

-- whether the senders see success
abbrev pub is_success : Verdict → Bool
is_success Clean = true
is_success Lost = false
is_success (Partial reject) = false
is_success (Silent reject) = true

-- whether no receiver rejected the frame
abbrev pub is_clean : Verdict → Bool
is_clean Clean = true
is_clean Lost = false
is_clean (Partial reject) = false
is_clean (Silent reject) = false

-- whether the node waits with this frame, and runs
abbrev pub sends : FrameParts → NodeState → Bool
sends f node = runs node && waits_with f node.waiting

-- the note of a slot but for its stops
abbrev pub transmission : ℕ → List NodeState → Verdict → Option FrameParts → SlotNote
transmission slot nodes verdict None =
    record { slot = slot; frame = None; senders = nobody; takers = nobody; verdict = Clean; stops = nobody }
transmission slot nodes verdict (Some f) = record {
  slot = slot;
  frame = Some f;
  senders = those_where (λ i. sends f (node_at nodes i));
  takers = those_where (λ i. runs (node_at nodes i) && not (sends f (node_at nodes i)) && lets_accept verdict i);
  verdict = verdict;
  stops = nobody;
}

-- what a running node did in a slot
abbrev pub share_in : ℕ → SlotNote → Option FrameParts → Share
share_in i note None = Idle
share_in i note (Some f) =
    if has note.senders i then (if is_success note.verdict then Confirmed f else Errored)
    else if has note.takers i then Took f
    else Rejected

unfoldable pub share_of : ℕ → SlotNote → Share
share_of i note = share_in i note note.frame

-- the frames and the counters of a node after its share in a slot
unfoldable pub after_share : Share → NodeState → NodeState
after_share Idle node = node
after_share (Took f) node = record node { receive = node.receive - 1 }
after_share Rejected node = record node { receive = node.receive + 1 }
after_share (Confirmed f) node = record node { transmit = node.transmit - 1; waiting = without (identity_of f) node.waiting }
after_share Errored node = record node { transmit = node.transmit + 8 }

-- whether a counter is above the limit at which a node stops
abbrev pub exceeds : NodeState → Bool
exceeds node = nat_lt greatest_error_counter node.transmit || nat_lt greatest_error_counter node.receive

-- the running nodes that stop at the end of the slot: by the script or by their counters
abbrev pub stopping : Nodes → List NodeState → SlotNote → Nodes
stopping scripted nodes note =
    those_where (λ i. runs (node_at nodes i) && (has scripted i || exceeds (after_share (share_of i note) (node_at nodes i))))

abbrev pub with_stops : Nodes → List NodeState → SlotNote → SlotNote
with_stops scripted nodes note = record note { stops = stopping scripted nodes note }

abbrev pub note_by : ℕ → List NodeState → Option FrameParts → Ruling → SlotNote
note_by slot nodes frame ruling = with_stops ruling.stop nodes (transmission slot nodes ruling.verdict frame)

-- what happens in the next slot
unfoldable pub slot_note_of : FaultScript → RunState → SlotNote
slot_note_of rules s = note_by (length s.trace) s.nodes (winner s.nodes) (rules s.trace (winner s.nodes))

-- A node after the slot: one more notice is unread. Of a node that had stopped before only this
-- count rises, so that what it has read stays; it gets no notice.
unfoldable pub node_after : ℕ → SlotNote → NodeState → NodeState
node_after i note node =
    if runs node
    then record (after_share (share_of i note) node) { unread = node.unread + 1; stopped = if has note.stops i then Some note.slot else None }
    else record node { unread = node.unread + 1 }

unfoldable pub nodes_after : ℕ → SlotNote → List NodeState → List NodeState
nodes_after i note [] = []
nodes_after i note (node ∷ nodes) = node_after i note node ∷ nodes_after (i + 1) note nodes

unfoldable pub after_slot : FaultScript → RunState → RunState
after_slot rules s =
    let note = slot_note_of rules s in
    record { trace = note ∷ s.trace; nodes = nodes_after 0 note s.nodes }
