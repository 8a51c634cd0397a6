-- The controllers, and the nodes that they are.
use Rattle.std.proofs.Common.{◌≡◌, ℕ, zero, suc, ◌+◌, ◌≤◌, Bool, true, false, not, ◌&&◌, List, [], ◌∷◌, length, refl, ap, sym, ◌∙◌, arith}
use Rattle.std.specs.Prelude.{Option, Some, None, is_none, if◌then◌else◌, slice_get, unwrap_or, option_map}
use Rattle.std.proofs.lemmas.Option.{same_Some}
use Rattle.std.proofs.lemmas.List.{get_or_past, length-map}
use Rattle.cany_base.specs.declared.slot_note.SlotNote.{SlotNote}
use Rattle.cany_base.specs.Nodes.{Nodes, has}
use Rattle.cany_model.specs.Bus.Slot.{after_share, exceeds, share_in, share_of}
use Rattle.cany_model.specs.Bus.State.{NodeState, node_at, runs, absent}
use Rattle.can_controller.specs.Controller.{ControllerState, node_state, seen, stopped_at}
use Rattle.can_bus.specs.Contest.{seen_by, stopped_by}
use Rattle.can_bus.specs.Each.{each}
use Rattle.can_bus.specs.Controllers.{nodes_of, controller_after}
use Rattle.can_bus.proofs.EachFacts.{each-each, each_same, get_each}

pub state_at : (controllers : List ControllerState) (i : ℕ) (c : ControllerState) → slice_get controllers i ≡ Some c → node_at (nodes_of controllers) i ≡ node_state c
unfolding node_at
state_at [] i c e = cc
state_at (x ∷ controllers) zero c e = ap node_state (same_Some x c e)
state_at (x ∷ controllers) (suc i) c e = state_at controllers i c e

pub state_past : (controllers : List ControllerState) (i : ℕ) → length controllers ≤ i → node_at (nodes_of controllers) i ≡ absent
unfolding node_at
state_past controllers i past = get_or_past (nodes_of controllers) i absent (omega (arith, length-map controllers node_state))

stop_by_counters : (over : Bool) (slot : ℕ) → is_none (if over then Some slot else None) ≡ not over
stop_by_counters true slot = refl
stop_by_counters false slot = refl

abbrev over_after : SlotNote → ℕ → NodeState → Bool
over_after note i node = exceeds (after_share (share_of i note) node)

runs_seen_by : (note : SlotNote) (i : ℕ) (c : ControllerState) (running : Bool) → is_none c.stopped ≡ running
    → is_none (seen_by note i c).stopped ≡ (is_none c.stopped && not (over_after note i (node_state c)))
runs_seen_by note i c true e =
    ap (λ r. is_none (if r then seen note.slot (share_of i note) c else c).stopped) e
    ∙ stop_by_counters (over_after note i (node_state c)) note.slot
    ∙ sym (ap (λ r. r && not (over_after note i (node_state c))) e)
runs_seen_by note i c false e =
    ap (λ r. is_none (if r then seen note.slot (share_of i note) c else c).stopped) e ∙ e ∙ sym (ap (λ r. r && not (over_after note i (node_state c))) e)

runs_seen_from : (note : SlotNote) (j : ℕ) (controllers : List ControllerState) (i : ℕ)
    → runs (node_at (nodes_of (each (seen_by note) j controllers)) i)
    ≡ (runs (node_at (nodes_of controllers) i) && not (over_after note (j + i) (node_at (nodes_of controllers) i)))
unfolding each node_at
runs_seen_from note j [] i = refl
runs_seen_from note j (c ∷ controllers) zero =
    let at : j ≡ j + 0 = omega arith in
    runs_seen_by note j c (is_none c.stopped) refl ∙ ap (λ k. is_none c.stopped && not (over_after note k (node_state c))) at
runs_seen_from note j (c ∷ controllers) (suc i) =
    let at : j + 1 + i ≡ j + suc i = omega arith in
    runs_seen_from note (j + 1) controllers i
    ∙ ap (λ k. runs (node_at (nodes_of controllers) i) && not (over_after note k (node_at (nodes_of controllers) i))) at

-- after its share a node runs unless a counter of it is above the limit
pub runs_seen : (note : SlotNote) (controllers : List ControllerState) (i : ℕ)
    → runs (node_at (nodes_of (each (seen_by note) 0 controllers)) i)
    ≡ (runs (node_at (nodes_of controllers) i) && not (over_after note i (node_at (nodes_of controllers) i)))
runs_seen note controllers i =
    let at : 0 + i ≡ i = omega arith in
    runs_seen_from note 0 controllers i ∙ ap (λ k. runs (node_at (nodes_of controllers) i) && not (over_after note k (node_at (nodes_of controllers) i))) at

-- a controller runs after its share where it has not stopped then
pub runs_seen_at : (note : SlotNote) (controllers : List ControllerState) (i : ℕ) (c : ControllerState) → slice_get controllers i ≡ Some c
    → runs (node_at (nodes_of (each (seen_by note) 0 controllers)) i) ≡ is_none (seen_by note i c).stopped
runs_seen_at note controllers i c at =
    ap runs (state_at (each (seen_by note) 0 controllers) i (seen_by note i c) (get_each (seen_by note) controllers i ∙ ap (option_map (seen_by note i)) at))

share_in_same : (i : ℕ) (note : SlotNote) (stops : Nodes) (frame : Option _) → share_in i (record note { stops = stops }) frame ≡ share_in i note frame
share_in_same i note stops None = refl
share_in_same i note stops (Some f) = refl

-- the stops of a note are no part of a share
pub share_same : (i : ℕ) (note : SlotNote) (stops : Nodes) → share_of i (record note { stops = stops }) ≡ share_of i note
unfolding share_of
share_same i note stops = share_in_same i note stops note.frame

stop_stays : (s : Option ℕ) (slot : ℕ) → is_none s ≡ false → Some (unwrap_or s slot) ≡ s
stop_stays None slot e = cc
stop_stays (Some t) slot e = refl

stopped_stays : (c : ControllerState) (slot : ℕ) (b : Bool) → is_none c.stopped ≡ false → (if b then stopped_at slot c else c) ≡ c
stopped_stays c slot true e = ap (λ (s : Option ℕ). record c { stopped = s }) (stop_stays c.stopped slot e)
stopped_stays c slot false e = refl

after_by : (bare : SlotNote) (stops : Nodes) (i : ℕ) (c : ControllerState) (running : Bool) → is_none c.stopped ≡ running
    → stopped_by bare.slot stops i (seen_by bare i c) ≡ controller_after i (record bare { stops = stops }) c
unfolding controller_after
after_by bare stops i c true e =
    let x : ControllerState = seen bare.slot (share_of i bare) c in
    ap (λ (r : Bool). if has stops i then stopped_at bare.slot (if r then x else c) else (if r then x else c)) e
    ∙ ap (λ share. if has stops i then stopped_at bare.slot (seen bare.slot share c) else seen bare.slot share c) (sym (share_same i bare stops))
    ∙ ap (λ (r : Bool). if r then (if has stops i then stopped_at bare.slot (seen bare.slot (share_of i (record bare { stops = stops })) c) else seen bare.slot (share_of i (record bare { stops = stops })) c) else c) (sym e)
after_by bare stops i c false e =
    let x : ControllerState = seen bare.slot (share_of i bare) c in
    ap (λ (r : Bool). if has stops i then stopped_at bare.slot (if r then x else c) else (if r then x else c)) e
    ∙ stopped_stays c bare.slot (has stops i) e
    ∙ ap (λ (r : Bool). if r then (if has stops i then stopped_at bare.slot (seen bare.slot (share_of i (record bare { stops = stops })) c) else seen bare.slot (share_of i (record bare { stops = stops })) c) else c) (sym e)

-- all see their shares, and then those stop that the set has
pub seen_and_stopped : (bare : SlotNote) (stops : Nodes) (controllers : List ControllerState)
    → each (stopped_by bare.slot stops) 0 (each (seen_by bare) 0 controllers) ≡ each (λ k c. controller_after k (record bare { stops = stops }) c) 0 controllers
seen_and_stopped bare stops controllers =
    each-each (stopped_by bare.slot stops) (seen_by bare) 0 controllers
    ∙ each_same (λ k c. stopped_by bare.slot stops k (seen_by bare k c)) (λ k c. controller_after k (record bare { stops = stops }) c) 0 controllers
    (λ k c. after_by bare stops k c (is_none c.stopped) refl)
