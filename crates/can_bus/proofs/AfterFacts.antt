-- What a slot leaves of the controllers.
use Rattle.std.proofs.Common.{◌≡◌, ℕ, ◌<◌, ◌&&◌, ◌||◌, Bool, true, false, List, length, refl, ap, sym, subst, ◌∙◌}
use Rattle.std.specs.Prelude.{Option, Some, None, is_none, if◌then◌else◌, slice_get, option_map}
use Rattle.std.proofs.lemmas.Bool.{lt-ltb}
use Rattle.cany_base.specs.Limits.{most_nodes}
use Rattle.cany_base.specs.declared.slot_note.SlotNote.{SlotNote}
use Rattle.cany_base.specs.Nodes.{Nodes, has}
use Rattle.cany_base.proofs.NodesFacts.{has-those_where}
use Rattle.cany_base.specs.Params.{Parameters}
use Rattle.cany_model.specs.Bus.Slot.{after_share, exceeds, share_of, stopping}
use Rattle.cany_model.specs.Bus.State.{NodeState, node_at, runs}
use Rattle.can_controller.specs.Controller.{ControllerState, SeenIsNodeAfter, node_state, seen, stopped_at}
use Rattle.can_bus.specs.Each.{each}
use Rattle.can_bus.specs.Controllers.{AreAfter, IsControllerOf, AreControllersFor, controller_after, nodes_of}
use Rattle.can_bus.proofs.EachFacts.{get_each, length-each}
use Rattle.can_bus.proofs.NodeFacts.{share_same, state_at}

-- ---- the node that a controller is

after_running : (i : ℕ) (note : SlotNote) (c : ControllerState) → c.stopped ≡ None
    → controller_after i note c ≡ (if has note.stops i then stopped_at note.slot (seen note.slot (share_of i note) c) else seen note.slot (share_of i note) c)
unfolding controller_after
after_running i note c e =
    ap (λ b. if b then (if has note.stops i then stopped_at note.slot (seen note.slot (share_of i note) c) else seen note.slot (share_of i note) c) else c) (ap is_none e)

or_over : (scripted over : Bool) → over ≡ true → (scripted || over) ≡ true
or_over true over e = refl
or_over false over e = e

-- a node of which a counter is above the limit stops
stops_over : (scripted : Nodes) (nodes : List NodeState) (note : SlotNote) (i : ℕ) (node : NodeState) → i < most_nodes → node_at nodes i ≡ node → runs node ≡ true
    → exceeds (after_share (share_of i note) node) ≡ true → has (stopping scripted nodes note) i ≡ true
stops_over scripted nodes note i node within is running over =
    has-those_where (λ k. runs (node_at nodes k) && (has scripted k || exceeds (after_share (share_of k note) (node_at nodes k)))) i
    ∙ ap (λ b. b && (runs (node_at nodes i) && (has scripted i || exceeds (after_share (share_of i note) (node_at nodes i))))) (lt-ltb i most_nodes within)
    ∙ ap (λ (n : NodeState). runs n && (has scripted i || exceeds (after_share (share_of i note) n))) is
    ∙ ap (λ b. b && (has scripted i || exceeds (after_share (share_of i note) node))) running
    ∙ or_over (has scripted i) (exceeds (after_share (share_of i note) node)) over

-- ---- all controllers

-- each controller is changed by its place, and those stop that the script names or that have a
-- counter above the limit
pub are_after : ((i : ℕ) (note : SlotNote) (c : ControllerState) → SeenIsNodeAfter i note c)
    → (bare : SlotNote) (scripted stops : Nodes) (old new : List ControllerState) → ((i : ℕ) (c : ControllerState) → slice_get old i ≡ Some c → i < most_nodes)
    → stops ≡ stopping scripted (nodes_of old) bare → new ≡ each (λ i c. controller_after i (record bare { stops = stops }) c) 0 old
    → AreAfter (record bare { stops = stops }) old new
are_after law bare scripted stops old new few stop e = record {
  whole = ap (λ (cs : List ControllerState). length cs) e ∙ length-each (λ i c. controller_after i note c) 0 old;
  each = λ i. ap (λ (cs : List ControllerState). slice_get cs i) e ∙ get_each (λ i c. controller_after i note c) old i;
  node = λ i c at running.
      ap node_state (after_running i note c running)
      ∙ law i note c running
      (λ over. ap (λ s. has s i) stop
      ∙ stops_over scripted (nodes_of old) bare i (node_state c) (few i c at) (state_at old i c at) (ap is_none running)
      (ap (λ s. exceeds (after_share s (node_state c))) (sym (share_same i bare stops)) ∙ over));
}
  where
    note : SlotNote
    note = record bare { stops = stops }

-- ---- the controllers stay one of each node

built_by : (p : Parameters) (note : SlotNote) (i : ℕ) (c : ControllerState) (running stops : Bool) → IsControllerOf p i c
    → IsControllerOf p i (if running then (if stops then stopped_at note.slot (seen note.slot (share_of i note) c) else seen note.slot (share_of i note) c) else c)
built_by p note i c true true it = record { node = it.node; params = it.params }
built_by p note i c true false it = record { node = it.node; params = it.params }
built_by p note i c false stops it = it

after_built : (p : Parameters) (note : SlotNote) (i : ℕ) (c : ControllerState) → IsControllerOf p i c → IsControllerOf p i (controller_after i note c)
unfolding controller_after
after_built p note i c it = built_by p note i c (is_none c.stopped) (has note.stops i) it

mapped : {X Y : Type 0} (f : X → Y) (o : Option X) (y : Y) → option_map f o ≡ Some y → (x : X) × ((o ≡ Some x) × (f x ≡ y))
mapped f None y e = cc
mapped f (Some x) y e = (x, (refl, cc))

pub controllers_after_slot : (p : Parameters) (note : SlotNote) (old new : List ControllerState) → AreAfter note old new → AreControllersFor p old → AreControllersFor p new
controllers_after_slot p note old new are each_node = record {
  whole = are.whole ∙ each_node.whole;
  each = λ i c e.
      let was = mapped (controller_after i note) (slice_get old i) c (sym (are.each i) ∙ e) in
      subst (λ (x : ControllerState). IsControllerOf p i x) was.1.1 (after_built p note i was.0 (each_node.each i was.0 was.1.0));
}
