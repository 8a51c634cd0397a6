-- A slot keeps the controllers and the nodes of a world those of the run.
use Rattle.std.proofs.Common.{◌≡◌, ℕ, ◌<◌, ◌≤◌, List, ◌∷◌, length, refl, sym, ap, ◌∙◌, subst, arith}
use Rattle.std.specs.List.{AllByRecursion}
use Rattle.std.specs.Prelude.{is_none, slice_get, option_map, Option, Some, None}
use Rattle.std.proofs.lemmas.Option.{slice_get_within}
use Rattle.cany_base.specs.declared.message.NodeAsk.{NodeAsk}
use Rattle.cany_base.specs.declared.rule.Rule.{Rule}
use Rattle.cany_base.specs.declared.slot_note.SlotNote.{SlotNote}
use Rattle.cany_base.specs.declared.step.Step.{Step}
use Rattle.cany_base.specs.Scenario.{ScenarioParts, IsLegalScenario}
use Rattle.cany_model.specs.declared.reply.StepReply.{StepReply}
use Rattle.cany_model.specs.declared.reply.StepReply.TheVariants.{Done}
use Rattle.cany_model.specs.Bus.History.{ended_history}
use Rattle.cany_model.specs.Bus.Restart.{after_restarts}
use Rattle.cany_model.specs.Runs.Run.{is_done, reply, run, slot_reply}
use Rattle.cany_model.specs.Bus.Slot.{FaultScript, script, slot_note_of, after_slot, node_after}
use Rattle.cany_model.specs.Bus.State.{NodeState, RunState, node_at, slots_run}
use Rattle.cany_model.proofs.Bus.Restarts.{after_restarts-trace}
use Rattle.cany_model.proofs.Runs.Runs.{IsOrderly, MaySlot, orderly, slot_done}
use Rattle.cany_model.proofs.Bus.Seen.{history-is}
use Rattle.cany_model.proofs.Runs.Steps.{after_slot-node, after_slot-trace, after_slot-history}
use Rattle.can_bus.specs.Bus.{BusParts, Follows}
use Rattle.can_bus.specs.Controllers.{AreAfter, AreControllersFor, NoneLags, StandFor, controller_after}
use Rattle.can_controller.specs.Controller.{ControllerState, node_state}
use Rattle.cany_world.specs.Incarnations.{IncarnationsParts}
use Rattle.cany_world.specs.Kept.{IsKeptAs, AreControllersOf, AreNodesOf, IsBusOf, past_of}
use Rattle.cany_world.specs.Kept.{StandFor as WorldStands}
use Rattle.cany_world.specs.Restarting.{CanRestartAll}
use Rattle.cany_world.proofs.ControllerFacts.{kept_slot}
use Rattle.cany_world.proofs.Endings.{ended_later}
use Rattle.cany_world.proofs.InOrder.{AllInOrder, in_order, slot_same, weaker}
use Rattle.cany_world.proofs.NodeFacts.{kept_still}

-- ---- that a slot can run

pub may_slot : (scenario : ScenarioParts) (journal : List Step) (r : StepReply) → r ≡ slot_reply scenario (run scenario journal) → r ≡ Done → MaySlot scenario (run scenario journal)
unfolding reply
may_slot scenario journal r is done = slot_done scenario (run scenario journal) (ap is_done (sym is ∙ done))

pub none_lags : (scenario : ScenarioParts) (s : RunState) (controllers : List ControllerState) → MaySlot scenario s → AreControllersOf scenario s controllers
    → NoneLags scenario.params.lag controllers
none_lags scenario s controllers may kept i c at running =
    let it : IsKeptAs scenario s.trace i (node_at s.nodes i) c = kept.each i c at in
    omega (arith, it.all running, may.lag i (ap is_none (sym it.stopped ∙ running)))

pub controllers_for : (scenario : ScenarioParts) (s : RunState) (controllers : List ControllerState) → AreControllersOf scenario s controllers → AreControllersFor scenario.params controllers
controllers_for scenario s controllers kept = record {
  whole = kept.whole;
  each = λ i c at. let it : IsKeptAs scenario s.trace i (node_at s.nodes i) c = kept.each i c at in record { node = it.number; params = it.params };
}

-- ---- the controllers and the nodes after it

-- which controller a slot left so
pub record IsAfter (note : SlotNote) (controllers : List ControllerState) (i : ℕ) (c' : ControllerState) : Type 0 where
  pub before : ControllerState
  pub at : slice_get controllers i ≡ Some before
  pub is : controller_after i note before ≡ c'

after_at : (note : SlotNote) (controllers after : List ControllerState) → AreAfter note controllers after → (i : ℕ) (c' : ControllerState) → slice_get after i ≡ Some c'
    → IsAfter note controllers i c'
after_at note controllers after are i c' e = go (slice_get controllers i) refl
  where
    go : (o : Option ControllerState) → slice_get controllers i ≡ o → IsAfter note controllers i c'
    go None h =
        let none : None ≡ Some c' = sym (are.each i ∙ ap (option_map (controller_after i note)) h) ∙ e in
        absurd (cc)
    go (Some c) h =
        let some : Some (controller_after i note c) ≡ Some c' = sym (are.each i ∙ ap (option_map (controller_after i note)) h) ∙ e in
        record { before = c; at = h; is = cc }

controller_slot : (scenario : ScenarioParts) (rules : FaultScript) (s : RunState) (controllers : List ControllerState) → IsOrderly scenario.params.nodes s
    → AreControllersOf scenario s controllers
    → ((i : ℕ) (c : ControllerState) → slice_get controllers i ≡ Some c → c.stopped ≡ None
    → node_state (controller_after i (slot_note_of rules s) c) ≡ node_after i (slot_note_of rules s) (node_state c))
    → (i : ℕ) (c' : ControllerState) → IsAfter (slot_note_of rules s) controllers i c'
    → IsKeptAs scenario (after_slot rules s).trace i (node_at (after_slot rules s).nodes i) c'
controller_slot scenario rules s controllers o kept law i c' after =
    let note : SlotNote = slot_note_of rules s in
    let within : i < length controllers = slice_get_within controllers i after.before after.at in
    let state : node_at (after_slot rules s).nodes i ≡ node_after i note (node_at s.nodes i) = after_slot-node rules s i (omega (arith, o.count, kept.whole)) in
    let there : IsKeptAs scenario (note ∷ s.trace) i (node_after i note (node_at s.nodes i)) (controller_after i note after.before) =
    kept_slot scenario s.trace i (node_at s.nodes i) after.before note (kept.each i after.before after.at) (o.unread i) (law i after.before after.at) in
    subst (λ (t : List SlotNote). IsKeptAs scenario t i (node_at (after_slot rules s).nodes i) c') (sym (after_slot-trace rules s))
    (subst (λ (n : NodeState). IsKeptAs scenario (note ∷ s.trace) i n c') (sym state)
    (subst (IsKeptAs scenario (note ∷ s.trace) i (node_after i note (node_at s.nodes i))) after.is there))

controllers_slot : (scenario : ScenarioParts) (rules : FaultScript) (s : RunState) (controllers after : List ControllerState) → IsOrderly scenario.params.nodes s
    → AreControllersOf scenario s controllers → AreAfter (slot_note_of rules s) controllers after → AreControllersOf scenario (after_slot rules s) after
controllers_slot scenario rules s controllers after o kept are = record {
  whole = are.whole ∙ kept.whole;
  each = λ i c' at.
      controller_slot scenario rules s controllers o kept are.node i c' (after_at (slot_note_of rules s) controllers after are i c' at);
}

-- a slot gives nobody anything to have read
slot_past : (rules : FaultScript) (s : RunState) (i : ℕ) → i < length s.nodes
    → past_of i (after_slot rules s).trace (node_at (after_slot rules s).nodes i) ≡ past_of i s.trace (node_at s.nodes i)
slot_past rules s i within = sym (history-is i (after_slot rules s)) ∙ after_slot-history rules s i within ∙ history-is i s

slot_ends : (rules : FaultScript) (s : RunState) (i : ℕ) → AllInOrder s
    → AllByRecursion (λ e. ended_history i (after_slot rules s).trace e ≡ ended_history i s.trace e) (node_at s.nodes i).ended
slot_ends rules s i order =
    weaker (λ e. e.next ≤ length s.trace) (λ e. ended_history i (after_slot rules s).trace e ≡ ended_history i s.trace e)
    (λ e within. ap (λ (t : List SlotNote). ended_history i t e) (after_slot-trace rules s) ∙ ended_later i (slot_note_of rules s) s.trace e within)
    (node_at s.nodes i).ended (order i).past

pub nodes_slot : (scenario : ScenarioParts) (rules : FaultScript) (s : RunState) (nodes : List IncarnationsParts) → IsOrderly scenario.params.nodes s → AllInOrder s
    → AreNodesOf scenario s nodes → AreNodesOf scenario (after_slot rules s) nodes
nodes_slot scenario rules s nodes o order kept = record {
  whole = kept.whole;
  each = λ i v at.
      let within : i < length nodes = slice_get_within nodes i v at in
      kept_still scenario s.trace (after_slot rules s).trace i (node_at s.nodes i) (node_at (after_slot rules s).nodes i) v (slot_same rules s i)
      (slot_past rules s i (omega (arith, within, o.count, kept.whole))) (slot_ends rules s i order) (kept.each i v at);
}

-- ---- the slot of the bus

-- the controllers are the nodes of the run but for what stopped nodes have unread
stand_for : (scenario : ScenarioParts) (s : RunState) (controllers : List ControllerState) → IsOrderly scenario.params.nodes s → AreControllersOf scenario s controllers
    → StandFor controllers s.nodes
stand_for scenario s controllers o kept = record {
  whole = omega (arith, kept.whole, o.count);
  each = λ i c at.
      let it : IsKeptAs scenario s.trace i (node_at s.nodes i) c = kept.each i c at in
      record { waiting = it.waiting; transmit = it.transmit; receive = it.receive; stopped = it.stopped };
}

-- the bus and the controllers after a slot are those of the run after its slot
pub bus_done : (scenario : ScenarioParts) (journal : List Step) (rules : List Rule) (bus bus' : BusParts) (controllers after : List ControllerState) (note : SlotNote)
    → rules ≡ scenario.rules → IsBusOf scenario (run scenario journal) bus → AreControllersOf scenario (run scenario journal) controllers
    → ((nodes : List NodeState) → StandFor controllers nodes → note ≡ slot_note_of (script rules) (record { trace = bus.trace; nodes = nodes }))
    → bus'.trace ≡ note ∷ bus.trace → bus'.params ≡ bus.params → Follows rules bus' → AreAfter note controllers after
    → IsBusOf scenario (after_slot (script scenario.rules) (run scenario journal)) bus' × AreControllersOf scenario (after_slot (script scenario.rules) (run scenario journal)) after
bus_done scenario journal rules bus bus' controllers after note same of kept is trace params follows then = (
  record {
    params = params ∙ of.params;
    trace = trace ∙ ap (λ t. note ∷ t) of.trace ∙ ap (λ n. n ∷ s.trace) is' ∙ sym (after_slot-trace (script scenario.rules) s);
    follows = subst (λ (r : List Rule). Follows r bus') same follows;
  },
  controllers_slot scenario (script scenario.rules) s controllers after (orderly scenario journal) kept (subst (λ (n : SlotNote). AreAfter n controllers after) is' then),
)
  where
    s : RunState
    s = run scenario journal

    is' : note ≡ slot_note_of (script scenario.rules) s
    is' = is s.nodes (stand_for scenario s controllers (orderly scenario journal) kept)
        ∙ ap (λ (r : List Rule). slot_note_of (script r) (record { trace = bus.trace; nodes = s.nodes })) same
        ∙ ap (λ (t : List SlotNote). slot_note_of (script scenario.rules) (record { trace = t; nodes = s.nodes })) of.trace

-- ---- the slot, and the restarts at its end

-- the step is done, with these parts of it
pub record IsSlotOf (scenario : ScenarioParts) (rules : List Rule) (bus bus' : BusParts) (controllers after : List ControllerState) (note : SlotNote) : Type 0 where
  pub same : rules ≡ scenario.rules
  pub note_is : (nodes : List NodeState) → StandFor controllers nodes → note ≡ slot_note_of (script rules) (record { trace = bus.trace; nodes = nodes })
  pub trace : bus'.trace ≡ note ∷ bus.trace
  pub params : bus'.params ≡ bus.params
  pub follows : Follows rules bus'
  pub row : AreAfter note controllers after

module _ (scenario : ScenarioParts) (journal : List Step) (rules : List Rule) (bus bus' : BusParts) (controllers after : List ControllerState) (nodes : List IncarnationsParts) (note : SlotNote)
    (made : IsSlotOf scenario rules bus bus' controllers after note) (stands : WorldStands scenario (run scenario journal) bus controllers nodes) where
  abbrev ended : RunState
  ended = after_slot (script scenario.rules) (run scenario journal)

  slot_done_is : IsBusOf scenario ended bus' × AreControllersOf scenario ended after
  slot_done_is = bus_done scenario journal rules bus bus' controllers after note made.same stands.bus stands.controllers made.note_is made.trace made.params made.follows made.row

  nodes_done : AreNodesOf scenario ended nodes
  nodes_done = nodes_slot scenario (script scenario.rules) (run scenario journal) nodes (orderly scenario journal) (in_order scenario journal) stands.nodes

  -- the restarts can be made
  pub can_restart : (restarts : List NodeAsk) (slot : ℕ) → IsLegalScenario scenario → restarts ≡ scenario.restarts → slot ≡ length (run scenario journal).trace
      → MaySlot scenario (run scenario journal) → CanRestartAll restarts slot after nodes
  can_restart restarts slot legal same now may = record {
    scenario = scenario;
    legal = legal;
    same = same;
    journal = journal;
    now = now;
    within = omega (arith, now, may.room);
    controllers = slot_done_is.1;
    nodes = nodes_done;
  }

  -- and after them bus, controllers and nodes are those of the run
  pub slot_stands_after : (restarts : List NodeAsk) (slot : ℕ) (row : List ControllerState) (nodes' : List IncarnationsParts) → restarts ≡ scenario.restarts
      → slot ≡ length (run scenario journal).trace → MaySlot scenario (run scenario journal)
      → ((follows : ScenarioParts) (steps : List Step) → restarts ≡ follows.restarts → slot ≡ slots_run (run follows steps) → slot < follows.params.slots
      → AreControllersOf follows (after_slot (script follows.rules) (run follows steps)) after → AreNodesOf follows (after_slot (script follows.rules) (run follows steps)) nodes
      → AreControllersOf follows (after_restarts follows (after_slot (script follows.rules) (run follows steps))) row
      × AreNodesOf follows (after_restarts follows (after_slot (script follows.rules) (run follows steps))) nodes')
      → WorldStands scenario (after_restarts scenario ended) bus' row nodes'
  slot_stands_after restarts slot row nodes' same now may law =
      let both = law scenario journal same now (omega (arith, now, may.room)) slot_done_is.1 nodes_done in
      record {
        bus = record { params = slot_done_is.0.params; trace = slot_done_is.0.trace ∙ sym (after_restarts-trace scenario ended); follows = slot_done_is.0.follows };
        controllers = both.0;
        nodes = both.1;
      }
