-- How a fact about each running node is proved of every run, where its proof rests on two things
-- more: that a node sends the first of its waiting frames, and that it has few notices unread after
-- a turn.
use Rattle.std.proofs.Common.{◌≡◌, ℕ, ◌≤◌, true, List, ◌∷◌, Some, None, ap, arith}
use Rattle.cany_base.specs.declared.notice.NoticeKind.TheVariants.{Sent}
use Rattle.cany_base.specs.declared.slot_note.SlotNote.{SlotNote}
use Rattle.cany_base.specs.declared.step.Step.{Step}
use Rattle.cany_base.specs.Frame.{FrameParts}
use Rattle.cany_base.specs.Scenario.{ScenarioParts}
use Rattle.cany_model.specs.Bus.History.{as_seen, given, seen}
use Rattle.cany_model.specs.Runs.Run.{after_turn, run}
use Rattle.cany_model.specs.Bus.Slot.{FaultScript, after_slot, script, slot_note_of}
use Rattle.cany_model.specs.Bus.State.{Incarnation, NodeState, RunState, node_at, runs}
use Rattle.cany_model.specs.Rules.Turn.{scenario_for, turn_effects}
use Rattle.cany_model.proofs.Runs.Journals.{FewUnread, unread_at_first, unread_kept}
use Rattle.cany_model.proofs.Bus.Notes.{given-Sent}
use Rattle.cany_model.proofs.Runs.Runs.{IsOrderly, along_run}
use Rattle.cany_model.proofs.Bus.Seen.{seen_one}
use Rattle.cany_model.proofs.Runs.Steps.{MayTurn, after_turn-node, after_turn-present}
use Rattle.cany_model.proofs.Promises.Diffusion.{Lived, Turned}
use Rattle.cany_model.proofs.Promises.EachNode.{EachRunning, IsNew, each_restarts, each_slot, each_turn, opening_new, slot_lived, turn_turned}
use Rattle.cany_model.proofs.Promises.OwnSlotsAlone.{AllWaitForOwnSlots, own_slots_alone_opening, own_slots_alone_steps}
use Rattle.cany_model.proofs.Promises.FewLifeSignsOrder.{NoneBefore, carried_first}

-- what a slot gave the node as sent was the first of the frames that it waited with
abbrev pub SendsFirst : SlotNote → ℕ → NodeState → Type 0
SendsFirst note i node = (f : FrameParts) → given i note ≡ Sent f → NoneBefore f node.waiting

-- what is shown of a node: that it holds of a new one, and is kept by a slot and by a turn
pub record IsNodesWithin (scenario : ScenarioParts) (P : List SlotNote → ℕ → NodeState → Type 0) : Type 0 where
  pub new : (trace : List SlotNote) (i : ℕ) (node : NodeState) → IsNew scenario trace i node → P trace i node
  pub slot : (note : SlotNote) (trace : List SlotNote) (i : ℕ) (node after : NodeState) → after.present ≡ node.present → Lived note trace i node after
      → SendsFirst note i node → P trace i node → P (note ∷ trace) i after
  pub turn : (trace : List SlotNote) (i : ℕ) (node after : NodeState) → after.present ≡ node.present → after.unread ≤ scenario.params.lag
      → Turned (turn_effects (scenario_for scenario node.present)) trace i node after → P trace i node → P trace i after

sends_first : (rules : FaultScript) (s : RunState) (i : ℕ) → runs (node_at s.nodes i) ≡ true → (inc : Incarnation)
    → SendsFirst (as_seen inc (slot_note_of rules s)) i (node_at s.nodes i)
sends_first rules s i running inc f sent =
    let frame = (given-Sent i (as_seen inc (slot_note_of rules s)) f sent).0 in
    carried_first rules s f (seen_one (λ n. n.frame ≡ Some f) (λ n none some. idle n none some) inc (slot_note_of rules s) frame).1 i running
  where
    idle : (n : SlotNote) → n.frame ≡ None → n.frame ≡ Some f → ⊥
    idle n a b = cc

module _ (scenario : ScenarioParts) (P : List SlotNote → ℕ → NodeState → Type 0) (is : IsNodesWithin scenario P) where
  within_slot : (rules : FaultScript) (s : RunState) → AllWaitForOwnSlots s → EachRunning P s → EachRunning P (after_slot rules s)
  within_slot rules s own_slots_alone all =
      each_slot P rules s (λ i ran same.
      let inc = (node_at s.nodes i).present in
      is.slot (as_seen inc (slot_note_of rules s)) (seen inc s.trace) i (node_at s.nodes i) (node_at (after_slot rules s).nodes i) same
      (slot_lived rules s i (own_slots_alone i ran) ran) (sends_first rules s i ran inc) (all i ran))

  within_turn : (s : RunState) (i : ℕ) → MayTurn s i → IsOrderly scenario.params.nodes s → FewUnread scenario s → EachRunning P s
      → EachRunning P (after_turn scenario i s)
  within_turn s i may o few all =
      let after : NodeState = node_at (after_turn scenario i s).nodes i in
      let left : after.unread ≤ scenario.params.lag =
      omega (arith, ap (λ (node : NodeState). node.unread) (after_turn-node scenario i s may (o.unread i)), few i may.running) in
      each_turn scenario P s i may (o.unread i)
      (is.turn (seen (node_at s.nodes i).present s.trace) i (node_at s.nodes i) after
      (after_turn-present scenario i s i may (o.unread i)) left (turn_turned scenario i s may (o.unread i)) (all i may.running)) all

  abbrev Known : RunState → Type 0
  Known s = AllWaitForOwnSlots s × (FewUnread scenario s × EachRunning P s)

  -- so it holds of each running node of every run
  pub each_within : (journal : List Step) → EachRunning P (run scenario journal)
  each_within journal =
      (along_run scenario Known
      (own_slots_alone_opening scenario.params.nodes, (unread_at_first scenario, λ i running. is.new _ i _ (opening_new scenario i running)))
      (record {
        slot = λ s o may h. (
          (own_slots_alone_steps scenario).slot s o may h.0,
          ((unread_kept scenario).slot s o may h.1.0, within_slot (script scenario.rules) s h.0 h.1.1),
        );
        restarts = λ s o some h. (
          (own_slots_alone_steps scenario).restarts s o some h.0,
          ((unread_kept scenario).restarts s o some h.1.0, each_restarts scenario P is.new s o some h.1.1),
        );
        turn = λ s i o may h. ((own_slots_alone_steps scenario).turn s i o may h.0, ((unread_kept scenario).turn s i o may h.1.0, within_turn s i may o h.1.0 h.1.1));
      })
      journal).1.1
