-- The incarnations of the nodes of a run: their order, and that those that ended read slots of the
-- run alone.
use Rattle.std.specs.Prelude.{◌≡◌, ℕ, suc, ◌-◌, ◌<◌, ◌≤◌, List, [], ◌∷◌, length, refl}
use Rattle.std.specs.List.{AllByRecursion}
use Rattle.std.proofs.Common.{sym, ap, ◌∙◌, subst, inl, inr, arith}
use Rattle.std.proofs.lemmas.Bool.{cases_lt, cases_eq}
use Rattle.std.proofs.lemmas.List.{length-replicate}
use Rattle.cany_base.specs.declared.slot_note.SlotNote.{SlotNote}
use Rattle.cany_base.specs.declared.step.Step.{Step}
use Rattle.cany_base.specs.Scenario.{ScenarioParts}
use Rattle.cany_model.specs.Bus.Restart.{after_restarts, ended_at}
use Rattle.cany_model.specs.Runs.Run.{after_turn, run}
use Rattle.cany_model.specs.Bus.Slot.{FaultScript, after_slot, script, slot_note_of}
use Rattle.cany_model.specs.Bus.State.{EndedIncarnation, Incarnation, NodeState, RunState, fresh, node_at, opening, original, slots_run}
use Rattle.cany_model.proofs.Bus.Restarts.{after_restarts-trace, restarts_or_stays}
use Rattle.cany_model.proofs.Runs.Runs.{along_run}
use Rattle.cany_model.proofs.Bus.States.{node_at-opening, node_at_past}
use Rattle.cany_model.proofs.Runs.Steps.{MayTurn, after_slot-length, after_slot-node, after_slot-present, after_slot-trace, after_turn-node, after_turn-other, after_turn-trace, node_after-ended}

-- each incarnation has the number after that of the one before it; the first is that of the opening
unfoldable pub AreInOrder : Incarnation → List EndedIncarnation → Type 0
AreInOrder inc [] = inc ≡ original
AreInOrder inc (e ∷ ended) = (inc.number ≡ suc e.incarnation.number) × AreInOrder e.incarnation ended

-- only that of the opening has the number 0
pub first_is_original : (inc : Incarnation) (ended : List EndedIncarnation) → AreInOrder inc ended → inc.number ≡ 0 → inc ≡ original
unfolding AreInOrder
first_is_original inc [] order first = order
first_is_original inc (e ∷ ended) order first = absurd (omega (arith, order.0, first))

pub record IsInOrder (trace : List SlotNote) (node : NodeState) : Type 0 where
  pub order : AreInOrder node.present node.ended
  pub past : AllByRecursion (λ e. e.next ≤ length trace) node.ended

abbrev pub AllInOrder : RunState → Type 0
AllInOrder s = (i : ℕ) → IsInOrder s.trace (node_at s.nodes i)

-- ---- what a slot and a turn leave of them

-- the incarnations of the two are the same
pub record HaveSame (before after : NodeState) : Type 0 where
  pub present : after.present ≡ before.present
  pub ended : after.ended ≡ before.ended

pub slot_same : (rules : FaultScript) (s : RunState) (i : ℕ) → HaveSame (node_at s.nodes i) (node_at (after_slot rules s).nodes i)
slot_same rules s i = elim (cases_lt i (length s.nodes)) [
  | inl below ↦
      let is = after_slot-node rules s i below in
      record {
        present = after_slot-present rules s i below;
        ended = ap (λ (n : NodeState). n.ended) is ∙ node_after-ended i (slot_note_of rules s) (node_at s.nodes i);
      }
  | inr past ↦
      let past' : length (after_slot rules s).nodes ≤ i = omega (arith, past, after_slot-length rules s) in
      let is : node_at (after_slot rules s).nodes i ≡ node_at s.nodes i = node_at_past (after_slot rules s).nodes i past' ∙ sym (node_at_past s.nodes i past) in
      record { present = ap (λ (n : NodeState). n.present) is; ended = ap (λ (n : NodeState). n.ended) is }
]

pub turn_same : (scenario : ScenarioParts) (i : ℕ) (s : RunState) (j : ℕ) → MayTurn s i → (node_at s.nodes i).unread ≤ length s.trace
    → HaveSame (node_at s.nodes j) (node_at (after_turn scenario i s).nodes j)
turn_same scenario i s j may short = elim (cases_eq j i) [
  | inl same ↦
      let is = after_turn-node scenario i s may short in
      subst (λ k. HaveSame (node_at s.nodes k) (node_at (after_turn scenario i s).nodes k)) (sym same)
      (record { present = ap (λ (n : NodeState). n.present) is; ended = ap (λ (n : NodeState). n.ended) is })
  | inr other ↦
      let is = after_turn-other scenario i s j other in
      record { present = ap (λ (n : NodeState). n.present) is; ended = ap (λ (n : NodeState). n.ended) is }
]

-- ---- every run

pub weaker : (P Q : EndedIncarnation → Type 0) → ((e : EndedIncarnation) → P e → Q e) → (ended : List EndedIncarnation) → AllByRecursion P ended → AllByRecursion Q ended
weaker P Q f [] h = tt
weaker P Q f (e ∷ ended) h = (f e h.0, weaker P Q f ended h.1)

still : (trace trace' : List SlotNote) (before after : NodeState) → length trace ≤ length trace' → HaveSame before after → IsInOrder trace before → IsInOrder trace' after
still trace trace' before after longer same h = record {
  order = rw (same.present, same.ended) h.order;
  past = rw same.ended (weaker (λ e. e.next ≤ length trace) (λ e. e.next ≤ length trace') (λ e p. omega (arith, p, longer)) before.ended h.past);
}

at_opening : (nodes : ℕ) → AllInOrder (opening nodes)
unfolding AreInOrder
at_opening nodes i = elim (cases_lt i nodes) [
  | inl below ↦ rw (node_at-opening nodes i below) (record { order = refl; past = tt })
  | inr past ↦ rw (node_at_past (opening nodes).nodes i (omega (arith, past, length-replicate nodes fresh))) (record { order = refl; past = tt })
]

restarts_in_order : (scenario : ScenarioParts) (s : RunState) → 0 < length s.trace → AllInOrder s → AllInOrder (after_restarts scenario s)
unfolding AreInOrder
restarts_in_order scenario s some h i =
    subst (λ trace. IsInOrder trace (node_at (after_restarts scenario s).nodes i)) (sym (after_restarts-trace scenario s))
    (elim (restarts_or_stays scenario s i) [
      | inl new ↦
          let node = node_at s.nodes i in
          let it : IsInOrder s.trace node = h i in
          let next : (ended_at (slots_run s - 1) node).next ≤ length s.trace = omega (arith, some) in
          rw new.is (record { order = (omega arith, it.order); past = (next, it.past) })
      | inr same ↦ rw same (h i)
    ])

pub slot_in_order : (rules : FaultScript) (s : RunState) → AllInOrder s → AllInOrder (after_slot rules s)
slot_in_order rules s h i =
    still s.trace (after_slot rules s).trace (node_at s.nodes i) (node_at (after_slot rules s).nodes i) (omega (arith, ap length (after_slot-trace rules s)))
    (slot_same rules s i) (h i)

pub in_order : (scenario : ScenarioParts) (journal : List Step) → AllInOrder (run scenario journal)
in_order scenario journal =
    along_run scenario AllInOrder (at_opening scenario.params.nodes)
    (record {
      slot = λ s o may h. slot_in_order (script scenario.rules) s h;
      restarts = λ s o some h. restarts_in_order scenario s some h;
      turn = λ s i o may h j.
          still s.trace (after_turn scenario i s).trace (node_at s.nodes j) (node_at (after_turn scenario i s).nodes j)
          (omega (arith, ap length (after_turn-trace scenario i s))) (turn_same scenario i s j may (o.unread i)) (h j);
    })
    journal
