-- How a fact about each running node is proved of every run where its proof rests on this, that
-- what the node has read belongs to the scenario. It speaks of the scenario that the node's
-- incarnation follows, of the trace as this sees it, and of what the node has read and waits with.
use Rattle.std.proofs.Common.{ℕ, ◌≤◌, List, ◌∷◌, drop, sym, subst}
use Rattle.cany_base.specs.declared.notice.NoticeKind.{NoticeKind}
use Rattle.cany_base.specs.declared.slot_note.SlotNote.{SlotNote}
use Rattle.cany_base.specs.declared.step.Step.{Step}
use Rattle.cany_base.specs.Frame.{FrameParts}
use Rattle.cany_base.specs.Limits.{most_nodes}
use Rattle.cany_base.specs.Scenario.{ScenarioParts}
use Rattle.cany_model.specs.Bus.History.{given, seen}
use Rattle.cany_model.specs.Bus.State.{Incarnation, NodeState, RunState, node_at}
use Rattle.cany_model.specs.Rules.Effect.{waiting_after}
use Rattle.cany_model.specs.Rules.Notices.{IsReadable}
use Rattle.cany_model.specs.Rules.Turn.{scenario_for, turn_effects}
use Rattle.cany_model.specs.Runs.Run.{run}
use Rattle.cany_model.proofs.Among.{Among-drop, Among-from_map}
use Rattle.cany_model.proofs.Bus.EachRead.{EachRead, each_of_history}
use Rattle.cany_model.proofs.Bus.Seen.{history-is}
use Rattle.cany_model.proofs.Runs.Runs.{orderly}
use Rattle.cany_model.proofs.Runs.Steps.{kept_at}
use Rattle.cany_model.proofs.Promises.Diffusion.{Lived, Turned, past_of}
use Rattle.cany_model.proofs.Promises.EachNode.{EachRunning, IsNew, IsNodes, each_running}
use Rattle.cany_model.proofs.Promises.OwnSlotsAlone.{run_numbered}
use Rattle.cany_model.proofs.Promises.WaitingIsAskable.{AllBelong, all_belong, readable_for, seen_readable}
use Rattle.cany_model.proofs.Timed.Views.VectorHeld.{WaitedWith}
use Rattle.cany_model.proofs.Timed.Views.VectorKept.{HasRead}

past_read : (i : ℕ) (trace : List SlotNote) (node : NodeState) → HasRead i trace (past_of i trace node)
past_read i trace node P h =
    Among-drop (λ note. P (given i note)) node.unread trace (Among-from_map (given i) P (drop node.unread trace) h)

-- what a node has read in a run belongs to the scenario
pub run_readable : (scenario : ScenarioParts) (journal : List Step) → scenario.params.nodes ≤ most_nodes → (i : ℕ)
    → let s = run scenario journal in
    let node = node_at s.nodes i in
    EachRead (IsReadable (scenario_for scenario node.present)) (past_of i (seen node.present s.trace) node)
run_readable scenario journal few i =
    let s : RunState = run scenario journal in
    let inc : Incarnation = (node_at s.nodes i).present in
    let belong : AllBelong scenario s = all_belong scenario journal few in
    subst (EachRead (IsReadable (scenario_for scenario inc))) (history-is i s)
    (each_of_history (IsReadable (scenario_for scenario inc)) i s (run_numbered scenario.params.nodes s (orderly scenario journal))
    (λ note stands. readable_for scenario inc note.slot _ (seen_readable scenario s i inc note belong stands)))

module _ (scenario : ScenarioParts) (P : ScenarioParts → ℕ → List SlotNote → List NoticeKind → List FrameParts → Type 0) where
  abbrev pub AtNode : List SlotNote → ℕ → NodeState → Type 0
  AtNode trace i node = P (scenario_for scenario node.present) i trace (past_of i trace node) node.waiting

  -- what is shown of a node: that it holds of a new one, and is kept by a slot and by a turn
  pub record IsReadableNodes : Type 1 where
    pub new : (trace : List SlotNote) (i : ℕ) (node : NodeState) → IsNew scenario trace i node → AtNode trace i node
    pub slot : (sc : ScenarioParts) (i : ℕ) (note : SlotNote) (trace : List SlotNote) (past : List NoticeKind) (waiting : List FrameParts)
        → WaitedWith i note waiting → P sc i trace past waiting → P sc i (note ∷ trace) past (kept_at (given i note) waiting)
    pub turn : (inc : Incarnation) → let sc = scenario_for scenario inc in
        (i : ℕ) (trace : List SlotNote) (e : NoticeKind) (past : List NoticeKind) (waiting : List FrameParts)
        → HasRead i trace (e ∷ past) → EachRead (IsReadable sc) (e ∷ past)
        → P sc i trace past waiting → P sc i trace (e ∷ past) (waiting_after (turn_effects sc i (e ∷ past)) waiting)

  module _ (is : IsReadableNodes) where
    -- where the incarnation is this
    abbrev HoldsAs : Incarnation → List SlotNote → ℕ → NodeState → Type 0
    HoldsAs inc trace i node =
        EachRead (IsReadable (scenario_for scenario inc)) (past_of i trace node)
        → P (scenario_for scenario inc) i trace (past_of i trace node) node.waiting

    after_slot_holds : (note : SlotNote) (trace : List SlotNote) (i : ℕ) (node after : NodeState) → Lived note trace i node after
        → HoldsAs node.present trace i node → HoldsAs node.present (note ∷ trace) i after
    after_slot_holds note trace i node after l h read =
        let sc : ScenarioParts = scenario_for scenario node.present in
        rw (l.past, l.kept)
        (is.slot sc i note trace (past_of i trace node) node.waiting l.sends (h (subst (EachRead (IsReadable sc)) l.past read)))

    after_turn_holds : (trace : List SlotNote) (i : ℕ) (node after : NodeState)
        → Turned (turn_effects (scenario_for scenario node.present)) trace i node after
        → HoldsAs node.present trace i node → HoldsAs node.present trace i after
    after_turn_holds trace i node after t h read =
        let sc : ScenarioParts = scenario_for scenario node.present in
        let past : List NoticeKind = past_of i trace node in
        let read' : EachRead (IsReadable sc) (t.notice ∷ past) = subst (EachRead (IsReadable sc)) t.past read in
        rw (t.waiting, t.past)
        (is.turn node.present i trace t.notice past node.waiting (subst (HasRead i trace) t.past (past_read i trace after)) read' (h read'.1))

    nodes_hold : IsNodes scenario (λ trace i node. HoldsAs node.present trace i node)
    nodes_hold = record {
      new = λ trace i node new read. is.new trace i node new;
      slot = λ note trace i node after same l h.
          subst (λ (inc : Incarnation). HoldsAs inc (note ∷ trace) i after) (sym same) (after_slot_holds note trace i node after l h);
      turn = λ trace i node after same t h.
          subst (λ (inc : Incarnation). HoldsAs inc trace i after) (sym same) (after_turn_holds trace i node after t h);
    }

    -- so it holds of each running node of every run
    pub each_readable : (journal : List Step) → scenario.params.nodes ≤ most_nodes → EachRunning AtNode (run scenario journal)
    each_readable journal few i running =
        each_running scenario _ nodes_hold journal i running (run_readable scenario journal few i)
