-- The restarts at the end of a slot keep the controllers and the nodes of a world those of the run.
use Rattle.std.proofs.Common.{◌≡◌, ℕ, ◌+◌, ◌-◌, ◌<◌, ◌≤◌, ◌&&◌, Bool, true, false, not, List, length, get_or, refl, ap, sym, ◌∙◌, subst, arith}
use Rattle.std.specs.Prelude.{MatchBool, is_none, if◌then◌else◌, slice_get, slice_set, Option, Some, None}
use Rattle.std.proofs.lemmas.Bool.{and_parts, false≢true, not-true}
use Rattle.std.proofs.lemmas.List.{length-set}
use Rattle.std.proofs.lemmas.Option.{slice_get-get_or, slice_get_within}
use Rattle.cany_base.specs.declared.message.NodeAsk.{NodeAsk}
use Rattle.cany_base.specs.declared.slot_note.SlotNote.{SlotNote}
use Rattle.cany_base.specs.declared.step.Step.{Step}
use Rattle.cany_base.specs.Scenario.{ScenarioParts}
use Rattle.cany_model.specs.Bus.Restart.{after_entries, after_restarts, names_restart, restarted}
use Rattle.cany_model.specs.Runs.Run.{run}
use Rattle.cany_model.specs.Bus.Slot.{after_slot, script}
use Rattle.cany_model.specs.Bus.State.{NodeState, RunState, node_at, runs, slots_run}
use Rattle.cany_model.proofs.Runs.Runs.{IsOrderly, orderly, orderly_slot}
use Rattle.cany_model.proofs.Runs.Steps.{after_slot-trace}
use Rattle.cany_model.proofs.Promises.OwnSlotsAlone.{run_numbered}
use Rattle.can_controller.specs.Controller.{ControllerState, restarted_at}
use Rattle.cany_world.specs.Incarnations.{IncarnationsParts, IsRestarted}
use Rattle.cany_world.specs.Kept.{AreControllersOf, AreNodesOf, IsKeptAs, IsKeptAt, IsWaitingAt}
use Rattle.cany_world.specs.Restarting.{CanRestartAll, IsAfterEntries, MayStart, starts}
use Rattle.cany_world.proofs.ControllerFacts.{kept_restart, may_restart}
use Rattle.cany_world.proofs.EntriesLeft.{AllHaveLeft, one_left, slot_left}
use Rattle.cany_world.proofs.InOrder.{AllInOrder, in_order, slot_in_order}
use Rattle.cany_world.proofs.NodeFacts.{kept_restarted}
use Rattle.cany_world.proofs.RestartsOneByOne.{partly, partly_all, partly_here, partly_next, partly_other}
use Rattle.cany_world.proofs.PlaceFacts.{one_changed}

-- a state at the end of a slot, before the restarts
pub record IsAtEnd (scenario : ScenarioParts) (s : RunState) (slot : ℕ) : Type 0 where
  pub orderly : IsOrderly scenario.params.nodes s
  pub order : AllInOrder s
  pub left : AllHaveLeft scenario s
  pub ran : length s.trace ≡ slot + 1
  pub within : slot < scenario.params.slots

pub at_end : (scenario : ScenarioParts) (journal : List Step) (slot : ℕ) → slot ≡ slots_run (run scenario journal) → slot < scenario.params.slots
    → IsAtEnd scenario (after_slot (script scenario.rules) (run scenario journal)) slot
at_end scenario journal slot now within = record {
  orderly = orderly_slot scenario.params.nodes (script scenario.rules) (run scenario journal) (orderly scenario journal);
  order = slot_in_order (script scenario.rules) (run scenario journal) (in_order scenario journal);
  left = slot_left scenario journal;
  ran = omega (arith, now, ap (λ (t : List SlotNote). length t) (after_slot-trace (script scenario.rules) (run scenario journal)));
  within = within;
}

-- ---- one node

module _ (scenario : ScenarioParts) (s : RunState) (slot : ℕ) (here : IsAtEnd scenario s slot) (restarts : List NodeAsk) (same : restarts ≡ scenario.restarts)
    (i : ℕ) (below : i < length s.nodes) (c : ControllerState) (v : IncarnationsParts) (ctl : IsKeptAs scenario s.trace i (node_at s.nodes i) c)
    (kept : IsKeptAt scenario s.trace i (node_at s.nodes i) v) where
  node : NodeState
  node = node_at s.nodes i

  slot_is : slots_run s - 1 ≡ slot
  slot_is = omega (arith, here.ran)

  -- the controller tells which nodes start again
  pub starts_is : starts restarts slot i c ≡ (not (runs (node_at s.nodes i)) && names_restart scenario.restarts (slots_run s - 1) i)
  starts_is =
      ap (λ (o : Option ℕ). not (is_none o) && names_restart restarts slot i) ctl.stopped
      ∙ ap (λ (l : List NodeAsk). not (runs (node_at s.nodes i)) && names_restart l slot i) same
      ∙ ap (λ n. not (runs (node_at s.nodes i)) && names_restart scenario.restarts n i) (sym slot_is)

  -- one that starts again can
  pub may_start : starts restarts slot i c ≡ true → MayStart slot c v
  may_start begins = by_stop (node_at s.nodes i).stopped refl
    where
      parts : (not (runs (node_at s.nodes i)) ≡ true) × (names_restart scenario.restarts (slots_run s - 1) i ≡ true)
      parts = and_parts (not (runs (node_at s.nodes i))) (names_restart scenario.restarts (slots_run s - 1) i) (sym starts_is ∙ begins)

      by_stop : (o : Option ℕ) → (node_at s.nodes i).stopped ≡ o → MayStart slot c v
      by_stop None e = absurd (false≢true (rw e at parts.0))
      by_stop (Some stop) e =
          let stopped : runs (node_at s.nodes i) ≡ false = rw e refl in
          let more = one_left scenario s i (here.left i) stopped parts.1 in
          let next : IsWaitingAt scenario i v (v.present + 1) = kept.waiting (v.present + 1) (omega arith) (omega (arith, more, kept.number, kept.whole)) in
          record {
            controller = may_restart scenario s.trace i slot stop (node_at s.nodes i) c ctl here.ran (omega (arith, here.ran, here.within)) e ((here.left i).before below stop e);
            node = record {
              it = next.it;
              at = next.at;
              can = record { scenario = scenario; waits = next.waits; later = omega (arith, next.inc); within = here.within };
            };
          }

  -- controller and node after the entries of the slot are those of the run
  pub entries_kept : (c' : ControllerState) (v' : IncarnationsParts) → IsAfterEntries (starts restarts slot i c) slot c c' v v'
      → IsKeptAs scenario s.trace i (after_entries scenario (slots_run s - 1) i (node_at s.nodes i)) c'
      × IsKeptAt scenario s.trace i (after_entries scenario (slots_run s - 1) i (node_at s.nodes i)) v'
  unfolding after_entries
  entries_kept c' v' after = by_test (not (runs (node_at s.nodes i)) && names_restart scenario.restarts (slots_run s - 1) i) refl
    where
      made : (b : Bool) → (not (runs (node_at s.nodes i)) && names_restart scenario.restarts (slots_run s - 1) i) ≡ b
          → MatchBool b ((c' ≡ restarted_at slot c) × IsRestarted slot c.stopped c.read v v') ((c' ≡ c) × (v' ≡ v))
      made b e = subst (λ x. MatchBool x ((c' ≡ restarted_at slot c) × IsRestarted slot c.stopped c.read v v') ((c' ≡ c) × (v' ≡ v))) (starts_is ∙ e) after

      again : (n : ℕ) → n ≡ slot → (c' ≡ restarted_at slot c) × IsRestarted slot c.stopped c.read v v' → (not (runs (node_at s.nodes i)) && names_restart scenario.restarts (slots_run s - 1) i) ≡ true
          → IsKeptAs scenario s.trace i (restarted scenario.params n (node_at s.nodes i)) c' × IsKeptAt scenario s.trace i (restarted scenario.params n (node_at s.nodes i)) v'
      again n is h begins =
          let parts = and_parts (not (runs (node_at s.nodes i))) (names_restart scenario.restarts (slots_run s - 1) i) begins in
          let stopped : runs (node_at s.nodes i) ≡ false = not-true (runs (node_at s.nodes i)) parts.0 in
          let more = one_left scenario s i (here.left i) stopped parts.1 in
          let short = here.orderly.unread i in
          subst (λ k. IsKeptAs scenario s.trace i (restarted scenario.params k (node_at s.nodes i)) c' × IsKeptAt scenario s.trace i (restarted scenario.params k (node_at s.nodes i)) v') (sym is) (
            subst (IsKeptAs scenario s.trace i (restarted scenario.params slot (node_at s.nodes i))) (sym h.0) (kept_restart scenario s.trace i slot (node_at s.nodes i) c ctl here.ran),
            kept_restarted scenario s.trace i slot (node_at s.nodes i) v v' c.stopped c.read (here.order i) (run_numbered scenario.params.nodes s here.orderly) here.ran short kept
                (omega (arith, more, kept.number, kept.whole)) ctl.stopped (omega (arith, ctl.read, here.ran)) h.1,
          )

      by_test : (b : Bool) → (not (runs (node_at s.nodes i)) && names_restart scenario.restarts (slots_run s - 1) i) ≡ b
          → IsKeptAs scenario s.trace i (if b then restarted scenario.params (slots_run s - 1) (node_at s.nodes i) else node_at s.nodes i) c'
          × IsKeptAt scenario s.trace i (if b then restarted scenario.params (slots_run s - 1) (node_at s.nodes i) else node_at s.nodes i) v'
      by_test true e = again (slots_run s - 1) slot_is (made true e) e
      by_test false e = (
        subst (IsKeptAs scenario s.trace i (node_at s.nodes i)) (sym (made false e).0) ctl,
        subst (IsKeptAt scenario s.trace i (node_at s.nodes i)) (sym (made false e).1) kept,
      )

-- ---- one node after another

-- the nodes below i had their restarts, the others not yet
pub record IsRestartedTo (restarts : List NodeAsk) (slot i : ℕ) (row row' : List ControllerState) (nodes nodes' : List IncarnationsParts) : Type 0 where
  pub row_length : length row' ≡ length row
  pub nodes_length : length nodes' ≡ length nodes
  pub stand : (scenario : ScenarioParts) (journal : List Step) → restarts ≡ scenario.restarts → slot ≡ slots_run (run scenario journal) → slot < scenario.params.slots
      → AreControllersOf scenario (after_slot (script scenario.rules) (run scenario journal)) row → AreNodesOf scenario (after_slot (script scenario.rules) (run scenario journal)) nodes
      → AreControllersOf scenario (partly scenario (after_slot (script scenario.rules) (run scenario journal)) i) row'
      × AreNodesOf scenario (partly scenario (after_slot (script scenario.rules) (run scenario journal)) i) nodes'

pub restarted_none : (restarts : List NodeAsk) (slot : ℕ) (row : List ControllerState) (nodes : List IncarnationsParts) → IsRestartedTo restarts slot 0 row row nodes nodes
restarted_none restarts slot row nodes = record { row_length = refl; nodes_length = refl; stand = λ scenario journal same now within a b. (a, b) }

-- the controller and the node at a place of such lists
module _ (restarts : List NodeAsk) (slot i : ℕ) (row row' : List ControllerState) (nodes nodes' : List IncarnationsParts) (to : IsRestartedTo restarts slot i row row' nodes nodes')
    (can : CanRestartAll restarts slot row nodes) (here : i < length row') (d : ControllerState) (e : IncarnationsParts) where
  abbrev c : ControllerState
  c = get_or row' i d

  abbrev v : IncarnationsParts
  v = get_or nodes' i e

  at : slice_get row' i ≡ Some c
  at = slice_get-get_or row' i d here

  at_node : slice_get nodes' i ≡ Some v
  at_node = slice_get-get_or nodes' i e (omega (arith, here, to.row_length, to.nodes_length, can.controllers.whole, can.nodes.whole))

  module _ (scenario : ScenarioParts) (journal : List Step) (same : restarts ≡ scenario.restarts) (now : slot ≡ slots_run (run scenario journal)) (within : slot < scenario.params.slots)
      (a : AreControllersOf scenario (after_slot (script scenario.rules) (run scenario journal)) row)
      (b : AreNodesOf scenario (after_slot (script scenario.rules) (run scenario journal)) nodes) where
    abbrev s : RunState
    s = after_slot (script scenario.rules) (run scenario journal)

    ends : IsAtEnd scenario s slot
    ends = at_end scenario journal slot now within

    mid : AreControllersOf scenario (partly scenario s i) row' × AreNodesOf scenario (partly scenario s i) nodes'
    mid = to.stand scenario journal same now within a b

    below : i < length s.nodes
    below = omega (arith, slice_get_within row' i c at, to.row_length, a.whole, ends.orderly.count)

    ctl : IsKeptAs scenario s.trace i (node_at s.nodes i) c
    ctl = subst (λ (n : NodeState). IsKeptAs scenario s.trace i n c) (partly_here scenario s i) (mid.0.each i c at)

    kept : IsKeptAt scenario s.trace i (node_at s.nodes i) v
    kept = subst (λ (n : NodeState). IsKeptAt scenario s.trace i n v) (partly_here scenario s i) (mid.1.each i v at_node)

    may_start_of : starts restarts slot i c ≡ true → MayStart slot c v
    may_start_of = may_start scenario s slot ends restarts same i below c v ctl kept

    next_of : (c' : ControllerState) (v' : IncarnationsParts) → IsAfterEntries (starts restarts slot i c) slot c c' v v'
        → AreControllersOf scenario (partly scenario s (i + 1)) (slice_set row' i c') × AreNodesOf scenario (partly scenario s (i + 1)) (slice_set nodes' i v')
    next_of c' v' after =
        let both = entries_kept scenario s slot ends restarts same i below c v ctl kept c' v' after in (
          one_changed (λ j z. IsKeptAs scenario s.trace j (node_at (partly scenario s i).nodes j) z) (λ j z. IsKeptAs scenario s.trace j (node_at (partly scenario s (i + 1)).nodes j) z)
              scenario.params.nodes row' i c' mid.0 (subst (λ (n : NodeState). IsKeptAs scenario s.trace i n c') (sym (partly_next scenario s i below)) both.0)
              (λ j z other h. subst (λ (n : NodeState). IsKeptAs scenario s.trace j n z) (sym (partly_other scenario s i j other)) h),
          one_changed (λ j z. IsKeptAt scenario s.trace j (node_at (partly scenario s i).nodes j) z) (λ j z. IsKeptAt scenario s.trace j (node_at (partly scenario s (i + 1)).nodes j) z)
              scenario.params.nodes nodes' i v' mid.1 (subst (λ (n : NodeState). IsKeptAt scenario s.trace i n v') (sym (partly_next scenario s i below)) both.1)
              (λ j z other h. subst (λ (n : NodeState). IsKeptAt scenario s.trace j n z) (sym (partly_other scenario s i j other)) h),
        )

  pub may_start_here : {k : ℕ} → k ≡ i → starts restarts slot k (get_or row' i d) ≡ true → MayStart slot (get_or row' i d) (get_or nodes' i e)
  may_start_here at_place begins =
      may_start_of can.scenario can.journal can.same can.now can.within can.controllers can.nodes (ap (λ n. starts restarts slot n c) (sym at_place) ∙ begins)

  pub restarted_more : {k : ℕ} → k ≡ i → (c' : ControllerState) (v' : IncarnationsParts)
      → IsAfterEntries (starts restarts slot k (get_or row' i d)) slot (get_or row' i d) c' (get_or nodes' i e) v'
      → IsRestartedTo restarts slot (i + 1) row (slice_set row' i c') nodes (slice_set nodes' i v')
  restarted_more at_place c' v' after = record {
    row_length = length-set row' i c' ∙ to.row_length;
    nodes_length = length-set nodes' i v' ∙ to.nodes_length;
    stand = λ scenario journal same now within a b. next_of scenario journal same now within a b c' v'
        (subst (λ n. IsAfterEntries (starts restarts slot n c) slot c c' v v') at_place after);
  }

pub restarted_whole : (restarts : List NodeAsk) (slot i : ℕ) (row row' : List ControllerState) (nodes nodes' : List IncarnationsParts) → IsRestartedTo restarts slot i row row' nodes nodes'
    → length row ≤ i → (scenario : ScenarioParts) (journal : List Step) → restarts ≡ scenario.restarts → slot ≡ slots_run (run scenario journal) → slot < scenario.params.slots
    → AreControllersOf scenario (after_slot (script scenario.rules) (run scenario journal)) row → AreNodesOf scenario (after_slot (script scenario.rules) (run scenario journal)) nodes
    → AreControllersOf scenario (after_restarts scenario (after_slot (script scenario.rules) (run scenario journal))) row'
    × AreNodesOf scenario (after_restarts scenario (after_slot (script scenario.rules) (run scenario journal))) nodes'
restarted_whole restarts slot i row row' nodes nodes' to past scenario journal same now within a b =
    let s : RunState = after_slot (script scenario.rules) (run scenario journal) in
    let here : IsAtEnd scenario s slot = at_end scenario journal slot now within in
    subst (λ (t : RunState). AreControllersOf scenario t row' × AreNodesOf scenario t nodes') (partly_all scenario s i (omega (arith, past, a.whole, here.orderly.count)))
    (to.stand scenario journal same now within a b)
