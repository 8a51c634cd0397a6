-- Nodes of a run and their controllers, side by side: what is asked of the nodes can be asked of
-- the controllers.
use Rattle.std.proofs.Common.{◌≡◌, ℕ, suc, ◌+◌, ◌<◌, ◌≤◌, ◌==◌, ◌&&◌, ◌||◌, Bool, true, false, not, nat_lt, List, [], ◌∷◌, drop, drop-cons, length, map, refl, ap, sym, ◌∙◌, arith, add-one}
use Rattle.std.specs.Prelude.{is_none, if◌then◌else◌, slice_get, Option, Some, None}
use Rattle.std.specs.List.{list_any, list_all}
use Rattle.std.proofs.lemmas.List.{drop_all}
use Rattle.std.proofs.lemmas.List.Folds.{list_all-map}
use Rattle.cany_base.specs.declared.step.Step.{Step}
use Rattle.cany_base.specs.Frame.{FrameParts}
use Rattle.cany_base.specs.Scenario.{ScenarioParts}
use Rattle.cany_model.specs.Bus.Frames.{Identity}
use Rattle.cany_model.specs.Runs.Run.{all_read, first_lagging, run}
use Rattle.cany_model.specs.Bus.State.{NodeState, RunState, absent, node_at, runs}
use Rattle.cany_model.specs.Bus.Waiting.{waits}
use Rattle.cany_model.specs.Promises.Settled.{is_awaited}
use Rattle.cany_model.proofs.Runs.Runs.{orderly}
use Rattle.can_controller.specs.Controller.{ControllerState}
use Rattle.cany_world.specs.Controllers.{awaits, has_read, lags}
use Rattle.cany_world.specs.Kept.{AreControllersOf, IsKeptAs}

-- what a running node shows, its controller shows
record IsAlike (node : NodeState) (c : ControllerState) : Type 0 where
  stopped : c.stopped ≡ node.stopped
  waiting : c.waiting ≡ node.waiting
  unread : c.stopped ≡ None → length c.unread ≡ node.unread

alike : (scenario : ScenarioParts) (s : RunState) (i : ℕ) (c : ControllerState) → IsKeptAs scenario s.trace i (node_at s.nodes i) c → IsAlike (node_at s.nodes i) c
alike scenario s i c it = record { stopped = it.stopped; waiting = it.waiting; unread = it.all }

-- what is told of nodes and controllers that are alike is the same
same_told : {X : Type 0} (f : NodeState → X) (g : ControllerState → X) → ((node : NodeState) (c : ControllerState) → IsAlike node c → f node ≡ g c)
    → (nodes : List NodeState) (controllers : List ControllerState) → length nodes ≡ length controllers
    → ((i : ℕ) (c : ControllerState) → slice_get controllers i ≡ Some c → IsAlike (node_at nodes i) c) → map f nodes ≡ map g controllers
unfolding node_at
same_told f g same [] [] e h = refl
same_told f g same [] (c ∷ controllers) e h = absurd (omega arith)
same_told f g same (node ∷ nodes) [] e h = absurd (omega arith)
same_told f g same (node ∷ nodes) (c ∷ controllers) e h =
    ap (λ x. x ∷ map f nodes) (same node c (h 0 c refl)) ∙ ap (λ t. g c ∷ t) (same_told f g same nodes controllers (omega arith) (λ i c' at. h (suc i) c' at))

any_map : {X : Type 0} (test : X → Bool) (xs : List X) → list_any (λ b. b) (map test xs) ≡ list_any test xs
any_map test [] = refl
any_map test (x ∷ xs) = ap (λ b. test x || b) (any_map test xs)

module _ (scenario : ScenarioParts) (journal : List Step) (controllers : List ControllerState) (kept : AreControllersOf scenario (run scenario journal) controllers) where
  told : {X : Type 0} (f : NodeState → X) (g : ControllerState → X) → ((node : NodeState) (c : ControllerState) → IsAlike node c → f node ≡ g c)
      → map f (run scenario journal).nodes ≡ map g controllers
  told f g same =
      same_told f g same (run scenario journal).nodes controllers ((orderly scenario journal).count ∙ sym kept.whole)
      (λ i c at. alike scenario (run scenario journal) i c (kept.each i c at))

  read_alike : (node : NodeState) (c : ControllerState) → IsAlike node c → (o : Option ℕ) → c.stopped ≡ o → (not (runs node) || node.unread == 0) ≡ has_read c
  read_alike node c same None running =
      let here : node.stopped ≡ None = sym same.stopped ∙ running in
      rw (running, here, same.unread running) refl
  read_alike node c same (Some slot) stopped =
      let here : node.stopped ≡ Some slot = sym same.stopped ∙ stopped in
      rw (stopped, here) refl

  pub all_read_same : all_read (run scenario journal) ≡ list_all has_read controllers
  all_read_same =
      let test : NodeState → Bool = λ node. not (runs node) || node.unread == 0 in
      sym (list_all-map (λ b. b) test (run scenario journal).nodes)
      ∙ ap (list_all (λ b. b)) (told test has_read (λ node c same. read_alike node c same c.stopped refl)) ∙ list_all-map (λ b. b) has_read controllers

  pub awaited_same : (frames : List Identity) → is_awaited frames (run scenario journal) ≡ list_any (awaits frames) controllers
  awaited_same frames =
      let test : NodeState → Bool = λ node. runs node && list_any (λ x. waits x node.waiting) frames in
      sym (any_map test (run scenario journal).nodes)
      ∙ ap (list_any (λ b. b)) (told test (awaits frames) (λ node c same.
      ap (λ (o : Option ℕ). is_none o && list_any (λ x. waits x node.waiting) frames) (sym same.stopped)
      ∙ ap (λ (w : List FrameParts). is_none c.stopped && list_any (λ x. waits x w) frames) (sym same.waiting)))
      ∙ any_map (awaits frames) controllers

-- ---- the first that lags

-- of the nodes before i none lags: the first that does is the first from i on
abbrev pub IsFirstFrom : ℕ → ℕ → List ControllerState → Type 0
IsFirstFrom lag i controllers =
    (scenario : ScenarioParts) (journal : List Step) → let s = run scenario journal in
    AreControllersOf scenario s controllers → first_lagging lag i (drop i s.nodes) ≡ first_lagging lag 0 s.nodes

from_here : (lag i : ℕ) (nodes : List NodeState) → i < length nodes
    → first_lagging lag i (drop i nodes)
    ≡ (if runs (node_at nodes i) && nat_lt lag (node_at nodes i).unread then Some (i, (node_at nodes i).unread) else first_lagging lag (i + 1) (drop (i + 1) nodes))
unfolding first_lagging node_at
from_here lag i nodes within =
    ap (first_lagging lag i) (drop-cons nodes i absent within)
    ∙ ap (λ k. if runs (node_at nodes i) && nat_lt lag (node_at nodes i).unread then Some (i, (node_at nodes i).unread) else first_lagging lag (i + 1) (drop k nodes)) (sym (add-one i))

lags_alike : (lag i : ℕ) (node : NodeState) (c : ControllerState) (rest : Option (ℕ × ℕ)) → IsAlike node c → (o : Option ℕ) → c.stopped ≡ o
    → (if runs node && nat_lt lag node.unread then Some (i, node.unread) else rest) ≡ (if lags lag c then Some (i, length c.unread) else rest)
lags_alike lag i node c rest same None running =
    let here : node.stopped ≡ None = sym same.stopped ∙ running in
    rw (running, here, same.unread running) refl
lags_alike lag i node c rest same (Some slot) stopped =
    let here : node.stopped ≡ Some slot = sym same.stopped ∙ stopped in
    rw (stopped, here) refl

module _ (lag i : ℕ) (controllers : List ControllerState) (c : ControllerState) (at : slice_get controllers i ≡ Some c) (within : i < length controllers)
    (first : IsFirstFrom lag i controllers) (scenario : ScenarioParts) (journal : List Step) (kept : AreControllersOf scenario (run scenario journal) controllers) where
  by_this : (if lags lag c then Some (i, length c.unread) else first_lagging lag (i + 1) (drop (i + 1) (run scenario journal).nodes)) ≡ first_lagging lag 0 (run scenario journal).nodes
  by_this =
      let s : RunState = run scenario journal in
      let rest : Option (ℕ × ℕ) = first_lagging lag (i + 1) (drop (i + 1) s.nodes) in
      sym (lags_alike lag i (node_at s.nodes i) c rest (alike scenario s i c (kept.each i c at)) c.stopped refl)
      ∙ sym (from_here lag i s.nodes (omega (arith, within, kept.whole, (orderly scenario journal).count))) ∙ first scenario journal kept

  pub lagging_here : lags lag c ≡ true → Some (i, length c.unread) ≡ first_lagging lag 0 (run scenario journal).nodes
  lagging_here yes' = rw yes' at by_this

  pub lagging_next : lags lag c ≡ false → first_lagging lag (i + 1) (drop (i + 1) (run scenario journal).nodes) ≡ first_lagging lag 0 (run scenario journal).nodes
  lagging_next none = rw none at by_this

pub lagging_none : (lag i : ℕ) (controllers : List ControllerState) → length controllers ≤ i → IsFirstFrom lag i controllers
    → (scenario : ScenarioParts) (journal : List Step) → AreControllersOf scenario (run scenario journal) controllers → None ≡ first_lagging lag 0 (run scenario journal).nodes
unfolding first_lagging
lagging_none lag i controllers past first scenario journal kept =
    sym (ap (first_lagging lag i) (drop_all i (run scenario journal).nodes (omega (arith, past, kept.whole, (orderly scenario journal).count)))) ∙ first scenario journal kept
