-- The restarts at the end of a slot, one node after another.
use Rattle.std.proofs.Common.{◌≡◌, ◌≢◌, ℕ, zero, suc, ◌+◌, ◌-◌, ◌<◌, ◌≤◌, List, [], ◌∷◌, ◌++◌, length, take, drop, refl, ap, sym, ◌∙◌, arith, add-one}
use Rattle.std.specs.Prelude.{slice_index_or}
use Rattle.std.proofs.lemmas.List.{append-nil, drop_all, take_all, take-append-drop}
use Rattle.cany_base.specs.Scenario.{ScenarioParts}
use Rattle.cany_model.specs.Bus.Restart.{after_entries, after_restarts}
use Rattle.cany_model.specs.Bus.State.{NodeState, RunState, absent, node_at, slots_run}
use Rattle.cany_model.proofs.Bus.Restarts.{after_restarts-length, after_restarts-node, after_restarts-trace}

-- the state in which the nodes below i had their restarts, and the others not yet
abbrev pub partly : ScenarioParts → RunState → ℕ → RunState
partly scenario s i = record s { nodes = take i (after_restarts scenario s).nodes ++ drop i s.nodes }

pub partly_none : (scenario : ScenarioParts) (s : RunState) → partly scenario s 0 ≡ s
partly_none scenario s = refl

pub partly_all : (scenario : ScenarioParts) (s : RunState) (i : ℕ) → length s.nodes ≤ i → partly scenario s i ≡ after_restarts scenario s
partly_all scenario s i past =
    let nodes : take i (after_restarts scenario s).nodes ++ drop i s.nodes ≡ (after_restarts scenario s).nodes =
    ap (λ t. take i (after_restarts scenario s).nodes ++ t) (drop_all i s.nodes past) ∙ append-nil (take i (after_restarts scenario s).nodes)
    ∙ take_all i (after_restarts scenario s).nodes (omega (arith, past, after_restarts-length scenario s)) in
    λ k. record { trace = (sym (after_restarts-trace scenario s)) k; nodes = nodes k }

-- of two lists, the first elements of one and then those of the other
joined : {X : Type 0} (d : X) (xs ys : List X) → length xs ≡ length ys → (i j : ℕ) → j ≢ i
    → slice_index_or (take (suc i) xs ++ drop (suc i) ys) j d ≡ slice_index_or (take i xs ++ drop i ys) j d
joined d [] [] e i j other = ap (λ t. slice_index_or t j d) (take-append-drop (suc i) [] ∙ sym (take-append-drop i []))
joined d [] (y ∷ ys) e i j other = absurd (omega arith)
joined d (x ∷ xs) [] e i j other = absurd (omega arith)
joined d (x ∷ xs) (y ∷ ys) e zero zero other = absurd (other refl)
joined d (x ∷ xs) (y ∷ ys) e zero (suc j) other = refl
joined d (x ∷ xs) (y ∷ ys) e (suc i) zero other = refl
joined d (x ∷ xs) (y ∷ ys) e (suc i) (suc j) other = joined d xs ys (omega arith) i j (λ same. other (ap suc same))

joined_next : {X : Type 0} (d : X) (xs ys : List X) → length xs ≡ length ys → (i : ℕ)
    → slice_index_or (take (suc i) xs ++ drop (suc i) ys) i d ≡ slice_index_or xs i d
joined_next d [] [] e i = ap (λ t. slice_index_or t i d) (take-append-drop (suc i) [])
joined_next d [] (y ∷ ys) e i = absurd (omega arith)
joined_next d (x ∷ xs) [] e i = absurd (omega arith)
joined_next d (x ∷ xs) (y ∷ ys) e zero = refl
joined_next d (x ∷ xs) (y ∷ ys) e (suc i) = joined_next d xs ys (omega arith) i

joined_here : {X : Type 0} (d : X) (xs ys : List X) → length xs ≡ length ys → (i : ℕ)
    → slice_index_or (take i xs ++ drop i ys) i d ≡ slice_index_or ys i d
joined_here d [] [] e i = ap (λ t. slice_index_or t i d) (take-append-drop i [])
joined_here d [] (y ∷ ys) e i = absurd (omega arith)
joined_here d (x ∷ xs) [] e i = absurd (omega arith)
joined_here d (x ∷ xs) (y ∷ ys) e zero = refl
joined_here d (x ∷ xs) (y ∷ ys) e (suc i) = joined_here d xs ys (omega arith) i

module _ (scenario : ScenarioParts) (s : RunState) (i : ℕ) where
  abbrev all : List NodeState
  all = (after_restarts scenario s).nodes

  whole : length all ≡ length s.nodes
  whole = after_restarts-length scenario s

  more : (j : ℕ) → slice_index_or (take (i + 1) all ++ drop (i + 1) s.nodes) j absent ≡ slice_index_or (take (suc i) all ++ drop (suc i) s.nodes) j absent
  more j = ap (λ n. slice_index_or (take n all ++ drop n s.nodes) j absent) (add-one i)

  pub partly_here : node_at (partly scenario s i).nodes i ≡ node_at s.nodes i
  unfolding node_at
  partly_here = joined_here absent all s.nodes whole i

  pub partly_next : i < length s.nodes → node_at (partly scenario s (i + 1)).nodes i ≡ after_entries scenario (slots_run s - 1) i (node_at s.nodes i)
  unfolding node_at
  partly_next below = more i ∙ joined_next absent all s.nodes whole i ∙ after_restarts-node scenario s i below

  pub partly_other : (j : ℕ) → j ≢ i → node_at (partly scenario s (i + 1)).nodes j ≡ node_at (partly scenario s i).nodes j
  unfolding node_at
  partly_other j other = more j ∙ joined absent all s.nodes whole i j other
