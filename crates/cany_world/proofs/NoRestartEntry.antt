-- Where the scenario has no restart entry, no node starts again.
use Rattle.std.proofs.Common.{◌≡◌, ℕ, ◌+◌, ◌==◌, ◌&&◌, ◌||◌, Bool, true, false, List, [], ◌∷◌, refl, ap, sym, ◌∙◌, arith}
use Rattle.std.specs.Prelude.{count_by, nat_lt, not}
use Rattle.std.specs.List.{list_any}
use Rattle.cany_base.specs.declared.message.NodeAsk.{NodeAsk}
use Rattle.cany_base.specs.declared.step.Step.{Step}
use Rattle.cany_base.specs.Limits.{most_nodes}
use Rattle.cany_base.specs.Nodes.{Nodes, has}
use Rattle.cany_base.specs.Scenario.{ScenarioParts, is_ask_of_node}
use Rattle.cany_base.proofs.NodesFacts.{same_as_those_where}
use Rattle.cany_model.specs.Bus.Restart.{began_at, restarted_in}
use Rattle.cany_model.specs.Runs.Run.{run}
use Rattle.cany_model.specs.Bus.State.{EndedIncarnation, Incarnation, NodeState, node_at}
use Rattle.cany_world.proofs.EntriesLeft.{all_left}
use Rattle.cany_world.proofs.InOrder.{AreInOrder, in_order}

-- of the first incarnation none ended before it
none_ended : (inc : Incarnation) (ended : List EndedIncarnation) → AreInOrder inc ended → inc.number ≡ 0 → ended ≡ []
unfolding AreInOrder
none_ended inc [] order first = refl
none_ended inc (e ∷ ended) order first = absurd (omega (arith, order.0, first))

outside : (b c : Bool) → c ≡ false → (b && c) ≡ false
outside true c e = e
outside false c e = refl

pub none_restarted : (scenario : ScenarioParts) (journal : List Step) (slot : ℕ) (set : Nodes) → scenario.restarts ≡ [] → ((i : ℕ) → has set i ≡ false)
    → set ≡ restarted_in (run scenario journal) slot
unfolding restarted_in
none_restarted scenario journal slot set none empty = same_as_those_where set _ (λ i. empty i ∙ sym (outside (nat_lt i most_nodes) _ (stays i)))
  where
    node : ℕ → NodeState
    node i = node_at (run scenario journal).nodes i

    first : (i : ℕ) → (node i).present.number ≡ 0
    first i = omega (arith, (all_left scenario journal i).entries, ap (λ (asks : List NodeAsk). count_by (is_ask_of_node i) asks) none)

    stays : (i : ℕ) → (began_at slot (node i).present || list_any (λ e. began_at slot e.incarnation) (node i).ended) ≡ false
    stays i =
        ap (λ ended. began_at slot (node i).present || list_any (λ (e : EndedIncarnation). began_at slot e.incarnation) ended)
        (none_ended (node i).present (node i).ended (in_order scenario journal i).order (first i))
        ∙ ap (λ n. (not (n == 0) && (node i).present.since == slot + 1) || false) (first i)
