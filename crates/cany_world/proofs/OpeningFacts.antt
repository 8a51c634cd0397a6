-- The controllers and the nodes of a world before its first step.
use Rattle.std.proofs.Common.{◌≡◌, ℕ, zero, suc, ◌+◌, ◌<◌, List, [], length, refl, ap, sym, subst, ◌∙◌, arith}
use Rattle.std.specs.Prelude.{count_by, replicate, slice_get, Some, None}
use Rattle.std.proofs.lemmas.List.{length-replicate}
use Rattle.cany_base.specs.Params.{Parameters}
use Rattle.cany_base.specs.Scenario.{ScenarioParts, is_ask_of_node}
use Rattle.cany_model.specs.declared.span.Span.{Span}
use Rattle.cany_model.specs.Bus.State.{NodeState, fresh, node_at, opening}
use Rattle.cany_model.specs.Rules.Rooms.{waiting_room}
use Rattle.cany_model.proofs.Bus.States.{node_at-opening}
use Rattle.can_controller.specs.Controller.{ControllerState, fresh_controller}
use Rattle.cany_world.specs.Incarnations.{IncarnationsParts, IsBuiltAs, IsFirstOf}
use Rattle.cany_world.specs.Kept.{IsKeptAs, IsKeptAt, IsPresentAt, IsWaitingAt}
use Rattle.cany_world.proofs.PlaceFacts.{there}

fresh_kept : (scenario : ScenarioParts) (i room : ℕ) → room ≡ waiting_room scenario → IsKeptAs scenario [] i fresh (fresh_controller i scenario.params room)
fresh_kept scenario i room e = record {
  number = refl;
  params = refl;
  room = e;
  waiting = refl;
  transmit = refl;
  receive = refl;
  stopped = refl;
  read = refl;
  unread = refl;
  all = λ _. refl;
}

pub first_controller : (scenario : ScenarioParts) (i number room : ℕ) (p : Parameters) (c : ControllerState) → i < scenario.params.nodes → number ≡ i → p ≡ scenario.params
    → room ≡ waiting_room scenario → c ≡ fresh_controller number p room → IsKeptAs scenario [] i (node_at (opening scenario.params.nodes).nodes i) c
first_controller scenario i number room p c within at same e is =
    subst (λ (n : NodeState). IsKeptAs scenario [] i n c) (sym (node_at-opening scenario.params.nodes i within))
    (subst (IsKeptAs scenario [] i fresh)
    (sym (is ∙ ap (λ k. fresh_controller k p room) at ∙ ap (λ (q : Parameters). fresh_controller i q room) same)) (fresh_kept scenario i room e))

got_replicate : {X : Type 0} (n i : ℕ) (x : X) → i < n → slice_get (replicate n x) i ≡ Some x
got_replicate zero i x h = absurd (omega arith)
got_replicate (suc n) zero x h = refl
got_replicate (suc n) (suc i) x h = got_replicate n i x (omega arith)

-- the incarnations of a node before the first step are those of the node at the opening
module _ (scenario : ScenarioParts) (i number : ℕ) (v : IncarnationsParts) (named : number ≡ i) (first : IsFirstOf scenario number v) where
  count : ℕ
  count = count_by (is_ask_of_node number) scenario.restarts + 1

  abbrev unset : Span
  unset = record { since = 0; stopped = None; read = 0 }

  length_spans : length v.spans ≡ length v.nodes
  length_spans = ap (λ (l : List Span). length l) first.spans ∙ length-replicate (count_by (is_ask_of_node number) scenario.restarts + 1) unset ∙ sym first.nodes.whole

  unset_at : (k : ℕ) → k < length v.nodes → slice_get v.spans k ≡ Some unset
  unset_at k within =
      ap (λ (l : List Span). slice_get l k) first.spans
      ∙ got_replicate (count_by (is_ask_of_node number) scenario.restarts + 1) k unset (omega (arith, within, first.nodes.whole))

  present_at : IsPresentAt scenario [] i fresh v
  present_at =
      let here : 0 < length v.nodes = omega (arith, first.nodes.whole) in
      let it = there v.nodes 0 here in
      let built : IsBuiltAs scenario number 0 it.0 = first.nodes.each 0 it.0 it.1 in
      record {
        it = it.0;
        at = ap (slice_get v.nodes) first.present ∙ it.1;
        number = built.node ∙ named;
        inc = built.inc;
        cycle = λ later. absurd (omega (arith, later));
        stands = built.stands refl;
        span = unset;
        span_at = ap (slice_get v.spans) first.present ∙ unset_at 0 here;
        since = refl;
      }

  waiting_at : (k : ℕ) → v.present < k → k < length v.nodes → IsWaitingAt scenario i v k
  waiting_at k later within =
      let it = there v.nodes k within in
      let built : IsBuiltAs scenario number k it.0 = first.nodes.each k it.0 it.1 in
      record { it = it.0; at = it.1; node = built.node ∙ named; inc = built.inc; waits = built.waits; span = unset; span_at = unset_at k within; unset = refl }

  pub first_incarnations : i < scenario.params.nodes
      → IsKeptAt scenario (opening scenario.params.nodes).trace i (node_at (opening scenario.params.nodes).nodes i) v
  first_incarnations within =
      subst (λ (n : NodeState). IsKeptAt scenario [] i n v) (sym (node_at-opening scenario.params.nodes i within))
      (record {
        whole = first.nodes.whole ∙ ap (λ k. count_by (is_ask_of_node k) scenario.restarts + 1) named;
        spans = length_spans;
        number = first.present;
        present = present_at;
        ended = tt;
        waiting = waiting_at;
      })
