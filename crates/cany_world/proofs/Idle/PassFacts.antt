-- How the controllers and the nodes pass a stretch of idle slots, one after another.
use Rattle.std.proofs.Common.{◌≡◌, ℕ, ◌+◌, ◌-◌, ◌<◌, ◌≤◌, Bool, true, false, if◌then◌else◌, List, length, refl, ap, sym, ◌∙◌, subst, inl, inr, arith}
use Rattle.std.specs.Prelude.{slice_get, slice_set, Some}
use Rattle.std.proofs.lemmas.Bool.{cases_eq}
use Rattle.std.proofs.lemmas.List.{length-set}
use Rattle.std.proofs.lemmas.Option.{slice_get_within}
use Rattle.cany_base.specs.declared.actions.Action.{Action}
use Rattle.cany_base.specs.Bounded.{Bounded}
use Rattle.cany_base.specs.Nodes.{Nodes, has}
use Rattle.can_controller.specs.Controller.{ControllerState}
use Rattle.cany_node.specs.Node.{NodeParts}
use Rattle.cany_world.specs.Incarnations.{IncarnationsParts}
use Rattle.cany_world.specs.Resting.{CanAllGo, CanGo, CanPass, HaveAllPassed, HavePassed, HavePassedAt, HasNothingToDoIfItRuns, IsIdleFor, passes}
use Rattle.cany_world.proofs.PlaceFacts.{got_other, got_same}

-- what the call of the incarnations leaves, by its parts
pub rested_by : (slots : ℕ) (it after : NodeParts) (v was : IncarnationsParts) {v' : IncarnationsParts} → was ≡ v → v'.nodes ≡ slice_set was.nodes was.present after
    → v'.spans ≡ was.spans → v'.present ≡ was.present → after ≡ record it { read = it.read + slots }
    → v' ≡ record v { nodes = slice_set v.nodes v.present (record it { read = it.read + slots }) }
rested_by slots it after v was {v'} same nodes spans present is =
    subst (λ (x : IncarnationsParts). v' ≡ record x { nodes = slice_set x.nodes x.present (record it { read = it.read + slots }) }) same
    (λ k. record { nodes = (nodes ∙ ap (slice_set was.nodes was.present) is) k; spans = spans k; present = present k })

-- those below k have passed the stretch, the others are as they were
pub record ArePassedBelow (next slots : ℕ) (due : Nodes) (k : ℕ) (row row' : List ControllerState) (kept kept' : List IncarnationsParts) : Type 0 where
  pub whole : length row' ≡ length row
  pub nodes : length kept' ≡ length kept
  pub below : (i : ℕ) (c : ControllerState) (v : IncarnationsParts) → i < k → slice_get row i ≡ Some c → slice_get kept i ≡ Some v
      → HavePassedAt next slots (has due i) i row' kept' c v
  pub left : (i : ℕ) → k ≤ i → slice_get row' i ≡ slice_get row i
  pub nodes_left : (i : ℕ) → k ≤ i → slice_get kept' i ≡ slice_get kept i

pub none_passed : (next slots : ℕ) (due : Nodes) (row : List ControllerState) (kept : List IncarnationsParts)
    → ArePassedBelow next slots due 0 row row kept kept
none_passed next slots due row kept = record {
  whole = refl;
  nodes = refl;
  below = λ i c v h at node_at. absurd (omega arith);
  left = λ i h. refl;
  nodes_left = λ i h. refl;
}

module _ (next slots : ℕ) (due : Nodes) (k : ℕ) (row row' : List ControllerState) (kept kept' : List IncarnationsParts)
    (now : ArePassedBelow next slots due k row row' kept kept') (c : ControllerState) (v : IncarnationsParts) (at : slice_get row' k ≡ Some c)
    (node_at : slice_get kept' k ≡ Some v) where
  -- node k can still go
  pub can_go_here : (actions : Bounded Action) → CanAllGo next slots due row kept actions → CanGo next slots (has due k) c v actions
  can_go_here actions all = all.each k c v (sym (now.left k (omega arith)) ∙ at) (sym (now.nodes_left k (omega arith)) ∙ node_at)

  pub one_passed : (c' : ControllerState) (v' : IncarnationsParts) → HavePassed next slots c.stopped (has due k) c c' v v'
      → ArePassedBelow next slots due (k + 1) row (slice_set row' k c') kept (slice_set kept' k v')
  one_passed c' v' passed = record {
    whole = length-set row' k c' ∙ now.whole;
    nodes = length-set kept' k v' ∙ now.nodes;
    below = λ i d w h there node_there. elim (cases_eq i k) [
      | inl same ↦
          let row_there : slice_get row k ≡ Some d = subst (λ n. slice_get row n ≡ Some d) same there in
          let kept_there : slice_get kept k ≡ Some w = subst (λ n. slice_get kept n ≡ Some w) same node_there in
          let is_c : Some c ≡ Some d = sym at ∙ now.left k (omega arith) ∙ row_there in
          let is_v : Some v ≡ Some w = sym node_at ∙ now.nodes_left k (omega arith) ∙ kept_there in
          let same_c : c ≡ d = cc in
          let same_v : v ≡ w = cc in
          subst (λ n. HavePassedAt next slots (has due n) n (slice_set row' k c') (slice_set kept' k v') d w) (sym same)
          (record {
            after = c';
            node = v';
            at = got_same row' k c' c at;
            node_at = got_same kept' k v' v node_at;
            passed = subst (λ (x : IncarnationsParts). HavePassed next slots d.stopped (has due k) d c' x v') same_v
                (subst (λ (x : ControllerState). HavePassed next slots x.stopped (has due k) x c' v v') same_c passed);
          })
      | inr other ↦
          let p : HavePassedAt next slots (has due i) i row' kept' d w = now.below i d w (omega arith) there node_there in
          record {
            after = p.after;
            node = p.node;
            at = got_other row' k i c' other ∙ p.at;
            node_at = got_other kept' k i v' other ∙ p.node_at;
            passed = p.passed;
          }
    ];
    left = λ i h. got_other row' k i c' (λ same. absurd (omega arith)) ∙ now.left i (omega arith);
    nodes_left = λ i h. got_other kept' k i v' (λ same. absurd (omega arith)) ∙ now.nodes_left i (omega arith);
  }

pub all_passed : (next slots : ℕ) (due : Nodes) (k : ℕ) (row row' : List ControllerState) (kept kept' : List IncarnationsParts)
    → ArePassedBelow next slots due k row row' kept kept' → length row ≤ k → HaveAllPassed next slots due row row' kept kept'
all_passed next slots due k row row' kept kept' now all = record {
  whole = now.whole;
  nodes = now.nodes;
  each = λ i c v at node_at. now.below i c v (omega (arith, all, slice_get_within row i c at)) at node_at;
}

-- ---- the stretch, as it is found

-- the controllers below k that run have nothing to do
abbrev pub HaveNothingToDoBelow : ℕ → List ControllerState → Type 0
HaveNothingToDoBelow k row = (i : ℕ) (c : ControllerState) → i < k → slice_get row i ≡ Some c → HasNothingToDoIfItRuns c

-- fewer slots can be passed where more can
pub fewer_pass : (next slots fewer : ℕ) (c : ControllerState) (v : IncarnationsParts) → fewer ≤ slots → CanPass next slots c v → CanPass next fewer c v
fewer_pass next slots fewer c v less passes running =
    let idle : IsIdleFor next slots c v = passes running in
    record {
      waiting = idle.waiting;
      unread = idle.unread;
      counters = idle.counters;
      node = λ some it at scenario past stands since early within.
          idle.node (omega (arith, some, less)) it at scenario past stands since (omega (arith, early, less)) within;
    }

-- those below k can pass the stretch
abbrev pub PassBelow : ℕ → ℕ → Nodes → ℕ → List ControllerState → List IncarnationsParts → Type 0
PassBelow next slots due k row kept =
    (i : ℕ) (c : ControllerState) (v : IncarnationsParts) → i < k → slice_get row i ≡ Some c → slice_get kept i ≡ Some v
    → CanPass next (passes slots due i) c v

pub pass_below_next : (next slots : ℕ) (due : Nodes) (fewer : ℕ) (due' : Nodes) (k can : ℕ) (row : List ControllerState) (kept : List IncarnationsParts)
    (c : ControllerState) (v : IncarnationsParts) → PassBelow next slots due k row kept → ((i : ℕ) → passes fewer due' i ≤ passes slots due i)
    → slice_get row k ≡ Some c → slice_get kept k ≡ Some v → CanPass next can c v → passes fewer due' k ≤ can → PassBelow next fewer due' (k + 1) row kept
pass_below_next next slots due fewer due' k can row kept c v now less at node_at here short i d w h there node_there = elim (cases_eq i k) [
  | inl same ↦
      let is_c : Some c ≡ Some d = sym at ∙ subst (λ n. slice_get row n ≡ Some d) same there in
      let is_v : Some v ≡ Some w = sym node_at ∙ subst (λ n. slice_get kept n ≡ Some w) same node_there in
      let same_c : c ≡ d = cc in
      let same_v : v ≡ w = cc in
      subst (λ n. CanPass next (passes fewer due' n) d w) (sym same)
      (subst (λ (x : IncarnationsParts). CanPass next (passes fewer due' k) d x) same_v
      (subst (λ (x : ControllerState). CanPass next (passes fewer due' k) x v) same_c (fewer_pass next can (passes fewer due' k) c v short here)))
  | inr other ↦ fewer_pass next (passes slots due i) (passes fewer due' i) d w (less i) (now i d w (omega arith) there node_there)
]

-- what a node passes of a stretch, whether it is due or not
pub passes_few : (slots : ℕ) (due : Nodes) (i : ℕ) → passes slots due i ≤ slots
passes_few slots due i = either (has due i)
  where
    either : (b : Bool) → (if b then slots - 1 else slots) ≤ slots
    either true = omega arith
    either false = omega arith

pub passes_most : (slots : ℕ) (due : Nodes) (i : ℕ) → slots - 1 ≤ passes slots due i
passes_most slots due i = either (has due i)
  where
    either : (b : Bool) → slots - 1 ≤ (if b then slots - 1 else slots)
    either true = omega arith
    either false = omega arith

pub passes_all : (slots : ℕ) (due : Nodes) (i : ℕ) → has due i ≡ false → passes slots due i ≡ slots
passes_all slots due i e = rw e refl

-- where the script ends the stretch early, none is due and all pass it
pub passes_early : (fewer slots : ℕ) (none due : Nodes) (i : ℕ) → fewer < slots → has none i ≡ false → passes fewer none i ≤ passes slots due i
passes_early fewer slots none due i less e = omega (arith, less, passes_all fewer none i e, passes_most slots due i)
