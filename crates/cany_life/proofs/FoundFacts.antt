-- The signs that silence brings, one node after another: a sign of one node disturbs nothing by
-- which another is found.
use Rattle.std.proofs.Common.{◌≡◌, ◌≢◌, ℕ, zero, suc, ◌+◌, ◌/◌, ◌<◌, ◌==◌, ◌&&◌, ◌||◌, Bool, true, false, inl, inr, List, [], ◌∷◌, ◌++◌, length, set, refl, ap, sym, ◌∙◌, arith, add-one, append_assoc}
use Rattle.std.specs.List.{AllByRecursion}
use Rattle.std.proofs.lemmas.Bool.{cases_eq, cond_both, lt-ltb, ne_eqb}
use Rattle.std.proofs.lemmas.List.{get_or-set_other, get_or-set_same}
use Rattle.std.proofs.lemmas.List.Concat.{flat_map-append}
use Rattle.cany_base.specs.declared.actions.Action.{Action}
use Rattle.cany_base.specs.Limits.{most_nodes}
use Rattle.cany_base.specs.Nodes.{Nodes, has, nobody, with_node}
use Rattle.cany_base.proofs.NodesFacts.{has-those_where}
use Rattle.cany_model.specs.Rules.Knowledge.{FailureSign, sign_in}
use Rattle.cany_model.proofs.Among.{Each-append, Each-weaker}
use Rattle.cany_life.specs.Life.{LifeParts, known_in}
use Rattle.cany_life.specs.LifeSteps.{all_marked, found_actions, found_at, found_below, has_enough_of, has_timed_out_at, marked, sign_actions, unknown}
use Rattle.cany_life.proofs.MarkFacts.{all_marked-append, length-marked, marks_rest}

-- the sign names a node below n, in this cycle
abbrev pub IsBelow : ℕ → ℕ → FailureSign → Type 0
IsBelow n cycle sign = (sign.node < n) × (sign.cycle ≡ cycle)

-- of node n the two values know the same
record IsSameAt (n : ℕ) (v w : LifeParts) : Type 0 where
  failed : has w.failed n ≡ has v.failed n
  known : (cycle : ℕ) → has (known_in w.known cycle) n ≡ has (known_in v.known cycle) n

with_other : (n r : ℕ) (nodes : Nodes) → n < most_nodes → n ≢ r → has (with_node r nodes) n ≡ has nodes n
with_other n r nodes near other = has-those_where (λ q. has nodes q || q == r) n ∙ (rw (lt-ltb n most_nodes near, ne_eqb n r other) (go (has nodes n)))
  where
    go : (b : Bool) → (true && (b || false)) ≡ b
    go true = refl
    go false = refl

marked_other : (n : ℕ) (sign : FailureSign) (v : LifeParts) → n < most_nodes → n ≢ sign.node → sign.cycle < length v.known → IsSameAt n v (marked sign v)
unfolding marked
marked_other n sign v near other within = record {
  failed = with_other n sign.node v.failed near other;
  known = λ cycle. elim (cases_eq cycle sign.cycle) [
    | inl same ↦
        ap (λ c. has (known_in (set v.known sign.cycle (with_node sign.node (known_in v.known sign.cycle))) c) n) same
        ∙ ap (λ s. has s n) (get_or-set_same v.known sign.cycle (with_node sign.node (known_in v.known sign.cycle)) nobody within)
        ∙ with_other n sign.node (known_in v.known sign.cycle) near other
        ∙ ap (λ c. has (known_in v.known c) n) (sym same)
    | inr apart ↦ ap (λ s. has s n) (get_or-set_other v.known sign.cycle cycle (with_node sign.node (known_in v.known sign.cycle)) nobody apart)
  ];
}

all_other : (n cycle : ℕ) (signs : List FailureSign) (v : LifeParts) → n < most_nodes → cycle < length v.known → AllByRecursion (IsBelow n cycle) signs
    → IsSameAt n v (all_marked signs v)
unfolding all_marked
all_other n cycle [] v near within each = record { failed = refl; known = λ c. refl }
all_other n cycle (sign ∷ signs) v near within each =
    let here : IsSameAt n v (marked sign v) = marked_other n sign v near (λ e. absurd (omega (arith, e, each.0.0))) (omega (arith, each.0.1, within)) in
    let longer : length (marked sign v).known ≡ length v.known = length-marked (sign ∷ []) v in
    let rest = all_other n cycle signs (marked sign v) near (omega (arith, longer, within)) each.1 in
    record { failed = rest.failed ∙ here.failed; known = λ c. rest.known c ∙ here.known c }

-- ---- which signs are found

found_at-below : (v : LifeParts) (members : Nodes) (slot n : ℕ) → AllByRecursion (IsBelow (n + 1) (slot / v.params.cycle)) (found_at v members slot n)
found_at-below v members slot n =
    cond_both (has_timed_out_at v members slot n) (unknown (sign_in v.params slot n) v) [] (AllByRecursion (IsBelow (n + 1) (slot / v.params.cycle)))
    (λ _. cond_both (has (known_in v.known (slot / v.params.cycle)) n) [] (sign_in v.params slot n ∷ []) (AllByRecursion (IsBelow (n + 1) (slot / v.params.cycle)))
    (λ _. tt) (λ _. ((omega arith, refl), tt)))
    (λ _. tt)

pub found_below-below : (v : LifeParts) (members : Nodes) (slot n : ℕ) → AllByRecursion (IsBelow n (slot / v.params.cycle)) (found_below v members slot n)
unfolding found_below
found_below-below v members slot zero = tt
found_below-below v members slot (suc n) =
    Each-append (IsBelow (suc n) (slot / v.params.cycle)) (found_below v members slot n) (found_at v members slot n)
    (Each-weaker (IsBelow n (slot / v.params.cycle)) (IsBelow (suc n) (slot / v.params.cycle)) (λ s h. (omega (arith, h.0), h.1)) (found_below v members slot n)
    (found_below-below v members slot n))
    (rw (← add-one) (found_at-below v members slot n))

found_same : (v w : LifeParts) (members : Nodes) (slot n : ℕ) → IsSameAt n v w → w ≡ record v { failed = w.failed; known = w.known }
    → found_at w members slot n ≡ found_at v members slot n
found_same v w members slot n same rest = ap (λ x. found_at x members slot n) rest ∙ (rw (same.failed, same.known (slot / v.params.cycle)) refl)

found_below-more : (v : LifeParts) (members : Nodes) (slot n : ℕ) → found_below v members slot (n + 1) ≡ found_below v members slot n ++ found_at v members slot n
unfolding found_below
found_below-more v members slot n = rw add-one refl

module _ (v : LifeParts) (members : Nodes) (slot n : ℕ) (w : LifeParts) (at : w ≡ all_marked (found_below v members slot n) v) where
  pub rest_found : w ≡ record v { failed = w.failed; known = w.known }
  rest_found = rw at (marks_rest (found_below v members slot n) v)

  pub params_found : w.params ≡ v.params
  params_found = ap (λ (x : LifeParts). x.params) rest_found

  pub length_found : length w.known ≡ length v.known
  length_found = ap (λ (x : LifeParts). length x.known) at ∙ length-marked (found_below v members slot n) v

-- ---- one node more

module _ (v : LifeParts) (members : Nodes) (slot n : ℕ) (near : n < most_nodes) (within : slot / v.params.cycle < length v.known) (w : LifeParts)
    (at : w ≡ all_marked (found_below v members slot n) v) where
  rest : w ≡ record v { failed = w.failed; known = w.known }
  rest = rest_found v members slot n w at

  found_next : found_at w members slot n ≡ found_at v members slot n
  found_next =
      found_same v w members slot n
      (rw at (all_other n (slot / v.params.cycle) (found_below v members slot n) v near within (found_below-below v members slot n)))
      rest

  pub state_more : (x : LifeParts) → x ≡ all_marked (found_at w members slot n) w → x ≡ all_marked (found_below v members slot (n + 1)) v
  state_more x is =
      is ∙ ap (λ signs. all_marked signs w) found_next ∙ ap (all_marked (found_at v members slot n)) at
      ∙ sym (all_marked-append (found_below v members slot n) (found_at v members slot n) v)
      ∙ ap (λ signs. all_marked signs v) (sym (found_below-more v members slot n))

  pub actions_more : (before here after : List Action) → here ≡ before ++ found_actions v slot (found_below v members slot n)
      → after ≡ here ++ found_actions w slot (found_at w members slot n) → after ≡ before ++ found_actions v slot (found_below v members slot (n + 1))
  actions_more before here after so is =
      let low : List FailureSign = found_below v members slot n in
      let next : List FailureSign = found_at v members slot n in
      is
      ∙ ap (λ signs. here ++ found_actions w slot signs) found_next
      ∙ ap (λ x. here ++ found_actions x slot next) rest
      ∙ ap (λ actions. actions ++ found_actions v slot next) so
      ∙ append_assoc before (found_actions v slot low) (found_actions v slot next)
      ∙ ap (λ actions. before ++ actions) (sym (flat_map-append (λ sign. sign_actions slot (has_enough_of v sign) sign) low next))
      ∙ ap (λ signs. before ++ found_actions v slot signs) (sym (found_below-more v members slot n))
