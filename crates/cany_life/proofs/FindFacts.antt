-- The signs that silence brings by what a value has are those that it brings by what the node
-- knows.
use Rattle.std.proofs.Common.{◌≡◌, ℕ, zero, suc, ◌+◌, ◌<◌, ◌≤◌, ◌/◌, Bool, true, false, if◌then◌else◌, not, List, [], ◌∷◌, ◌++◌, filter, map, refl, ap, sym, ◌∙◌, arith, add-one}
use Rattle.std.specs.List.{AllByRecursion, flat_map, range_with_len}
use Rattle.std.proofs.lemmas.List.{map-append, map-id}
use Rattle.std.proofs.lemmas.List.Elements.{filter-append}
use Rattle.std.proofs.lemmas.List.FromFn.{map-range_with_len_more}
use Rattle.cany_base.specs.declared.notice.NoticeKind.{NoticeKind}
use Rattle.cany_base.specs.Nodes.{Nodes}
use Rattle.cany_base.specs.Params.{Parameters}
use Rattle.cany_base.specs.Scenario.{ScenarioParts}
use Rattle.cany_base.proofs.ParamsFacts.{few_nodes}
use Rattle.cany_model.specs.Rules.Actions.{actions_of}
use Rattle.cany_model.specs.Rules.Eager.{has_enough}
use Rattle.cany_model.specs.Rules.Life.{failure_sign_effects}
use Rattle.cany_model.specs.Rules.Knowledge.{FailureSign, Knowledge, fda_of, found, has_timed_out, knows, sign_in, with_signs}
use Rattle.cany_model.proofs.Among.{Each-weaker}
use Rattle.cany_life.specs.Life.{IsReading, IsSignOf, LifeParts}
use Rattle.cany_life.specs.LifeSteps.{all_marked, found_actions, found_at, found_below, has_enough_of, is_known, has_timed_out_at}
use Rattle.cany_life.proofs.FoundFacts.{IsBelow, found_below-below}
use Rattle.cany_life.proofs.KnownFacts.{stands_all}
use Rattle.cany_life.proofs.LearnFacts.{all_acts, cycle_of_run, enough_of}

range_more : (n : ℕ) → range_with_len 0 (n + 1) ≡ range_with_len 0 n ++ n ∷ []
range_more n =
    sym (map-id (range_with_len 0 (n + 1))) ∙ map-range_with_len_more (λ x. x) 0 n n (omega arith) ∙ ap (λ xs. xs ++ n ∷ []) (map-id (range_with_len 0 n))

module _ (scenario : ScenarioParts) (i : ℕ) (counted past : List NoticeKind) (knowledge : Knowledge) (v : LifeParts) (slot : ℕ)
    (h : IsReading scenario i counted past knowledge v) (within : slot < scenario.params.slots) (members : Nodes) (same : knowledge.members ≡ members) where
  -- those of the nodes below n, as the node knows
  abbrev signs_below : ℕ → List FailureSign
  signs_below n =
      filter (λ sign. not (knows sign knowledge)) (map (sign_in scenario.params slot) (filter (has_timed_out scenario.params i slot knowledge) (range_with_len 0 n)))

  one : (n : ℕ) (silent known : Bool) → knows (sign_in scenario.params slot n) knowledge ≡ known
      → filter (λ sign. not (knows sign knowledge)) (map (sign_in scenario.params slot) (if silent then n ∷ [] else []))
      ≡ (if silent then (if known then [] else sign_in scenario.params slot n ∷ []) else [])
  one n true true is = rw is refl
  one n true false is = rw is refl
  one n false known is = refl

  signs_below-more : (n : ℕ) → signs_below (suc n)
      ≡ signs_below n ++ (if has_timed_out scenario.params i slot knowledge n then
      (if knows (sign_in scenario.params slot n) knowledge then [] else sign_in scenario.params slot n ∷ []) else [])
  signs_below-more n =
      let p : Parameters = scenario.params in
      let silent : ℕ → Bool = has_timed_out p i slot knowledge in
      let new : FailureSign → Bool = λ sign. not (knows sign knowledge) in
      let more : range_with_len 0 (suc n) ≡ range_with_len 0 n ++ n ∷ [] = rw add-one at (range_more n) in
      ap (λ rs. filter new (map (sign_in p slot) (filter silent rs))) more
      ∙ ap (λ rs. filter new (map (sign_in p slot) rs)) (filter-append silent (range_with_len 0 n) (n ∷ []))
      ∙ ap (filter new) (map-append (sign_in p slot) (filter silent (range_with_len 0 n)) (filter silent (n ∷ [])))
      ∙ filter-append new (map (sign_in p slot) (filter silent (range_with_len 0 n))) (map (sign_in p slot) (filter silent (n ∷ [])))
      ∙ ap (λ signs. signs_below n ++ signs) (one n (silent n) (knows (sign_in p slot n) knowledge) refl)

  sign_of_run : (n : ℕ) → n < scenario.params.nodes → IsSignOf scenario (sign_in scenario.params slot n)
  sign_of_run n below = record { node = below; cycle = cycle_of_run scenario slot (slot / scenario.params.cycle) h.limits.legal within (omega arith) }

  silent_is : (n : ℕ) → n < scenario.params.nodes → has_timed_out_at v members slot n ≡ has_timed_out scenario.params i slot knowledge n
  silent_is n below = rw (same, h.limits.is_node, h.failed n, h.limits.are_params, h.lives.are_shown n below) refl

  found_at-is : (n : ℕ) → n < scenario.params.nodes → found_at v members slot n
      ≡ (if has_timed_out scenario.params i slot knowledge n then (if knows (sign_in scenario.params slot n) knowledge then [] else sign_in scenario.params slot n ∷ []) else [])
  found_at-is n below =
      ap (λ b. if b then (if is_known (sign_in v.params slot n) v then [] else sign_in v.params slot n ∷ []) else []) (silent_is n below)
      ∙ ap (λ (p : Parameters). if has_timed_out scenario.params i slot knowledge n then (if is_known (sign_in p slot n) v then [] else sign_in p slot n ∷ []) else []) h.limits.are_params
      ∙ ap (λ b. if has_timed_out scenario.params i slot knowledge n then (if b then [] else sign_in scenario.params slot n ∷ []) else [])
      (h.signs.known (sign_in scenario.params slot n) (sign_of_run n below))

  below_is : (n : ℕ) → n ≤ scenario.params.nodes → found_below v members slot n ≡ signs_below n
  unfolding found_below
  below_is zero few = refl
  below_is (suc n) few =
      ap (λ signs. signs ++ found_at v members slot n) (below_is n (omega arith))
      ∙ ap (λ signs. signs_below n ++ signs) (found_at-is n (omega arith))
      ∙ sym (signs_below-more n)

  pub found_is : found_below v members slot v.params.nodes ≡ found scenario.params i slot knowledge
  unfolding found
  found_is = ap (λ (p : Parameters). found_below v members slot p.nodes) h.limits.are_params ∙ below_is scenario.params.nodes (omega arith)

  each_found : AllByRecursion (IsSignOf scenario) (found_below v members slot v.params.nodes)
  each_found =
      Each-weaker (IsBelow v.params.nodes (slot / v.params.cycle)) (IsSignOf scenario)
      (λ sign is. record {
        node = omega (arith, is.0, ap (λ (p : Parameters). p.nodes) h.limits.are_params);
        cycle = cycle_of_run scenario slot sign.cycle h.limits.legal within (omega (arith, is.1, ap (λ (p : Parameters). slot / p.cycle) h.limits.are_params));
      })
      (found_below v members slot v.params.nodes) (found_below-below v members slot v.params.nodes)

  pub find_stands : (w : LifeParts) → w ≡ all_marked (found_below v members slot v.params.nodes) v
      → IsReading scenario i counted past (with_signs (found scenario.params i slot knowledge) knowledge) w
  find_stands w is =
      rw (is, ← found_is) (stands_all scenario i counted past knowledge v (found_below v members slot v.params.nodes) h each_found)

  pub find_acts : (at : ℕ) → slot ≡ at → found_actions v slot (found_below v members slot v.params.nodes)
      ≡ actions_of scenario.params.format (flat_map (failure_sign_effects scenario.params.omit at counted) (found scenario.params i slot knowledge))
  find_acts at is =
      let signs : List FailureSign = found_below v members slot v.params.nodes in
      sym (ap (λ xs. actions_of scenario.params.format (flat_map (failure_sign_effects scenario.params.omit at counted) xs)) (sym found_is)
      ∙ all_acts scenario.params.format scenario.params.omit at counted (has_enough_of v) signs
      (Each-weaker (IsSignOf scenario) (λ sign. has_enough_of v sign ≡ has_enough scenario.params.omit (fda_of sign) counted)
      (λ sign of. enough_of scenario i counted past knowledge v sign h (omega (arith, of.node, few_nodes scenario.params h.limits.legal.in_range))) signs each_found)
      ∙ ap (λ n. found_actions v n signs) (sym is))
