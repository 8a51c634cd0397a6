-- Scripted asks by slot.
use Rattle.std.proofs.Common.{◌≡◌, ◌≢◌, ℕ, suc, ◌+◌, ◌<◌, ◌≤◌, ◌==◌, ◌&&◌, not, nat_lt, Bool, false, cond, inl, inr, List, [], ◌∷◌, ◌++◌, length, filter, map, get_or, take, drop, drop-cons, refl, ap, sym, subst, ◌∙◌, arith, append_assoc, append-nil}
use Rattle.std.specs.List.{flat_map}
use Rattle.std.specs.List.Sorted.{IsNonDecreasingBy, ties}
use Rattle.std.specs.Ordering.{is_lt, nat_cmp}
use Rattle.std.proofs.lemmas.Bool.{cases_Bool, eq-eqb, le-ltb, ltb-false, ltb-true}
use Rattle.std.proofs.lemmas.Bool.Decides.{nat_tests}
use Rattle.std.proofs.lemmas.List.{drop_all, length-append, map-append, take_more}
use Rattle.std.proofs.lemmas.List.Elements.{filter-append, filter_agree}
use Rattle.cany_base.specs.declared.actions.Action.{Action}
use Rattle.cany_base.specs.declared.format.Format.{Format}
use Rattle.cany_base.specs.declared.message.NodeAsk.{NodeAsk}
use Rattle.cany_base.specs.Scenario.{ScenarioParts}
use Rattle.cany_model.specs.Rules.Actions.{action_of, actions_of}
use Rattle.cany_model.specs.Rules.Effect.{Effect}
use Rattle.cany_model.specs.Rules.Membership.{asks_in, is_ask_in}
use Rattle.cany_node.specs.Asks.{AreAsksOf, AreAsksPassed, IsAskPlanOf, IsNextBefore, IsRisingFrom, is_at, is_of_node, slot_of}
use Rattle.cany_node.proofs.AgendaFacts.{filter_both, filter_mapped}

-- ---- the slots of a node's asks

next_slots : (i : ℕ) (asks : List NodeAsk) (k : ℕ) (ask : NodeAsk) → k < length asks → ask ≡ get_or asks k ask
    → map slot_of (filter (is_of_node i) (take (k + 1) asks)) ≡ map slot_of (filter (is_of_node i) (take k asks)) ++ map slot_of (filter (is_of_node i) (ask ∷ []))
next_slots i asks k ask within is =
    ap (λ xs. map slot_of (filter (is_of_node i) xs)) (take_more asks k ask within ∙ ap (λ x. take k asks ++ x ∷ []) (sym is))
    ∙ ap (map slot_of) (filter-append (is_of_node i) (take k asks) (ask ∷ []))
    ∙ map-append slot_of (filter (is_of_node i) (take k asks)) (filter (is_of_node i) (ask ∷ []))

pub slots-next : (i : ℕ) (asks : List NodeAsk) (k : ℕ) (ask : NodeAsk) (old new : List ℕ) → k < length asks → ask ≡ get_or asks k ask
    → old ≡ map slot_of (filter (is_of_node i) (take k asks)) → ask.node ≡ i → new ≡ old ++ ask.slot ∷ []
    → new ≡ map slot_of (filter (is_of_node i) (take (k + 1) asks))
slots-next i asks k ask old new within is before same more =
    more ∙ ap (λ xs. xs ++ ask.slot ∷ []) before
    ∙ sym (next_slots i asks k ask within is
    ∙ ap (λ b. map slot_of (filter (is_of_node i) (take k asks)) ++ map slot_of (cond b (ask ∷ []) [])) (eq-eqb ask.node i same))

pub slots-past : (i : ℕ) (asks : List NodeAsk) (k : ℕ) (ask : NodeAsk) (old new : List ℕ) → k < length asks → ask ≡ get_or asks k ask
    → old ≡ map slot_of (filter (is_of_node i) (take k asks)) → ask.node ≢ i → new ≡ old
    → new ≡ map slot_of (filter (is_of_node i) (take (k + 1) asks))
slots-past i asks k ask old new within is before other more =
    more ∙ before ∙ sym (append-nil (map slot_of (filter (is_of_node i) (take k asks))))
    ∙ sym (next_slots i asks k ask within is
    ∙ ap (λ b. map slot_of (filter (is_of_node i) (take k asks)) ++ map slot_of (cond b (ask ∷ []) [])) (apart ask.node i other))
  where
    apart : (a b : ℕ) → a ≢ b → (a == b) ≡ false
    apart a b h = grind (arith, nat_tests)

pub slots-few : (new old : List ℕ) (slot k : ℕ) → new ≡ old ++ slot ∷ [] → length old ≤ k → length new ≤ k + 1
slots-few new old slot k more few = omega (arith, few, ap length more, length-append old (slot ∷ []))

tie_test : (s n : ℕ) → (not (is_lt (nat_cmp s n)) && not (is_lt (nat_cmp n s))) ≡ (n == s)
tie_test s n = grind (arith, nat_tests)

-- a stable sort keeps the asks of each slot
pub asks_stable : (xs ys : List ℕ) → ((x : ℕ) → filter (ties (λ a b. is_lt (nat_cmp a b)) x) ys ≡ filter (ties (λ a b. is_lt (nat_cmp a b)) x) xs)
    → (s : ℕ) → filter (is_at s) ys ≡ filter (is_at s) xs
asks_stable xs ys stable s =
    let test : ℕ → Bool = ties (λ a b. is_lt (nat_cmp a b)) s in
    let agree : (n : ℕ) → test n ≡ is_at s n = λ n. tie_test s n in
    sym (filter_agree test (is_at s) agree ys) ∙ stable s ∙ filter_agree test (is_at s) agree xs

pub asks_rising : (n : ℕ) (xs : List ℕ) → IsNonDecreasingBy (λ s. s) xs → ((d : ℕ) → 0 < length xs → n ≤ get_or xs 0 d) → IsRisingFrom n xs
unfolding IsRisingFrom
asks_rising n [] up first = tt
asks_rising n (x ∷ xs) up first =
    (first x (omega arith), asks_rising x xs (λ i j d a b. up (suc i) (suc j) d (omega arith) (omega arith)) (λ d some. up 0 1 d (omega arith) (omega arith)))

-- what is left of all that is planned, slot by slot
pub asks_left : (i : ℕ) (asks : List NodeAsk) (slots left : List ℕ) → slots ≡ map slot_of (filter (is_of_node i) asks)
    → ((s : ℕ) → filter (is_at s) left ≡ filter (is_at s) slots) → (s : ℕ) → filter (is_at s) left ≡ map slot_of (filter (is_ask_in i s) asks)
asks_left i asks slots left is same s =
    same s ∙ ap (filter (is_at s)) is ∙ sym (filter_mapped slot_of (is_at s) (filter (is_of_node i) asks))
    ∙ ap (map slot_of) (filter_both (is_of_node i) (λ (ask : NodeAsk). ask.slot == s) asks)

-- ---- those that are still to come

rising_none : (n : ℕ) → IsRisingFrom n []
unfolding IsRisingFrom
rising_none n = tt

pub rising_before : (m n : ℕ) (xs : List ℕ) → m ≤ n → IsRisingFrom n xs → IsRisingFrom m xs
unfolding IsRisingFrom
rising_before m n [] less up = tt
rising_before m n (s ∷ xs) less up = (omega (arith, less, up.0), up.1)

pub rising_past : (n k : ℕ) (xs : List ℕ) → length xs ≤ k → IsRisingFrom n (drop k xs)
rising_past n k xs past = rw (drop_all k xs past) (rising_none n)

split_at : (k : ℕ) (xs : List ℕ) (s : ℕ) → k < length xs → s ≡ get_or xs k s → drop k xs ≡ s ∷ drop (suc k) xs
split_at k xs s within is = drop-cons xs k s within ∙ ap (λ x. x ∷ drop (suc k) xs) (sym is)

-- where the next is for another slot, all are for later ones
pub rising_other : (n k : ℕ) (xs : List ℕ) (s : ℕ) → k < length xs → s ≡ get_or xs k s → s ≢ n → IsRisingFrom n (drop k xs) → IsRisingFrom (n + 1) (drop k xs)
unfolding IsRisingFrom
rising_other n k xs s within is other up =
    let split = split_at k xs s within is in
    let here : IsRisingFrom n (s ∷ drop (suc k) xs) = subst (IsRisingFrom n) split up in
    subst (IsRisingFrom (n + 1)) (sym split) (omega (arith, here.0, other), here.1)

-- where the next is for no slot before this one, none is
pub rising_late : (n k : ℕ) (xs : List ℕ) (s : ℕ) → k < length xs → s ≡ get_or xs k s → n ≤ s → IsRisingFrom 0 (drop k xs) → IsRisingFrom n (drop k xs)
unfolding IsRisingFrom
rising_late n k xs s within is late up =
    let split = split_at k xs s within is in
    subst (IsRisingFrom n) (sym split) (late, (subst (IsRisingFrom 0) split up).1)

other_slot : (a b : ℕ) → a ≢ b → (a == b) ≡ false
other_slot a b h = grind (arith, nat_tests)

-- where all are for later slots, none is for this one
pub none_at : (s n : ℕ) (xs : List ℕ) → s < n → IsRisingFrom n xs → filter (is_at s) xs ≡ []
unfolding IsRisingFrom
none_at s n [] less up = refl
none_at s n (x ∷ xs) less up = rw (other_slot x s (λ e. omega (arith, e, less, up.0))) (none_at s x xs (omega (arith, less, up.0)) up.1)

-- ---- those of slots that have gone by are passed over

pub record KeepsAsks (slot : ℕ) (old new : List ℕ) : Type 0 where
  pub later : (s : ℕ) → slot ≤ s → filter (is_at s) new ≡ filter (is_at s) old
  pub rising : IsRisingFrom 0 old → IsRisingFrom 0 new
  pub few : length new ≤ length old

pub asks_passing : (slot : ℕ) (old mid new : List ℕ) → KeepsAsks slot old mid → IsNextBefore slot mid new → KeepsAsks slot old new
unfolding IsRisingFrom
asks_passing slot old mid new keeps next = record {
  later = λ s late. sym (ap (filter (is_at s)) next.split ∙ rw (other_slot next.taken s (λ e. omega (arith, e, late, next.before))) refl) ∙ keeps.later s late;
  rising = λ up. let tail = subst (IsRisingFrom 0) next.split (keeps.rising up) in rising_before 0 next.taken new (omega arith) tail.1;
  few = omega (arith, keeps.few, ap length next.split);
}

pub asks_passed : (slot : ℕ) (old mid new : List ℕ) → KeepsAsks slot old mid → new ≡ mid → (IsRisingFrom 0 mid → IsRisingFrom slot mid) → AreAsksPassed slot old new
asks_passed slot old mid new keeps same late = rw same (record { later = keeps.later; rising = λ up. late (keeps.rising up); few = keeps.few })

-- ---- in a slot

-- as many times what one asks for, as there are slots in the list
abbrev pub repeated : List Action → List ℕ → List Action
repeated one slots = flat_map (λ s. one) slots

-- what was asked for and what is still to be, together, and the asks of later slots
pub record KeepsAsking (slot : ℕ) (one : List Action) (old new : List ℕ) (before after : List Action) : Type 0 where
  pub asks : after ++ repeated one (filter (is_at slot) new) ≡ before ++ repeated one (filter (is_at slot) old)
  pub later : (s : ℕ) → slot < s → filter (is_at s) new ≡ filter (is_at s) old
  pub rising : IsRisingFrom slot old → IsRisingFrom slot new
  pub few : length new ≤ length old

pub asking_start : (slot : ℕ) (one : List Action) (plan : List ℕ) (out : List Action) → KeepsAsking slot one plan plan out out
asking_start slot one plan out = record { asks = refl; later = λ s h. refl; rising = λ h. h; few = omega arith }

pub asking_more : (slot : ℕ) (one : List Action) (old mid new : List ℕ) (before between after : List Action) → KeepsAsking slot one old mid before between
    → mid ≡ slot ∷ new → after ≡ between ++ one → KeepsAsking slot one old new before after
unfolding IsRisingFrom
asking_more slot one old mid new before between after keeps split made = record {
  asks =
      ap (λ xs. xs ++ repeated one (filter (is_at slot) new)) made ∙ append_assoc between one (repeated one (filter (is_at slot) new))
      ∙ ap (λ ss. between ++ repeated one ss) (sym here) ∙ keeps.asks;
  later = λ s less. sym (ap (filter (is_at s)) split ∙ rw (other_slot slot s (λ e. omega (arith, e, less))) refl) ∙ keeps.later s less;
  rising = λ up. (subst (IsRisingFrom slot) split (keeps.rising up)).1;
  few = omega (arith, keeps.few, ap length split);
}
  where
    here : filter (is_at slot) mid ≡ slot ∷ filter (is_at slot) new
    here = ap (filter (is_at slot)) split ∙ ap (λ b. cond b (slot ∷ filter (is_at slot) new) (filter (is_at slot) new)) (eq-eqb slot slot refl)

-- each asks for the same
repeated_asks : (format : Format) (effects : List Effect) (asks : List NodeAsk)
    → repeated (actions_of format effects) (map slot_of asks) ≡ actions_of format (flat_map (λ ask. effects) asks)
repeated_asks format effects [] = refl
repeated_asks format effects (ask ∷ asks) =
    ap (λ xs. actions_of format effects ++ xs) (repeated_asks format effects asks) ∙ sym (map-append (action_of format) effects (flat_map (λ ask. effects) asks))

-- once no more is for the slot
pub asks_made : (scenario : ScenarioParts) (i slot : ℕ) (asks : List NodeAsk) (format : Format) (effects : List Effect) (old new : List ℕ) (before after : List Action)
    → KeepsAsking slot (actions_of format effects) old new before after → (IsRisingFrom slot new → IsRisingFrom (slot + 1) new) → AreAsksOf scenario i slot asks old
    → after ≡ before ++ actions_of format (flat_map (λ ask. effects) (asks_in scenario i slot asks))
asks_made scenario i slot asks format effects old new before after keeps later is =
    let one : List Action = actions_of format effects in
    let none : filter (is_at slot) new ≡ [] = none_at slot (slot + 1) new (omega arith) (later (keeps.rising is.rising)) in
    sym (append-nil after) ∙ ap (λ ss. after ++ repeated one ss) (sym none) ∙ keeps.asks
    ∙ ap (λ ss. before ++ repeated one ss) (is.left slot (omega arith))
    ∙ ap (λ xs. before ++ xs) (repeated_asks format effects (asks_in scenario i slot asks))

pub asks_still : (scenario : ScenarioParts) (i slot : ℕ) (asks : List NodeAsk) (one : List Action) (old new : List ℕ) (before after : List Action)
    → KeepsAsking slot one old new before after → (IsRisingFrom slot new → IsRisingFrom (slot + 1) new) → AreAsksOf scenario i slot asks old
    → AreAsksOf scenario i (slot + 1) asks new
asks_still scenario i slot asks one old new before after keeps later is = record {
  left = λ s late. keeps.later s (omega (arith, late)) ∙ is.left s (omega (arith, late));
  rising = later (keeps.rising is.rising);
  few = omega (arith, keeps.few, is.few);
}

-- ---- before the first turn

all_asks : (scenario : ScenarioParts) (i s : ℕ) (asks : List NodeAsk) → scenario.from ≤ s → asks_in scenario i s asks ≡ filter (is_ask_in i s) asks
all_asks scenario i s asks late = rw (le-ltb s scenario.from late) refl

pub whole_asks : (scenario : ScenarioParts) (i : ℕ) (asks : List NodeAsk) (plan : List ℕ) → scenario.from ≡ 0 → IsAskPlanOf i asks plan → AreAsksOf scenario i 0 asks plan
whole_asks scenario i asks plan first is = record {
  left = λ s later. is.left s ∙ ap (map slot_of) (sym (all_asks scenario i s asks (omega (arith, first))));
  rising = is.rising;
  few = is.few;
}

-- none is made before the first slot, and those of that slot and later ones are still to come
pub passed_asks : (scenario : ScenarioParts) (i slot : ℕ) (asks : List NodeAsk) (old new : List ℕ) → IsAskPlanOf i asks old → AreAsksPassed scenario.from old new
    → slot ≤ scenario.from → AreAsksOf scenario i slot asks new
passed_asks scenario i slot asks old new plan passed early = record {
  left = λ s later. elim (cases_Bool (nat_lt s scenario.from)) [
    | inl before ↦ none_at s scenario.from new (ltb-true s scenario.from before) rising ∙ sym (rw before refl)
    | inr from ↦
        let late = ltb-false s scenario.from from in
        passed.later s late ∙ plan.left s ∙ ap (map slot_of) (sym (all_asks scenario i s asks late))
  ];
  rising = rising_before slot scenario.from new early rising;
  few = omega (arith, passed.few, plan.few);
}
  where
    rising : IsRisingFrom scenario.from new
    rising = passed.rising plan.rising
