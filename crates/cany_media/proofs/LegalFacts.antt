-- The scenario of one bus is legal where it has few rules; and how many it has.
use Rattle.std.proofs.Common.{◌≡◌, ◌≢◌, ℕ, zero, suc, ◌+◌, ◌<◌, ◌≤◌, ◌++◌, Bool, true, false, not, List, [], ◌∷◌, length, map, filter, refl, ap, sym, ◌∙◌, subst, inl, inr, arith, length-append, append_assoc, get_or, take}
use Rattle.std.proofs.lemmas.List.{length-map, map_more}
use Rattle.std.specs.Prelude.{All, AllPairs, find}
use Rattle.std.specs.List.{range_with_len}
use Rattle.std.proofs.lemmas.Bool.{cases_Bool, lt-ltb, false≢true}
use Rattle.std.proofs.lemmas.List.Elements.{All-append, All-cons, All-head, All-nil, All-tail}
use Rattle.std.proofs.lemmas.List.Kept.{AllPairs-cons}
use Rattle.cany_base.specs.declared.rule.Place.{Place}
use Rattle.cany_base.specs.declared.rule.Place.TheVariants.{At, FrameNth}
use Rattle.cany_base.specs.declared.rule.Rule.{Rule}
use Rattle.cany_base.specs.declared.rule.Verdict.TheVariants.{Lost}
use Rattle.cany_base.specs.Limits.{most_rules}
use Rattle.cany_base.specs.Nodes.{AllBelow, Nodes}
use Rattle.cany_base.specs.Params.{Parameters}
use Rattle.cany_base.specs.Scenario.{IsLegalScenario, IsRuleOf, ScenarioParts, same_place}
use Rattle.cany_base.proofs.SetFacts.{below_nobody}
use Rattle.cany_model.specs.Bus.Slot.{ruling_of}
use Rattle.cany_media.specs.MediaRun.{blind_ruling, is_blind}
use Rattle.cany_media.specs.Plan.{FaultParts}
use Rattle.cany_media.specs.Single.{blind_rule, blind_slots, is_replaced, single_bus, single_rules}

-- ---- how many

pub rules_are : (sc : ScenarioParts) (faults : List FaultParts) (kept rules : List Rule) (slots : List ℕ)
    → kept ≡ filter (λ rule. not (is_replaced sc.params faults rule.place)) sc.rules → slots ≡ blind_slots sc faults
    → rules ≡ kept ++ map (blind_rule sc.rules) slots → rules ≡ single_rules sc faults
unfolding single_rules
rules_are sc faults kept rules slots kept_is slots_are all = all ∙ rw (kept_is, slots_are) refl

-- the rule of one slot more is appended
pub blind_more : (rules old before after : List Rule) (slots : List ℕ) (i slot : ℕ) (stop : Nodes) → i < length slots → slot ≡ get_or slots i 0 → stop ≡ (blind_ruling rules slot).stop
    → before ≡ old ++ map (blind_rule rules) (take i slots) → after ≡ before ++ record { place = At slot; verdict = Lost; stop = stop } ∷ []
    → after ≡ old ++ map (blind_rule rules) (take (i + 1) slots)
blind_more rules old before after slots i slot stop within at stops is next =
    let made : Rule = record { place = At slot; verdict = Lost; stop = stop } in
    let rule : made ≡ blind_rule rules (get_or slots i 0) = ap (λ (nodes : Nodes). record { place = At slot; verdict = Lost; stop = nodes }) stops ∙ ap (blind_rule rules) at in
    next
    ∙ ap (λ (rs : List Rule). rs ++ made ∷ []) is
    ∙ append_assoc old (map (blind_rule rules) (take i slots)) (made ∷ [])
    ∙ ap (λ (r : Rule). old ++ (map (blind_rule rules) (take i slots) ++ r ∷ [])) rule
    ∙ ap (λ (rs : List Rule). old ++ rs) (sym (map_more (blind_rule rules) slots i 0 within))

pub rules_number : (sc : ScenarioParts) (faults : List FaultParts) (kept : List Rule) (slots : List ℕ)
    → kept ≡ filter (λ rule. not (is_replaced sc.params faults rule.place)) sc.rules → slots ≡ blind_slots sc faults
    → length kept + length slots ≡ length (single_rules sc faults)
unfolding single_rules
rules_number sc faults kept slots kept_is slots_are =
    rw (kept_is, slots_are) (sym (length-append (filter (λ rule. not (is_replaced sc.params faults rule.place)) sc.rules) (map (blind_rule sc.rules) (blind_slots sc faults))
    ∙ ap (λ n. length (filter (λ rule. not (is_replaced sc.params faults rule.place)) sc.rules) + n) (length-map (blind_slots sc faults) (blind_rule sc.rules))))

-- ---- each rule is one of the scenario's

All-filter : (P : Rule → Type 0) (test : Rule → Bool) (rules : List Rule) → All P rules → All P (filter test rules)
All-filter P test [] all = All-nil P
All-filter P test (rule ∷ rules) all = elim (cases_Bool (test rule)) [
  | inl stays ↦ rw stays (All-cons P rule (filter test rules) (All-head P rule rules all) (All-filter P test rules (All-tail P rule rules all)))
  | inr goes ↦ rw goes (All-filter P test rules (All-tail P rule rules all))
]

-- the nodes that a rule stops, or nobody
stops_below : (p : Parameters) (test : Rule → Bool) (rules : List Rule) → All (IsRuleOf p) rules → AllBelow p.nodes (ruling_of (find test rules)).stop
stops_below p test [] all = below_nobody p.nodes
stops_below p test (rule ∷ rules) all = elim (cases_Bool (test rule)) [
  | inl here ↦ rw here (All-head (IsRuleOf p) rule rules all).stop
  | inr other ↦ rw other (stops_below p test rules (All-tail (IsRuleOf p) rule rules all))
]

made_legal : (p : Parameters) (rules : List Rule) (test : ℕ → Bool) → All (IsRuleOf p) rules → (n a : ℕ) → a + n ≤ p.slots
    → All (IsRuleOf p) (map (blind_rule rules) (filter test (range_with_len a n)))
made_legal p rules test all zero a within = All-nil (IsRuleOf p)
made_legal p rules test all (suc n) a within = elim (cases_Bool (test a)) [
  | inl taken ↦
      let one : IsRuleOf p (blind_rule rules a) = record { place = omega arith; verdict = tt; stop = stops_below p (λ rule. same_place rule.place (At a)) rules all } in
      rw taken (All-cons (IsRuleOf p) (blind_rule rules a) (map (blind_rule rules) (filter test (range_with_len (a + 1) n))) one (made_legal p rules test all n (a + 1) (omega arith)))
  | inr left ↦ rw left (made_legal p rules test all n (a + 1) (omega arith))
]

-- ---- no two have one place

abbrev Differ : Rule → Rule → Type 0
Differ a b = a.place ≢ b.place

slot_of : Place → ℕ
slot_of (At slot) = slot
slot_of (FrameNth class number node nth) = 0

at_same : (a b : ℕ) → At a ≡ At b → a ≡ b
unfolding slot_of
at_same a b e = ap slot_of e

-- a rule of an earlier slot differs from those of later ones
made_differ : (rules : List Rule) (test : ℕ → Bool) (slot : ℕ) (n a : ℕ) → slot < a → All (Differ (blind_rule rules slot)) (map (blind_rule rules) (filter test (range_with_len a n)))
made_differ rules test slot zero a less = All-nil (Differ (blind_rule rules slot))
made_differ rules test slot (suc n) a less = elim (cases_Bool (test a)) [
  | inl taken ↦
      let one : Differ (blind_rule rules slot) (blind_rule rules a) = λ e. let same : slot ≡ a = at_same slot a e in omega arith in
      rw taken (All-cons (Differ (blind_rule rules slot)) (blind_rule rules a) (map (blind_rule rules) (filter test (range_with_len (a + 1) n))) one (made_differ rules test slot n (a + 1) (omega arith)))
  | inr left ↦ rw left (made_differ rules test slot n (a + 1) (omega arith))
]

made_apart : (rules : List Rule) (test : ℕ → Bool) (n a : ℕ) → AllPairs Differ (map (blind_rule rules) (filter test (range_with_len a n)))
made_apart rules test zero a = λ i j d less below. absurd (omega arith)
made_apart rules test (suc n) a = elim (cases_Bool (test a)) [
  | inl taken ↦
      rw taken (AllPairs-cons Differ (blind_rule rules a) (map (blind_rule rules) (filter test (range_with_len (a + 1) n))) (made_differ rules test a n (a + 1) (omega arith)) (made_apart rules test n (a + 1)))
  | inr left ↦ rw left (made_apart rules test n (a + 1))
]

-- a rule that stays differs from those that are made
kept_differs : (params : Parameters) (faults : List FaultParts) (rules : List Rule) (rule : Rule) → is_replaced params faults rule.place ≡ false → (n a : ℕ)
    → a + n ≤ params.slots → All (Differ rule) (map (blind_rule rules) (filter (is_blind params.nodes faults) (range_with_len a n)))
kept_differs params faults rules rule stays zero a within = All-nil (Differ rule)
kept_differs params faults rules rule stays (suc n) a within = elim (cases_Bool (is_blind params.nodes faults a)) [
  | inl taken ↦
      let gone : is_replaced params faults (At a) ≡ true = rw (lt-ltb a params.slots (omega arith), taken) refl in
      let one : Differ rule (blind_rule rules a) = λ e. false≢true (sym stays ∙ ap (is_replaced params faults) e ∙ gone) in
      rw taken (All-cons (Differ rule) (blind_rule rules a) (map (blind_rule rules) (filter (is_blind params.nodes faults) (range_with_len (a + 1) n))) one (kept_differs params faults rules rule stays n (a + 1) (omega arith)))
  | inr left ↦ rw left (kept_differs params faults rules rule stays n (a + 1) (omega arith))
]

pair_tail : (rule : Rule) (rules : List Rule) → AllPairs Differ (rule ∷ rules) → AllPairs Differ rules
pair_tail rule rules pairs i j d less below = pairs (suc i) (suc j) d (omega arith) (omega arith)

pair_head : (rule : Rule) (rules : List Rule) → AllPairs Differ (rule ∷ rules) → All (Differ rule) rules
pair_head rule rules pairs k d below = pairs 0 (suc k) d (omega arith) (omega arith)

joined_apart : (params : Parameters) (faults : List FaultParts) (own rules : List Rule) → AllPairs Differ rules
    → AllPairs Differ (filter (λ rule. not (is_replaced params faults rule.place)) rules ++ map (blind_rule own) (filter (is_blind params.nodes faults) (range_with_len 0 params.slots)))
joined_apart params faults own [] pairs = made_apart own (is_blind params.nodes faults) params.slots 0
joined_apart params faults own (rule ∷ rules) pairs = elim (cases_Bool (is_replaced params faults rule.place)) [
  | inl out ↦ rw out (joined_apart params faults own rules (pair_tail rule rules pairs))
  | inr stays ↦
      let kept = filter (λ r. not (is_replaced params faults r.place)) rules in
      let made = map (blind_rule own) (filter (is_blind params.nodes faults) (range_with_len 0 params.slots)) in
      rw stays (AllPairs-cons Differ rule (kept ++ made)
      (All-append (Differ rule) kept made (All-filter (Differ rule) (λ r. not (is_replaced params faults r.place)) rules (pair_head rule rules pairs))
      (kept_differs params faults own rule stays params.slots 0 (omega arith)))
      (joined_apart params faults own rules (pair_tail rule rules pairs)))
]

-- ---- together

pub legal_single : (sc : ScenarioParts) (faults : List FaultParts) → IsLegalScenario sc → length (single_rules sc faults) ≤ most_rules → IsLegalScenario (single_bus sc faults)
unfolding single_rules
legal_single sc faults legal few = record {
  in_range = legal.in_range;
  formulas = legal.formulas;
  members = legal.members;
  sends = legal.sends;
  rules = All-append (IsRuleOf sc.params) (filter (λ rule. not (is_replaced sc.params faults rule.place)) sc.rules) (map (blind_rule sc.rules) (blind_slots sc faults))
      (All-filter (IsRuleOf sc.params) (λ rule. not (is_replaced sc.params faults rule.place)) sc.rules legal.rules)
      (made_legal sc.params sc.rules (is_blind sc.params.nodes faults) legal.rules sc.params.slots 0 (omega arith));
  joins = legal.joins;
  leaves = legal.leaves;
  restarts = legal.restarts;
  few_sends = legal.few_sends;
  few_rules = few;
  few_joins = legal.few_joins;
  few_leaves = legal.few_leaves;
  few_restarts = legal.few_restarts;
  few_of_node = legal.few_of_node;
  places = joined_apart sc.params faults sc.rules sc.rules legal.places;
}

-- as it is where all scripted asks are made, by the first incarnation of each node
pub legal_as_read : (sc : ScenarioParts) (faults : List FaultParts) → IsLegalScenario sc → length (single_rules sc faults) ≤ most_rules → sc.from ≡ 0 → sc.inc ≡ 0
    → IsLegalScenario (record (single_bus sc faults) { from = 0; inc = 0 })
legal_as_read sc faults legal few whole first =
    let one = legal_single sc faults legal few in
    subst (λ (n : ℕ). IsLegalScenario (record (single_bus sc faults) { from = 0; inc = n })) first
    (subst (λ (n : ℕ). IsLegalScenario (record (single_bus sc faults) { from = n; inc = sc.inc })) whole one)
