-- Of each failure sign at most one entry stands in the log of a node: it is made in the turn in
-- which the sign becomes known.
use Rattle.std.proofs.Common.{◌≡◌, ℕ, zero, suc, ◌+◌, ◌<◌, ◌≤◌, ◌==◌, ◌&&◌, ◌||◌, inl, inr, Bool, true, false, not, cond, List, [], ◌∷◌, ◌++◌, map, filter, length, count_by, refl, ap, sym, ◌∙◌, arith}
use Rattle.std.specs.List.{AllByRecursion, flat_map, range_with_len}
use Rattle.std.proofs.lemmas.Bool.{and_parts, both_ways, cases_Bool, cases_lt, cond_both, eqb-true, not-true}
use Rattle.std.proofs.lemmas.List.Sums.{sum_by-append}
use Rattle.cany_base.specs.declared.class.Class.TheVariants as class
use Rattle.cany_base.specs.declared.log_entry.LogEntry.{LogEntry}
use Rattle.cany_base.specs.declared.log_entry.LogEntry.TheVariants.{Deliver, Failed, View}
use Rattle.cany_base.specs.declared.notice.NoticeKind.{NoticeKind}
use Rattle.cany_base.specs.declared.notice.NoticeKind.TheVariants.{Idle, Got, Sent, Bad}
use Rattle.cany_base.specs.Params.{Parameters}
use Rattle.cany_base.specs.Scenario.{ScenarioParts}
use Rattle.cany_model.specs.Bus.Frames.{same_class}
use Rattle.cany_model.specs.Rules.Effect.{Effect, entered}
use Rattle.cany_model.specs.Rules.Life.{failure_effects, failures_at, fda_copy_effects, failure_sign_effects}
use Rattle.cany_model.specs.Rules.Log.{log_from}
use Rattle.cany_model.specs.Rules.Membership.{views}
use Rattle.cany_model.specs.Rules.KnowledgeOf.{knowledge_of}
use Rattle.cany_model.specs.Rules.Knowledge.{FailureSign, Knowledge, found, found_in, after_finding, after_hearing, after_learning, has_timed_out, knows, same_sign, sign_in, sign_of, told, told_in, with_signs}
use Rattle.cany_model.specs.Rules.Turn.{turn_effects}
use Rattle.cany_model.proofs.Among.{Among-from_count, Among-weaker, any-from_Among, count-cons, count-no, count-yes, one_at_most}
use Rattle.cany_model.proofs.Rules.Services.DeliveryFacts.{entered-append, entered-none}
use Rattle.cany_model.proofs.Rules.Site.MembershipEntries.{IsOfView, views_enter}
use Rattle.cany_model.proofs.Rules.Site.KnowledgeFacts.{knows_found, knows_heard, knows_with, same_sign-from, tells}
use Rattle.cany_model.proofs.Rules.TurnEntries.{copy_enters, sign_enters, turn_enters}

-- the entry is that of the sign
abbrev pub is_entry_of : FailureSign → LogEntry → Bool
is_entry_of sign (Deliver slot by msg payload) = false
is_entry_of sign (Failed slot node cycle) = node == sign.node && cycle == sign.cycle
is_entry_of sign (View slot number members) = false

abbrev one_if : Bool → ℕ
one_if b = cond b 1 0

or_more : (a b : Bool) → one_if b ≤ one_if (a || b)
or_more true b = one_at_most b
or_more false b = omega arith

one_of_both : (a b : Bool) → one_if (a && b) ≤ one_if a
one_of_both true b = one_at_most b
one_of_both false b = omega arith

-- ---- lists

filter_fewer : {X : Type 0} (p q : X → Bool) (xs : List X) → count_by p (filter q xs) ≤ count_by p xs
filter_fewer p q [] = omega arith
filter_fewer p q (x ∷ xs) =
    cond_both (q x) (x ∷ filter q xs) (filter q xs) (λ kept. count_by p kept ≤ count_by p (x ∷ xs))
    (λ _. omega (arith, count-cons p x (filter q xs), count-cons p x xs, filter_fewer p q xs))
    (λ _. omega (arith, count-cons p x xs, filter_fewer p q xs))

-- each number stands in a range once
above_none : (n a k : ℕ) → n < a → count_by (λ r. r == n) (range_with_len a k) ≡ 0
above_none n a zero above = refl
above_none n a (suc k) above = elim (cases_Bool (a == n)) [
  | inl same ↦ absurd (omega (arith, above, eqb-true a n same))
  | inr other ↦ count-no (λ r. r == n) a (range_with_len (a + 1) k) other ∙ above_none n (a + 1) k (omega (arith, above))
]

range_once : (n a k : ℕ) → count_by (λ r. r == n) (range_with_len a k) ≤ 1
range_once n a zero = omega arith
range_once n a (suc k) = elim (cases_Bool (a == n)) [
  | inl same ↦
      omega (arith, count-yes (λ r. r == n) a (range_with_len (a + 1) k) same, above_none n (a + 1) k (omega (arith, eqb-true a n same)))
  | inr other ↦ omega (arith, count-no (λ r. r == n) a (range_with_len (a + 1) k) other, range_once n (a + 1) k)
]

module _ (sign : FailureSign) where
  abbrev count : List LogEntry → ℕ
  count entries = count_by (is_entry_of sign) entries

  count-append : (first rest : List LogEntry) → count (first ++ rest) ≡ count first + count rest
  count-append first rest = sum_by-append (λ entry. cond (is_entry_of sign entry) 1 0) first rest

  -- ---- what a turn enters of the sign

  no_view : (entries : List LogEntry) → AllByRecursion IsOfView entries → count entries ≡ 0
  no_view [] h = refl
  no_view (Deliver slot by msg payload ∷ entries) h = absurd h.0
  no_view (Failed slot node cycle ∷ entries) h = absurd h.0
  no_view (View slot number members ∷ entries) h =
      count-no (is_entry_of sign) (View slot number members) entries refl ∙ no_view entries h.1

  -- what the rules of failure signs enter
  turn_signs : (scenario : ScenarioParts) (i : ℕ) (e : NoticeKind) (before : List NoticeKind)
      → count (entered (turn_effects scenario i (e ∷ before))) ≡ count (entered (failure_effects scenario i (e ∷ before)))
  turn_signs scenario i e before =
      omega (
        arith,
        turn_enters (is_entry_of sign) (λ slot by msg payload. refl) scenario i e before,
        no_view (entered (views.effects scenario i (e ∷ before))) (views_enter scenario i (e ∷ before)),
      )

  -- ---- each sign that becomes known is entered

  abbrev is_it : FailureSign → Bool
  is_it s = is_entry_of sign (Failed 0 s.node s.cycle)

  is_it-true : (s : FailureSign) → is_it s ≡ true → sign ≡ s
  is_it-true s h =
      let parts = and_parts (s.node == sign.node) (s.cycle == sign.cycle) h in
      let node : s.node ≡ sign.node = eqb-true s.node sign.node parts.0 in
      let cycle : s.cycle ≡ sign.cycle = eqb-true s.cycle sign.cycle parts.1 in
      λ k. record { node = (sym node) k; cycle = (sym cycle) k }

  signs_enter : (omit slot : ℕ) (past : List NoticeKind) (signs : List FailureSign)
      → count (entered (flat_map (failure_sign_effects omit slot past) signs)) ≡ count_by is_it signs
  unfolding entered
  signs_enter omit slot past [] = refl
  signs_enter omit slot past (s ∷ signs) =
      ap count (entered-append (failure_sign_effects omit slot past s) (flat_map (failure_sign_effects omit slot past) signs))
      ∙ ap (λ entries. count (entries ++ entered (flat_map (failure_sign_effects omit slot past) signs))) (sign_enters omit slot past s)
      ∙ omega (
        arith,
        count-cons (is_entry_of sign) (Failed slot s.node s.cycle) (entered (flat_map (failure_sign_effects omit slot past) signs)),
        count-cons is_it s signs,
        signs_enter omit slot past signs,
      )

  failures_enter : (scenario : ScenarioParts) (i : ℕ) (e : NoticeKind) (past : List NoticeKind)
      → count (entered (failure_effects scenario i (e ∷ past)))
      ≡ count_by is_it (told_in i (length past) e (knowledge_of scenario i past))
      + count_by is_it (found_in scenario.params i (length past) e (knowledge_of scenario i past))
  unfolding failure_effects failures_at
  failures_enter scenario i e past =
      let each : FailureSign → List Effect = failure_sign_effects scenario.params.omit (length past) (e ∷ past) in
      let copied : List Effect = fda_copy_effects scenario.params.omit e (e ∷ past) in
      let told_now : List FailureSign = told_in i (length past) e (knowledge_of scenario i past) in
      let found_now : List FailureSign = found_in scenario.params i (length past) e (knowledge_of scenario i past) in
      let halves : count (entered ((flat_map each told_now ++ copied) ++ flat_map each found_now))
      ≡ count (entered (flat_map each told_now ++ copied)) + count (entered (flat_map each found_now)) =
      ap count (entered-append (flat_map each told_now ++ copied) (flat_map each found_now))
      ∙ count-append (entered (flat_map each told_now ++ copied)) (entered (flat_map each found_now)) in
      let first : count (entered (flat_map each told_now ++ copied)) ≡ count (entered (flat_map each told_now)) + count (entered copied) =
      ap count (entered-append (flat_map each told_now) copied) ∙ count-append (entered (flat_map each told_now)) (entered copied) in
      let none : count (entered copied) ≡ 0 = ap count (entered-none copied (copy_enters scenario.params.omit e (e ∷ past))) in
      omega (
        arith,
        halves,
        first,
        none,
        signs_enter scenario.params.omit (length past) (e ∷ past) told_now,
        signs_enter scenario.params.omit (length past) (e ∷ past) found_now,
      )

  -- ---- a sign becomes known once

  -- a sign that a notice tells of is told of once, and was not known
  told_once : (e : NoticeKind) (st : Knowledge) → count_by is_it (told e st) + one_if (knows sign st) ≤ 1
  unfolding told
  told_once Idle st = omega (arith, one_at_most (knows sign st))
  told_once Bad st = omega (arith, one_at_most (knows sign st))
  told_once (Sent f) st = omega (arith, one_at_most (knows sign st))
  told_once (Got f) st =
      cond_both (same_class f.class class.Fda && not (knows (sign_of f) st)) (sign_of f ∷ []) []
      (λ signs. count_by is_it signs + one_if (knows sign st) ≤ 1)
      (λ new. elim (cases_Bool (is_it (sign_of f))) [
        | inl same ↦
            let unknown : knows (sign_of f) st ≡ false =
            not-true (knows (sign_of f) st) (and_parts (same_class f.class class.Fda) (not (knows (sign_of f) st)) new).1 in
            let none : one_if (knows sign st) ≡ 0 = ap (λ s. one_if (knows s st)) (is_it-true (sign_of f) same) ∙ ap one_if unknown in
            omega (arith, none, count-yes is_it (sign_of f) [] same)
        | inr other ↦ omega (arith, count-no is_it (sign_of f) [] other, one_at_most (knows sign st))
      ])
      (λ _. omega (arith, one_at_most (knows sign st)))

  -- a sign that is known is none of those that are not
  unknown_none : (st : Knowledge) → knows sign st ≡ true → (signs : List FailureSign) → count_by is_it (filter (λ s. not (knows s st)) signs) ≡ 0
  unknown_none st known [] = refl
  unknown_none st known (s ∷ signs) =
      cond_both (not (knows s st)) (s ∷ filter (λ x. not (knows x st)) signs) (filter (λ x. not (knows x st)) signs) (λ kept. count_by is_it kept ≡ 0)
      (λ new. elim (cases_Bool (is_it s)) [
        | inl same ↦ absurd (both_ways (knows s st) (not-true (knows s st) new) (ap (λ x. knows x st) (sym (is_it-true s same)) ∙ known))
        | inr other ↦ count-no is_it s (filter (λ x. not (knows x st)) signs) other ∙ unknown_none st known signs
      ])
      (λ _. unknown_none st known signs)

  silent_fewer : (p : Parameters) (slot : ℕ) (rs : List ℕ) → count_by is_it (map (sign_in p slot) rs) ≤ count_by (λ r. r == sign.node) rs
  silent_fewer p slot [] = omega arith
  silent_fewer p slot (r ∷ rs) =
      omega (
        arith,
        count-cons is_it (sign_in p slot r) (map (sign_in p slot) rs),
        count-cons (λ q. q == sign.node) r rs,
        one_of_both (r == sign.node) ((sign_in p slot r).cycle == sign.cycle),
        silent_fewer p slot rs,
      )

  -- so is one that silence brings: each node is looked at once
  found_once : (p : Parameters) (i slot : ℕ) (st : Knowledge) → count_by is_it (found p i slot st) + one_if (knows sign st) ≤ 1
  unfolding found
  found_once p i slot st =
      let silent : List ℕ = filter (has_timed_out p i slot st) (range_with_len 0 p.nodes) in
      let all : List FailureSign = map (sign_in p slot) silent in
      elim (cases_Bool (knows sign st)) [
        | inl known ↦ omega (arith, unknown_none st known all, one_at_most (knows sign st))
        | inr unknown ↦
            let none : one_if (knows sign st) ≡ 0 = ap one_if unknown in
            omega (
              arith,
              none,
              filter_fewer is_it (λ s. not (knows s st)) all,
              silent_fewer p slot silent,
              filter_fewer (λ r. r == sign.node) (has_timed_out p i slot st) (range_with_len 0 p.nodes),
              range_once sign.node 0 p.nodes,
            )
      ]

  -- and it is known from then on
  then_known : (signs : List FailureSign) (st : Knowledge) → count_by is_it signs + one_if (knows sign st) ≤ 1
      → count_by is_it signs + one_if (knows sign st) ≤ one_if (knows sign (with_signs signs st))
  then_known signs st few = elim (cases_lt 0 (count_by is_it signs)) [
    | inl some ↦
        let is_told : tells sign signs ≡ true =
        any-from_Among (same_sign sign) signs
        (Among-weaker (λ s. is_it s ≡ true) (λ s. same_sign sign s ≡ true) (λ s h. same_sign-from sign s (is_it-true s h)) signs
        (Among-from_count is_it signs some)) in
        let known : one_if (knows sign (with_signs signs st)) ≡ 1 =
        ap one_if (knows_with sign signs st ∙ ap (λ b. b || knows sign st) is_told) in
        omega (arith, few, known)
    | inr none ↦
        let known : one_if (knows sign (with_signs signs st)) ≡ one_if (tells sign signs || knows sign st) = ap one_if (knows_with sign signs st) in
        omega (arith, none, known, or_more (tells sign signs) (knows sign st))
  ]

  -- ---- in a log

  -- its entry stands there only once it is known, and at most once
  signs_known : (scenario : ScenarioParts) (i : ℕ) (past : List NoticeKind)
      → count (log_from scenario i past) ≤ one_if (knows sign (knowledge_of scenario i past))
  unfolding log_from knowledge_of
  signs_known scenario i [] = omega arith
  signs_known scenario i (e ∷ past) =
      let st : Knowledge = knowledge_of scenario i past in
      let heard : Knowledge = after_hearing i (length past) e st in
      let learnt : Knowledge = after_learning i (length past) e st in
      let told_now : List FailureSign = told_in i (length past) e st in
      let found_now : List FailureSign = found_in scenario.params i (length past) e st in
      let same : one_if (knows sign heard) ≡ one_if (knows sign st) = ap one_if (knows_heard sign i (length past) e st) in
      let stays : one_if (knows sign (knowledge_of scenario i (e ∷ past)))
      ≡ one_if (knows sign (after_finding scenario.params i (length past) e st)) = ap one_if (knows_found scenario.params i (length past) e st sign) in
      omega (
        arith,
        count-append (log_from scenario i past) (entered (turn_effects scenario i (e ∷ past))),
        turn_signs scenario i e past,
        failures_enter scenario i e past,
        same,
        then_known told_now heard (told_once e heard),
        then_known found_now learnt (found_once scenario.params i (length past) learnt),
        stays,
        signs_known scenario i past,
      )

-- of each sign at most one entry stands in the log of a node
pub signs_once : (scenario : ScenarioParts) (i : ℕ) (past : List NoticeKind) (sign : FailureSign)
    → count_by (is_entry_of sign) (log_from scenario i past) ≤ 1
signs_once scenario i past sign = omega (arith, signs_known sign scenario i past, one_at_most (knows sign (knowledge_of scenario i past)))
