-- What a turn does of a sign: it is asked for and entered once it is known.
use Rattle.std.proofs.Common.{◌≡◌, ℕ, ◌+◌, ◌<◌, ◌&&◌, ◌⊎◌, inl, inr, true, List, [], ◌∷◌, ◌++◌, length, ap, sym, ◌∙◌, arith}
use Rattle.std.specs.List.{flat_map}
use Rattle.std.proofs.lemmas.Bool.{false≢true, cond_both, leb-true, or_cases, or_left, or_right}
use Rattle.cany_base.specs.declared.class.Class.TheVariants as class
use Rattle.cany_base.specs.declared.notice.NoticeKind.{NoticeKind}
use Rattle.cany_base.specs.declared.notice.NoticeKind.TheVariants.{Idle, Got, Sent, Bad}
use Rattle.cany_base.specs.Scenario.{ScenarioParts}
use Rattle.cany_model.specs.Bus.Frames.{Identity, identity_of, same_class}
use Rattle.cany_model.specs.Bus.History.{copies}
use Rattle.cany_model.specs.Promises.Entries.{tells_of}
use Rattle.cany_model.specs.Rules.Eager.{has_enough}
use Rattle.cany_model.specs.Rules.Effect.{Effect, Ask, Withdraw, entered}
use Rattle.cany_model.specs.Rules.Life.{failure_effects, failures_at, failure_signs, fda_copy_effects, failure_sign_effects}
use Rattle.cany_model.specs.Rules.KnowledgeOf.{knowledge_of}
use Rattle.cany_model.specs.Rules.Knowledge.{FailureSign, Knowledge, fda_frame, fda_of, found_in, knows, same_sign, told_in}
use Rattle.cany_model.proofs.Among.{Among, Among-append_cases, Among-append_left, Among-append_right, Among-flat_map, Among-from_flat_map}
use Rattle.cany_model.proofs.Rules.Waits.{Asks}
use Rattle.cany_model.proofs.Rules.LogFacts.{EntersSome, entered-to}
use Rattle.cany_model.proofs.Rules.ProtocolFacts.{log_by}
use Rattle.cany_model.proofs.Rules.Site.KnowledgeFacts.{fda_one, known_after, newly, same_sign-from, same_sign-true, tells}

-- ---- what a turn does of a sign

module _ (P : Effect → Type 0) (scenario : ScenarioParts) (i : ℕ) (e : NoticeKind) (past : List NoticeKind) where
  abbrev known : Knowledge
  known = knowledge_of scenario i past

  abbrev each : FailureSign → List Effect
  each sign = failure_sign_effects scenario.params.omit (length past) (e ∷ past) sign

  abbrev copied : List Effect
  copied = fda_copy_effects scenario.params.omit e (e ∷ past)

  abbrev told_now : List FailureSign
  told_now = told_in i (length past) e known

  abbrev found_now : List FailureSign
  found_now = found_in scenario.params i (length past) e known

  -- an effect is that of a sign which becomes known, or of a copy
  failure_cases : Among P (failure_effects scenario i (e ∷ past))
      → Among (λ sign. Among P (each sign)) (newly scenario.params i (length past) e known) ⊎ Among P copied
  unfolding failure_effects failures_at
  failure_cases h = elim (Among-append_cases P (flat_map each told_now ++ copied) (flat_map each found_now) h) [
    | inr late ↦ inl (Among-append_right (λ sign. Among P (each sign)) told_now found_now (Among-from_flat_map each P found_now late))
    | inl early ↦ elim (Among-append_cases P (flat_map each told_now) copied early) [
      | inl now ↦ inl (Among-append_left (λ sign. Among P (each sign)) told_now found_now (Among-from_flat_map each P told_now now))
      | inr copy ↦ inr copy
    ]
  ]

  failure_from : Among (λ sign. Among P (each sign)) (newly scenario.params i (length past) e known) → Among P (failure_effects scenario i (e ∷ past))
  unfolding failure_effects failures_at
  failure_from h = elim (Among-append_cases (λ sign. Among P (each sign)) told_now found_now h) [
    | inl now ↦
        Among-append_left P (flat_map each told_now ++ copied) (flat_map each found_now)
        (Among-append_left P (flat_map each told_now) copied (Among-flat_map each P told_now now))
    | inr late ↦ Among-append_right P (flat_map each told_now ++ copied) (flat_map each found_now) (Among-flat_map each P found_now late)
  ]

pub asks_of_sign : (omit slot : ℕ) (past : List NoticeKind) (a b : FailureSign) → Among (Asks (fda_of a)) (failure_sign_effects omit slot past b) → a ≡ b
unfolding failure_sign_effects
asks_of_sign omit slot past a b (inl none) = absurd none
asks_of_sign omit slot past a b (inr rest) =
    cond_both (has_enough omit (fda_of b) past) [] (Ask (fda_frame b) ∷ []) (λ es. Among (Asks (fda_of a)) es → a ≡ b)
    (λ _ k. absurd k) (λ _ k. elim k [ inl e ↦ fda_one a b e | inr none ↦ absurd none ]) rest

sign_asked : (omit slot : ℕ) (past : List NoticeKind) (a b : FailureSign) → a ≡ b
    → Among (Asks (fda_of a)) (failure_sign_effects omit slot past b) ⊎ (omit < copies (fda_of a) past)
unfolding failure_sign_effects
sign_asked omit slot past a b e =
    cond_both (has_enough omit (fda_of b) past) [] (Ask (fda_frame b) ∷ []) (λ es. (⊥ ⊎ Among (Asks (fda_of a)) es) ⊎ (omit < copies (fda_of a) past))
    (λ many.
    let same : copies (fda_of a) past ≡ copies (fda_of b) past = ap (λ s. copies (fda_of s) past) e in
    inr (omega (arith, same, leb-true (omit + 1) (copies (fda_of b) past) many)))
    (λ _. inl (inr (inl (ap fda_of e))))

pub copy_asks : (x : Identity) (omit : ℕ) (e : NoticeKind) (past : List NoticeKind) → Among (Asks x) (fda_copy_effects omit e past) → ⊥
unfolding fda_copy_effects
copy_asks x omit Idle past h = h
copy_asks x omit Bad past h = h
copy_asks x omit (Sent f) past h = h
copy_asks x omit (Got f) past h =
    cond_both (same_class f.class class.Fda && has_enough omit (identity_of f) past) (Withdraw (identity_of f) ∷ []) [] (λ es. Among (Asks x) es → ⊥)
    (λ _ k. elim k [ inl e ↦ e | inr none ↦ none ]) (λ _ k. k) h

-- of the signs that tell of this one, one has what each that is this one has
which_sign : (sign : FailureSign) (P : FailureSign → Type 0) (Q : Type 0) → ((b : FailureSign) → sign ≡ b → P b ⊎ Q) → (xs : List FailureSign) → tells sign xs ≡ true → Among P xs ⊎ Q
which_sign sign P Q f [] h = absurd (false≢true h)
which_sign sign P Q f (x ∷ xs) h = elim (or_cases (same_sign sign x) (tells sign xs) h) [
  | inl here ↦ elim (f x (same_sign-true sign x here)) [ inl p ↦ inl (inl p) | inr q ↦ inr q ]
  | inr there ↦ elim (which_sign sign P Q f xs there) [ inl p ↦ inl (inr p) | inr q ↦ inr q ]
]

tells_from : (sign : FailureSign) (P : FailureSign → Type 0) → ((b : FailureSign) → P b → sign ≡ b) → (xs : List FailureSign) → Among P xs → tells sign xs ≡ true
tells_from sign P f [] h = absurd h
tells_from sign P f (x ∷ xs) (inl p) = or_left (same_sign sign x) (tells sign xs) (same_sign-from sign x (f x p))
tells_from sign P f (x ∷ xs) (inr h) = or_right (same_sign sign x) (tells sign xs) (tells_from sign P f xs h)

-- a node that comes to know a sign asks for its frame, unless the copies are enough
pub sign_is_asked : (scenario : ScenarioParts) (i : ℕ) (e : NoticeKind) (past : List NoticeKind) (sign : FailureSign)
    → knows sign (knowledge_of scenario i (e ∷ past)) ≡ true
    → (knows sign (knowledge_of scenario i past) ≡ true)
    ⊎ (Among (Asks (fda_of sign)) (failure_effects scenario i (e ∷ past)) ⊎ (scenario.params.omit < copies (fda_of sign) (e ∷ past)))
sign_is_asked scenario i e past sign h =
    let st : Knowledge = knowledge_of scenario i past in
    let signs : List FailureSign = newly scenario.params i (length past) e st in
    let P : FailureSign → Type 0 = λ b. Among (Asks (fda_of sign)) (failure_sign_effects scenario.params.omit (length past) (e ∷ past) b) in
    elim (or_cases (tells sign signs) (knows sign st) (sym (known_after scenario i e past sign) ∙ h)) [
      | inr before ↦ inl before
      | inl now ↦
          let asked = which_sign sign P (scenario.params.omit < copies (fda_of sign) (e ∷ past))
          (λ b same. sign_asked scenario.params.omit (length past) (e ∷ past) sign b same) signs now in
          inr (elim asked [ inl asks ↦ inl (failure_from (Asks (fda_of sign)) scenario i e past asks) | inr many ↦ inr many ])
    ]

-- and its frame is asked for by a node that knows it
pub asked_is_known : (scenario : ScenarioParts) (i : ℕ) (past : List NoticeKind) (sign : FailureSign) → Among (Asks (fda_of sign)) (failure_effects scenario i past)
    → knows sign (knowledge_of scenario i past) ≡ true
unfolding failure_effects failures_at
asked_is_known scenario i [] sign h = absurd h
asked_is_known scenario i (e ∷ past) sign h =
    let st : Knowledge = knowledge_of scenario i past in
    let signs : List FailureSign = newly scenario.params i (length past) e st in
    elim (failure_cases (Asks (fda_of sign)) scenario i e past h) [
      | inr copy ↦ absurd (copy_asks (fda_of sign) scenario.params.omit e (e ∷ past) copy)
      | inl asks ↦
          known_after scenario i e past sign
          ∙ or_left (tells sign signs) (knows sign st)
          (tells_from sign (λ b. Among (Asks (fda_of sign)) (failure_sign_effects scenario.params.omit (length past) (e ∷ past) b))
          (λ b k. asks_of_sign scenario.params.omit (length past) (e ∷ past) sign b k) signs asks)
    ]

-- ---- what is entered of it

entry_of_sign : (omit slot : ℕ) (past : List NoticeKind) (a b : FailureSign) → a ≡ b → Among (EntersSome (tells_of a)) (failure_sign_effects omit slot past b)
unfolding failure_sign_effects
entry_of_sign omit slot past a b e = inl (ap (λ (s : FailureSign). s.node) (sym e), ap (λ (s : FailureSign). s.cycle) (sym e))

-- a sign that is known was entered
pub known_is_entered : (scenario : ScenarioParts) (i : ℕ) (sign : FailureSign) (past : List NoticeKind) → knows sign (knowledge_of scenario i past) ≡ true
    → Among (tells_of sign) (log_by failure_signs scenario i past)
unfolding knowledge_of
known_is_entered scenario i sign [] h = absurd (false≢true h)
known_is_entered scenario i sign (e ∷ past) h =
    let st : Knowledge = knowledge_of scenario i past in
    let signs : List FailureSign = newly scenario.params i (length past) e st in
    let P : FailureSign → Type 0 = λ b. Among (EntersSome (tells_of sign)) (failure_sign_effects scenario.params.omit (length past) (e ∷ past) b) in
    let effects : List Effect = failure_effects scenario i (e ∷ past) in
    elim (or_cases (tells sign signs) (knows sign st) (sym (known_after scenario i e past sign) ∙ h)) [
      | inr before ↦ Among-append_left (tells_of sign) (log_by failure_signs scenario i past) (entered effects) (known_is_entered scenario i sign past before)
      | inl now ↦ elim (which_sign sign P ⊥ (λ b same. inl (entry_of_sign scenario.params.omit (length past) (e ∷ past) sign b same)) signs now) [
        | inr never ↦ absurd never
        | inl enters ↦ Among-append_right (tells_of sign) (log_by failure_signs scenario i past) (entered effects)
            (entered-to (tells_of sign) effects (failure_from (EntersSome (tells_of sign)) scenario i e past enters))
      ]
    ]
