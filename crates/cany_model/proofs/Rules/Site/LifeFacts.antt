-- What failure signs and life signs do in a turn.
use Rattle.std.proofs.Common.{◌≡◌, ℕ, zero, suc, ◌+◌, ◌<◌, ◌&&◌, inl, inr, true, not, List, [], ◌∷◌, ◌++◌, map, filter, length, refl, ap, ◌∙◌, arith}
use Rattle.std.specs.List.{AllByRecursion, flat_map, range_with_len}
use Rattle.std.proofs.lemmas.Bool.{and_parts, cond_both, leb-true}
use Rattle.cany_base.specs.declared.class.Class.TheVariants as class
use Rattle.cany_base.specs.declared.notice.NoticeKind.{NoticeKind}
use Rattle.cany_base.specs.declared.notice.NoticeKind.TheVariants.{Idle, Got, Sent, Bad}
use Rattle.cany_base.specs.Params.{Parameters}
use Rattle.cany_base.specs.Scenario.{ScenarioParts}
use Rattle.cany_base.proofs.NodesFacts.{has_none}
use Rattle.cany_model.specs.Bus.Frames.{identity_of, same_class}
use Rattle.cany_model.specs.Bus.History.{copies}
use Rattle.cany_base.specs.Nodes.{nobody}
use Rattle.cany_model.specs.Rules.Eager.{has_enough}
use Rattle.cany_model.specs.Rules.Effect.{Effect, Ask, Withdraw}
use Rattle.cany_model.specs.Rules.Life.{els_frame, failure_effects, failures_at, failure_signs, fda_copy_effects, is_due, life_effects, life_signs, failure_sign_effects, life_signs_sent}
use Rattle.cany_model.specs.Rules.KnowledgeOf.{knowledge_of}
use Rattle.cany_model.specs.Rules.Knowledge.{FailureSign, Knowledge, after_life, fda_frame, fda_of, found, found_in, after_hearing, after_learning, has_timed_out, knows, sign_in, sign_of, told, told_in, with_signs}
use Rattle.cany_model.proofs.Among.{Each-append, Each-filter, Each-first, Each-flat_map, Each-map, Each-second, Each-weaker}
use Rattle.cany_model.proofs.Bus.Identities.{same_class-true}
use Rattle.cany_model.proofs.Rules.IdleBeforeTakingPart.{IsBegun, begun_before}
use Rattle.cany_model.proofs.Rules.Services.NoDelivery.{undelivering_is_lawful}
use Rattle.cany_model.proofs.Rules.ProtocolFacts.{IsFounded, IsKnownBy, IsLawful, enough, is_diffused, lives, signals}
use Rattle.cany_model.proofs.Rules.Site.KnowledgeFacts.{found_none, newly_known, begun_members}

-- ---- lists

pub numbers_below : (a n : ℕ) → AllByRecursion (λ r. r < a + n) (range_with_len a n)
numbers_below a zero = tt
numbers_below a (suc n) =
    (omega arith, Each-weaker (λ r. r < a + 1 + n) (λ r. r < a + suc n) (λ r h. omega (arith, h)) (range_with_len (a + 1) n) (numbers_below (a + 1) n))

-- ---- why a sign becomes known

-- the signs that silence brings name nodes of the bus, in the cycle of the slot
found_known : (scenario : ScenarioParts) (i slot : ℕ) (past : List NoticeKind) (st : Knowledge)
    → AllByRecursion (IsKnownBy scenario slot past) (found scenario.params i slot st)
unfolding found
found_known scenario i slot past st =
    let p : Parameters = scenario.params in
    Each-filter (IsKnownBy scenario slot past) (λ sign. not (knows sign st)) (map (sign_in p slot) (filter (has_timed_out p i slot st) (range_with_len 0 p.nodes)))
    (Each-map (sign_in p slot) (IsKnownBy scenario slot past) (filter (has_timed_out p i slot st) (range_with_len 0 p.nodes))
    (Each-filter (λ r. IsKnownBy scenario slot past (sign_in p slot r)) (has_timed_out p i slot st) (range_with_len 0 p.nodes)
    (Each-weaker (λ r. r < 0 + p.nodes) (λ r. IsKnownBy scenario slot past (sign_in p slot r))
    (λ r below. inr (record { node = omega (arith, below); cycle = refl })) (range_with_len 0 p.nodes) (numbers_below 0 p.nodes))))

-- and a sign that is told of has a copy
told_known : (scenario : ScenarioParts) (slot : ℕ) (e : NoticeKind) (past : List NoticeKind) (st : Knowledge)
    → AllByRecursion (IsKnownBy scenario slot (e ∷ past)) (told e st)
unfolding told
told_known scenario slot Idle past st = tt
told_known scenario slot Bad past st = tt
told_known scenario slot (Sent f) past st = tt
told_known scenario slot (Got f) past st =
    cond_both (same_class f.class class.Fda && not (knows (sign_of f) st)) (sign_of f ∷ []) [] (AllByRecursion (IsKnownBy scenario slot (Got f ∷ past)))
    (λ h.
    let fda = (and_parts (same_class f.class class.Fda) (not (knows (sign_of f) st)) h).0 in
    (inl (record { frame = f; read = inl refl; class = same_class-true f.class class.Fda fda; tells = refl }), tt))
    (λ _. tt)

-- ---- each effect is founded

names_fda : failure_signs.names class.Fda ≡ true
unfolding same_class
names_fda = refl

names_els : life_signs.names class.Els ≡ true
unfolding same_class
names_els = refl

abbrev IsNew : ScenarioParts → ℕ → NoticeKind → List NoticeKind → FailureSign → Type 0
IsNew scenario i e past sign = IsKnownBy scenario (length past) (e ∷ past) sign × (knows sign (knowledge_of scenario i (e ∷ past)) ≡ true)

sign_founded : (scenario : ScenarioParts) (i : ℕ) (e : NoticeKind) (past : List NoticeKind) (sign : FailureSign) → IsNew scenario i e past sign
    → AllByRecursion (IsFounded scenario failure_signs i (e ∷ past)) (failure_sign_effects scenario.params.omit (length past) (e ∷ past) sign)
unfolding failure_sign_effects
sign_founded scenario i e past sign new = (
  record { now = refl; because = new.0; known = new.1 },
  cond_both (has_enough scenario.params.omit (fda_of sign) (e ∷ past)) [] (Ask (fda_frame sign) ∷ [])
      (AllByRecursion (IsFounded scenario failure_signs i (e ∷ past))) (λ _. tt)
      (λ _. ((signals sign (length past) refl new.0 refl, names_fda), tt)),
)

signs_founded : (scenario : ScenarioParts) (i : ℕ) (e : NoticeKind) (past : List NoticeKind) (signs : List FailureSign)
    → AllByRecursion (IsNew scenario i e past) signs
    → AllByRecursion (IsFounded scenario failure_signs i (e ∷ past)) (flat_map (failure_sign_effects scenario.params.omit (length past) (e ∷ past)) signs)
signs_founded scenario i e past signs new =
    Each-flat_map (failure_sign_effects scenario.params.omit (length past) (e ∷ past)) (IsFounded scenario failure_signs i (e ∷ past)) signs
    (Each-weaker (IsNew scenario i e past)
    (λ sign. AllByRecursion (IsFounded scenario failure_signs i (e ∷ past)) (failure_sign_effects scenario.params.omit (length past) (e ∷ past) sign))
    (λ sign k. sign_founded scenario i e past sign k) signs new)

copy_founded : (scenario : ScenarioParts) (i : ℕ) (e : NoticeKind) (past : List NoticeKind)
    → AllByRecursion (IsFounded scenario failure_signs i past) (fda_copy_effects scenario.params.omit e past)
unfolding fda_copy_effects
copy_founded scenario i Idle past = tt
copy_founded scenario i Bad past = tt
copy_founded scenario i (Sent f) past = tt
copy_founded scenario i (Got f) past =
    cond_both (same_class f.class class.Fda && has_enough scenario.params.omit (identity_of f) past) (Withdraw (identity_of f) ∷ []) []
    (AllByRecursion (IsFounded scenario failure_signs i past))
    (λ h.
    let parts = and_parts (same_class f.class class.Fda) (has_enough scenario.params.omit (identity_of f) past) h in
    let many = leb-true (scenario.params.omit + 1) (copies (identity_of f) past) parts.1 in
    ((enough (ap is_diffused (same_class-true f.class class.Fda parts.0)) (omega (arith, many)), parts.0), tt))
    (λ _. tt)

-- ---- failure signs

Each-both : {X : Type 0} (P Q : X → Type 0) (xs : List X) → AllByRecursion P xs → AllByRecursion Q xs → AllByRecursion (λ x. P x × Q x) xs
Each-both P Q [] a b = tt
Each-both P Q (x ∷ xs) a b = ((a.0, b.0), Each-both P Q xs a.1 b.1)

failures_founded : (scenario : ScenarioParts) (i : ℕ) (past : List NoticeKind)
    → AllByRecursion (IsFounded scenario failure_signs i past) (failure_effects scenario i past)
unfolding failure_effects failures_at
failures_founded scenario i [] = tt
failures_founded scenario i (e ∷ past) =
    let p : Parameters = scenario.params in
    let st : Knowledge = knowledge_of scenario i past in
    let each : FailureSign → List Effect = failure_sign_effects p.omit (length past) (e ∷ past) in
    let signs : List FailureSign = told_in i (length past) e st in
    let more : List FailureSign = found_in p i (length past) e st in
    let P : Effect → Type 0 = IsFounded scenario failure_signs i (e ∷ past) in
    let K : FailureSign → Type 0 = λ sign. knows sign (knowledge_of scenario i (e ∷ past)) ≡ true in
    Each-append P (flat_map each signs ++ fda_copy_effects p.omit e (e ∷ past)) (flat_map each more)
    (Each-append P (flat_map each signs) (fda_copy_effects p.omit e (e ∷ past))
    (signs_founded scenario i e past signs
    (Each-both (IsKnownBy scenario (length past) (e ∷ past)) K signs (told_known scenario (length past) e past (after_hearing i (length past) e st))
    (Each-first K signs more (newly_known scenario i e past))))
    (copy_founded scenario i e (e ∷ past)))
    (signs_founded scenario i e past more
    (Each-both (IsKnownBy scenario (length past) (e ∷ past)) K more (found_known scenario i (length past) (e ∷ past) (after_learning i (length past) e st))
    (Each-second K signs more (newly_known scenario i e past))))

-- at an idle notice only silence brings signs
idle_failures : (scenario : ScenarioParts) (i : ℕ) (past : List NoticeKind)
    → failure_effects scenario i (Idle ∷ past)
    ≡ flat_map (failure_sign_effects scenario.params.omit (length past) (Idle ∷ past)) (found scenario.params i (length past) (knowledge_of scenario i past))
unfolding failure_effects failures_at told fda_copy_effects with_signs after_life
idle_failures scenario i past = refl

failures_muted : (scenario : ScenarioParts) (i : ℕ) (e : NoticeKind) (past : List NoticeKind) → IsBegun scenario (e ∷ past) → failure_effects scenario i (e ∷ past) ≡ []
unfolding failure_effects failures_at
failures_muted scenario i e past begun =
    let none : (knowledge_of scenario i past).members ≡ nobody =
    begun_members scenario i past (begun_before scenario e past begun) ∙ begun.outside (omega arith) in
    ap (λ n. failure_effects scenario i (n ∷ past)) begun.idle.0 ∙ idle_failures scenario i past
    ∙ ap (flat_map (failure_sign_effects scenario.params.omit (length past) (Idle ∷ past)))
    (found_none scenario.params i (length past) (knowledge_of scenario i past) none)

pub failures_are_lawful : IsLawful failure_signs
unfolding failure_effects
failures_are_lawful = undelivering_is_lawful failure_signs (λ by. refl) (λ scenario m i past. refl) (λ scenario i. refl) failures_muted failures_founded

-- ---- life signs

life_founded : (scenario : ScenarioParts) (i : ℕ) (past : List NoticeKind) → AllByRecursion (IsFounded scenario life_signs i past) (life_effects scenario i past)
unfolding life_effects
life_founded scenario i [] = tt
life_founded scenario i (e ∷ past) =
    cond_both (is_due scenario.params.life i (length past) (knowledge_of scenario i (e ∷ past))) (Ask (els_frame scenario.inc i (life_signs_sent i (e ∷ past))) ∷ []) []
    (AllByRecursion (IsFounded scenario life_signs i (e ∷ past)))
    (λ due. ((lives (length past) refl due refl, names_els), tt)) (λ _. tt)

life_muted : (scenario : ScenarioParts) (i : ℕ) (e : NoticeKind) (past : List NoticeKind) → IsBegun scenario (e ∷ past) → life_effects scenario i (e ∷ past) ≡ []
unfolding life_effects
life_muted scenario i e past begun =
    let none : (knowledge_of scenario i (e ∷ past)).members ≡ nobody = begun_members scenario i (e ∷ past) begun ∙ begun.outside (omega arith) in
    rw (none, has_none i) refl

pub life_is_lawful : IsLawful life_signs
unfolding life_effects
life_is_lawful = undelivering_is_lawful life_signs (λ by. refl) (λ scenario m i past. refl) (λ scenario i. refl) life_muted life_founded
