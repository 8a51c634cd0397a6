-- Each incarnation of a node sends the frame of a failure sign at most once.
use Rattle.std.proofs.Common.{◌≡◌, ℕ, ◌&&◌, inl, inr, false, not, List, [], ◌∷◌, ◌++◌, filter, map, length, ap, sym, ◌∙◌}
use Rattle.std.specs.List.{flat_map, list_any, range_with_len}
use Rattle.std.proofs.lemmas.Bool.{and_parts, cond_both, not-true, or_parts}
use Rattle.cany_base.specs.declared.class.Class.TheVariants as class
use Rattle.cany_base.specs.declared.notice.NoticeKind.{NoticeKind}
use Rattle.cany_base.specs.declared.notice.NoticeKind.TheVariants.{Idle, Got, Sent, Bad}
use Rattle.cany_base.specs.Params.{Parameters}
use Rattle.cany_base.specs.Scenario.{ScenarioParts}
use Rattle.cany_model.specs.Bus.Frames.{same_class}
use Rattle.cany_model.specs.Rules.Effect.{Effect}
use Rattle.cany_model.specs.Rules.Knowledge.{FailureSign, Knowledge, after_hearing, after_learning, fda_of, found, found_in, has_timed_out, knows, same_sign, sign_in, sign_of, told, told_in}
use Rattle.cany_model.specs.Rules.KnowledgeOf.{knowledge_of}
use Rattle.cany_model.specs.Rules.Life.{failure_effects, failures_at, fda_copy_effects, failure_sign_effects}
use Rattle.cany_model.proofs.Among.{Among, Among-append_cases, Among-from_flat_map}
use Rattle.cany_model.proofs.Rules.Waits.{Asks}
use Rattle.cany_model.proofs.Rules.Site.KnowledgeFacts.{knows_heard, knows_with}
use Rattle.cany_model.proofs.Rules.Site.SignFacts.{asks_of_sign, copy_asks}

-- ---- a node asks for the frame in the turn in which the sign becomes known

-- the signs of this list are not known, so one that is among them is not
told_new : (sign : FailureSign) (e : NoticeKind) (st : Knowledge) → Among (λ b. sign ≡ b) (told e st) → knows sign st ≡ false
unfolding told
told_new sign Idle st h = absurd h
told_new sign Bad st h = absurd h
told_new sign (Sent f) st h = absurd h
told_new sign (Got f) st h =
    cond_both (same_class f.class class.Fda && not (knows (sign_of f) st)) (sign_of f ∷ []) [] (λ l. Among (λ b. sign ≡ b) l → knows sign st ≡ false)
    (λ new k. elim k [
      | inl is ↦ ap (λ b. knows b st) is ∙ not-true (knows (sign_of f) st) (and_parts (same_class f.class class.Fda) (not (knows (sign_of f) st)) new).1
      | inr never ↦ absurd never
    ])
    (λ _ k. absurd k) h

kept_new : (sign : FailureSign) (st : Knowledge) (signs : List FailureSign) → Among (λ b. sign ≡ b) (filter (λ b. not (knows b st)) signs) → knows sign st ≡ false
kept_new sign st [] h = absurd h
kept_new sign st (b ∷ signs) h =
    cond_both (not (knows b st)) (b ∷ filter (λ c. not (knows c st)) signs) (filter (λ c. not (knows c st)) signs)
    (λ l. Among (λ c. sign ≡ c) l → knows sign st ≡ false)
    (λ new k. elim k [ inl is ↦ ap (λ c. knows c st) is ∙ not-true (knows b st) new | inr later ↦ kept_new sign st signs later ])
    (λ _ k. kept_new sign st signs k) h

found_new : (sign : FailureSign) (p : Parameters) (i slot : ℕ) (st : Knowledge) → Among (λ b. sign ≡ b) (found p i slot st) → knows sign st ≡ false
unfolding found
found_new sign p i slot st h = kept_new sign st (map (sign_in p slot) (filter (has_timed_out p i slot st) (range_with_len 0 p.nodes))) h

pub asked_is_new : (scenario : ScenarioParts) (i : ℕ) (e : NoticeKind) (past : List NoticeKind) (sign : FailureSign)
    → Among (Asks (fda_of sign)) (failure_effects scenario i (e ∷ past)) → knows sign (knowledge_of scenario i past) ≡ false
unfolding failure_effects failures_at
asked_is_new scenario i e past sign h =
    let st : Knowledge = knowledge_of scenario i past in
    let p : Parameters = scenario.params in
    let told_now : List FailureSign = told_in i (length past) e st in
    let found_now : List FailureSign = found_in p i (length past) e st in
    let each : FailureSign → List Effect = failure_sign_effects p.omit (length past) (e ∷ past) in
    let copied : List Effect = fda_copy_effects p.omit e (e ∷ past) in
    let named : (signs : List FailureSign) → Among (λ b. Among (Asks (fda_of sign)) (each b)) signs → Among (λ b. sign ≡ b) signs =
    λ signs k. weaker signs k in
    elim (Among-append_cases (Asks (fda_of sign)) (flat_map each told_now ++ copied) (flat_map each found_now) h) [
      | inl early ↦ elim (Among-append_cases (Asks (fda_of sign)) (flat_map each told_now) copied early) [
        | inl now ↦
            sym (knows_heard sign i (length past) e st)
            ∙ told_new sign e (after_hearing i (length past) e st) (named told_now (Among-from_flat_map each (Asks (fda_of sign)) told_now now))
        | inr copy ↦ absurd (copy_asks (fda_of sign) p.omit e (e ∷ past) copy)
      ]
      | inr late ↦
          let new = found_new sign p i (length past) (after_learning i (length past) e st) (named found_now (Among-from_flat_map each (Asks (fda_of sign)) found_now late)) in
          sym (knows_heard sign i (length past) e st)
          ∙ (or_parts (list_any (same_sign sign) told_now) (knows sign (after_hearing i (length past) e st))
          (sym (knows_with sign told_now (after_hearing i (length past) e st)) ∙ new)).1
    ]
  where
    weaker : (signs : List FailureSign) → Among (λ b. Among (Asks (fda_of sign)) (failure_sign_effects scenario.params.omit (length past) (e ∷ past) b)) signs → Among (λ b. sign ≡ b) signs
    weaker [] k = k
    weaker (b ∷ signs) (inl k) = inl (asks_of_sign scenario.params.omit (length past) (e ∷ past) sign b k)
    weaker (b ∷ signs) (inr k) = inr (weaker signs k)
