-- What the eager rule asks for and withdraws.
use Rattle.std.proofs.Common.{◌≡◌, ℕ, ◌+◌, ◌<◌, ◌==◌, ◌⊎◌, inl, inr, Bool, true, not, cond, List, [], ◌∷◌, ap, sym, ◌∙◌, arith}
use Rattle.std.specs.List.{AllByRecursion}
use Rattle.std.proofs.lemmas.Bool.{and_from, cases_Bool, cond_both, leb-true, eq-eqb, not_from_false}
use Rattle.cany_base.specs.declared.notice.NoticeKind.{NoticeKind}
use Rattle.cany_base.specs.declared.notice.NoticeKind.TheVariants.{Got}
use Rattle.cany_base.specs.Frame.{FrameParts}
use Rattle.cany_base.specs.Scenario.{ScenarioParts}
use Rattle.cany_model.specs.Rules.Eager.{has_enough, is_first_copy, eager_effects}
use Rattle.cany_model.specs.Rules.Effect.{Effect, Ask}
use Rattle.cany_model.specs.Rules.Protocol.{Protocol}
use Rattle.cany_model.specs.Bus.Frames.{Identity, identity_of}
use Rattle.cany_model.specs.Bus.History.{copies, has_own}
use Rattle.cany_model.proofs.Among.{Among}
use Rattle.cany_model.proofs.Rules.Waits.{Asks}
use Rattle.cany_model.proofs.Rules.Services.DeliveryFacts.{EntersNone}
use Rattle.cany_model.proofs.Rules.ProtocolFacts.{IsFounded, diffused_is_relayed, enough, is_diffused, relays}

-- it asks for a frame that was got, and withdraws it with more than omit copies
pub eager_founded : (scenario : ScenarioParts) (p : Protocol) (i : ℕ) (f : FrameParts) (past : List NoticeKind) → Among (λ n. n ≡ Got f) past
    → p.names f.class ≡ true → is_diffused f.class ≡ true → AllByRecursion (IsFounded scenario p i past) (eager_effects scenario.params.omit f past)
unfolding eager_effects
eager_founded scenario p i f past got names diffused =
    cond_both (has_enough scenario.params.omit (identity_of f) past) _ _ (AllByRecursion (IsFounded scenario p i past))
    (λ many. ((enough diffused (omega (arith, leb-true (scenario.params.omit + 1) (copies (identity_of f) past) many)), names), tt))
    (λ _. cond_both (is_first_copy (identity_of f) past) (Ask f ∷ []) [] (AllByRecursion (IsFounded scenario p i past))
    (λ _. ((relays (diffused_is_relayed f.class diffused) got, names), tt))
    (λ _. tt))

pub eager_enters : (omit : ℕ) (f : FrameParts) (past : List NoticeKind) → AllByRecursion EntersNone (eager_effects omit f past)
unfolding eager_effects
eager_enters omit f past =
    cond_both (has_enough omit (identity_of f) past) _ _ (AllByRecursion EntersNone) (λ _. (tt, tt))
    (λ _. cond_both (is_first_copy (identity_of f) past) (Ask f ∷ []) [] (AllByRecursion EntersNone) (λ _. (tt, tt)) (λ _. tt))

-- at the first copy the frame is asked for, unless the copies are enough already or the node has
-- sent it
pub eager_asks : (omit : ℕ) (x : Identity) (f : FrameParts) (past : List NoticeKind) → x ≡ identity_of f → copies x past ≡ 1
    → Among (Asks x) (eager_effects omit f past) ⊎ ((omit < copies x past) ⊎ (has_own x past ≡ true))
unfolding eager_effects
eager_asks omit x f past e one =
    let at : copies x past ≡ copies (identity_of f) past = ap (λ y. copies y past) e in
    let own : has_own x past ≡ has_own (identity_of f) past = ap (λ y. has_own y past) e in
    let Q : List Effect → Type 0 = λ effects. Among (Asks x) effects ⊎ ((omit < copies x past) ⊎ (has_own x past ≡ true)) in
    cond_both (has_enough omit (identity_of f) past) _ _ Q
    (λ many. inr (inl (omega (arith, leb-true (omit + 1) (copies (identity_of f) past) many))))
    (λ few. elim (cases_Bool (has_own x past)) [
      | inl yes' ↦ inr (inr yes')
      | inr none ↦
          let first : is_first_copy (identity_of f) past ≡ true =
          and_from (copies (identity_of f) past == 1) (not (has_own (identity_of f) past)) (eq-eqb (copies (identity_of f) past) 1 (omega arith)) (not_from_false (has_own (identity_of f) past) (sym own ∙ none)) in
          inl (subst_asks x f (is_first_copy (identity_of f) past) first e)
    ])
  where
    subst_asks : (x : Identity) (f : FrameParts) (b : Bool) → b ≡ true → x ≡ identity_of f → Among (Asks x) (cond b (Ask f ∷ []) [])
    subst_asks x f b h e = rw h (inl e)
