-- What the rules of EDCAN do in a turn.
use Rattle.std.proofs.Common.{◌≡◌, ℕ, ◌<◌, ◌⊎◌, inl, inr, true, if◌then◌else◌, List, [], ◌∷◌, refl, ap, sym, ◌∙◌, append-nil}
use Rattle.std.specs.List.{AllByRecursion}
use Rattle.std.proofs.lemmas.Bool.{false≢true, cond_both}
use Rattle.cany_base.specs.declared.class.Class.TheVariants as class
use Rattle.cany_base.specs.declared.message.Service.TheVariants.{Ed}
use Rattle.cany_base.specs.declared.notice.NoticeKind.{NoticeKind}
use Rattle.cany_base.specs.declared.notice.NoticeKind.TheVariants.{Idle, Got, Sent, Bad}
use Rattle.cany_base.specs.Scenario.{ScenarioParts}
use Rattle.cany_model.specs.Bus.Frames.{Identity, identity_of, same_class}
use Rattle.cany_model.specs.Bus.History.{copies, has_own, is_got}
use Rattle.cany_model.specs.Rules.Delivery.{delivery_effects}
use Rattle.cany_model.specs.Rules.Eager.{eager_effects}
use Rattle.cany_model.specs.Rules.Edcan.{edcan, edcan_at, edcan_effects}
use Rattle.cany_model.specs.Rules.Effect.{Effect, entered}
use Rattle.cany_model.specs.Rules.Messages.{is_service}
use Rattle.cany_model.proofs.Among.{Among, Among-append_right, Each-append}
use Rattle.cany_model.proofs.Bus.Carried.{is_got-true}
use Rattle.cany_model.proofs.Bus.Identities.{same_class-true, same_class_self}
use Rattle.cany_model.proofs.Rules.Waits.{Asks}
use Rattle.cany_model.proofs.Rules.IdleBeforeTakingPart.{AreIdle}
use Rattle.cany_model.proofs.Rules.Services.DeliveryFacts.{DeliversAtOnce, delivers_once, delivery_enters, delivery_founded}
use Rattle.cany_model.proofs.Rules.Services.EagerFacts.{eager_asks, eager_enters, eager_founded}
use Rattle.cany_model.proofs.Rules.ProtocolFacts.{IsFounded, IsLawful, is_diffused}

serves : edcan.delivers Ed ≡ true
unfolding is_service same_class
serves = refl

edcan_founded : (scenario : ScenarioParts) (i : ℕ) (e : NoticeKind) (past : List NoticeKind)
    → AllByRecursion (IsFounded scenario edcan i (e ∷ past)) (edcan_at scenario.params.omit i e past)
unfolding edcan_at
edcan_founded scenario i Idle past = tt
edcan_founded scenario i Bad past = tt
edcan_founded scenario i (Got f) past =
    cond_both (same_class f.class class.Ed) _ [] (AllByRecursion (IsFounded scenario edcan i (Got f ∷ past)))
    (λ ed. Each-append (IsFounded scenario edcan i (Got f ∷ past)) (delivery_effects Ed i f (Got f) past) (eager_effects scenario.params.omit f (Got f ∷ past))
    (delivery_founded scenario edcan Ed i f (Got f) past serves (same_class-true f.class class.Ed ed) (inl refl))
    (eager_founded scenario edcan i f (Got f ∷ past) (inl refl) ed (ap is_diffused (same_class-true f.class class.Ed ed))))
    (λ _. tt)
edcan_founded scenario i (Sent f) past =
    cond_both (same_class f.class class.Ed) _ [] (AllByRecursion (IsFounded scenario edcan i (Sent f ∷ past)))
    (λ ed. delivery_founded scenario edcan Ed i f (Sent f) past serves (same_class-true f.class class.Ed ed) (inr refl))
    (λ _. tt)

pub edcan_delivers : DeliversAtOnce edcan Ed
unfolding edcan_effects edcan_at entered
edcan_delivers scenario i Idle before = refl
edcan_delivers scenario i Bad before = refl
edcan_delivers scenario i (Got f) before =
    delivery_enters Ed i f (Got f) before (eager_effects scenario.params.omit f (Got f ∷ before)) (eager_enters scenario.params.omit f (Got f ∷ before))
edcan_delivers scenario i (Sent f) before =
    ap (λ effects. entered (if same_class f.class class.Ed then effects else [])) (sym (append-nil (delivery_effects Ed i f (Sent f) before)))
    ∙ delivery_enters Ed i f (Sent f) before [] tt

pub edcan_is_lawful : IsLawful edcan
unfolding edcan_effects edcan_at
edcan_is_lawful = record {
  muted = λ scenario i past begun. mute scenario i past begun.idle;
  founded = λ scenario i past. each scenario i past;
  ahead_serves = λ scenario m i past h. absurd (false≢true h);
  once = delivers_once edcan Ed edcan_delivers;
}
  where
    each : (scenario : ScenarioParts) (i : ℕ) (past : List NoticeKind) → AllByRecursion (IsFounded scenario edcan i past) (edcan_effects scenario i past)
    each scenario i [] = tt
    each scenario i (e ∷ past) = edcan_founded scenario i e past

    mute : (scenario : ScenarioParts) (i : ℕ) (past : List NoticeKind) → AreIdle past → edcan_effects scenario i past ≡ []
    mute scenario i [] idle = refl
    mute scenario i (e ∷ past) idle = rw idle.0 refl

-- a data frame is asked for at the first copy, unless the copies are enough already or the node has
-- sent it
pub edcan_relays : (scenario : ScenarioParts) (i : ℕ) (x : Identity) (e : NoticeKind) (past : List NoticeKind) → x.class ≡ class.Ed → is_got x e ≡ true
    → copies x (e ∷ past) ≡ 1
    → Among (Asks x) (edcan_effects scenario i (e ∷ past)) ⊎ ((scenario.params.omit < copies x (e ∷ past)) ⊎ (has_own x (e ∷ past) ≡ true))
unfolding edcan_effects edcan_at
edcan_relays scenario i x Idle past ed h one = absurd (false≢true h)
edcan_relays scenario i x Bad past ed h one = absurd (false≢true h)
edcan_relays scenario i x (Sent f) past ed h one = absurd (false≢true h)
edcan_relays scenario i x (Got f) past ed h one =
    let got = is_got-true x (Got f) h in
    let same : f ≡ got.what = cc in
    let e : x ≡ identity_of f = got.identity ∙ ap identity_of (sym same) in
    let is : f.class ≡ class.Ed = sym (ap (λ (y : Identity). y.class) e) ∙ ed in
    let test : same_class f.class class.Ed ≡ true = ap (λ c. same_class c class.Ed) is ∙ same_class_self class.Ed in
    let Q : List Effect → Type 0 = λ effects. Among (Asks x) effects ⊎ ((scenario.params.omit < copies x (Got f ∷ past)) ⊎ (has_own x (Got f ∷ past) ≡ true)) in
    cond_both (same_class f.class class.Ed) _ [] Q
    (λ _. elim (eager_asks scenario.params.omit x f (Got f ∷ past) e one) [
      | inl a ↦ inl (Among-append_right (Asks x) (delivery_effects Ed i f (Got f) past) (eager_effects scenario.params.omit f (Got f ∷ past)) a)
      | inr other ↦ inr other
    ])
    (λ none. absurd (false≢true (sym none ∙ test)))
