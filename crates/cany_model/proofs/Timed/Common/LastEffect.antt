-- The last of some effects on the frames of an identity, and which of them wait then. Of a class
-- that one protocol alone names a turn says what that protocol says.
use Rattle.std.proofs.Common.{◌≡◌, ℕ, ◌||◌, ◌⊎◌, inl, inr, Bool, true, false, not, if◌then◌else◌, List, [], ◌∷◌, ◌++◌, filter, refl, ap, sym, ◌∙◌}
use Rattle.std.specs.List.{AllByRecursion, flat_map}
use Rattle.std.proofs.lemmas.Bool.{both_ways, cases_Bool, cond_both, false_from_ne_true, not-false, not-true}
use Rattle.cany_base.specs.declared.class.Class.{Class}
use Rattle.cany_base.specs.declared.class.Class.TheVariants as class
use Rattle.cany_base.specs.declared.notice.NoticeKind.{NoticeKind}
use Rattle.cany_base.specs.Frame.{FrameParts}
use Rattle.cany_base.specs.Scenario.{ScenarioParts}
use Rattle.cany_model.specs.Bus.Frames.{Identity, identity_of, is_before, is_of, same_class, same_identity}
use Rattle.cany_model.specs.Bus.Waiting.{put_in_order, waits, with_frame, without}
use Rattle.cany_model.specs.Rules.Backlog.{tot_backlog}
use Rattle.cany_model.specs.Rules.Effect.{Effect, Ask, Withdraw, Enter, waiting_after}
use Rattle.cany_model.specs.Rules.Protocol.{Protocol}
use Rattle.cany_model.specs.Rules.Totcan.{totcan}
use Rattle.cany_model.specs.Rules.Turn.{protocols, turn_effects}
use Rattle.cany_model.proofs.Among.{Among}
use Rattle.cany_model.proofs.Bus.Identities.{same_identity-from, same_identity-true}
use Rattle.cany_model.proofs.Rules.ProtocolFacts.{IsFounded, IsLawful}
use Rattle.cany_model.proofs.Rules.Protocols.{are_lawful}

pub data LastEffect : Type 0 where
  NoEffect : LastEffect
  Asked : FrameParts → LastEffect
  Withdrawn : LastEffect

-- the later of two, where there is one
abbrev pub later : LastEffect → LastEffect → LastEffect
later NoEffect before = before
later (Asked f) before = Asked f
later Withdrawn before = Withdrawn

abbrev pub effect_on : Identity → Effect → LastEffect
effect_on x (Ask f) = if is_of x f then Asked f else NoEffect
effect_on x (Withdraw y) = if same_identity x y then Withdrawn else NoEffect
effect_on x (Enter entry) = NoEffect

-- the last of the effects on the frames of the identity
abbrev pub last_effect : Identity → List Effect → LastEffect
last_effect x [] = NoEffect
last_effect x (e ∷ effects) = later (last_effect x effects) (effect_on x e)

later_assoc : (a b c : LastEffect) → later a (later b c) ≡ later (later a b) c
later_assoc NoEffect b c = refl
later_assoc (Asked f) b c = refl
later_assoc Withdrawn b c = refl

pub later_no_effect : (w : LastEffect) → later w NoEffect ≡ w
later_no_effect NoEffect = refl
later_no_effect (Asked f) = refl
later_no_effect Withdrawn = refl

pub last_effect-append : (x : Identity) (a b : List Effect) → last_effect x (a ++ b) ≡ later (last_effect x b) (last_effect x a)
last_effect-append x [] b = sym (later_no_effect (last_effect x b))
last_effect-append x (e ∷ a) b = ap (λ w. later w (effect_on x e)) (last_effect-append x a b) ∙ sym (later_assoc (last_effect x b) (last_effect x a) (effect_on x e))

-- the effect asks for this frame, which is of the identity
abbrev pub AsksFor : Identity → FrameParts → Effect → Type 0
AsksFor x f e = (e ≡ Ask f) × (x ≡ identity_of f)

-- where the last one asks, it is one of the effects
pub last_effect_asks : (x : Identity) (f : FrameParts) (effects : List Effect) → last_effect x effects ≡ Asked f → Among (AsksFor x f) effects
last_effect_asks x f [] h = absurd (cc)
last_effect_asks x f (e ∷ effects) h = by_rest (λ k. last_effect_asks x f effects k) (last_effect x effects) refl
  where
    one : (e : Effect) → effect_on x e ≡ Asked f → AsksFor x f e
    one (Ask g) k =
        cond_both (is_of x g) (Asked g) NoEffect (λ w. w ≡ Asked f → AsksFor x f (Ask g))
        (λ mine q. let same : g ≡ f = cc in (ap (λ h. Ask h) same, same_identity-true x (identity_of g) mine ∙ ap identity_of same))
        (λ _ q. absurd (cc)) k
    one (Withdraw y) k =
        cond_both (same_identity x y) Withdrawn NoEffect (λ w. w ≡ Asked f → AsksFor x f (Withdraw y)) (λ _ q. absurd (cc)) (λ _ q. absurd (cc)) k
    one (Enter entry) k = absurd (cc)

    by_rest : (last_effect x effects ≡ Asked f → Among (AsksFor x f) effects) → (w : LastEffect) → last_effect x effects ≡ w → Among (AsksFor x f) (e ∷ effects)
    by_rest ih NoEffect k = inl (one e (ap (λ w. later w (effect_on x e)) (sym k) ∙ h))
    by_rest ih (Asked g) k = inr (ih (k ∙ ap (λ w. later w (effect_on x e)) (sym k) ∙ h))
    by_rest ih Withdrawn k = absurd (never (ap (λ w. later w (effect_on x e)) (sym k) ∙ h))
      where
        never : Withdrawn ≡ Asked f → ⊥
        never q = cc

-- ---- the frames of the identity that wait

abbrev pub held : Identity → List FrameParts → List FrameParts
held x waiting = filter (is_of x) waiting

abbrev pub by_last_effect : LastEffect → List FrameParts → List FrameParts
by_last_effect NoEffect before = before
by_last_effect (Asked f) before = f ∷ []
by_last_effect Withdrawn before = []

same_both : (x y : Identity) (g : FrameParts) → is_of x g ≡ true → is_of y g ≡ true → same_identity x y ≡ true
same_both x y g a b = same_identity-from x y (same_identity-true x (identity_of g) a ∙ sym (same_identity-true y (identity_of g) b))

held-cons_yes : (x : Identity) (g : FrameParts) (w : List FrameParts) → is_of x g ≡ true → held x (g ∷ w) ≡ g ∷ held x w
held-cons_yes x g w h = rw h refl

held-cons_no : (x : Identity) (g : FrameParts) (w : List FrameParts) → is_of x g ≡ false → held x (g ∷ w) ≡ held x w
held-cons_no x g w h = rw h refl

held-without_same : (x y : Identity) (w : List FrameParts) → same_identity x y ≡ true → held x (without y w) ≡ []
held-without_same x y [] e = refl
held-without_same x y (g ∷ w) e =
    let same : x ≡ y = same_identity-true x y e in
    cond_both (not (is_of y g)) (g ∷ without y w) (without y w) (λ v. held x v ≡ [])
    (λ other. held-cons_no x g (without y w) (rw same (not-true (is_of y g) other)) ∙ held-without_same x y w e)
    (λ _. held-without_same x y w e)

held-without_other : (x y : Identity) (w : List FrameParts) → same_identity x y ≡ false → held x (without y w) ≡ held x w
held-without_other x y [] e = refl
held-without_other x y (g ∷ w) e =
    cond_both (not (is_of y g)) (g ∷ without y w) (without y w) (λ v. held x v ≡ held x (g ∷ w))
    (λ _. elim (cases_Bool (is_of x g)) [
      | inl mine ↦ held-cons_yes x g (without y w) mine ∙ ap (λ v. g ∷ v) (held-without_other x y w e) ∙ sym (held-cons_yes x g w mine)
      | inr other ↦ held-cons_no x g (without y w) other ∙ held-without_other x y w e ∙ sym (held-cons_no x g w other)
    ])
    (λ gone. held-without_other x y w e ∙ sym (held-cons_no x g w (elim (cases_Bool (is_of x g)) [
      | inl mine ↦ absurd (both_ways (same_identity x y) e (same_both x y g mine (not-false (is_of y g) gone)))
      | inr other ↦ other
    ])))

held-put_other : (x : Identity) (f : FrameParts) (w : List FrameParts) → is_of x f ≡ false → held x (put_in_order f w) ≡ held x w
unfolding put_in_order
held-put_other x f [] h = rw h refl
held-put_other x f (g ∷ w) h =
    cond_both (is_before f g) (f ∷ (g ∷ w)) (g ∷ put_in_order f w) (λ v. held x v ≡ held x (g ∷ w))
    (λ _. held-cons_no x f (g ∷ w) h)
    (λ _. elim (cases_Bool (is_of x g)) [
      | inl mine ↦ held-cons_yes x g (put_in_order f w) mine ∙ ap (λ v. g ∷ v) (held-put_other x f w h) ∙ sym (held-cons_yes x g w mine)
      | inr other ↦ held-cons_no x g (put_in_order f w) other ∙ held-put_other x f w h ∙ sym (held-cons_no x g w other)
    ])

held-put_same : (x : Identity) (f : FrameParts) (w : List FrameParts) → is_of x f ≡ true → held x w ≡ [] → held x (put_in_order f w) ≡ f ∷ []
unfolding put_in_order
held-put_same x f [] h none = rw h refl
held-put_same x f (g ∷ w) h none =
    cond_both (is_before f g) (f ∷ (g ∷ w)) (g ∷ put_in_order f w) (λ v. held x v ≡ f ∷ [])
    (λ _. held-cons_yes x f (g ∷ w) h ∙ ap (λ v. f ∷ v) none)
    (λ _. elim (cases_Bool (is_of x g)) [
      | inl mine ↦ absurd (cons_none g (held x w) (sym (held-cons_yes x g w mine) ∙ none))
      | inr other ↦ held-cons_no x g (put_in_order f w) other ∙ held-put_same x f w h (sym (held-cons_no x g w other) ∙ none)
    ])
  where
    cons_none : (g : FrameParts) (w : List FrameParts) → g ∷ w ≡ [] → ⊥
    cons_none g w e = cc

held-asked : (x : Identity) (f : FrameParts) (w : List FrameParts) → held x (with_frame f w) ≡ by_last_effect (effect_on x (Ask f)) (held x w)
held-asked x f w = elim (cases_Bool (is_of x f)) [
  | inl mine ↦ held-put_same x f (without (identity_of f) w) mine (held-without_same x (identity_of f) w mine) ∙ sym (rw mine refl)
  | inr other ↦ held-put_other x f (without (identity_of f) w) other ∙ held-without_other x (identity_of f) w other ∙ sym (rw other refl)
]

held-withdrawn : (x y : Identity) (w : List FrameParts) → held x (without y w) ≡ by_last_effect (effect_on x (Withdraw y)) (held x w)
held-withdrawn x y w = elim (cases_Bool (same_identity x y)) [
  | inl same ↦ held-without_same x y w same ∙ sym (rw same refl)
  | inr other ↦ held-without_other x y w other ∙ sym (rw other refl)
]

by_later : (a b : LastEffect) (w : List FrameParts) → by_last_effect a (by_last_effect b w) ≡ by_last_effect (later a b) w
by_later NoEffect b w = refl
by_later (Asked f) b w = refl
by_later Withdrawn b w = refl

-- what waits of it after the effects is by the last one
pub held_after : (x : Identity) (effects : List Effect) (w : List FrameParts) → held x (waiting_after effects w) ≡ by_last_effect (last_effect x effects) (held x w)
unfolding waiting_after
held_after x [] w = refl
held_after x (Ask f ∷ effects) w =
    held_after x effects (with_frame f w) ∙ ap (by_last_effect (last_effect x effects)) (held-asked x f w)
    ∙ by_later (last_effect x effects) (effect_on x (Ask f)) (held x w)
held_after x (Withdraw y ∷ effects) w =
    held_after x effects (without y w) ∙ ap (by_last_effect (last_effect x effects)) (held-withdrawn x y w)
    ∙ by_later (last_effect x effects) (effect_on x (Withdraw y)) (held x w)
held_after x (Enter entry ∷ effects) w = held_after x effects w ∙ by_later (last_effect x effects) NoEffect (held x w)

abbrev pub waits_by_last_effect : LastEffect → Bool → Bool
waits_by_last_effect NoEffect before = before
waits_by_last_effect (Asked f) before = true
waits_by_last_effect Withdrawn before = false

abbrev some : List FrameParts → Bool
some [] = false
some (f ∷ fs) = true

waits_some : (x : Identity) (w : List FrameParts) → waits x w ≡ some (held x w)
waits_some x [] = refl
waits_some x (f ∷ w) =
    cond_both (is_of x f) (f ∷ held x w) (held x w) (λ v. (is_of x f || waits x w) ≡ some v)
    (λ mine. rw mine refl) (λ other. rw other (waits_some x w))

some_by_last_effect : (z : LastEffect) (w : List FrameParts) → some (by_last_effect z w) ≡ waits_by_last_effect z (some w)
some_by_last_effect NoEffect w = refl
some_by_last_effect (Asked f) w = refl
some_by_last_effect Withdrawn w = refl

-- whether one waits after the effects is by the last one
pub turn_waits : (x : Identity) (effects : List Effect) (w : List FrameParts)
    → waits x (waiting_after effects w) ≡ waits_by_last_effect (last_effect x effects) (waits x w)
turn_waits x effects w =
    waits_some x (waiting_after effects w) ∙ ap some (held_after x effects w) ∙ some_by_last_effect (last_effect x effects) (held x w)
    ∙ ap (waits_by_last_effect (last_effect x effects)) (sym (waits_some x w))

-- ---- the protocols of a turn

names_it : (c : Identity → Bool) (x y : Identity) → c x ≡ false → c y ≡ true → same_identity x y ≡ false
names_it c x y a b = false_from_ne_true (same_identity x y) (λ same. both_ways (c y) (ap c (sym (same_identity-true x y same)) ∙ a) b)

-- a protocol has no effect on the frames of a class that it does not name
pub unnamed_no_effect : (p : Protocol) → IsLawful p → (scenario : ScenarioParts) (i : ℕ) (past : List NoticeKind) (x : Identity) → p.names x.class ≡ false
    → last_effect x (p.effects scenario i past) ≡ NoEffect
unnamed_no_effect p lawful scenario i past x other = by_effects (p.effects scenario i past) (lawful.founded scenario i past)
  where
    one : (e : Effect) → IsFounded scenario p i past e → effect_on x e ≡ NoEffect
    one (Ask f) k = rw (names_it (λ y. p.names y.class) x (identity_of f) other k.1) refl
    one (Withdraw y) k = rw (names_it (λ z. p.names z.class) x y other k.1) refl
    one (Enter entry) k = refl

    by_effects : (effects : List Effect) → AllByRecursion (IsFounded scenario p i past) effects → last_effect x effects ≡ NoEffect
    by_effects [] all = refl
    by_effects (e ∷ effects) all = rw (by_effects effects all.1) (one e all.0)

-- of these protocols this one alone names the class
abbrev pub NamesAlone : Class → Protocol → List Protocol → Type 0
NamesAlone c p [] = ⊥
NamesAlone c p (q ∷ qs) = ((q ≡ p) × AllByRecursion (λ r. r.names c ≡ false) qs) ⊎ ((q.names c ≡ false) × NamesAlone c p qs)

none_names : (scenario : ScenarioParts) (i : ℕ) (past : List NoticeKind) (x : Identity) (ps : List Protocol) → AllByRecursion IsLawful ps
    → AllByRecursion (λ r. r.names x.class ≡ false) ps → last_effect x (flat_map (λ p. p.effects scenario i past) ps) ≡ NoEffect
none_names scenario i past x [] lawful others = refl
none_names scenario i past x (q ∷ ps) lawful others =
    last_effect-append x (q.effects scenario i past) (flat_map (λ p. p.effects scenario i past) ps)
    ∙ ap (λ w. later w (last_effect x (q.effects scenario i past))) (none_names scenario i past x ps lawful.1 others.1)
    ∙ unnamed_no_effect q lawful.0 scenario i past x others.0

one_names : (scenario : ScenarioParts) (i : ℕ) (past : List NoticeKind) (x : Identity) (p : Protocol) (ps : List Protocol)
    → AllByRecursion IsLawful ps → NamesAlone x.class p ps
    → last_effect x (flat_map (λ q. q.effects scenario i past) ps) ≡ last_effect x (p.effects scenario i past)
one_names scenario i past x p [] lawful alone = absurd alone
one_names scenario i past x p (q ∷ ps) lawful (inl here) =
    last_effect-append x (q.effects scenario i past) (flat_map (λ r. r.effects scenario i past) ps)
    ∙ ap (λ w. later w (last_effect x (q.effects scenario i past))) (none_names scenario i past x ps lawful.1 here.1)
    ∙ ap (λ (r : Protocol). last_effect x (r.effects scenario i past)) here.0
one_names scenario i past x p (q ∷ ps) lawful (inr there) =
    last_effect-append x (q.effects scenario i past) (flat_map (λ r. r.effects scenario i past) ps)
    ∙ ap (later (last_effect x (flat_map (λ r. r.effects scenario i past) ps))) (unnamed_no_effect q lawful.0 scenario i past x there.0)
    ∙ later_no_effect (last_effect x (flat_map (λ r. r.effects scenario i past) ps))
    ∙ one_names scenario i past x p ps lawful.1 there.1

-- the last effect of a turn is that of the protocol that alone names the class
pub turn_last_effect : (scenario : ScenarioParts) (i : ℕ) (past : List NoticeKind) (x : Identity) (p : Protocol) → NamesAlone x.class p protocols
    → last_effect x (turn_effects scenario i past) ≡ last_effect x (p.effects scenario i past)
unfolding turn_effects
turn_last_effect scenario i past x p alone = one_names scenario i past x p protocols are_lawful alone

pub accept_alone : NamesAlone class.Accept totcan protocols
unfolding same_class
accept_alone = inr (refl, inr (refl, inl (refl, (refl, (refl, (refl, (refl, (refl, (refl, (refl, tt))))))))))

pub tot_alone : NamesAlone class.Tot tot_backlog protocols
unfolding same_class
tot_alone =
    inr (refl, inr (refl, inr (refl, inr (refl, inr (refl, inr (refl, inr (refl, inr (refl, inr (refl, inl (refl, tt))))))))))
