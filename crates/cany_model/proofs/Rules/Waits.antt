-- Which frames wait after a frame was put among them or withdrawn.
use Rattle.std.proofs.Common.{◌≡◌, ◌⊎◌, inl, inr, true, false, not, ◌||◌, List, [], ◌∷◌, sym, ◌∙◌}
use Rattle.std.specs.List.{AllByRecursion}
use Rattle.std.proofs.lemmas.Bool.{or_cases, or_left, or_right, false≢true, cond_both, not-false}
use Rattle.cany_base.specs.Frame.{FrameParts}
use Rattle.cany_model.specs.Rules.Effect.{Effect, Ask, Withdraw, Enter, waiting_after}
use Rattle.cany_model.specs.Bus.Frames.{Identity, identity_of, is_of, is_before, same_frame}
use Rattle.cany_model.specs.Bus.Waiting.{waits, waits_with, without, put_in_order, with_frame}
use Rattle.cany_model.proofs.Among.{Among}
use Rattle.cany_model.proofs.Bus.Identities.{same_frame-identity, same_identity-from, same_identity-true}

-- the effects that put a frame of the identity among the waiting ones, and those that take it away
abbrev pub Asks : Identity → Effect → Type 0
Asks x (Ask f) = x ≡ identity_of f
Asks x (Withdraw y) = ⊥
Asks x (Enter entry) = ⊥

abbrev pub Withdraws : Identity → Effect → Type 0
Withdraws x (Ask f) = ⊥
Withdraws x (Withdraw y) = x ≡ y
Withdraws x (Enter entry) = ⊥

-- the frame that is asked for has the property
abbrev pub AsksOnly : (FrameParts → Type 0) → Effect → Type 0
AsksOnly P (Ask f) = P f
AsksOnly P (Withdraw y) = Unit {0}
AsksOnly P (Enter entry) = Unit {0}

waits-put_first : (x : Identity) (f : FrameParts) (w : List FrameParts) → x ≡ identity_of f → waits x (put_in_order f w) ≡ true
unfolding put_in_order
waits-put_first x f [] e = or_left (is_of x f) false (same_identity-from x (identity_of f) e)
waits-put_first x f (g ∷ w) e =
    cond_both (is_before f g) (f ∷ (g ∷ w)) (g ∷ put_in_order f w) (λ v. waits x v ≡ true)
    (λ _. or_left (is_of x f) (waits x (g ∷ w)) (same_identity-from x (identity_of f) e))
    (λ _. or_right (is_of x g) (waits x (put_in_order f w)) (waits-put_first x f w e))

waits-put_rest : (x : Identity) (f : FrameParts) (w : List FrameParts) → waits x w ≡ true → waits x (put_in_order f w) ≡ true
unfolding put_in_order
waits-put_rest x f [] h = or_right (is_of x f) false h
waits-put_rest x f (g ∷ w) h =
    cond_both (is_before f g) (f ∷ (g ∷ w)) (g ∷ put_in_order f w) (λ v. waits x v ≡ true)
    (λ _. or_right (is_of x f) (waits x (g ∷ w)) h)
    (λ _. elim (or_cases (is_of x g) (waits x w) h) [
      | inl here ↦ or_left (is_of x g) (waits x (put_in_order f w)) here
      | inr there ↦ or_right (is_of x g) (waits x (put_in_order f w)) (waits-put_rest x f w there)
    ])

-- what waits after the frame was put there, waited before or is that frame
waits-from_put : (x : Identity) (f : FrameParts) (w : List FrameParts) → waits x (put_in_order f w) ≡ true → (x ≡ identity_of f) ⊎ (waits x w ≡ true)
unfolding put_in_order
waits-from_put x f [] h = elim (or_cases (is_of x f) false h) [ inl here ↦ inl (same_identity-true x (identity_of f) here) | inr never ↦ absurd (false≢true never) ]
waits-from_put x f (g ∷ w) h =
    let Q : List FrameParts → Type 0 = λ v. waits x v ≡ true → (x ≡ identity_of f) ⊎ ((is_of x g || waits x w) ≡ true) in
    cond_both (is_before f g) (f ∷ (g ∷ w)) (g ∷ put_in_order f w) Q
    (λ _ k. elim (or_cases (is_of x f) (waits x (g ∷ w)) k) [ inl here ↦ inl (same_identity-true x (identity_of f) here) | inr there ↦ inr there ])
    (λ _ k. elim (or_cases (is_of x g) (waits x (put_in_order f w)) k) [
      | inl here ↦ inr (or_left (is_of x g) (waits x w) here)
      | inr there ↦ elim (waits-from_put x f w there) [ inl e ↦ inl e | inr r ↦ inr (or_right (is_of x g) (waits x w) r) ]
    ])
    h

Each-put : (P : FrameParts → Type 0) (f : FrameParts) (w : List FrameParts) → P f → AllByRecursion P w → AllByRecursion P (put_in_order f w)
unfolding put_in_order
Each-put P f [] p h = (p, tt)
Each-put P f (g ∷ w) p h =
    cond_both (is_before f g) (f ∷ (g ∷ w)) (g ∷ put_in_order f w) (AllByRecursion P) (λ _. (p, h)) (λ _. (h.0, Each-put P f w p h.1))

pub Each-without : (P : FrameParts → Type 0) (y : Identity) (w : List FrameParts) → AllByRecursion P w → AllByRecursion P (without y w)
Each-without P y [] h = tt
Each-without P y (g ∷ w) h =
    cond_both (not (is_of y g)) (g ∷ without y w) (without y w) (AllByRecursion P) (λ _. (h.0, Each-without P y w h.1)) (λ _. Each-without P y w h.1)

-- a frame waits on, unless it is the one that is withdrawn
pub waits-without : (x y : Identity) (w : List FrameParts) → waits x w ≡ true → (x ≡ y) ⊎ (waits x (without y w) ≡ true)
waits-without x y [] h = inr h
waits-without x y (g ∷ w) h =
    cond_both (not (is_of y g)) (g ∷ without y w) (without y w) (λ v. (x ≡ y) ⊎ (waits x v ≡ true))
    (λ _. elim (or_cases (is_of x g) (waits x w) h) [
      | inl here ↦ inr (or_left (is_of x g) (waits x (without y w)) here)
      | inr there ↦ elim (waits-without x y w there) [ inl e ↦ inl e | inr r ↦ inr (or_right (is_of x g) (waits x (without y w)) r) ]
    ])
    (λ gone. elim (or_cases (is_of x g) (waits x w) h) [
      | inl here ↦ inl (same_identity-true x (identity_of g) here ∙ sym (same_identity-true y (identity_of g) (not-false (is_of y g) gone)))
      | inr there ↦ waits-without x y w there
    ])

pub waits-from_without : (x y : Identity) (w : List FrameParts) → waits x (without y w) ≡ true → waits x w ≡ true
waits-from_without x y [] h = h
waits-from_without x y (g ∷ w) h =
    let Q : List FrameParts → Type 0 = λ v. waits x v ≡ true → (is_of x g || waits x w) ≡ true in
    cond_both (not (is_of y g)) (g ∷ without y w) (without y w) Q
    (λ _ k. elim (or_cases (is_of x g) (waits x (without y w)) k) [
      | inl here ↦ or_left (is_of x g) (waits x w) here
      | inr there ↦ or_right (is_of x g) (waits x w) (waits-from_without x y w there)
    ])
    (λ _ k. or_right (is_of x g) (waits x w) (waits-from_without x y w k))
    h

-- with a frame that is asked for
pub waits-asked : (x : Identity) (f : FrameParts) (w : List FrameParts) → x ≡ identity_of f → waits x (with_frame f w) ≡ true
waits-asked x f w e = waits-put_first x f (without (identity_of f) w) e

pub waits-kept : (x : Identity) (f : FrameParts) (w : List FrameParts) → waits x w ≡ true → waits x (with_frame f w) ≡ true
waits-kept x f w h = elim (waits-without x (identity_of f) w h) [
  | inl e ↦ waits-asked x f w e
  | inr r ↦ waits-put_rest x f (without (identity_of f) w) r
]

pub waits-from_asked : (x : Identity) (f : FrameParts) (w : List FrameParts) → waits x (with_frame f w) ≡ true → (x ≡ identity_of f) ⊎ (waits x w ≡ true)
waits-from_asked x f w h = elim (waits-from_put x f (without (identity_of f) w) h) [ inl e ↦ inl e | inr r ↦ inr (waits-from_without x (identity_of f) w r) ]

-- a frame that waits, or is asked for, waits after the effects, unless one of them withdraws it
pub waits_after : (x : Identity) (effects : List Effect) (w : List FrameParts) → (waits x w ≡ true) ⊎ Among (Asks x) effects → Among (Withdraws x) effects ⊎ (waits x (waiting_after effects w) ≡ true)
unfolding waiting_after
waits_after x [] w (inl h) = inr h
waits_after x [] w (inr h) = absurd h
waits_after x (Ask f ∷ effects) w (inl h) = elim (waits_after x effects (with_frame f w) (inl (waits-kept x f w h))) [ inl a ↦ inl (inr a) | inr b ↦ inr b ]
waits_after x (Ask f ∷ effects) w (inr (inl e)) = elim (waits_after x effects (with_frame f w) (inl (waits-asked x f w e))) [ inl a ↦ inl (inr a) | inr b ↦ inr b ]
waits_after x (Ask f ∷ effects) w (inr (inr h)) = elim (waits_after x effects (with_frame f w) (inr h)) [ inl a ↦ inl (inr a) | inr b ↦ inr b ]
waits_after x (Withdraw y ∷ effects) w (inl h) = elim (waits-without x y w h) [
  | inl e ↦ inl (inl e)
  | inr r ↦ elim (waits_after x effects (without y w) (inl r)) [ inl a ↦ inl (inr a) | inr b ↦ inr b ]
]
waits_after x (Withdraw y ∷ effects) w (inr (inl h)) = absurd h
waits_after x (Withdraw y ∷ effects) w (inr (inr h)) = elim (waits_after x effects (without y w) (inr h)) [ inl a ↦ inl (inr a) | inr b ↦ inr b ]
waits_after x (Enter entry ∷ effects) w (inl h) = elim (waits_after x effects w (inl h)) [ inl a ↦ inl (inr a) | inr b ↦ inr b ]
waits_after x (Enter entry ∷ effects) w (inr (inl h)) = absurd h
waits_after x (Enter entry ∷ effects) w (inr (inr h)) = elim (waits_after x effects w (inr h)) [ inl a ↦ inl (inr a) | inr b ↦ inr b ]

-- what waits after the effects, waited before or is asked for by one of them
pub waits-from_after : (x : Identity) (effects : List Effect) (w : List FrameParts) → waits x (waiting_after effects w) ≡ true → (waits x w ≡ true) ⊎ Among (Asks x) effects
unfolding waiting_after
waits-from_after x [] w h = inl h
waits-from_after x (Ask f ∷ effects) w h = elim (waits-from_after x effects (with_frame f w) h) [
  | inl k ↦ elim (waits-from_asked x f w k) [ inl e ↦ inr (inl e) | inr r ↦ inl r ]
  | inr a ↦ inr (inr a)
]
waits-from_after x (Withdraw y ∷ effects) w h = elim (waits-from_after x effects (without y w) h) [
  | inl k ↦ inl (waits-from_without x y w k)
  | inr a ↦ inr (inr a)
]
waits-from_after x (Enter entry ∷ effects) w h = elim (waits-from_after x effects w h) [ inl k ↦ inl k | inr a ↦ inr (inr a) ]

-- a property of every waiting frame is kept where each frame that is asked for has it
pub Each-after : (P : FrameParts → Type 0) (effects : List Effect) (w : List FrameParts) → AllByRecursion (AsksOnly P) effects → AllByRecursion P w → AllByRecursion P (waiting_after effects w)
unfolding waiting_after
Each-after P [] w a h = h
Each-after P (Ask f ∷ effects) w a h = Each-after P effects (with_frame f w) a.1 (Each-put P f (without (identity_of f) w) a.0 (Each-without P (identity_of f) w h))
Each-after P (Withdraw y ∷ effects) w a h = Each-after P effects (without y w) a.1 (Each-without P y w h)
Each-after P (Enter entry ∷ effects) w a h = Each-after P effects w a.1 h

-- a controller that waits with a frame waits with its identity
pub waits-from_with : (f : FrameParts) (w : List FrameParts) → waits_with f w ≡ true → waits (identity_of f) w ≡ true
waits-from_with f [] h = h
waits-from_with f (g ∷ w) h = elim (or_cases (same_frame f g) (waits_with f w) h) [
  | inl here ↦ or_left (is_of (identity_of f) g) (waits (identity_of f) w) (same_identity-from (identity_of f) (identity_of g) (same_frame-identity f g here))
  | inr there ↦ or_right (is_of (identity_of f) g) (waits (identity_of f) w) (waits-from_with f w there)
]
