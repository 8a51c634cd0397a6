-- The frames of an identity that wait: after a slot, and where one is known to wait.
use Rattle.std.proofs.Common.{◌≡◌, ◌≢◌, ℕ, ◌⊎◌, inl, inr, true, false, List, [], ◌∷◌, Contains, refl, ap, sym, ◌∙◌, subst}
use Rattle.std.proofs.lemmas.Bool.{both_ways, cases_Bool, cond_both, false_from_ne_true}
use Rattle.cany_base.specs.declared.notice.NoticeKind.{NoticeKind}
use Rattle.cany_base.specs.declared.notice.NoticeKind.TheVariants.{Idle, Got, Sent, Bad}
use Rattle.cany_base.specs.declared.slot_note.SlotNote.{SlotNote}
use Rattle.cany_base.specs.Frame.{FrameParts}
use Rattle.cany_model.specs.Bus.Frames.{Identity, identity_of, is_of, same_identity}
use Rattle.cany_model.specs.Bus.History.{given}
use Rattle.cany_model.specs.Bus.Waiting.{without}
use Rattle.cany_model.specs.Rules.Effect.{Withdraw, waiting_after}
use Rattle.cany_model.proofs.Among.{Among, Among-from_Contains}
use Rattle.cany_model.proofs.Bus.Identities.{same_identity-from, same_identity-true}
use Rattle.cany_model.proofs.Runs.Steps.{kept_at}
use Rattle.cany_model.proofs.Timed.Common.LastEffect.{by_last_effect, held, held_after, last_effect}

pub other_identity : (x y : Identity) → x ≢ y → same_identity x y ≡ false
other_identity x y other = false_from_ne_true (same_identity x y) (λ same. other (same_identity-true x y same))

-- a frame that waits is one of those of its identity
held_among : (x : Identity) (f : FrameParts) (w : List FrameParts) → x ≡ identity_of f → Among (λ g. g ≡ f) w → Among (λ g. g ≡ f) (held x w)
held_among x f [] e h = h
held_among x f (g ∷ w) e (inl same) =
    let mine : is_of x g ≡ true = same_identity-from x (identity_of g) (e ∙ ap identity_of (sym same)) in
    rw mine (inl same)
held_among x f (g ∷ w) e (inr h) =
    cond_both (is_of x g) (g ∷ held x w) (held x w) (Among (λ g. g ≡ f)) (λ _. inr (held_among x f w e h)) (λ _. held_among x f w e h)

-- so some wait
pub held_some : (x : Identity) (f : FrameParts) (w : List FrameParts) → x ≡ identity_of f → Contains w f → held x w ≡ [] → ⊥
held_some x f w e c none = subst (Among (λ g. g ≡ f)) none (held_among x f w e (Among-from_Contains w f c))

-- ---- a slot

held_without : (x y : Identity) (w : List FrameParts) → held x (without y w) ≡ by_last_effect (last_effect x (Withdraw y ∷ [])) (held x w)
unfolding waiting_after
held_without x y w = held_after x (Withdraw y ∷ []) w

-- those of the identity wait on, unless one of them was sent: then none is left
pub held_slot : (x : Identity) (notice : NoticeKind) (w : List FrameParts)
    → ((held x (kept_at notice w) ≡ held x w) × ((f : FrameParts) → notice ≡ Sent f → x ≡ identity_of f → ⊥))
    ⊎ ((f : FrameParts) × (notice ≡ Sent f) × (x ≡ identity_of f) × (held x (kept_at notice w) ≡ []))
held_slot x Idle w = inl (refl, λ f e s. cc)
held_slot x Bad w = inl (refl, λ f e s. cc)
held_slot x (Got f) w = inl (refl, λ g e s. cc)
held_slot x (Sent f) w = elim (cases_Bool (same_identity x (identity_of f))) [
  | inl mine ↦ inr (f, refl, same_identity-true x (identity_of f) mine, held_without x (identity_of f) w ∙ rw mine refl)
  | inr other ↦ inl (
    held_without x (identity_of f) w ∙ rw other refl,
    λ g e s.
        let same : f ≡ g = cc in
        both_ways (same_identity x (identity_of f)) other (same_identity-from x (identity_of f) (s ∙ ap identity_of (sym same))),
  )
]

-- it waited with what it sent
abbrev pub WaitedWith : ℕ → SlotNote → List FrameParts → Type 0
WaitedWith i note waiting = (f : FrameParts) → given i note ≡ Sent f → Contains waiting f

pub sent_held : (i : ℕ) (note : SlotNote) (w : List FrameParts) → WaitedWith i note w → (x : Identity) (f : FrameParts) → given i note ≡ Sent f
    → x ≡ identity_of f → Among (λ g. g ≡ f) (held x w)
sent_held i note w waited x f sent mine = held_among x f w mine (Among-from_Contains w f (waited f sent))

-- where none waits, none waits after it
pub held_none : (x : Identity) (e : NoticeKind) (w : List FrameParts) → held x w ≡ [] → held x (kept_at e w) ≡ []
held_none x e w none = elim (held_slot x e w) [ inl same ↦ same.0 ∙ none | inr sent ↦ sent.3 ]
