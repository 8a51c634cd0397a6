-- What a turn asks for of a RELCAN message: its data frame by the origin in the scripted slot, or
-- when another node falls back; and the frame that confirms it when the origin reads that it has
-- sent the data frame.
use Rattle.std.specs.Prelude.{slice_index_or}
use Rattle.std.proofs.Common.{◌≡◌, ℕ, ◌==◌, ◌&&◌, ◌⊎◌, inl, inr, true, false, not, List, [], ◌∷◌, drop, refl, ap, sym, ◌∙◌, subst}
use Rattle.std.proofs.lemmas.Bool.{and_parts, cond_both, eqb-true, not-true}
use Rattle.cany_base.specs.declared.class.Class.{Class}
use Rattle.cany_base.specs.declared.class.Class.TheVariants as class
use Rattle.cany_base.specs.declared.message.Service.TheVariants.{Rel}
use Rattle.cany_base.specs.declared.notice.NoticeKind.{NoticeKind}
use Rattle.cany_base.specs.declared.notice.NoticeKind.TheVariants.{Idle, Got, Sent, Bad}
use Rattle.cany_base.specs.Frame.{FrameParts}
use Rattle.cany_base.specs.Params.{Parameters}
use Rattle.cany_base.specs.Scenario.{ScenarioParts}
use Rattle.cany_model.specs.Bus.Frames.{Identity, identity_of, same_class}
use Rattle.cany_model.specs.Rules.Backlog.{tot_backlog}
use Rattle.cany_model.specs.Rules.Delivery.{delivery_effects, is_delivery}
use Rattle.cany_model.specs.Rules.Eager.{has_enough}
use Rattle.cany_model.specs.Rules.Edcan.{edcan}
use Rattle.cany_model.specs.Rules.Effect.{Ask, Withdraw}
use Rattle.cany_model.specs.Rules.Life.{failure_signs, life_signs}
use Rattle.cany_model.specs.Rules.Membership.{scripted_asks, vectors, views}
use Rattle.cany_model.specs.Rules.Relcan.{confirm_effects, confirm_frame, fall_back_effects, falls_back, fell_back, has_confirm, is_first_got, is_timed, late_copy_effects, relcan_at, relcan_effects, timer_effects}
use Rattle.cany_model.specs.Rules.Sends.{scripted_sends, send_effects}
use Rattle.cany_model.specs.Rules.Totcan.{totcan}
use Rattle.cany_model.specs.Rules.Turn.{protocols, turn_effects}
use Rattle.cany_model.proofs.Among.{Among, Among-append_cases, Among-from_flat_map}
use Rattle.cany_model.proofs.Bus.Identities.{same_class-true}
use Rattle.cany_model.proofs.Rules.Services.BacklogFacts.{backlog_is_lawful}
use Rattle.cany_model.proofs.Rules.Services.EdcanFacts.{edcan_is_lawful}
use Rattle.cany_model.proofs.Rules.Site.LifeFacts.{failures_are_lawful, life_is_lawful}
use Rattle.cany_model.proofs.Rules.Services.SendFacts.{sends_are_lawful}
use Rattle.cany_model.proofs.Rules.Services.TotcanFacts.{totcan_is_lawful}
use Rattle.cany_model.proofs.Rules.Site.VectorFacts.{vectors_are_lawful}
use Rattle.cany_model.proofs.Rules.Site.ViewFacts.{asks_are_lawful, views_are_lawful}
use Rattle.cany_model.proofs.Rules.Waits.{Asks}
use Rattle.cany_model.proofs.Rules.TurnFacts.{not_asked}

-- ---- which protocol asks

-- the frames of this class are asked for by RELCAN or by the scripted sends alone
record IsOfRelcan (c : Class) : Type 0 where
  ed : edcan.names c ≡ false
  tot : totcan.names c ≡ false
  fda : failure_signs.names c ≡ false
  rha : vectors.names c ≡ false
  view : views.names c ≡ false
  els : life_signs.names c ≡ false
  ask : scripted_asks.names c ≡ false
  next : tot_backlog.names c ≡ false

rel_class : IsOfRelcan class.Rel
unfolding same_class
rel_class = record { ed = refl; tot = refl; fda = refl; rha = refl; view = refl; els = refl; ask = refl; next = refl }

confirm_class : IsOfRelcan class.Confirm
unfolding same_class
confirm_class = record { ed = refl; tot = refl; fda = refl; rha = refl; view = refl; els = refl; ask = refl; next = refl }

of_relcan : (scenario : ScenarioParts) (i : ℕ) (past : List NoticeKind) (x : Identity) → IsOfRelcan x.class → Among (Asks x) (turn_effects scenario i past)
    → Among (Asks x) (relcan_effects scenario i past) ⊎ Among (Asks x) (send_effects scenario i past)
unfolding turn_effects
of_relcan scenario i past x c h =
    elim (Among-from_flat_map (λ p. p.effects scenario i past) (Asks x) protocols h) [
      | inl ed ↦ absurd (not_asked scenario edcan edcan_is_lawful i past x c.ed ed)
      | inr (inl rel) ↦ inl rel
      | inr (inr (inl tot)) ↦ absurd (not_asked scenario totcan totcan_is_lawful i past x c.tot tot)
      | inr (inr (inr (inl fda))) ↦ absurd (not_asked scenario failure_signs failures_are_lawful i past x c.fda fda)
      | inr (inr (inr (inr (inl rha)))) ↦ absurd (not_asked scenario vectors vectors_are_lawful i past x c.rha rha)
      | inr (inr (inr (inr (inr (inl view))))) ↦ absurd (not_asked scenario views views_are_lawful i past x c.view view)
      | inr (inr (inr (inr (inr (inr (inl els)))))) ↦ absurd (not_asked scenario life_signs life_is_lawful i past x c.els els)
      | inr (inr (inr (inr (inr (inr (inr (inl sent))))))) ↦ inr sent
      | inr (inr (inr (inr (inr (inr (inr (inr (inl asks)))))))) ↦ absurd (not_asked scenario scripted_asks asks_are_lawful i past x c.ask asks)
      | inr (inr (inr (inr (inr (inr (inr (inr (inr (inl next))))))))) ↦ absurd (not_asked scenario tot_backlog backlog_is_lawful i past x c.next next)
      | inr (inr (inr (inr (inr (inr (inr (inr (inr (inr none))))))))) ↦ absurd none
    ]

-- ---- what RELCAN asks for

-- the newest notice is that of node i's own transmission of a data frame of its own, whose message
-- the frame confirms
pub record IsConfirming (i : ℕ) (x : Identity) (e : NoticeKind) : Type 0 where
  pub frame : FrameParts
  pub was : e ≡ Sent frame
  pub class : frame.class ≡ class.Rel
  pub own : frame.node ≡ i
  pub confirms : x ≡ identity_of (confirm_frame frame)

no_delivery : (x : Identity) (i : ℕ) (f : FrameParts) (e : NoticeKind) (past : List NoticeKind) → Among (Asks x) (delivery_effects Rel i f e past) → ⊥
unfolding delivery_effects
no_delivery x i f e past h = cond_both (is_delivery i f e past) _ [] (λ es. Among (Asks x) es → ⊥) (λ _ k. elim k [ inl a ↦ a | inr none ↦ none ]) (λ _ k. k) h

pub no_late : (x : Identity) (p : Parameters) (i : ℕ) (f : FrameParts) (past : List NoticeKind) → Among (Asks x) (late_copy_effects p i f past) → ⊥
no_late x p i f past h =
    cond_both (fell_back p.confirm i (identity_of f) past && has_enough p.omit (identity_of f) (Got f ∷ past)) (Withdraw (identity_of f) ∷ []) []
    (λ es. Among (Asks x) es → ⊥) (λ _ k. elim k [ inl a ↦ a | inr none ↦ none ]) (λ _ k. k) h

own_asks : (x : Identity) (i : ℕ) (f : FrameParts) → Among (Asks x) (confirm_effects i f) → (f.node ≡ i) × (x ≡ identity_of (confirm_frame f))
own_asks x i f h =
    cond_both (f.node == i) (Ask (confirm_frame f) ∷ []) [] (λ es. Among (Asks x) es → (f.node ≡ i) × (x ≡ identity_of (confirm_frame f)))
    (λ own k. elim k [ inl a ↦ (eqb-true f.node i own, a) | inr none ↦ absurd none ]) (λ _ k. absurd k) h

at_notice : (p : Parameters) (i : ℕ) (x : Identity) (e : NoticeKind) (past : List NoticeKind) → Among (Asks x) (relcan_at p i e past) → IsConfirming i x e
unfolding relcan_at
at_notice p i x Idle past h = absurd h
at_notice p i x Bad past h = absurd h
at_notice p i x (Got f) past h =
    absurd (cond_both (same_class f.class class.Rel) _ [] (λ es. Among (Asks x) es → ⊥)
    (λ _ k. elim (Among-append_cases (Asks x) (delivery_effects Rel i f (Got f) past) (late_copy_effects p i f past) k) [
      | inl a ↦ no_delivery x i f (Got f) past a
      | inr b ↦ no_late x p i f past b
    ])
    (λ _ k. k) h)
at_notice p i x (Sent f) past h =
    cond_both (same_class f.class class.Rel) _ [] (λ es. Among (Asks x) es → IsConfirming i x (Sent f))
    (λ rel k. elim (Among-append_cases (Asks x) (delivery_effects Rel i f (Sent f) past) (confirm_effects i f) k) [
      | inl a ↦ absurd (no_delivery x i f (Sent f) past a)
      | inr b ↦ let own = own_asks x i f b in record { frame = f; was = refl; class = same_class-true f.class class.Rel rel; own = own.0; confirms = own.1 }
    ])
    (λ _ k. absurd k) h

by_timer : (p : Parameters) (i : ℕ) (x : Identity) (past : List NoticeKind) (e : NoticeKind) → Among (Asks x) (fall_back_effects p i past e)
    → falls_back p.confirm i x past ≡ true
by_timer p i x past Idle h = absurd h
by_timer p i x past Bad h = absurd h
by_timer p i x past (Sent f) h = absurd h
by_timer p i x past (Got f) h =
    cond_both (falls_back p.confirm i (identity_of f) past && not (has_enough p.omit (identity_of f) past)) (Ask f ∷ []) []
    (λ es. Among (Asks x) es → falls_back p.confirm i x past ≡ true)
    (λ asks k. elim k [
      | inl e ↦
          ap (λ y. falls_back p.confirm i y past) e
          ∙ (and_parts (falls_back p.confirm i (identity_of f) past) (not (has_enough p.omit (identity_of f) past)) asks).0
      | inr none ↦ absurd none
    ])
    (λ _ k. absurd k) h

relcan_reason : (scenario : ScenarioParts) (i : ℕ) (x : Identity) (e : NoticeKind) (past : List NoticeKind)
    → Among (Asks x) (relcan_effects scenario i (e ∷ past))
    → IsConfirming i x e ⊎ (falls_back scenario.params.confirm i x (e ∷ past) ≡ true)
unfolding relcan_effects timer_effects
relcan_reason scenario i x e past h =
    elim (Among-append_cases (Asks x) (relcan_at scenario.params i e past) (timer_effects scenario.params i (e ∷ past)) h) [
      | inl now ↦ inl (at_notice scenario.params i x e past now)
      | inr timer ↦ inr (by_timer scenario.params i x (e ∷ past) (slice_index_or (e ∷ past) scenario.params.confirm Idle) timer)
    ]

timed : (timer i : ℕ) (x : Identity) (past : List NoticeKind) → falls_back timer i x past ≡ true → is_timed i x ≡ true
timed timer i x past falls =
    (and_parts (is_timed i x) (is_first_got x (drop timer past))
    (and_parts (is_timed i x && is_first_got x (drop timer past)) (not (has_confirm x past)) falls).0).0

-- ---- a whole turn

-- the data frame is asked for in the scripted slot, or by a node that falls back
pub data_reason : (scenario : ScenarioParts) (i : ℕ) (x : Identity) (e : NoticeKind) (past : List NoticeKind) → x.class ≡ class.Rel
    → Among (Asks x) (turn_effects scenario i (e ∷ past))
    → Among (Asks x) (send_effects scenario i (e ∷ past)) ⊎ (falls_back scenario.params.confirm i x (e ∷ past) ≡ true)
data_reason scenario i x e past rel h =
    elim (of_relcan scenario i (e ∷ past) x (subst IsOfRelcan (sym rel) rel_class) h) [
      | inr sent ↦ inl sent
      | inl late ↦ elim (relcan_reason scenario i x e past late) [
        | inl confirms ↦ let is : x.class ≡ class.Confirm = ap (λ (y : Identity). y.class) confirms.confirms in absurd (cc)
        | inr falls ↦ inr falls
      ]
    ]

-- who falls back is not the origin
pub not_origin : (timer i : ℕ) (x : Identity) (past : List NoticeKind) → falls_back timer i x past ≡ true → (x.node == i) ≡ false
not_origin timer i x past falls =
    not-true (x.node == i) (and_parts (same_class x.class class.Rel) (not (x.node == i)) (timed timer i x past falls)).1

sends_no_confirm : scripted_sends.names class.Confirm ≡ false
unfolding same_class
sends_no_confirm = refl

-- the frame that confirms is asked for when the origin reads that it has sent the data frame
pub confirm_reason : (scenario : ScenarioParts) (i : ℕ) (x : Identity) (e : NoticeKind) (past : List NoticeKind) → x.class ≡ class.Confirm
    → Among (Asks x) (turn_effects scenario i (e ∷ past)) → IsConfirming i x e
confirm_reason scenario i x e past confirm h =
    elim (of_relcan scenario i (e ∷ past) x (subst IsOfRelcan (sym confirm) confirm_class) h) [
      | inr sent ↦ absurd (not_asked scenario scripted_sends sends_are_lawful i (e ∷ past) x (ap scripted_sends.names confirm ∙ sends_no_confirm) sent)
      | inl of ↦ elim (relcan_reason scenario i x e past of) [
        | inl confirms ↦ confirms
        | inr falls ↦
            let rel = same_class-true x.class class.Rel
            (and_parts (same_class x.class class.Rel) (not (x.node == i)) (timed scenario.params.confirm i x (e ∷ past) falls)).0 in
            absurd (cc)
      ]
    ]
