-- Why a node asks for the data frame of a RELCAN message: it falls back in this turn, or it is the
-- origin, in its turn of the scripted slot.
use Rattle.std.specs.Prelude.{slice_index_or}
use Rattle.std.proofs.Common.{◌≡◌, ℕ, zero, suc, ◌==◌, ◌&&◌, ◌⊎◌, ◌++◌, inl, inr, true, false, not, List, [], ◌∷◌, drop, refl, ap, sym, ◌∙◌}
use Rattle.std.proofs.lemmas.Bool.{and_parts, cond_both, false≢true, not-true, or_left, or_right}
use Rattle.cany_base.specs.declared.class.Class.TheVariants as class
use Rattle.cany_base.specs.declared.message.Service.TheVariants.{Rel}
use Rattle.cany_base.specs.declared.notice.NoticeKind.{NoticeKind}
use Rattle.cany_base.specs.declared.notice.NoticeKind.TheVariants.{Idle, Got, Sent, Bad}
use Rattle.cany_base.specs.Frame.{FrameParts, data_class}
use Rattle.cany_base.specs.Params.{Parameters}
use Rattle.cany_base.specs.Scenario.{ScenarioParts}
use Rattle.cany_model.specs.Bus.Frames.{Identity, identity_of, same_class}
use Rattle.cany_model.specs.Bus.History.{is_got}
use Rattle.cany_model.specs.Rules.Delivery.{delivery_effects}
use Rattle.cany_model.specs.Rules.Eager.{has_enough}
use Rattle.cany_model.specs.Rules.Effect.{Ask}
use Rattle.cany_model.specs.Rules.Messages.{Message, data_id, messages_of}
use Rattle.cany_model.specs.Rules.Relcan.{confirm_effects, confirm_frame, fall_back_effects, falls_back, has_confirm, has_copy, is_first_got, is_timed, late_copy_effects, relcan_at, relcan_effects, timer_effects}
use Rattle.cany_model.specs.Rules.Turn.{turn_effects}
use Rattle.cany_model.proofs.Among.{Among, Among-append_cases}
use Rattle.cany_model.proofs.Rules.Services.MessageKeys.{IsOneOf}
use Rattle.cany_model.proofs.Rules.Waits.{Asks}
use Rattle.cany_laws.proofs.Waiting.WaitAsksOnce.{AtItsSlot, asked_why, no_delivery, sends_in_slot}
use Rattle.cany_laws.proofs.Frames.CarriedRelcan.{no_late}

-- the first copy is so many notices old as the timer takes, and the node is not the origin
pub record FallsBackNow (timer : ℕ) (m : Message) (i : ℕ) (e : NoticeKind) (past : List NoticeKind) : Type 0 where
  pub other : (m.origin == i) ≡ false
  pub none : has_copy (data_id m) (drop timer past) ≡ false
  pub now : has_copy (data_id m) (drop timer (e ∷ past)) ≡ true

-- ---- copies that are so old

pub copy_dropped : (x : Identity) (n : ℕ) (past : List NoticeKind) → has_copy x (drop (suc n) past) ≡ true → has_copy x (drop n past) ≡ true
copy_dropped x zero [] h = h
copy_dropped x (suc n) [] h = h
copy_dropped x zero (e ∷ past) h = or_right (is_got x e) (has_copy x past) h
copy_dropped x (suc n) (e ∷ past) h = copy_dropped x n past h

first_in : (x : Identity) (n : ℕ) (past : List NoticeKind) → is_first_got x (drop n past) ≡ true
    → (has_copy x (drop n past) ≡ true) × (has_copy x (drop (suc n) past) ≡ false)
first_in x zero [] h = absurd (false≢true h)
first_in x (suc n) [] h = absurd (false≢true h)
first_in x zero (e ∷ past) h =
    let parts = and_parts (is_got x e) (not (has_copy x past)) h in
    (or_left (is_got x e) (has_copy x past) parts.0, not-true (has_copy x past) parts.1)
first_in x (suc n) (e ∷ past) h = first_in x n past h

falls_now : (timer : ℕ) (m : Message) (i : ℕ) (e : NoticeKind) (past : List NoticeKind) → falls_back timer i (data_id m) (e ∷ past) ≡ true
    → FallsBackNow timer m i e past
falls_now timer m i e past h =
    let x : Identity = data_id m in
    let outer = and_parts (is_timed i x && is_first_got x (drop timer (e ∷ past))) (not (has_confirm x (e ∷ past))) h in
    let two = and_parts (is_timed i x) (is_first_got x (drop timer (e ∷ past))) outer.0 in
    let timed = and_parts (same_class x.class class.Rel) (not (m.origin == i)) two.0 in
    let first = first_in x timer (e ∷ past) two.1 in
    record { other = not-true (m.origin == i) timed.1; none = first.1; now = first.0 }

-- ---- what RELCAN asks for

no_confirm : (x : Identity) (i : ℕ) (f : FrameParts) → x.class ≡ class.Rel → Among (Asks x) (confirm_effects i f) → ⊥
no_confirm x i f rel h =
    cond_both (f.node == i) (Ask (confirm_frame f) ∷ []) [] (λ effects. Among (Asks x) effects → ⊥)
    (λ _ a. elim a [ inl same ↦ other (sym rel ∙ ap (λ (y : Identity). y.class) same) | inr never ↦ never ]) (λ _ never. never) h
  where
    other : class.Rel ≡ class.Confirm → ⊥
    other e = cc

at_asks_none : (p : Parameters) (x : Identity) (i : ℕ) (e : NoticeKind) (past : List NoticeKind) → x.class ≡ class.Rel
    → Among (Asks x) (relcan_at p i e past) → ⊥
unfolding relcan_at
at_asks_none p x i Idle past rel h = h
at_asks_none p x i Bad past rel h = h
at_asks_none p x i (Got f) past rel h =
    cond_both (same_class f.class class.Rel) (delivery_effects Rel i f (Got f) past ++ late_copy_effects p i f past) [] (λ effects. Among (Asks x) effects → ⊥)
    (λ _ a. elim (Among-append_cases (Asks x) (delivery_effects Rel i f (Got f) past) (late_copy_effects p i f past) a) [
      | inl first ↦ no_delivery x Rel i f (Got f) past first
      | inr late ↦ no_late x p i f past late
    ]) (λ _ never. never) h
at_asks_none p x i (Sent f) past rel h =
    cond_both (same_class f.class class.Rel) (delivery_effects Rel i f (Sent f) past ++ confirm_effects i f) [] (λ effects. Among (Asks x) effects → ⊥)
    (λ _ a. elim (Among-append_cases (Asks x) (delivery_effects Rel i f (Sent f) past) (confirm_effects i f) a) [
      | inl first ↦ no_delivery x Rel i f (Sent f) past first
      | inr confirm ↦ no_confirm x i f rel confirm
    ]) (λ _ never. never) h

timer_falls : (p : Parameters) (x : Identity) (i : ℕ) (past : List NoticeKind) (first : NoticeKind) → Among (Asks x) (fall_back_effects p i past first)
    → falls_back p.confirm i x past ≡ true
timer_falls p x i past Idle h = absurd h
timer_falls p x i past (Sent f) h = absurd h
timer_falls p x i past Bad h = absurd h
timer_falls p x i past (Got f) h =
    cond_both (falls_back p.confirm i (identity_of f) past && not (has_enough p.omit (identity_of f) past)) (Ask f ∷ []) []
    (λ effects. Among (Asks x) effects → falls_back p.confirm i x past ≡ true)
    (λ due a. elim a [
      | inl same ↦ ap (λ y. falls_back p.confirm i y past) same
          ∙ (and_parts (falls_back p.confirm i (identity_of f) past) (not (has_enough p.omit (identity_of f) past)) due).0
      | inr never ↦ absurd never
    ]) (λ _ never. absurd never) h

relcan_falls : (scenario : ScenarioParts) (m : Message) (i : ℕ) (e : NoticeKind) (past : List NoticeKind) → m.service ≡ Rel
    → Among (Asks (data_id m)) (relcan_effects scenario i (e ∷ past)) → FallsBackNow scenario.params.confirm m i e past
unfolding relcan_effects timer_effects
relcan_falls scenario m i e past rel h =
    let p : Parameters = scenario.params in
    let first : NoticeKind = slice_index_or (e ∷ past) p.confirm Idle in
    elim (Among-append_cases (Asks (data_id m)) (relcan_at p i e past) (fall_back_effects p i (e ∷ past) first) h) [
      | inl at ↦ absurd (at_asks_none p (data_id m) i e past (ap data_class rel) at)
      | inr timer ↦ falls_now p.confirm m i e past (timer_falls p (data_id m) i (e ∷ past) first timer)
    ]

-- ---- a whole turn

pub rel_asked : (scenario : ScenarioParts) (m : Message) → IsOneOf (messages_of scenario.sends) m → m.service ≡ Rel
    → (i : ℕ) (e : NoticeKind) (past : List NoticeKind)
    → Among (Asks (data_id m)) (turn_effects scenario i (e ∷ past)) → FallsBackNow scenario.params.confirm m i e past ⊎ AtItsSlot m i past
unfolding same_class
rel_asked scenario m is rel i e past =
    asked_why scenario m Rel rel i e past (FallsBackNow scenario.params.confirm m i e past ⊎ AtItsSlot m i past) (
      inl refl,
      (
        inr (λ a. inl (relcan_falls scenario m i e past rel a)),
        (inl refl, (inl refl, (inl refl, (inl refl, (inl refl, (inr (λ a. inr (sends_in_slot scenario m i e past is a)), (inl refl, (inl refl, tt)))))))),
      ),
    )
