-- What the rules of RELCAN do in a turn.
use Rattle.std.specs.Prelude.{slice_index_or}
use Rattle.std.proofs.Common.{◌≡◌, ℕ, ◌+◌, ◌<◌, ◌==◌, ◌&&◌, ◌⊎◌, inl, inr, true, not, List, [], ◌∷◌, ◌++◌, drop, length, refl, ap, sym, ◌∙◌, subst, arith, add-zero, append-nil}
use Rattle.std.specs.List.{AllByRecursion}
use Rattle.std.proofs.lemmas.Bool.{false≢true, and_parts, and_from, cases_Bool, cases_lt, cond_both, leb-true, eqb-true, not_from_false, or_cases, or_left, or_right}
use Rattle.std.proofs.lemmas.List.{get_or-drop, get_or_past}
use Rattle.cany_base.specs.declared.class.Class.TheVariants as class
use Rattle.cany_base.specs.declared.message.Service.TheVariants.{Rel}
use Rattle.cany_base.specs.declared.notice.NoticeKind.{NoticeKind}
use Rattle.cany_base.specs.declared.notice.NoticeKind.TheVariants.{Idle, Got, Sent, Bad}
use Rattle.cany_base.specs.Frame.{FrameParts, data_class}
use Rattle.cany_base.specs.Params.{Parameters}
use Rattle.cany_base.specs.Scenario.{ScenarioParts}
use Rattle.cany_model.specs.Bus.Frames.{Identity, identity_of, same_class}
use Rattle.cany_model.specs.Bus.History.{copies, is_got}
use Rattle.cany_model.specs.Rules.Delivery.{delivery_effects, is_delivery}
use Rattle.cany_model.specs.Rules.Eager.{has_enough}
use Rattle.cany_model.specs.Rules.Effect.{Effect, Ask, Withdraw, Enter, entered}
use Rattle.cany_model.specs.Rules.Messages.{Message, data_frame, is_service}
use Rattle.cany_model.specs.Rules.Relcan.{confirm_frame, confirm_effects, fall_back_effects, falls_back, fell_back, has_confirm, has_copy, has_timer_ahead, is_first_got, is_timed, late_copy_effects, relcan, relcan_at, relcan_effects, timer_effects}
use Rattle.cany_model.proofs.Among.{Among, Among-append_right, Among-get_or, Among-gives, Among-with, Each-append, count-drop, count-grows, count-yes}
use Rattle.cany_model.proofs.Bus.Carried.{is_got-true}
use Rattle.cany_model.proofs.Bus.Identities.{same_class-true}
use Rattle.cany_model.proofs.Rules.Waits.{Asks, AsksOnly}
use Rattle.cany_model.proofs.Rules.IdleBeforeTakingPart.{AreIdle, idle_at}
use Rattle.cany_model.proofs.Rules.Services.DeliveryFacts.{DeliversAtOnce, EntersNone, delivers_once, delivery_enters, delivery_founded, entered-append, entered-none, entries_at}
use Rattle.cany_model.proofs.Rules.ProtocolFacts.{IsFounded, IsLawful, confirms, enough, is_diffused, is_relayed, relays}

serves : relcan.delivers Rel ≡ true
unfolding is_service same_class
serves = refl

names_confirm : relcan.names class.Confirm ≡ true
unfolding same_class
names_confirm = refl

-- ---- the notice

late_founded : (scenario : ScenarioParts) (i : ℕ) (f : FrameParts) (past : List NoticeKind) → same_class f.class class.Rel ≡ true
    → AllByRecursion (IsFounded scenario relcan i (Got f ∷ past)) (late_copy_effects scenario.params i f past)
late_founded scenario i f past rel =
    cond_both (fell_back scenario.params.confirm i (identity_of f) past && has_enough scenario.params.omit (identity_of f) (Got f ∷ past))
    (Withdraw (identity_of f) ∷ []) [] (AllByRecursion (IsFounded scenario relcan i (Got f ∷ past)))
    (λ late.
    let many = (and_parts (fell_back scenario.params.confirm i (identity_of f) past) (has_enough scenario.params.omit (identity_of f) (Got f ∷ past)) late).1 in
    ((enough (ap is_diffused (same_class-true f.class class.Rel rel)) (omega (arith, leb-true (scenario.params.omit + 1) (copies (identity_of f) (Got f ∷ past)) many)), or_left _ (same_class f.class class.Confirm) rel), tt))
    (λ _. tt)

late_enters : (p : Parameters) (i : ℕ) (f : FrameParts) (past : List NoticeKind) → AllByRecursion EntersNone (late_copy_effects p i f past)
late_enters p i f past =
    cond_both (fell_back p.confirm i (identity_of f) past && has_enough p.omit (identity_of f) (Got f ∷ past)) (Withdraw (identity_of f) ∷ []) []
    (AllByRecursion EntersNone) (λ _. (tt, tt)) (λ _. tt)

confirm_founded : (scenario : ScenarioParts) (i : ℕ) (f : FrameParts) (past : List NoticeKind) → f.class ≡ class.Rel
    → AllByRecursion (IsFounded scenario relcan i (Sent f ∷ past)) (confirm_effects i f)
confirm_founded scenario i f past rel =
    cond_both (f.node == i) (Ask (confirm_frame f) ∷ []) [] (AllByRecursion (IsFounded scenario relcan i (Sent f ∷ past)))
    (λ own. ((confirms f (inl refl) rel (eqb-true f.node i own) refl, names_confirm), tt))
    (λ _. tt)

confirm_enters : (i : ℕ) (f : FrameParts) → AllByRecursion EntersNone (confirm_effects i f)
confirm_enters i f = cond_both (f.node == i) (Ask (confirm_frame f) ∷ []) [] (AllByRecursion EntersNone) (λ _. (tt, tt)) (λ _. tt)

notice_founded : (scenario : ScenarioParts) (i : ℕ) (e : NoticeKind) (past : List NoticeKind)
    → AllByRecursion (IsFounded scenario relcan i (e ∷ past)) (relcan_at scenario.params i e past)
unfolding relcan_at
notice_founded scenario i Idle past = tt
notice_founded scenario i Bad past = tt
notice_founded scenario i (Got f) past =
    cond_both (same_class f.class class.Rel) _ [] (AllByRecursion (IsFounded scenario relcan i (Got f ∷ past)))
    (λ rel. Each-append (IsFounded scenario relcan i (Got f ∷ past)) (delivery_effects Rel i f (Got f) past) (late_copy_effects scenario.params i f past)
    (delivery_founded scenario relcan Rel i f (Got f) past serves (same_class-true f.class class.Rel rel) (inl refl))
    (late_founded scenario i f past rel))
    (λ _. tt)
notice_founded scenario i (Sent f) past =
    cond_both (same_class f.class class.Rel) _ [] (AllByRecursion (IsFounded scenario relcan i (Sent f ∷ past)))
    (λ rel. Each-append (IsFounded scenario relcan i (Sent f ∷ past)) (delivery_effects Rel i f (Sent f) past) (confirm_effects i f)
    (delivery_founded scenario relcan Rel i f (Sent f) past serves (same_class-true f.class class.Rel rel) (inr refl))
    (confirm_founded scenario i f past (same_class-true f.class class.Rel rel)))
    (λ _. tt)

notice_enters : (p : Parameters) (i : ℕ) (e : NoticeKind) (past : List NoticeKind) → entered (relcan_at p i e past) ≡ entries_at Rel i e past
unfolding relcan_at entered
notice_enters p i Idle past = refl
notice_enters p i Bad past = refl
notice_enters p i (Got f) past = delivery_enters Rel i f (Got f) past (late_copy_effects p i f past) (late_enters p i f past)
notice_enters p i (Sent f) past = delivery_enters Rel i f (Sent f) past (confirm_effects i f) (confirm_enters i f)

-- ---- the timer

-- the notice at a place of what was read
got_at : (n : ℕ) (f : FrameParts) (past : List NoticeKind) → slice_index_or past n Idle ≡ Got f → Among (λ e. e ≡ Got f) past
got_at n f past at = elim (cases_lt n (length past)) [
  | inl below ↦ Among-get_or (λ e. e ≡ Got f) past n Idle below at
  | inr over ↦ let none : Idle ≡ Got f = sym (get_or_past past n Idle over) ∙ at in absurd (cc)
]

-- the timer that runs out started at the first copy
falls_first : (timer i : ℕ) (x : Identity) (past : List NoticeKind) → falls_back timer i x past ≡ true → is_first_got x (drop timer past) ≡ true
falls_first timer i x past falls =
    (and_parts (is_timed i x) (is_first_got x (drop timer past)) (and_parts (is_timed i x && is_first_got x (drop timer past)) (not (has_confirm x past)) falls).0).1

timed_class : (p : Parameters) (i : ℕ) (x : Identity) (past : List NoticeKind) → falls_back p.confirm i x past ≡ true → same_class x.class class.Rel ≡ true
timed_class p i x past falls =
    let started = and_parts (is_timed i x && is_first_got x (drop p.confirm past)) (not (has_confirm x past)) falls in
    (and_parts (same_class x.class class.Rel) (not (x.node == i)) (and_parts (is_timed i x) (is_first_got x (drop p.confirm past)) started.0).0).0

-- what a timer asks for, if the notice that started it was this one
fall_back_founded : (scenario : ScenarioParts) (i : ℕ) (past : List NoticeKind) (e : NoticeKind) → ((f : FrameParts) → e ≡ Got f → Among (λ n. n ≡ Got f) past)
    → AllByRecursion (IsFounded scenario relcan i past) (fall_back_effects scenario.params i past e)
fall_back_founded scenario i past Idle got = tt
fall_back_founded scenario i past Bad got = tt
fall_back_founded scenario i past (Sent f) got = tt
fall_back_founded scenario i past (Got f) got =
    cond_both (falls_back scenario.params.confirm i (identity_of f) past && not (has_enough scenario.params.omit (identity_of f) past)) (Ask f ∷ []) []
    (AllByRecursion (IsFounded scenario relcan i past))
    (λ asks.
    let falls = (and_parts (falls_back scenario.params.confirm i (identity_of f) past) (not (has_enough scenario.params.omit (identity_of f) past)) asks).0 in
    ((relays (ap is_relayed (same_class-true f.class class.Rel (timed_class scenario.params i (identity_of f) past falls))) (got f refl), or_left _ (same_class f.class class.Confirm) (timed_class scenario.params i (identity_of f) past falls)), tt))
    (λ _. tt)

timer_founded : (scenario : ScenarioParts) (i : ℕ) (past : List NoticeKind) → AllByRecursion (IsFounded scenario relcan i past) (timer_effects scenario.params i past)
unfolding timer_effects
timer_founded scenario i past =
    fall_back_founded scenario i past (slice_index_or past scenario.params.confirm Idle) (λ f at. got_at scenario.params.confirm f past at)

fall_back_enters : (p : Parameters) (i : ℕ) (past : List NoticeKind) (e : NoticeKind) → AllByRecursion EntersNone (fall_back_effects p i past e)
fall_back_enters p i past Idle = tt
fall_back_enters p i past Bad = tt
fall_back_enters p i past (Sent f) = tt
fall_back_enters p i past (Got f) =
    cond_both (falls_back p.confirm i (identity_of f) past && not (has_enough p.omit (identity_of f) past)) (Ask f ∷ []) []
    (AllByRecursion EntersNone) (λ _. (tt, tt)) (λ _. tt)

timer_enters : (p : Parameters) (i : ℕ) (past : List NoticeKind) → AllByRecursion EntersNone (timer_effects p i past)
unfolding timer_effects
timer_enters p i past = fall_back_enters p i past (slice_index_or past p.confirm Idle)

-- ---- a turn

pub relcan_delivers : DeliversAtOnce relcan Rel
unfolding relcan_effects
relcan_delivers scenario i e past =
    entered-append (relcan_at scenario.params i e past) (timer_effects scenario.params i (e ∷ past))
    ∙ ap (λ rest. entered (relcan_at scenario.params i e past) ++ rest) (entered-none (timer_effects scenario.params i (e ∷ past)) (timer_enters scenario.params i (e ∷ past)))
    ∙ append-nil (entered (relcan_at scenario.params i e past))
    ∙ notice_enters scenario.params i e past

-- a timer is of a RELCAN message
timer_serves : (scenario : ScenarioParts) (m : Message) (i : ℕ) (past : List NoticeKind) → has_timer_ahead scenario m i past ≡ true
    → is_service m.service Rel ≡ true
unfolding is_service
timer_serves scenario m i past h =
    let x = identity_of (data_frame m) in
    let started = and_parts (is_timed i x && has_copy x past && not (has_copy x (drop scenario.params.confirm past))) (not (has_confirm x past)) h in
    let copied = and_parts (is_timed i x && has_copy x past) (not (has_copy x (drop scenario.params.confirm past))) started.0 in
    let timed = and_parts (is_timed i x) (has_copy x past) copied.0 in
    (and_parts (same_class (data_class m.service) class.Rel) (not (m.origin == i)) timed.0).0

pub relcan_is_lawful : IsLawful relcan
unfolding relcan_effects relcan_at timer_effects
relcan_is_lawful = record {
  muted = λ scenario i past begun. mute scenario i past begun.idle;
  founded = λ scenario i past. each scenario i past;
  ahead_serves = λ scenario m i past h. timer_serves scenario m i past h;
  once = delivers_once relcan Rel relcan_delivers;
}
  where
    each : (scenario : ScenarioParts) (i : ℕ) (past : List NoticeKind) → AllByRecursion (IsFounded scenario relcan i past) (relcan_effects scenario i past)
    each scenario i [] = tt
    each scenario i (e ∷ past) =
        Each-append (IsFounded scenario relcan i (e ∷ past)) (relcan_at scenario.params i e past) (timer_effects scenario.params i (e ∷ past))
        (notice_founded scenario i e past) (timer_founded scenario i (e ∷ past))

    mute : (scenario : ScenarioParts) (i : ℕ) (past : List NoticeKind) → AreIdle past → relcan_effects scenario i past ≡ []
    mute scenario i [] idle = refl
    mute scenario i (e ∷ past) idle = rw (idle_at (e ∷ past) idle scenario.params.confirm, idle.0) refl

-- ---- a node that falls back

first_got_head : (x : Identity) (past : List NoticeKind) → is_first_got x past ≡ true → is_got x (slice_index_or past 0 Idle) ≡ true
first_got_head x [] h = absurd (false≢true h)
first_got_head x (e ∷ past) h = (and_parts (is_got x e) (not (has_copy x past)) h).0

first_got_at : (x : Identity) (n : ℕ) (past : List NoticeKind) → is_first_got x (drop n past) ≡ true → is_got x (slice_index_or past n Idle) ≡ true
first_got_at x n past h =
    ap (λ e. is_got x e) (sym (get_or-drop n past 0 Idle ∙ ap (λ k. slice_index_or past k Idle) (add-zero n))) ∙ first_got_head x (drop n past) h

fall_back_asks : (p : Parameters) (i : ℕ) (x : Identity) (past : List NoticeKind) (f : FrameParts) → x ≡ identity_of f → falls_back p.confirm i x past ≡ true
    → Among (Asks x) (fall_back_effects p i past (Got f)) ⊎ (p.omit < copies x past)
fall_back_asks p i x past f e falls = elim (cases_Bool (has_enough p.omit x past)) [
  | inl many ↦ inr (omega (arith, leb-true (p.omit + 1) (copies x past) many))
  | inr few ↦
      let test : (falls_back p.confirm i (identity_of f) past && not (has_enough p.omit (identity_of f) past)) ≡ true =
      subst (λ y. (falls_back p.confirm i y past && not (has_enough p.omit y past)) ≡ true) e
      (and_from (falls_back p.confirm i x past) (not (has_enough p.omit x past)) falls (not_from_false (has_enough p.omit x past) few)) in
      inl (rw test (inl e))
]

-- a node that falls back asks for the frame, unless the copies are enough
timer_asks : (p : Parameters) (i : ℕ) (x : Identity) (past : List NoticeKind) → falls_back p.confirm i x past ≡ true
    → Among (Asks x) (timer_effects p i past) ⊎ (p.omit < copies x past)
unfolding timer_effects
timer_asks p i x past falls =
    let g = is_got-true x (slice_index_or past p.confirm Idle) (first_got_at x p.confirm past (falls_first p.confirm i x past falls)) in
    subst (λ e. Among (Asks x) (fall_back_effects p i past e) ⊎ (p.omit < copies x past)) (sym g.was) (fall_back_asks p i x past g.what g.identity falls)

pub relcan_falls_back : (scenario : ScenarioParts) (i : ℕ) (x : Identity) (e : NoticeKind) (past : List NoticeKind)
    → falls_back scenario.params.confirm i x (e ∷ past) ≡ true
    → Among (Asks x) (relcan_effects scenario i (e ∷ past)) ⊎ (scenario.params.omit < copies x (e ∷ past))
unfolding relcan_effects
relcan_falls_back scenario i x e past falls = elim (timer_asks scenario.params i x (e ∷ past) falls) [
  | inl a ↦ inl (Among-append_right (Asks x) (relcan_at scenario.params i e past) (timer_effects scenario.params i (e ∷ past)) a)
  | inr many ↦ inr many
]

first_copied : (x : Identity) (past : List NoticeKind) → is_first_got x past ≡ true → 0 < copies x past
unfolding copies
first_copied x [] h = absurd (false≢true h)
first_copied x (e ∷ past) h = omega (arith, count-yes (is_got x) e past (and_parts (is_got x e) (not (has_copy x past)) h).0)

falls_copied : (timer i : ℕ) (x : Identity) (past : List NoticeKind) → falls_back timer i x past ≡ true → 0 < copies x past
unfolding copies
falls_copied timer i x past falls =
    omega (arith, first_copied x (drop timer past) (falls_first timer i x past falls), count-drop (is_got x) timer past)

-- a node that fell back has read a copy
pub fell_copies : (timer i : ℕ) (x : Identity) (past : List NoticeKind) → fell_back timer i x past ≡ true → 0 < copies x past
unfolding fell_back copies
fell_copies timer i x [] h = absurd (false≢true h)
fell_copies timer i x (e ∷ past) h = elim (or_cases (falls_back timer i x (e ∷ past)) (fell_back timer i x past) h) [
  | inl now ↦ falls_copied timer i x (e ∷ past) now
  | inr before ↦ omega (arith, fell_copies timer i x past before, count-grows (is_got x) e past)
]

-- and stays one that did
pub fell_stays : (timer i : ℕ) (x : Identity) (e : NoticeKind) (past : List NoticeKind) → fell_back timer i x past ≡ true
    → fell_back timer i x (e ∷ past) ≡ true
unfolding fell_back
fell_stays timer i x e past h = or_right (falls_back timer i x (e ∷ past)) (fell_back timer i x past) h

fell_now : (timer i : ℕ) (x : Identity) (e : NoticeKind) (past : List NoticeKind) → falls_back timer i x (e ∷ past) ≡ true
    → fell_back timer i x (e ∷ past) ≡ true
unfolding fell_back
fell_now timer i x e past h = or_left (falls_back timer i x (e ∷ past)) (fell_back timer i x past) h

-- ---- what it asks for

-- a data frame is asked for only by a node that falls back
abbrev AsksLate : ℕ → ℕ → List NoticeKind → Effect → Type 0
AsksLate timer i past = AsksOnly (λ f. f.class ≡ class.Rel → falls_back timer i (identity_of f) past ≡ true)

delivery_late : (timer i : ℕ) (f : FrameParts) (e : NoticeKind) (past now : List NoticeKind) → AllByRecursion (AsksLate timer i now) (delivery_effects Rel i f e past)
unfolding delivery_effects
delivery_late timer i f e past now = cond_both (is_delivery i f e past) _ [] (AllByRecursion (AsksLate timer i now)) (λ _. (tt, tt)) (λ _. tt)

copy_late : (p : Parameters) (i : ℕ) (f : FrameParts) (past now : List NoticeKind) → AllByRecursion (AsksLate p.confirm i now) (late_copy_effects p i f past)
copy_late p i f past now =
    cond_both (fell_back p.confirm i (identity_of f) past && has_enough p.omit (identity_of f) (Got f ∷ past)) (Withdraw (identity_of f) ∷ []) []
    (AllByRecursion (AsksLate p.confirm i now)) (λ _. (tt, tt)) (λ _. tt)

confirm_late : (timer i : ℕ) (f : FrameParts) (now : List NoticeKind) → AllByRecursion (AsksLate timer i now) (confirm_effects i f)
confirm_late timer i f now =
    cond_both (f.node == i) (Ask (confirm_frame f) ∷ []) [] (AllByRecursion (AsksLate timer i now)) (λ _. ((λ same. absurd (cc)), tt)) (λ _. tt)

notice_late : (p : Parameters) (i : ℕ) (e : NoticeKind) (past now : List NoticeKind) → AllByRecursion (AsksLate p.confirm i now) (relcan_at p i e past)
unfolding relcan_at
notice_late p i Idle past now = tt
notice_late p i Bad past now = tt
notice_late p i (Got f) past now =
    cond_both (same_class f.class class.Rel) _ [] (AllByRecursion (AsksLate p.confirm i now))
    (λ _. Each-append (AsksLate p.confirm i now) (delivery_effects Rel i f (Got f) past) (late_copy_effects p i f past)
    (delivery_late p.confirm i f (Got f) past now) (copy_late p i f past now))
    (λ _. tt)
notice_late p i (Sent f) past now =
    cond_both (same_class f.class class.Rel) _ [] (AllByRecursion (AsksLate p.confirm i now))
    (λ _. Each-append (AsksLate p.confirm i now) (delivery_effects Rel i f (Sent f) past) (confirm_effects i f)
    (delivery_late p.confirm i f (Sent f) past now) (confirm_late p.confirm i f now))
    (λ _. tt)

fall_back_late : (p : Parameters) (i : ℕ) (past : List NoticeKind) (e : NoticeKind) → AllByRecursion (AsksLate p.confirm i past) (fall_back_effects p i past e)
fall_back_late p i past Idle = tt
fall_back_late p i past Bad = tt
fall_back_late p i past (Sent f) = tt
fall_back_late p i past (Got f) =
    cond_both (falls_back p.confirm i (identity_of f) past && not (has_enough p.omit (identity_of f) past)) (Ask f ∷ []) []
    (AllByRecursion (AsksLate p.confirm i past))
    (λ asks. ((λ _. (and_parts (falls_back p.confirm i (identity_of f) past) (not (has_enough p.omit (identity_of f) past)) asks).0), tt))
    (λ _. tt)

relcan_late : (scenario : ScenarioParts) (i : ℕ) (e : NoticeKind) (past : List NoticeKind)
    → AllByRecursion (AsksLate scenario.params.confirm i (e ∷ past)) (relcan_effects scenario i (e ∷ past))
unfolding relcan_effects timer_effects
relcan_late scenario i e past =
    Each-append (AsksLate scenario.params.confirm i (e ∷ past)) (relcan_at scenario.params i e past) (timer_effects scenario.params i (e ∷ past))
    (notice_late scenario.params i e past (e ∷ past))
    (fall_back_late scenario.params i (e ∷ past) (slice_index_or (e ∷ past) scenario.params.confirm Idle))

late_ask : (timer i : ℕ) (past : List NoticeKind) (x : Identity) (e : Effect) → x.class ≡ class.Rel → Asks x e → AsksLate timer i past e
    → falls_back timer i x past ≡ true
late_ask timer i past x (Ask f) rel h late =
    ap (λ y. falls_back timer i y past) h ∙ late (sym (ap (λ (y : Identity). y.class) h) ∙ rel)
late_ask timer i past x (Withdraw y) rel h late = absurd h
late_ask timer i past x (Enter entry) rel h late = absurd h

-- a node that asks for a data frame falls back in this turn
pub relcan_asks : (scenario : ScenarioParts) (i : ℕ) (x : Identity) (past : List NoticeKind) → x.class ≡ class.Rel
    → Among (Asks x) (relcan_effects scenario i past) → fell_back scenario.params.confirm i x past ≡ true
unfolding relcan_effects
relcan_asks scenario i x [] rel h = absurd h
relcan_asks scenario i x (e ∷ past) rel h =
    fell_now scenario.params.confirm i x e past
    (Among-gives (λ a. Asks x a × AsksLate scenario.params.confirm i (e ∷ past) a) (falls_back scenario.params.confirm i x (e ∷ past) ≡ true)
    (λ a both. late_ask scenario.params.confirm i (e ∷ past) x a rel both.0 both.1) (relcan_effects scenario i (e ∷ past))
    (Among-with (Asks x) (AsksLate scenario.params.confirm i (e ∷ past)) (relcan_effects scenario i (e ∷ past)) (relcan_late scenario i e past) h))
