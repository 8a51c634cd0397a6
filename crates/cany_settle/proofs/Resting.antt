-- From an idle slot on that comes long after the last load: no running node waits with a frame of a
-- message, and each has asked for all of its backlog.
use Rattle.std.proofs.Common.{◌≡◌, ℕ, zero, suc, ◌+◌, ◌-◌, ◌<◌, ◌≤◌, inl, inr, true, false, List, [], ◌∷◌, length, drop, take, slice_index_or, None, refl, ap, sym, ◌∙◌, subst, arith, length-drop, nat_lt}
use Rattle.std.specs.List.{AllByRecursion, list_any}
use Rattle.std.proofs.lemmas.Bool.{cond_both, false_from_ne_true, false≢true, ltb-false, ltb-true, or_right}
use Rattle.std.proofs.lemmas.List.{length-map}
use Rattle.cany_base.specs.declared.message.MsgKey.{MsgKey}
use Rattle.cany_base.specs.declared.notice.NoticeKind.{NoticeKind}
use Rattle.cany_base.specs.declared.notice.NoticeKind.TheVariants.{Idle, Got, Sent, Bad}
use Rattle.cany_base.specs.declared.slot_note.SlotNote.{SlotNote}
use Rattle.cany_base.specs.Frame.{FrameParts}
use Rattle.cany_base.specs.Params.{Parameters}
use Rattle.cany_base.specs.Scenario.{ScenarioParts}
use Rattle.cany_model.specs.Bus.History.{given, has_own, is_sent, seen}
use Rattle.cany_model.specs.Bus.State.{Incarnation, NodeState}
use Rattle.cany_model.specs.Rules.Backlog.{asked, backlog}
use Rattle.cany_model.specs.Rules.Effect.{waiting_after}
use Rattle.cany_model.specs.Rules.Messages.{Message, data_id, messages_of}
use Rattle.cany_model.specs.Rules.Totcan.{is_recent, tot_of_key}
use Rattle.cany_model.specs.Rules.Turn.{scenario_for, turn_effects}
use Rattle.cany_model.proofs.Bus.Notes.{given-Got, given-Sent}
use Rattle.cany_model.proofs.Bus.Seen.{length-seen}
use Rattle.cany_model.proofs.Bus.States.{note_at}
use Rattle.cany_model.proofs.Rules.Services.BacklogFacts.{asked-few}
use Rattle.cany_model.proofs.Rules.Services.MessageKeys.{IsOneOf}
use Rattle.cany_model.proofs.Rules.Waits.{Each-after}
use Rattle.cany_model.proofs.Timed.Common.Ages.{any_take, at_past, gave, past, some_past}
use Rattle.cany_model.proofs.Timed.Common.SeenAges.{from_seen}
use Rattle.cany_model.proofs.Timed.Order.TotBacklog.{at_place}
use Rattle.cany_model.proofs.Timed.Order.TotRun.{past_next}
use Rattle.cany_model.proofs.Timed.Order.TotTurn.{AreNumbered}
use Rattle.cany_settle.specs.LastEvent.{greater, is_lower_slot}
use Rattle.cany_settle.specs.LongEnough.{settling_time}
use Rattle.cany_settle.proofs.Asked.{all_asked}
use Rattle.cany_settle.proofs.Backlogs.{AskedForUnsent, BacklogKept, place_id, planned_at}
use Rattle.cany_settle.proofs.Turns.{AllAsked, AreAllBefore, IsOther, all_asked_on, holds_low, is_low, not_recent, turn_others}

-- ---- the times

pub greater-left : (a b : ℕ) → a ≤ greater a b
greater-left a b = cond_both (nat_lt a b) b a (λ c. a ≤ c) (λ less. omega (arith, ltb-true a b less)) (λ _. omega arith)

pub greater-right : (a b : ℕ) → b ≤ greater a b
greater-right a b = cond_both (nat_lt a b) b a (λ c. b ≤ c) (λ _. omega arith) (λ more. omega (arith, ltb-false a b more))

-- ---- no frame of a lower class after a slot

abbrev pub NoLowerSlotAfter : ℕ → List SlotNote → Type 0
NoLowerSlotAfter last T = (q : ℕ) → is_lower_slot (note_at T q) ≡ true → (note_at T q).slot ≤ last

-- each message is scripted by then
abbrev pub AreScriptedBy : ℕ → ScenarioParts → Type 0
AreScriptedBy last scenario = (m : Message) → IsOneOf (messages_of scenario.sends) m → m.slot ≤ last

low_given : (i : ℕ) (note : SlotNote) → is_low (given i note) ≡ true → is_lower_slot note ≡ true
low_given i note h = by_notice (given i note) refl
  where
    by_notice : (e : NoticeKind) → given i note ≡ e → is_lower_slot note ≡ true
    by_notice Idle is = absurd (false≢true (rw is at h))
    by_notice Bad is = absurd (false≢true (rw is at h))
    by_notice (Got f) is = rw (given-Got i note f is).0 (sym (ap is_low is) ∙ h)
    by_notice (Sent f) is = rw (given-Sent i note f is).0 (sym (ap is_low is) ∙ h)

pub lower_there : (T : List SlotNote) (q : ℕ) → is_lower_slot (note_at T q) ≡ true → q < length T
lower_there [] q h = absurd (false≢true h)
lower_there (note ∷ T) zero h = omega arith
lower_there (note ∷ T) (suc q) h = omega (arith, lower_there T q h)

never_idle : (note : SlotNote) → note.frame ≡ None → is_lower_slot note ≡ true → ⊥
never_idle note none h = false≢true (rw none at h)

-- a notice of a frame of a lower class is that of a slot up to there
pub low_at : (last i : ℕ) (inc : Incarnation) (T : List SlotNote) (q : ℕ) → AreNumbered T → NoLowerSlotAfter last T → is_low (gave i (seen inc T) q) ≡ true
    → (q < length T) × (length T ≤ last + suc q)
low_at last i inc T q numbered no_lower h =
    let lower : is_lower_slot (note_at T q) ≡ true =
    (from_seen (λ note. is_lower_slot note ≡ true) never_idle inc T q (low_given i (note_at (seen inc T) q) h)).1 in
    let there = lower_there T q lower in
    let number = numbered q there in
    let early = no_lower q lower in
    (there, omega (arith, there, number, early))

-- ---- at rest

-- Of a running node whose incarnation follows the scenario and sees the trace T, of which it has
-- not read the u newest slots, and that waits with W.
pub record IsResting (scenario : ScenarioParts) (i last : ℕ) (T : List SlotNote) (u : ℕ) (W : List FrameParts) : Type 0 where
  pub read : last + settling_time scenario.params + u < length T
  pub waits : AllByRecursion IsOther W
  pub asked : AllAsked scenario i (past i T u)

abbrev pub Resting : ScenarioParts → ℕ → List SlotNote → ℕ → NodeState → Type 0
Resting scenario last T i node = IsResting (scenario_for scenario node.present) i last T node.unread node.waiting

module _ (scenario : ScenarioParts) (i last : ℕ) (inc : Incarnation) (T : List SlotNote) (numbered : AreNumbered T) (no_lower : NoLowerSlotAfter last T) where
  abbrev S : List SlotNote
  S = seen inc T

  abbrev p : Parameters
  p = scenario.params

  -- of notices that lie so far back from the end that all of them come later, none is of a lower
  -- class
  pub none_low : (slots u : ℕ) → last + slots + u < length T → list_any is_low (take slots (past i S u)) ≡ false
  none_low slots u late = false_from_ne_true (list_any is_low (take slots (past i S u))) (λ h.
      let q = any_take is_low i slots u S h in
      let low = low_at last i inc T q.0 numbered no_lower q.3 in
      omega (arith, q.1, q.2, low.0, low.1, late))

  plain_at : (q : ℕ) → last + suc q < length T → is_low (gave i S q) ≡ false
  plain_at q late = false_from_ne_true (is_low (gave i S q)) (λ h. let low = low_at last i inc T q numbered no_lower h in omega (arith, low.1, late))

  -- a turn leaves it so
  pub rests_on : AreScriptedBy last scenario → (u left : ℕ) (W : List FrameParts) → u ≡ suc left → u ≤ length T → IsResting scenario i last S u W
      → IsResting scenario i last S left (waiting_after (turn_effects scenario i (gave i S left ∷ past i S u)) W)
  rests_on scripted u left W next short h =
      let size : length S ≡ length T = length-seen inc T in
      let a = greater-left p.confirm (p.bound + p.lag) in
      let b = greater-right p.confirm (p.bound + p.lag) in
      let read = h.read in
      let now : past i S left ≡ gave i S left ∷ past i S u =
      past_next i S left (omega (arith, next, short, size)) ∙ ap (λ v. gave i S left ∷ past i S v) (sym next) in
      let timer : slice_index_or (gave i S left ∷ past i S u) p.confirm Idle ≡ gave i S (left + p.confirm) =
      ap (λ (l : List NoticeKind). slice_index_or l p.confirm Idle) (sym now) ∙ at_past i p.confirm left S in
      let before : AreAllBefore scenario (length (past i S u)) =
      λ m is. let early = scripted m is in let size_past = length_past u in omega (arith, early, size_past, read, size) in
      record {
        read = omega (arith, next, read);
        waits = Each-after IsOther (turn_effects scenario i (gave i S left ∷ past i S u)) W
            (turn_others scenario i (gave i S left) (past i S u)
            (plain_at left (omega (arith, next, read, size)))
            (none_low p.bound u (omega (arith, read, size, b)))
            (ap is_low timer ∙ plain_at (left + p.confirm) (omega (arith, next, read, size, a)))
            before h.asked)
            h.waits;
        asked = subst (AllAsked scenario i) (sym now) (all_asked_on scenario i (gave i S left) (past i S u) before h.asked);
      }
    where
      length_past : (u : ℕ) → length (past i S u) ≡ length S - u
      length_past u = length-map (drop u S) (given i) ∙ length-drop u S

  -- where nothing waits, each message that was asked for was read as sent
  own_read : (u : ℕ) → last + settling_time p + u < length T → BacklogKept scenario i S (past i S u) [] → (j : ℕ) → j < asked scenario i (past i S u)
      → has_own (data_id (at_place (backlog scenario i (past i S u)) j)) (past i S u) ≡ true
  unfolding has_own
  own_read u late kept j below = elim (kept.sent j below) [
    | inl waiting ↦ absurd (false≢true waiting)
    | inr sent ↦
        let m : MsgKey = planned_at scenario i (past i S u) j in
        let few = asked-few scenario i (past i S u) in
        let low = low_at last i inc T sent.0 numbered no_lower (holds_low m (gave i S sent.0) (or_right _ (is_sent (tot_of_key m) (gave i S sent.0)) sent.1)) in
        ap (λ x. list_any (is_sent x) (past i S u)) (place_id scenario i (past i S u) j (omega (arith, below, few)))
        ∙ some_past (is_sent (tot_of_key m)) i u sent.0 S refl (omega (arith, late, low.1)) sent.1
  ]

  -- so all of the backlog was asked for
  pub all_asked_idle : (u : ℕ) → last + settling_time p + u < length T → BacklogKept scenario i S (past i S u) [] → AllAsked scenario i (past i S u)
  all_asked_idle u late kept =
      let size : length S ≡ length T = length-seen inc T in
      let b = greater-right p.confirm (p.bound + p.lag) in
      let now : past i S u ≡ gave i S u ∷ past i S (suc u) = past_next i S u (omega (arith, late, size)) in
      let old : (key : MsgKey) → is_recent (p.bound + p.lag) key (past i S u) ≡ false =
      λ key. not_recent (p.bound + p.lag) key (past i S u) (none_low (p.bound + p.lag) u (omega (arith, late, b))) in
      subst (AllAsked scenario i) (sym now)
      (all_asked scenario i (gave i S u) (past i S (suc u))
      (subst (λ (l : List NoticeKind). (j : ℕ) → j < asked scenario i l → has_own (data_id (at_place (backlog scenario i l) j)) l ≡ true) now (own_read u late kept))
      (subst (λ (l : List NoticeKind). (key : MsgKey) → is_recent (p.bound + p.lag) key l ≡ false) now old)
      (subst (AskedForUnsent scenario i) now kept.unsent))
