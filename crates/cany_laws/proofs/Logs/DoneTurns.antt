-- A turn in which no frame of a message is asked for, once it was dealt with: nothing of it is
-- ahead at the node, its notice brings no frame of it, its scripted slot was read, and its origin
-- has asked for it or came too late.
use Rattle.std.proofs.Common.{◌≡◌, ℕ, zero, suc, ◌+◌, ◌<◌, ◌≤◌, ◌&&◌, ◌==◌, ◌⊎◌, inl, inr, Bool, true, false, not, List, [], ◌∷◌, ◌++◌, filter, map, length, take, drop, slice_index_or, Option, Some, None, refl, ap, sym, ◌∙◌, subst, arith, length-drop}
use Rattle.std.specs.List.{AllByRecursion, list_any}
use Rattle.std.proofs.lemmas.Bool.{and_from, and_parts, and_right, both_ways, cond_both, eqb-true, false_from_ne_true, false≢true, not-true, not_from_false, or_cases, or_left, or_right}
use Rattle.std.proofs.lemmas.List.{get_or-drop, get_or-take}
use Rattle.cany_base.specs.declared.class.Class.TheVariants as class
use Rattle.cany_base.specs.declared.message.MsgKey.{MsgKey}
use Rattle.cany_base.specs.declared.message.Service.{Service}
use Rattle.cany_base.specs.declared.message.Service.TheVariants.{Ed, Rel, Tot}
use Rattle.cany_base.specs.declared.notice.NoticeKind.{NoticeKind}
use Rattle.cany_base.specs.declared.notice.NoticeKind.TheVariants.{Idle, Got, Sent, Bad}
use Rattle.cany_base.specs.Frame.{FrameParts, data_class}
use Rattle.cany_base.specs.Scenario.{ScenarioParts}
use Rattle.cany_model.specs.Bus.Frames.{Identity, identity_of, is_of, same_class}
use Rattle.cany_model.specs.Bus.History.{is_got, is_sent}
use Rattle.cany_model.specs.Rules.Backlog.{ask_for, asked, backlog, backlog_effects, next_after}
use Rattle.cany_model.specs.Rules.Delivery.{delivery, delivery_effects, is_delivery}
use Rattle.cany_model.specs.Rules.Eager.{eager_effects, has_enough, is_first_copy}
use Rattle.cany_model.specs.Rules.Edcan.{edcan_at, edcan_effects}
use Rattle.cany_model.specs.Rules.Effect.{Effect, Ask, Withdraw, Enter}
use Rattle.cany_model.specs.Rules.Life.{failure_signs, life_signs}
use Rattle.cany_model.specs.Rules.Membership.{scripted_asks, vectors, views}
use Rattle.cany_model.specs.Rules.Messages.{Message, accept_of_key, confirm_of_key, data_frame, data_id, frames_of, is_service, message_key, messages_of}
use Rattle.cany_model.specs.Rules.Relcan.{confirm_effects, confirm_frame, fall_back_effects, falls_back, fell_back, has_confirm, has_copy, has_timer_ahead, is_first_got, is_timed, late_copy_effects, relcan_at, relcan_effects, timer_effects}
use Rattle.cany_model.specs.Rules.Sends.{is_sent_in, send_effects, sendable}
use Rattle.cany_model.specs.Rules.Totcan.{accept_effects, accept_frame, after_place, can_be_accepted, closing_effects, closing_of, delivered_now, has_closing_ahead, holds, is_recent, message_in, tot_delivery, tot_in, tot_of_key, totcan_effects}
use Rattle.cany_model.specs.Rules.Turn.{asks_for, has_asked, origin_effects, protocols, turn_effects}
use Rattle.cany_model.proofs.Among.{Among, Among-from_any, Among-place, Among-weaker, Each-append, Each-flat_map}
use Rattle.cany_model.proofs.Bus.Carried.{Has}
use Rattle.cany_model.proofs.Bus.Identities.{same_class-true, same_identity-true}
use Rattle.cany_model.proofs.Rules.Services.AskedFacts.{asked_of_backlog}
use Rattle.cany_model.proofs.Rules.Services.BacklogFacts.{HasJoined, asked-few, backlog_joined, next_is, next_joined}
use Rattle.cany_model.proofs.Rules.IdleBeforeTakingPart.{AreIdle, IsBegun, begun_copy}
use Rattle.cany_model.proofs.Rules.Site.LifeFacts.{failures_are_lawful, life_is_lawful}
use Rattle.cany_model.proofs.Rules.Services.MessageKeys.{IsOneOf, is_service-true, same_message}
use Rattle.cany_model.proofs.Rules.Services.MessageClasses.{data_of_message, is_of_message, others_of, request_other, same_other}
use Rattle.cany_model.proofs.Rules.ProtocolFacts.{is_data}
use Rattle.cany_model.proofs.Rules.Services.SendFacts.{is_sent_in-true, sendable_one}
use Rattle.cany_model.proofs.Rules.Site.VectorFacts.{vectors_are_lawful}
use Rattle.cany_model.proofs.Rules.Site.ViewFacts.{asks_are_lawful, views_are_lawful}
use Rattle.cany_model.proofs.Rules.Waits.{AsksOnly}
use Rattle.cany_model.proofs.Timed.Order.TotBacklog.{any_dropped, at_place, backlog_same, one_place, tot_id}
use Rattle.cany_model.proofs.Timed.Order.TotKept.{no_message}

-- ---- frames of the message

-- the frame is none of the message: not its data frame, nor one that confirms or accepts it
abbrev pub Free : Message → FrameParts → Type 0
Free m f = Among (λ x. x ≡ identity_of f) (frames_of m) → ⊥

-- the notice brings none
abbrev pub FreeNotice : Message → NoticeKind → Type 0
FreeNotice m e = (f : FrameParts) → Has f e → Free m f

-- what a notice brings that carries data is a message of the scenario
abbrev pub IsSourcedNotice : ScenarioParts → NoticeKind → Type 0
IsSourcedNotice scenario e =
    (f : FrameParts) → Has f e → is_data f.class ≡ true → (k : Message) × IsOneOf (messages_of scenario.sends) k × (data_frame k ≡ f)

class_of : (f : FrameParts) (x : Identity) → x ≡ identity_of f → x.class ≡ f.class
class_of f x h = ap (λ (y : Identity). y.class) h

other_free : (m : Message) (f : FrameParts) → is_of_message f.class ≡ false → Free m f
other_free m f other (inl h) = false≢true (sym other ∙ ap is_of_message (sym (class_of f (data_id m) h)) ∙ data_of_message m.service)
other_free m f other (inr (inl h)) = false≢true (sym other ∙ ap is_of_message (sym (class_of f (confirm_of_key (message_key m)) h)))
other_free m f other (inr (inr (inl h))) = false≢true (sym other ∙ ap is_of_message (sym (class_of f (accept_of_key (message_key m)) h)))
other_free m f other (inr (inr (inr never))) = never

not_confirm : (by : Service) → class.Confirm ≡ data_class by → ⊥
not_confirm Ed e = cc
not_confirm Rel e = cc
not_confirm Tot e = cc

not_accept : (by : Service) → class.Accept ≡ data_class by → ⊥
not_accept Ed e = cc
not_accept Rel e = cc
not_accept Tot e = cc

-- a message of the scenario whose data frame is one of these is the message itself
same_of : (scenario : ScenarioParts) (m k : Message) → IsOneOf (messages_of scenario.sends) m → IsOneOf (messages_of scenario.sends) k
    → Among (λ x. x ≡ data_id k) (frames_of m) → k ≡ m
same_of scenario m k mi ki (inl h) =
    same_message scenario.sends k m ki mi (sym (ap (λ (x : Identity). x.node) h)) (sym (ap (λ (x : Identity). x.number) h))
same_of scenario m k mi ki (inr (inl h)) = absurd (not_confirm k.service (ap (λ (x : Identity). x.class) h))
same_of scenario m k mi ki (inr (inr (inl h))) = absurd (not_accept k.service (ap (λ (x : Identity). x.class) h))
same_of scenario m k mi ki (inr (inr (inr never))) = absurd never

-- a frame that confirms or accepts a message that the notice brings is none of this one
answer_free : (scenario : ScenarioParts) (m : Message) (e : NoticeKind) (f g : FrameParts) → IsOneOf (messages_of scenario.sends) m → FreeNotice m e
    → IsSourcedNotice scenario e → Has f e → is_data f.class ≡ true → ((by : Service) → g.class ≡ data_class by → ⊥) → g.node ≡ f.node → g.number ≡ f.number → Free m g
answer_free scenario m e f g is free sourced has_f carries other node number h =
    let k = sourced f has_f carries in
    let key = named h in
    let same : k.0 ≡ m =
    same_message scenario.sends k.0 m k.1 is (ap (λ (x : FrameParts). x.node) k.2 ∙ sym node ∙ sym key.0) (ap (λ (x : FrameParts). x.number) k.2 ∙ sym number ∙ sym key.1) in
    free f has_f (inl (sym (ap data_id same) ∙ ap identity_of k.2))
  where
    named : Among (λ x. x ≡ identity_of g) (frames_of m) → (m.origin ≡ g.node) × (m.seq ≡ g.number)
    named (inl h) = absurd (other m.service (sym (class_of g (data_id m) h)))
    named (inr (inl h)) = (ap (λ (x : Identity). x.node) h, ap (λ (x : Identity). x.number) h)
    named (inr (inr (inl h))) = (ap (λ (x : Identity). x.node) h, ap (λ (x : Identity). x.number) h)
    named (inr (inr (inr never))) = absurd never

-- ---- protocols that ask for no frame of a message

abbrev AskFree : Message → List Effect → Type 0
AskFree m effects = AllByRecursion (AsksOnly (Free m)) effects

-- ---- deliveries and relays

delivery_free : (m : Message) (by : Service) (i : ℕ) (f : FrameParts) (e : NoticeKind) (before : List NoticeKind) → AskFree m (delivery_effects by i f e before)
unfolding delivery_effects
delivery_free m by i f e before =
    cond_both (is_delivery i f e before) (Enter (delivery (length before) by f) ∷ []) [] (AskFree m) (λ _. (tt, tt)) (λ _. tt)

eager_free : (m : Message) (omit : ℕ) (f : FrameParts) (past : List NoticeKind) → Free m f → AskFree m (eager_effects omit f past)
unfolding eager_effects
eager_free m omit f past free =
    cond_both (has_enough omit (identity_of f) past) (Withdraw (identity_of f) ∷ []) _ (AskFree m) (λ _. (tt, tt))
    (λ _. cond_both (is_first_copy (identity_of f) past) (Ask f ∷ []) [] (AskFree m) (λ _. (free, tt)) (λ _. tt))

-- ---- lists

any_left : {X : Type 0} (test : X → Bool) (n : ℕ) (xs : List X) → list_any test (drop n xs) ≡ true → list_any test xs ≡ true
any_left test zero xs h = h
any_left test (suc n) [] h = h
any_left test (suc n) (x ∷ xs) h = or_right (test x) (list_any test xs) (any_left test n xs h)

any_taken : {X : Type 0} (test : X → Bool) (n : ℕ) (xs : List X) → list_any test (take n xs) ≡ true → list_any test (take (suc n) xs) ≡ true
any_taken test zero [] h = h
any_taken test zero (x ∷ xs) h = absurd (false≢true h)
any_taken test (suc n) [] h = h
any_taken test (suc n) (x ∷ xs) h = elim (or_cases (test x) (list_any test (take n xs)) h) [
  | inl now ↦ or_left (test x) (list_any test (take (suc n) xs)) now
  | inr later ↦ or_right (test x) (list_any test (take (suc n) xs)) (any_taken test n xs later)
]

-- ---- what is ahead

-- nothing of the message is ahead at the node, and if it is its origin, it has asked for it or came
-- too late
pub record IsDone (scenario : ScenarioParts) (m : Message) (i : ℕ) (past : List NoticeKind) : Type 0 where
  pub timer : has_timer_ahead scenario m i past ≡ false
  pub closing : has_closing_ahead scenario m i past ≡ false
  pub asked : m.origin ≡ i → (has_asked scenario m i past ≡ true) ⊎ (m.slot < scenario.from)

-- what it brings is none of the message's frames
no_frame : (m : Message) (e : NoticeKind) → FreeNotice m e → (x : Identity) → Among (λ y. y ≡ x) (frames_of m) → (f : FrameParts) → Has f e → is_of x f ≡ false
no_frame m e free x among f has_f = false_from_ne_true (is_of x f) (λ h.
    free f has_f (Among-weaker (λ y. y ≡ x) (λ y. y ≡ identity_of f) (λ y e. e ∙ same_identity-true x (identity_of f) h) (frames_of m) among))

pub no_got : (m : Message) (e : NoticeKind) → FreeNotice m e → (x : Identity) → Among (λ y. y ≡ x) (frames_of m) → is_got x e ≡ false
no_got m Idle free x among = refl
no_got m Bad free x among = refl
no_got m (Sent f) free x among = refl
no_got m (Got f) free x among = no_frame m (Got f) free x among f (inl refl)

pub no_sent : (m : Message) (e : NoticeKind) → FreeNotice m e → (x : Identity) → Among (λ y. y ≡ x) (frames_of m) → is_sent x e ≡ false
no_sent m Idle free x among = refl
no_sent m Bad free x among = refl
no_sent m (Got f) free x among = refl
no_sent m (Sent f) free x among = no_frame m (Sent f) free x among f (inr refl)

pub no_holds : (m : Message) (e : NoticeKind) → FreeNotice m e → m.service ≡ Tot → holds (message_key m) e ≡ false
no_holds m e free tot =
    let among : Among (λ y. y ≡ tot_of_key (message_key m)) (frames_of m) = inl (tot_id m tot) in
    rw (no_got m e free (tot_of_key (message_key m)) among, no_sent m e free (tot_of_key (message_key m)) among) refl

-- a timer that is ahead after the turn was ahead before it
timer_before : (timer i : ℕ) (x : Identity) (e : NoticeKind) (past : List NoticeKind) → 0 < timer → is_got x e ≡ false
    → (is_timed i x && has_copy x (e ∷ past) && not (has_copy x (drop timer (e ∷ past))) && not (has_confirm x (e ∷ past))) ≡ true
    → (is_timed i x && has_copy x past && not (has_copy x (drop timer past)) && not (has_confirm x past)) ≡ true
timer_before zero i x e past some none h = absurd (omega (arith, some))
timer_before (suc t) i x e past some none h =
    let outer = and_parts (is_timed i x && has_copy x (e ∷ past) && not (has_copy x (drop t past))) (not (has_confirm x (e ∷ past))) h in
    let inner = and_parts (is_timed i x && has_copy x (e ∷ past)) (not (has_copy x (drop t past))) outer.0 in
    let first = and_parts (is_timed i x) (has_copy x (e ∷ past)) inner.0 in
    let copy : has_copy x past ≡ true = elim (or_cases (is_got x e) (has_copy x past) first.1) [ inl now ↦ absurd (both_ways (is_got x e) none now) | inr before ↦ before ] in
    let old : has_copy x (drop (suc t) past) ≡ false =
    false_from_ne_true (has_copy x (drop (suc t) past)) (λ k. both_ways (has_copy x (drop t past)) (not-true (has_copy x (drop t past)) inner.1) (any_dropped (is_got x) t past k)) in
    let unconfirmed : has_confirm x past ≡ false =
    false_from_ne_true (has_confirm x past) (λ k. both_ways (has_confirm x (e ∷ past)) (not-true (has_confirm x (e ∷ past)) outer.1) (or_right _ (has_confirm x past) k)) in
    and_from (is_timed i x && has_copy x past && not (has_copy x (drop (suc t) past))) (not (has_confirm x past))
    (and_from (is_timed i x && has_copy x past) (not (has_copy x (drop (suc t) past))) (and_from (is_timed i x) (has_copy x past) first.0 copy)
    (not_from_false (has_copy x (drop (suc t) past)) old)) (not_from_false (has_confirm x past) unconfirmed)

recent_before : (bound : ℕ) (key : MsgKey) (e : NoticeKind) (past : List NoticeKind) → 0 < bound → holds key e ≡ false
    → is_recent bound key (e ∷ past) ≡ true → is_recent bound key past ≡ true
unfolding is_recent
recent_before zero key e past some none h = absurd (omega (arith, some))
recent_before (suc b) key e past some none h = elim (or_cases (holds key e) (list_any (holds key) (take b past)) h) [
  | inl now ↦ absurd (both_ways (holds key e) none now)
  | inr before ↦ any_taken (holds key) b past before
]

-- an origin that has asked for it has asked for it
pub asked_on : (scenario : ScenarioParts) (m : Message) (i : ℕ) (e : NoticeKind) (past : List NoticeKind) → has_asked scenario m i past ≡ true
    → has_asked scenario m i (e ∷ past) ≡ true
unfolding has_asked
asked_on scenario m i e past h = or_right (list_any (asks_for (data_id m)) (origin_effects scenario i (e ∷ past))) (has_asked scenario m i past) h

pub done_next : (scenario : ScenarioParts) (m : Message) (i : ℕ) (e : NoticeKind) (past : List NoticeKind) → 0 < scenario.params.confirm → 0 < scenario.params.bound
    → FreeNotice m e → IsDone scenario m i past → IsDone scenario m i (e ∷ past)
done_next scenario m i e past confirm bound free done = record {
  timer = false_from_ne_true (has_timer_ahead scenario m i (e ∷ past)) (λ h.
      both_ways (has_timer_ahead scenario m i past) done.timer
      (timer_before scenario.params.confirm i (data_id m) e past confirm (no_got m e free (data_id m) (inl refl)) h));
  closing = false_from_ne_true (has_closing_ahead scenario m i (e ∷ past)) (λ h.
      let parts = and_parts (is_service m.service Tot) (can_be_accepted scenario.params.bound (message_key m) (e ∷ past)) h in
      both_ways (has_closing_ahead scenario m i past) done.closing
      (and_from (is_service m.service Tot) (can_be_accepted scenario.params.bound (message_key m) past) parts.0
      (recent_before scenario.params.bound (message_key m) e past bound (no_holds m e free (is_service-true m.service Tot parts.0)) parts.1)));
  asked = λ own. elim (done.asked own) [
    | inl yes' ↦ inl (asked_on scenario m i e past yes')
    | inr late ↦ inr late
  ];
}

-- ---- a turn

-- a node that has read only idle slots, none of which is one whose scripted asks are made, has
-- nothing of it ahead
recent_idle : (n : ℕ) (key : MsgKey) (past : List NoticeKind) → AreIdle past → list_any (holds key) (take n past) ≡ false
recent_idle zero key past idle = refl
recent_idle (suc n) key [] idle = refl
recent_idle (suc n) key (e ∷ past) idle = rw idle.0 (recent_idle n key past idle.1)

pub done_begun : (scenario : ScenarioParts) (m : Message) (i : ℕ) (past : List NoticeKind) → IsBegun scenario past → m.slot < scenario.from → IsDone scenario m i past
unfolding is_recent
done_begun scenario m i past begun late = record {
  timer = rw (begun_copy scenario (data_id m) past begun) (no_copy (is_timed i (data_id m)) (not (has_confirm (data_id m) past)));
  closing = rw (recent_idle scenario.params.bound (message_key m) past begun.idle) (and_right (is_service m.service Tot) false refl);
  asked = λ own. inr late;
}
  where
    no_copy : (timed confirmed : Bool) → (timed && false && not (has_copy (data_id m) (drop scenario.params.confirm past)) && confirmed) ≡ false
    no_copy true confirmed = refl
    no_copy false confirmed = refl

module _ (scenario : ScenarioParts) (m : Message) (is : IsOneOf (messages_of scenario.sends) m) (i : ℕ) (confirm : 0 < scenario.params.confirm) where
  -- EDCAN
  edcan_free : (e : NoticeKind) (before : List NoticeKind) → FreeNotice m e → AskFree m (edcan_effects scenario i (e ∷ before))
  unfolding edcan_effects edcan_at
  edcan_free Idle before free = tt
  edcan_free Bad before free = tt
  edcan_free (Got f) before free =
      cond_both (same_class f.class class.Ed) _ [] (AskFree m)
      (λ _. Each-append (AsksOnly (Free m)) (delivery_effects Ed i f (Got f) before) (eager_effects scenario.params.omit f (Got f ∷ before))
      (delivery_free m Ed i f (Got f) before) (eager_free m scenario.params.omit f (Got f ∷ before) (free f (inl refl)))) (λ _. tt)
  edcan_free (Sent f) before free =
      cond_both (same_class f.class class.Ed) _ [] (AskFree m) (λ _. delivery_free m Ed i f (Sent f) before) (λ _. tt)

  -- RELCAN
  relcan_notice : (e : NoticeKind) (before : List NoticeKind) → FreeNotice m e → IsSourcedNotice scenario e → AskFree m (relcan_at scenario.params i e before)
  unfolding relcan_at
  relcan_notice Idle before free sourced = tt
  relcan_notice Bad before free sourced = tt
  relcan_notice (Got f) before free sourced =
      cond_both (same_class f.class class.Rel) _ [] (AskFree m)
      (λ _. Each-append (AsksOnly (Free m)) (delivery_effects Rel i f (Got f) before) (late_copy_effects scenario.params i f before)
      (delivery_free m Rel i f (Got f) before)
      (cond_both (fell_back scenario.params.confirm i (identity_of f) before && _) (Withdraw (identity_of f) ∷ []) [] (AskFree m) (λ _. (tt, tt)) (λ _. tt)))
      (λ _. tt)
  relcan_notice (Sent f) before free sourced =
      cond_both (same_class f.class class.Rel) _ [] (AskFree m)
      (λ rel. Each-append (AsksOnly (Free m)) (delivery_effects Rel i f (Sent f) before) (confirm_effects i f)
      (delivery_free m Rel i f (Sent f) before)
      (cond_both (f.node == i) (Ask (confirm_frame f) ∷ []) [] (AskFree m)
      (λ _. (
        answer_free scenario m (Sent f) f (confirm_frame f) is free sourced (inr refl) (ap is_data (same_class-true f.class class.Rel rel)) not_confirm refl refl,
        tt,
      )) (λ _. tt)))
      (λ _. tt)

  -- where the timer of a message runs out, it was ahead
  first_copies : (x : Identity) (ys : List NoticeKind) → is_first_got x ys ≡ true → (has_copy x ys ≡ true) × (has_copy x (drop 1 ys) ≡ false)
  first_copies x [] h = absurd (false≢true h)
  first_copies x (e ∷ ys) h =
      let parts = and_parts (is_got x e) (not (has_copy x ys)) h in
      (or_left (is_got x e) (has_copy x ys) parts.0, not-true (has_copy x ys) parts.1)

  drop_one : (t : ℕ) (xs : List NoticeKind) → drop 1 (drop t xs) ≡ drop (suc t) xs
  drop_one zero xs = refl
  drop_one (suc t) [] = refl
  drop_one (suc t) (x ∷ xs) = drop_one t xs

  ran_out : (timer : ℕ) (x : Identity) (e : NoticeKind) (before : List NoticeKind) → 0 < timer → falls_back timer i x (e ∷ before) ≡ true
      → (is_timed i x && has_copy x before && not (has_copy x (drop timer before)) && not (has_confirm x before)) ≡ true
  ran_out zero x e before some h = absurd (omega (arith, some))
  ran_out (suc t) x e before some h =
      let outer = and_parts (is_timed i x && is_first_got x (drop t before)) (not (has_confirm x (e ∷ before))) h in
      let inner = and_parts (is_timed i x) (is_first_got x (drop t before)) outer.0 in
      let first = first_copies x (drop t before) inner.1 in
      let unconfirmed : has_confirm x before ≡ false =
      false_from_ne_true (has_confirm x before) (λ k. both_ways (has_confirm x (e ∷ before)) (not-true (has_confirm x (e ∷ before)) outer.1) (or_right _ (has_confirm x before) k)) in
      let old : has_copy x (drop (suc t) before) ≡ false = ap (has_copy x) (sym (drop_one t before)) ∙ first.1 in
      and_from (is_timed i x && has_copy x before && not (has_copy x (drop (suc t) before))) (not (has_confirm x before))
      (and_from (is_timed i x && has_copy x before) (not (has_copy x (drop (suc t) before)))
      (and_from (is_timed i x) (has_copy x before) inner.0 (any_left (is_got x) t before first.0))
      (not_from_false (has_copy x (drop (suc t) before)) old)) (not_from_false (has_confirm x before) unconfirmed)

  rel_free : (f : FrameParts) → f.class ≡ class.Rel → (data_id m ≡ identity_of f → ⊥) → Free m f
  rel_free f rel other (inl h) = other h
  rel_free f rel other (inr (inl h)) = let e : class.Confirm ≡ class.Rel = class_of f (confirm_of_key (message_key m)) h ∙ rel in cc
  rel_free f rel other (inr (inr (inl h))) = let e : class.Accept ≡ class.Rel = class_of f (accept_of_key (message_key m)) h ∙ rel in cc
  rel_free f rel other (inr (inr (inr never))) = never

  fall_back_free : (e : NoticeKind) (before : List NoticeKind) (first : NoticeKind) → IsDone scenario m i before
      → AskFree m (fall_back_effects scenario.params i (e ∷ before) first)
  fall_back_free e before Idle done = tt
  fall_back_free e before (Sent f) done = tt
  fall_back_free e before Bad done = tt
  fall_back_free e before (Got f) done =
      cond_both (falls_back scenario.params.confirm i (identity_of f) (e ∷ before) && _) (Ask f ∷ []) [] (AskFree m)
      (λ falls.
      let h = (and_parts (falls_back scenario.params.confirm i (identity_of f) (e ∷ before)) _ falls).0 in
      let timed = (and_parts (is_timed i (identity_of f)) (is_first_got (identity_of f) (drop scenario.params.confirm (e ∷ before)))
      (and_parts (is_timed i (identity_of f) && is_first_got (identity_of f) (drop scenario.params.confirm (e ∷ before)))
      (not (has_confirm (identity_of f) (e ∷ before))) h).0).0 in
      let rel = same_class-true f.class class.Rel (and_parts (same_class f.class class.Rel) (not (f.node == i)) timed).0 in (
        rel_free f rel (λ same. both_ways (has_timer_ahead scenario m i before) done.timer
            (ran_out scenario.params.confirm (data_id m) e before confirm (subst (λ x. falls_back scenario.params.confirm i x (e ∷ before) ≡ true) (sym same) h))),
        tt,
      ))
      (λ _. tt)

  relcan_free : (e : NoticeKind) (before : List NoticeKind) → FreeNotice m e → IsSourcedNotice scenario e → IsDone scenario m i before
      → AskFree m (relcan_effects scenario i (e ∷ before))
  unfolding relcan_effects timer_effects
  relcan_free e before free sourced done =
      Each-append (AsksOnly (Free m)) (relcan_at scenario.params i e before) (timer_effects scenario.params i (e ∷ before))
      (relcan_notice e before free sourced)
      (fall_back_free e before (slice_index_or (e ∷ before) scenario.params.confirm Idle) done)

  -- TOTCAN
  accept_free : (e : NoticeKind) (before : List NoticeKind) → FreeNotice m e → IsSourcedNotice scenario e → AskFree m (accept_effects scenario.params i e before)
  unfolding accept_effects
  accept_free Idle before free sourced = tt
  accept_free Bad before free sourced = tt
  accept_free (Got f) before free sourced =
      cond_both (same_class f.class class.Accept && _) _ [] (AskFree m)
      (λ _. eager_free m scenario.params.omit f (after_place (message_in f) (Got f ∷ before)) (free f (inl refl))) (λ _. tt)
  accept_free (Sent f) before free sourced =
      cond_both (same_class f.class class.Tot && f.node == i) (Ask (accept_frame f) ∷ []) [] (AskFree m)
      (λ own. (
        answer_free scenario m (Sent f) f (accept_frame f) is free sourced (inr refl)
            (ap is_data (same_class-true f.class class.Tot (and_parts (same_class f.class class.Tot) (f.node == i) own).0)) not_accept refl refl,
        tt,
      )) (λ _. tt)

  closing_free : (bound : ℕ) (past : List NoticeKind) (o : Option FrameParts) → AskFree m (closing_of bound past o)
  closing_free bound past None = tt
  closing_free bound past (Some f) = cond_both (can_be_accepted bound (message_in f) past) [] _ (AskFree m) (λ _. tt) (λ _. (tt, tt))

  deliveries_free : (slot : ℕ) (frames : List FrameParts) → AskFree m (map (tot_delivery slot) frames)
  deliveries_free slot [] = tt
  deliveries_free slot (f ∷ frames) = (tt, deliveries_free slot frames)

  totcan_free : (e : NoticeKind) (before : List NoticeKind) → FreeNotice m e → IsSourcedNotice scenario e → AskFree m (totcan_effects scenario i (e ∷ before))
  unfolding totcan_effects closing_effects
  totcan_free e before free sourced =
      let accept : List Effect = accept_effects scenario.params i e before in
      let closing : List Effect = closing_of scenario.params.bound (e ∷ before) (tot_in (slice_index_or (e ∷ before) scenario.params.bound Idle)) in
      let deliveries : List Effect = map (tot_delivery (length before)) (delivered_now scenario.params i (e ∷ before)) in
      Each-append (AsksOnly (Free m)) (accept ++ closing) deliveries
      (Each-append (AsksOnly (Free m)) accept closing (accept_free e before free sourced)
      (closing_free scenario.params.bound (e ∷ before) (tot_in (slice_index_or (e ∷ before) scenario.params.bound Idle))))
      (deliveries_free (length before) (delivered_now scenario.params i (e ∷ before)))

  -- the scripted sends
  sent_free : (slot : ℕ) → m.slot < slot → (messages : List Message) → ((k : Message) → IsOneOf messages k → IsOneOf (messages_of scenario.sends) k)
      → AskFree m (map (λ k. Ask (data_frame k)) (filter (is_sent_in i slot) messages))
  sent_free slot late [] are = tt
  sent_free slot late (k ∷ messages) are =
      let rest = sent_free slot late messages (λ n h. are n (inr h)) in
      cond_both (is_sent_in i slot k) (k ∷ filter (is_sent_in i slot) messages) (filter (is_sent_in i slot) messages)
      (λ kept. AskFree m (map (λ n. Ask (data_frame n)) kept))
      (λ sent. (
        λ h.
            let same = same_of scenario m k is (are k (inl refl)) h in
            let at = (is_sent_in-true i slot k sent).at in
            let slots : k.slot ≡ m.slot = ap (λ (n : Message). n.slot) same in
            omega (arith, late, at, slots),
        rest,
      )) (λ _. rest)

  sends_free : (e : NoticeKind) (before : List NoticeKind) → m.slot < length before → AskFree m (send_effects scenario i (e ∷ before))
  unfolding send_effects
  sends_free e before late = sent_free (length before) late (sendable scenario (length before)) (λ k h. (sendable_one scenario (length before) k h).0)

  -- the backlog: the message is not next once it was asked for
  next_place : (e : NoticeKind) (before : List NoticeKind) (k : Message)
      → next_after scenario.params (e ∷ before) (backlog scenario i (e ∷ before)) (asked scenario i before) ≡ Some k
      → (asked scenario i before < length (backlog scenario i (e ∷ before))) × (at_place (backlog scenario i (e ∷ before)) (asked scenario i before) ≡ k)
  next_place e before k h =
      let n : ℕ = asked scenario i before in
      let all : List Message = backlog scenario i (e ∷ before) in
      let w = next_is scenario.params (e ∷ before) (take n all) (drop n all) k h in
      let long : length (drop n all) ≡ length (k ∷ w.0) = ap length w.1 in
      let at : slice_index_or (drop n all) 0 no_message ≡ k = ap (λ l. slice_index_or l 0 no_message) w.1 in
      let place : n + 0 ≡ n = omega arith in
      (omega (arith, long, length-drop n all), ap (at_place all) (sym place) ∙ sym (get_or-drop n all 0 no_message) ∙ at)

  not_next : (e : NoticeKind) (before : List NoticeKind) → m.origin ≡ i → has_asked scenario m i before ≡ true → m.service ≡ Tot
      → next_after scenario.params (e ∷ before) (backlog scenario i (e ∷ before)) (asked scenario i before) ≡ Some m → ⊥
  not_next e before own asked_for tot next =
      let n : ℕ = asked scenario i before in
      let was : List Message = backlog scenario i before in
      let w = Among-place (λ k. (k.seq == m.seq) ≡ true) no_message 0 (take n was)
      (Among-from_any (λ k. k.seq == m.seq) (take n was) (sym (asked_of_backlog scenario m i before tot own) ∙ asked_for)) in
      let few = asked-few scenario i before in
      let size : length (take n was) ≤ n = length_taken n was in
      let below : w.0 < n = omega (arith, w.2, size) in
      let at : at_place (take n was) w.0 ≡ at_place was w.0 = get_or-take n was w.0 no_message below in
      let joined : HasJoined scenario i (length before) (at_place was w.0) = each_at was w.0 (omega (arith, below, few)) (backlog_joined scenario i before) in
      let seq : (at_place was w.0).seq ≡ m.seq = ap (λ (k : Message). k.seq) (sym at) ∙ eqb-true (at_place (take n was) w.0).seq m.seq w.3 in
      let same : at_place was w.0 ≡ m = same_message scenario.sends (at_place was w.0) m joined.stands is (joined.origin ∙ sym own) seq in
      let place = next_place e before m next in
      one_place scenario i (e ∷ before) w.0 n below place.0
      (ap data_id (backlog_same scenario i e before w.0 (omega (arith, below, few)) ∙ same ∙ sym place.1))
    where
      each_at : (messages : List Message) (k : ℕ) → k < length messages → AllByRecursion (HasJoined scenario i (length before)) messages
          → HasJoined scenario i (length before) (at_place messages k)
      each_at [] k below all = absurd (omega (arith, below))
      each_at (first ∷ messages) zero below all = all.0
      each_at (first ∷ messages) (suc k) below all = each_at messages k (omega (arith, below)) all.1

      length_taken : (n : ℕ) (xs : List Message) → length (take n xs) ≤ n
      length_taken zero xs = omega arith
      length_taken (suc n) [] = omega arith
      length_taken (suc n) (x ∷ xs) = omega (arith, length_taken n xs)

  backlog_free : (e : NoticeKind) (before : List NoticeKind) → IsDone scenario m i before → AskFree m (backlog_effects scenario i (e ∷ before))
  unfolding backlog_effects
  backlog_free e before done =
      by_next (next_after scenario.params (e ∷ before) (backlog scenario i (e ∷ before)) (asked scenario i before)) refl
    where
      by_next : (o : Option Message) → next_after scenario.params (e ∷ before) (backlog scenario i (e ∷ before)) (asked scenario i before) ≡ o → AskFree m (ask_for o)
      by_next None next = tt
      by_next (Some k) next = (
        λ h.
            let joined = next_joined scenario i e before k next in
            let same = same_of scenario m k is joined.stands h in
            let own : m.origin ≡ i = sym (ap (λ (n : Message). n.origin) same) ∙ joined.origin in
            let slots : k.slot ≡ m.slot = ap (λ (n : Message). n.slot) same in
            elim (done.asked own) [
              | inl asked_for ↦ not_next e before own asked_for (sym (ap (λ (n : Message). n.service) same) ∙ joined.tot) (next ∙ ap (λ n. Some n) same)
              | inr late ↦ let begun = joined.late in omega (arith, late, begun, slots)
            ],
        tt,
      )

  -- all of it
  pub turn_free : (e : NoticeKind) (before : List NoticeKind) → FreeNotice m e → IsSourcedNotice scenario e → m.slot < length before → IsDone scenario m i before
      → AllByRecursion (AsksOnly (Free m)) (turn_effects scenario i (e ∷ before))
  unfolding turn_effects
  turn_free e before free sourced late done =
      let past : List NoticeKind = e ∷ before in
      Each-flat_map (λ p. p.effects scenario i past) (AsksOnly (Free m)) protocols (
        edcan_free e before free,
        (
          relcan_free e before free sourced done,
          (
            totcan_free e before free sourced,
            (
              others_of (Free m) (other_free m) failure_signs (λ c h. same_other c class.Fda refl h) scenario i past failures_are_lawful,
              (
                others_of (Free m) (other_free m) vectors (λ c h. same_other c class.Rha refl h) scenario i past vectors_are_lawful,
                (
                  others_of (Free m) (other_free m) views request_other scenario i past views_are_lawful,
                  (
                    others_of (Free m) (other_free m) life_signs (λ c h. same_other c class.Els refl h) scenario i past life_is_lawful,
                    (
                      sends_free e before late,
                      (others_of (Free m) (other_free m) scripted_asks request_other scenario i past asks_are_lawful, (backlog_free e before done, tt)),
                    ),
                  ),
                ),
              ),
            ),
          ),
        ),
      )
