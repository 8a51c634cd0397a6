-- A turn in which no frame of a message is asked for: its notice, the one that may run out a timer,
-- and those within which a message can be accepted carry no frame of the lower classes, nothing is
-- scripted to be sent in it, and all of the backlog was asked for.
use Rattle.std.proofs.Common.{◌≡◌, ℕ, ◌<◌, ◌&&◌, ◌==◌, inl, inr, Bool, true, false, not, List, [], ◌∷◌, ◌++◌, filter, map, length, take, drop, slice_index_or, Option, Some, None, refl, ap, sym, ◌∙◌, arith, append-nil, cond}
use Rattle.std.specs.List.{AllByRecursion, list_any}
use Rattle.std.proofs.lemmas.Bool.{and_parts, both_ways, cond_both, eqb-true, false_from_ne_true, false≢true, or_cases, or_left, or_right}
use Rattle.cany_base.specs.declared.class.Class.{Class}
use Rattle.cany_base.specs.declared.class.Class.TheVariants as class
use Rattle.cany_base.specs.declared.message.MsgKey.{MsgKey}
use Rattle.cany_base.specs.declared.notice.NoticeKind.{NoticeKind}
use Rattle.cany_base.specs.declared.notice.NoticeKind.TheVariants.{Idle, Got, Sent, Bad}
use Rattle.cany_base.specs.declared.message.Service.TheVariants.{Tot}
use Rattle.cany_base.specs.Frame.{FrameParts}
use Rattle.cany_base.specs.Params.{Parameters}
use Rattle.cany_base.specs.Scenario.{ScenarioParts}
use Rattle.cany_model.specs.Bus.Frames.{Identity, identity_of, is_of, same_class}
use Rattle.cany_model.specs.Promises.Quiet.{is_top}
use Rattle.cany_model.specs.Rules.Backlog.{asked, backlog, backlog_effects, joins_in, next_after, next_of}
use Rattle.cany_model.specs.Rules.Edcan.{edcan_at, edcan_effects}
use Rattle.cany_model.specs.Rules.Effect.{Effect, Ask}
use Rattle.cany_model.specs.Rules.Life.{failure_signs, life_signs}
use Rattle.cany_model.specs.Rules.Membership.{scripted_asks, vectors, views}
use Rattle.cany_model.specs.Rules.Messages.{Message, is_service, messages_of}
use Rattle.cany_model.specs.Rules.Relcan.{fall_back_effects, falls_back, has_confirm, is_first_got, is_timed, relcan_at, relcan_effects, timer_effects}
use Rattle.cany_model.specs.Rules.Sends.{is_sent_in, send_effects, sendable}
use Rattle.cany_model.specs.Rules.Totcan.{accept_effects, can_be_accepted, closing_effects, closing_of, delivered_now, holds, is_recent, message_in, tot_delivery, tot_in, tot_of_key, totcan_effects}
use Rattle.cany_model.specs.Rules.Turn.{protocols, turn_effects}
use Rattle.cany_model.proofs.Among.{Each-append, Each-flat_map}
use Rattle.cany_model.proofs.Bus.Identities.{same_class-true, same_identity-true}
use Rattle.cany_model.proofs.Rules.Site.LifeFacts.{failures_are_lawful, life_is_lawful}
use Rattle.cany_model.proofs.Rules.Services.MessageKeys.{IsOneOf}
use Rattle.cany_model.proofs.Rules.Services.MessageClasses.{is_of_message, others_of, request_other, same_other}
use Rattle.cany_model.proofs.Rules.Services.SendFacts.{is_sent_in-true, sendable_one}
use Rattle.cany_model.proofs.Rules.Site.VectorFacts.{vectors_are_lawful}
use Rattle.cany_model.proofs.Rules.Site.ViewFacts.{asks_are_lawful, views_are_lawful}
use Rattle.cany_model.proofs.Rules.Waits.{AsksOnly}

-- ---- classes

abbrev pub IsOther : FrameParts → Type 0
IsOther f = is_of_message f.class ≡ false

-- a notice of a frame of the lower classes
abbrev pub is_low : NoticeKind → Bool
is_low Idle = false
is_low (Got f) = not (is_top f.class)
is_low (Sent f) = not (is_top f.class)
is_low Bad = false

top_ed : is_top class.Ed ≡ false
unfolding same_class
top_ed = refl

pub top_rel : is_top class.Rel ≡ false
unfolding same_class
top_rel = refl

pub top_tot : is_top class.Tot ≡ false
unfolding same_class
top_tot = refl

-- a frame of a top class is of no lower one
not_lower : (f : FrameParts) (c : Class) → is_top c ≡ false → not (is_top f.class) ≡ false → same_class f.class c ≡ true → ⊥
not_lower f c lower top same =
    false≢true (sym top ∙ ap (λ d. not (is_top d)) (same_class-true f.class c same) ∙ ap (λ b. not b) lower)

-- ---- protocols that ask for no such frame

abbrev Others : List Effect → Type 0
Others effects = AllByRecursion (AsksOnly IsOther) effects

-- what is called for at a frame of one of the lower classes alone, where the frame is of none of
-- them
lower_others : (f : FrameParts) (c : Class) (effects : List Effect) → is_top c ≡ false → not (is_top f.class) ≡ false → Others (cond (same_class f.class c) effects [])
lower_others f c effects lower top =
    cond_both (same_class f.class c) effects [] Others (λ same. absurd (not_lower f c lower top same)) (λ _. tt)

-- ---- EDCAN

edcan_others : (scenario : ScenarioParts) (i : ℕ) (e : NoticeKind) (before : List NoticeKind) → is_low e ≡ false → Others (edcan_effects scenario i (e ∷ before))
unfolding edcan_effects edcan_at
edcan_others scenario i Idle before plain = tt
edcan_others scenario i Bad before plain = tt
edcan_others scenario i (Got f) before plain = lower_others f class.Ed _ top_ed plain
edcan_others scenario i (Sent f) before plain = lower_others f class.Ed _ top_ed plain

-- ---- RELCAN

relcan_notice : (p : Parameters) (i : ℕ) (e : NoticeKind) (before : List NoticeKind) → is_low e ≡ false → Others (relcan_at p i e before)
unfolding relcan_at
relcan_notice p i Idle before plain = tt
relcan_notice p i Bad before plain = tt
relcan_notice p i (Got f) before plain = lower_others f class.Rel _ top_rel plain
relcan_notice p i (Sent f) before plain = lower_others f class.Rel _ top_rel plain

falls_rel : (timer i : ℕ) (f : FrameParts) (past : List NoticeKind) → falls_back timer i (identity_of f) past ≡ true → same_class f.class class.Rel ≡ true
falls_rel timer i f past h =
    let x : Identity = identity_of f in
    let outer = and_parts (is_timed i x && is_first_got x (drop timer past)) (not (has_confirm x past)) h in
    let inner = and_parts (is_timed i x) (is_first_got x (drop timer past)) outer.0 in
    (and_parts (same_class f.class class.Rel) (not (f.node == i)) inner.0).0

fall_back_others : (p : Parameters) (i : ℕ) (past : List NoticeKind) (e : NoticeKind) → is_low e ≡ false → Others (fall_back_effects p i past e)
fall_back_others p i past Idle plain = tt
fall_back_others p i past (Sent f) plain = tt
fall_back_others p i past Bad plain = tt
fall_back_others p i past (Got f) plain =
    cond_both (falls_back p.confirm i (identity_of f) past && _) (Ask f ∷ []) [] Others
    (λ falls. absurd (not_lower f class.Rel top_rel plain (falls_rel p.confirm i f past (and_parts (falls_back p.confirm i (identity_of f) past) _ falls).0)))
    (λ _. tt)

relcan_others : (scenario : ScenarioParts) (i : ℕ) (e : NoticeKind) (before : List NoticeKind) → is_low e ≡ false
    → is_low (slice_index_or (e ∷ before) scenario.params.confirm Idle) ≡ false → Others (relcan_effects scenario i (e ∷ before))
unfolding relcan_effects timer_effects
relcan_others scenario i e before plain timer =
    Each-append (AsksOnly IsOther) (relcan_at scenario.params i e before) (timer_effects scenario.params i (e ∷ before))
    (relcan_notice scenario.params i e before plain)
    (fall_back_others scenario.params i (e ∷ before) (slice_index_or (e ∷ before) scenario.params.confirm Idle) timer)

-- ---- TOTCAN

-- the notice brings the data frame of a message: it is one of the lower classes
pub holds_low : (key : MsgKey) (e : NoticeKind) → holds key e ≡ true → is_low e ≡ true
holds_low key Idle h = h
holds_low key Bad h = h
holds_low key (Got f) h = elim (or_cases (is_of (tot_of_key key) f) false h) [
  | inl got ↦ ap (λ (x : Identity). not (is_top x.class)) (sym (same_identity-true (tot_of_key key) (identity_of f) got)) ∙ ap (λ b. not b) top_tot
  | inr never ↦ absurd (false≢true never)
]
holds_low key (Sent f) h =
    ap (λ (x : Identity). not (is_top x.class)) (sym (same_identity-true (tot_of_key key) (identity_of f) h)) ∙ ap (λ b. not b) top_tot

any_low : (test : NoticeKind → Bool) → ((e : NoticeKind) → test e ≡ true → is_low e ≡ true) → (past : List NoticeKind) → list_any test past ≡ true
    → list_any is_low past ≡ true
any_low test gives [] h = h
any_low test gives (e ∷ past) h = elim (or_cases (test e) (list_any test past) h) [
  | inl now ↦ or_left (is_low e) (list_any is_low past) (gives e now)
  | inr older ↦ or_right (is_low e) (list_any is_low past) (any_low test gives past older)
]

pub not_recent : (slots : ℕ) (key : MsgKey) (past : List NoticeKind) → list_any is_low (take slots past) ≡ false → is_recent slots key past ≡ false
unfolding is_recent
not_recent slots key past none =
    false_from_ne_true (list_any (holds key) (take slots past)) (λ h.
    both_ways (list_any is_low (take slots past)) none (any_low (holds key) (holds_low key) (take slots past) h))

accept_others : (p : Parameters) (i : ℕ) (e : NoticeKind) (before : List NoticeKind) → is_low e ≡ false → list_any is_low (take p.bound before) ≡ false
    → Others (accept_effects p i e before)
unfolding accept_effects
accept_others p i Idle before plain none = tt
accept_others p i Bad before plain none = tt
accept_others p i (Got f) before plain none =
    cond_both (same_class f.class class.Accept && can_be_accepted p.bound (message_in f) before) _ [] Others
    (λ in_time.
    absurd (both_ways (can_be_accepted p.bound (message_in f) before) (not_recent p.bound (message_in f) before none)
    (and_parts (same_class f.class class.Accept) (can_be_accepted p.bound (message_in f) before) in_time).1))
    (λ _. tt)
accept_others p i (Sent f) before plain none =
    cond_both (same_class f.class class.Tot && f.node == i) _ [] Others
    (λ own. absurd (not_lower f class.Tot top_tot plain (and_parts (same_class f.class class.Tot) (f.node == i) own).0))
    (λ _. tt)

closing_others : (bound : ℕ) (past : List NoticeKind) (o : Option FrameParts) → Others (closing_of bound past o)
closing_others bound past None = tt
closing_others bound past (Some f) = cond_both (can_be_accepted bound (message_in f) past) [] _ Others (λ _. tt) (λ _. (tt, tt))

deliveries_others : (slot : ℕ) (frames : List FrameParts) → Others (map (tot_delivery slot) frames)
deliveries_others slot [] = tt
deliveries_others slot (f ∷ frames) = (tt, deliveries_others slot frames)

totcan_others : (scenario : ScenarioParts) (i : ℕ) (e : NoticeKind) (before : List NoticeKind) → is_low e ≡ false
    → list_any is_low (take scenario.params.bound before) ≡ false → Others (totcan_effects scenario i (e ∷ before))
unfolding totcan_effects closing_effects
totcan_others scenario i e before plain none =
    let accept : List Effect = accept_effects scenario.params i e before in
    let closing : List Effect = closing_of scenario.params.bound (e ∷ before) (tot_in (slice_index_or (e ∷ before) scenario.params.bound Idle)) in
    let deliveries : List Effect = map (tot_delivery (length before)) (delivered_now scenario.params i (e ∷ before)) in
    Each-append (AsksOnly IsOther) (accept ++ closing) deliveries
    (Each-append (AsksOnly IsOther) accept closing (accept_others scenario.params i e before plain none)
    (closing_others scenario.params.bound (e ∷ before) (tot_in (slice_index_or (e ∷ before) scenario.params.bound Idle))))
    (deliveries_others (length before) (delivered_now scenario.params i (e ∷ before)))

-- ---- the origin's own messages

-- every message is scripted in a slot before these
abbrev pub AreAllBefore : ScenarioParts → ℕ → Type 0
AreAllBefore scenario slot = (m : Message) → IsOneOf (messages_of scenario.sends) m → m.slot < slot

none_passes : (test : Message → Bool) (messages : List Message) → ((m : Message) → IsOneOf messages m → test m ≡ true → ⊥) → filter test messages ≡ []
none_passes test [] never = refl
none_passes test (m ∷ messages) never =
    cond_both (test m) (m ∷ filter test messages) (filter test messages) (λ ms. ms ≡ [])
    (λ yes'. absurd (never m (inl refl) yes')) (λ _. none_passes test messages (λ k is. never k (inr is)))

none_now : (scenario : ScenarioParts) (slot : ℕ) → AreAllBefore scenario slot → (test : Message → Bool)
    → ((m : Message) → test m ≡ true → m.slot ≡ slot) → filter test (sendable scenario slot) ≡ []
none_now scenario slot all test at =
    none_passes test (sendable scenario slot) (λ m is passes.
    let early = all m (sendable_one scenario slot m is).0 in
    let now = at m passes in
    omega (arith, early, now))

sends_others : (scenario : ScenarioParts) (i : ℕ) (e : NoticeKind) (before : List NoticeKind) → AreAllBefore scenario (length before)
    → Others (send_effects scenario i (e ∷ before))
unfolding send_effects
sends_others scenario i e before all =
    rw (none_now scenario (length before) all (is_sent_in i (length before)) (λ m sent. (is_sent_in-true i (length before) m sent).at)) tt

joins_at : (i slot : ℕ) (m : Message) → joins_in i slot m ≡ true → m.slot ≡ slot
joins_at i slot m h = eqb-true m.slot slot (and_parts (is_service m.service Tot && m.origin == i) (m.slot == slot) h).1

-- the backlog stays as it is
pub backlog_stays : (scenario : ScenarioParts) (i : ℕ) (e : NoticeKind) (before : List NoticeKind) → AreAllBefore scenario (length before)
    → backlog scenario i (e ∷ before) ≡ backlog scenario i before
unfolding backlog
backlog_stays scenario i e before all =
    ap (λ ms. backlog scenario i before ++ ms) (none_now scenario (length before) all (joins_in i (length before)) (joins_at i (length before)))
    ∙ append-nil (backlog scenario i before)

-- all of the backlog was asked for
abbrev pub AllAsked : ScenarioParts → ℕ → List NoticeKind → Type 0
AllAsked scenario i past = asked scenario i past ≡ length (backlog scenario i past)

drop_all : (n : ℕ) (messages : List Message) → n ≡ length messages → drop n messages ≡ []
drop_all n messages is = ap (λ k. drop k messages) is ∙ over messages
  where
    over : (ms : List Message) → drop (length ms) ms ≡ []
    over [] = refl
    over (m ∷ ms) = over ms

none_next : (scenario : ScenarioParts) (i : ℕ) (e : NoticeKind) (before : List NoticeKind) → AreAllBefore scenario (length before)
    → AllAsked scenario i before
    → next_after scenario.params (e ∷ before) (backlog scenario i (e ∷ before)) (asked scenario i before) ≡ None
none_next scenario i e before all done =
    let n : ℕ = asked scenario i before in
    let same : backlog scenario i (e ∷ before) ≡ backlog scenario i before = backlog_stays scenario i e before all in
    ap (λ ms. next_after scenario.params (e ∷ before) ms n) same
    ∙ ap (next_of scenario.params (e ∷ before) (take n (backlog scenario i before))) (drop_all n (backlog scenario i before) done)

pub all_asked_on : (scenario : ScenarioParts) (i : ℕ) (e : NoticeKind) (before : List NoticeKind) → AreAllBefore scenario (length before)
    → AllAsked scenario i before → AllAsked scenario i (e ∷ before)
unfolding asked
all_asked_on scenario i e before all done =
    rw (none_next scenario i e before all done) (done ∙ ap length (sym (backlog_stays scenario i e before all)))

backlog_others : (scenario : ScenarioParts) (i : ℕ) (e : NoticeKind) (before : List NoticeKind) → AreAllBefore scenario (length before)
    → AllAsked scenario i before → Others (backlog_effects scenario i (e ∷ before))
unfolding backlog_effects
backlog_others scenario i e before all done = rw (none_next scenario i e before all done) tt

-- ---- a whole turn

pub turn_others : (scenario : ScenarioParts) (i : ℕ) (e : NoticeKind) (before : List NoticeKind) → is_low e ≡ false
    → list_any is_low (take scenario.params.bound before) ≡ false → is_low (slice_index_or (e ∷ before) scenario.params.confirm Idle) ≡ false
    → AreAllBefore scenario (length before) → AllAsked scenario i before → AllByRecursion (AsksOnly IsOther) (turn_effects scenario i (e ∷ before))
unfolding turn_effects
turn_others scenario i e before plain none timer all done =
    let past : List NoticeKind = e ∷ before in
    Each-flat_map (λ p. p.effects scenario i past) (AsksOnly IsOther) protocols (
      edcan_others scenario i e before plain,
      (
        relcan_others scenario i e before plain timer,
        (
          totcan_others scenario i e before plain none,
          (
            others_of IsOther (λ f h. h) failure_signs (λ c h. same_other c class.Fda refl h) scenario i past failures_are_lawful,
            (
              others_of IsOther (λ f h. h) vectors (λ c h. same_other c class.Rha refl h) scenario i past vectors_are_lawful,
              (
                others_of IsOther (λ f h. h) views request_other scenario i past views_are_lawful,
                (
                  others_of IsOther (λ f h. h) life_signs (λ c h. same_other c class.Els refl h) scenario i past life_is_lawful,
                  (
                    sends_others scenario i e before all,
                    (others_of IsOther (λ f h. h) scripted_asks request_other scenario i past asks_are_lawful, (backlog_others scenario i e before all done, tt)),
                  ),
                ),
              ),
            ),
          ),
        ),
      ),
    )
