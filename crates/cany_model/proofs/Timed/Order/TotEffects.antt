-- What a turn does about the frames of a TOTCAN message: when it asks for its data frame, and when
-- it asks for the frame that accepts it or withdraws that.
use Rattle.std.proofs.Common.{◌≡◌, ℕ, suc, ◌+◌, ◌<◌, ◌≤◌, ◌≢◌, ◌==◌, ◌&&◌, ◌||◌, ◌⊎◌, inl, inr, Bool, true, false, not, if◌then◌else◌, List, [], ◌∷◌, ◌++◌, map, length, count_by, slice_index_or, Option, Some, None, refl, ap, sym, ◌∙◌, subst, arith}
use Rattle.std.specs.List.{list_any}
use Rattle.std.proofs.lemmas.Bool.{and_cases, and_from, and_parts, both_ways, cases_Bool, cond_both, eq-eqb, eqb-false, eqb-true, false_from_ne_true, false≢true, leb-true, not-false, not-true, or_cases, or_left, or_right}
use Rattle.cany_base.specs.declared.class.Class.TheVariants as class
use Rattle.cany_base.specs.declared.message.MsgKey.{MsgKey}
use Rattle.cany_base.specs.declared.notice.NoticeKind.{NoticeKind}
use Rattle.cany_base.specs.declared.notice.NoticeKind.TheVariants.{Idle, Got, Sent, Bad}
use Rattle.cany_base.specs.Frame.{FrameParts}
use Rattle.cany_base.specs.Params.{Parameters}
use Rattle.cany_base.specs.Scenario.{ScenarioParts}
use Rattle.cany_model.specs.Bus.Frames.{Identity, identity_of, is_of, same_class, same_identity}
use Rattle.cany_model.specs.Bus.History.{copies, has_own, is_got, is_sent}
use Rattle.cany_model.specs.Bus.Waiting.{waits}
use Rattle.cany_model.specs.Rules.Backlog.{ask_for, asked, backlog, backlog_effects, next_after, tot_backlog}
use Rattle.cany_model.specs.Rules.Eager.{eager_effects, has_enough, is_first_copy}
use Rattle.cany_model.specs.Rules.Effect.{Effect, Ask, Withdraw, waiting_after}
use Rattle.cany_model.specs.Rules.Messages.{Message, accept_of_key, data_frame, data_id}
use Rattle.cany_model.specs.Rules.Totcan.{accept_effects, accept_frame, after_place, closing_effects, closing_of, delivered_now, holds, can_be_accepted, message_in, tot_delivery, tot_in, tot_of_key, totcan, totcan_effects}
use Rattle.cany_model.specs.Rules.Turn.{turn_effects}
use Rattle.cany_model.proofs.Among.{count-no, count-yes}
use Rattle.cany_model.proofs.Bus.Identities.{same_class-true, same_class_self, same_identity-from, same_identity-true}
use Rattle.cany_model.proofs.Promises.Diffusion.{copies_got}
use Rattle.cany_model.proofs.Rules.Services.PlaceFacts.{holds-place, tot_in-holds}
use Rattle.cany_model.proofs.Timed.Common.LastEffect.{Asked, NoEffect, Withdrawn, LastEffect, accept_alone, later, tot_alone, turn_waits, turn_last_effect, waits_by_last_effect, last_effect, last_effect-append}

-- ---- the frame that accepts a message

-- of a frame that accepts the message
accept_class : (m : MsgKey) (f : FrameParts) → is_of (accept_of_key m) f ≡ true
    → (same_class f.class class.Accept ≡ true) × (message_in f ≡ m) × (identity_of f ≡ accept_of_key m)
accept_class m f h =
    let e : accept_of_key m ≡ identity_of f = same_identity-true (accept_of_key m) (identity_of f) h in (
      ap (λ (x : Identity). same_class x.class class.Accept) (sym e) ∙ same_class_self class.Accept,
      λ k. record { origin = (sym e k).node; seq = (sym e k).number },
      sym e,
    )

-- deliveries have no effect on any frame
deliveries_no_effect : (x : Identity) (slot : ℕ) (frames : List FrameParts) → last_effect x (map (tot_delivery slot) frames) ≡ NoEffect
deliveries_no_effect x slot [] = refl
deliveries_no_effect x slot (f ∷ frames) = rw (deliveries_no_effect x slot frames) refl

-- the last effect of a turn is that of the closing, or else that of the notice
pub accept_last_effect : (m : MsgKey) (scenario : ScenarioParts) (i : ℕ) (e : NoticeKind) (before : List NoticeKind)
    → last_effect (accept_of_key m) (turn_effects scenario i (e ∷ before))
    ≡ later (last_effect (accept_of_key m) (closing_effects scenario.params.bound (e ∷ before)))
    (last_effect (accept_of_key m) (accept_effects scenario.params i e before))
unfolding totcan_effects
accept_last_effect m scenario i e before =
    let x : Identity = accept_of_key m in
    let accept : List Effect = accept_effects scenario.params i e before in
    let closing : List Effect = closing_effects scenario.params.bound (e ∷ before) in
    let deliveries : List Effect = map (tot_delivery (length before)) (delivered_now scenario.params i (e ∷ before)) in
    turn_last_effect scenario i (e ∷ before) x totcan accept_alone
    ∙ last_effect-append x (accept ++ closing) deliveries
    ∙ ap (λ w. later w (last_effect x (accept ++ closing))) (deliveries_no_effect x (length before) (delivered_now scenario.params i (e ∷ before)))
    ∙ last_effect-append x accept closing

-- ---- the closing

-- the newest notice closes the message: its place came `bound` notices before
abbrev pub IsClosing : ℕ → MsgKey → List NoticeKind → Type 0
IsClosing bound m past = (holds m (slice_index_or past bound Idle) ≡ true) × (can_be_accepted bound m past ≡ false)

-- the data frame whose message closes is that of the message
record ClosesIt (bound : ℕ) (m : MsgKey) (past : List NoticeKind) (o : Option FrameParts) : Type 0 where
  frame : FrameParts
  brought : o ≡ Some frame
  names : message_in frame ≡ m
  closed : can_be_accepted bound m past ≡ false

closing_one : (bound : ℕ) (m : MsgKey) (past : List NoticeKind) (o : Option FrameParts)
    → (last_effect (accept_of_key m) (closing_of bound past o) ≡ NoEffect)
    ⊎ ((last_effect (accept_of_key m) (closing_of bound past o) ≡ Withdrawn) × ClosesIt bound m past o)
closing_one bound m past None = inl refl
closing_one bound m past (Some f) =
    by_open (can_be_accepted bound (message_in f) past) refl (same_identity (accept_of_key m) (accept_of_key (message_in f))) refl
  where
    R : Type 0
    R = (last_effect (accept_of_key m) (closing_of bound past (Some f)) ≡ NoEffect)
        ⊎ ((last_effect (accept_of_key m) (closing_of bound past (Some f)) ≡ Withdrawn) × ClosesIt bound m past (Some f))

    by_open : (b : Bool) → can_be_accepted bound (message_in f) past ≡ b → (d : Bool) → same_identity (accept_of_key m) (accept_of_key (message_in f)) ≡ d → R
    by_open true e d q = inl (rw e refl)
    by_open false e false q = inl (rw (e, q) refl)
    by_open false e true q =
        let x : accept_of_key m ≡ accept_of_key (message_in f) = same_identity-true (accept_of_key m) (accept_of_key (message_in f)) q in
        let same : message_in f ≡ m = λ k. record { origin = (sym x k).node; seq = (sym x k).number } in
        inr (
          rw (e, q) refl,
          record {
            frame = f;
            brought = refl;
            names = same;
            closed = subst (λ (k : MsgKey). can_be_accepted bound k past ≡ false) same e;
          },
        )

-- the closing withdraws the frame that accepts a message exactly where it closes the message
pub closing_last_effect : (bound : ℕ) (m : MsgKey) (past : List NoticeKind)
    → ((last_effect (accept_of_key m) (closing_effects bound past) ≡ NoEffect) × (IsClosing bound m past → ⊥))
    ⊎ ((last_effect (accept_of_key m) (closing_effects bound past) ≡ Withdrawn) × IsClosing bound m past)
unfolding closing_effects
closing_last_effect bound m past = elim (closing_one bound m past (tot_in (slice_index_or past bound Idle))) [
  | inl no_effect ↦ inl (no_effect, λ c. closes c no_effect)
  | inr w ↦
      inr (
        w.0,
        (
          subst (λ (k : MsgKey). holds k (slice_index_or past bound Idle) ≡ true) w.1.names
              (tot_in-holds (slice_index_or past bound Idle) w.1.frame w.1.brought),
          w.1.closed,
        ),
      )
]
  where
    closes : IsClosing bound m past → last_effect (accept_of_key m) (closing_of bound past (tot_in (slice_index_or past bound Idle))) ≡ NoEffect → ⊥
    closes c no_effect =
        let h = holds-place m (slice_index_or past bound Idle) c.0 in
        let same : same_identity (accept_of_key m) (accept_of_key (message_in h.frame)) ≡ true =
        same_identity-from (accept_of_key m) (accept_of_key (message_in h.frame)) (ap accept_of_key (sym h.names)) in
        let shut : can_be_accepted bound (message_in h.frame) past ≡ false = ap (λ (k : MsgKey). can_be_accepted bound k past) h.names ∙ c.1 in
        let is : last_effect (accept_of_key m) (closing_of bound past (tot_in (slice_index_or past bound Idle))) ≡ Withdrawn =
        ap (λ o. last_effect (accept_of_key m) (closing_of bound past o)) h.brought ∙ rw (shut, same) refl in
        never (sym is ∙ no_effect)
      where
        never : Withdrawn ≡ NoEffect → ⊥
        never q = cc

-- ---- the notice

-- Why it is asked for: the origin has read its own transmission of the data frame, or the frame was
-- got, in time, for the first time after the place.
abbrev pub AskCause : Parameters → ℕ → MsgKey → NoticeKind → List NoticeKind → Type 0
AskCause p i m e before =
    ((is_sent (tot_of_key m) e ≡ true) × (m.origin ≡ i))
    ⊎ ((is_got (accept_of_key m) e ≡ true) × (can_be_accepted p.bound m before ≡ true) × (copies (accept_of_key m) (after_place m before) ≡ 0)
    × (has_own (accept_of_key m) (after_place m before) ≡ false))

-- and what there was where it is not
pub record NoAsk (p : Parameters) (i : ℕ) (m : MsgKey) (e : NoticeKind) (before : List NoticeKind) : Type 0 where
  pub sent : is_sent (tot_of_key m) e ≡ true → m.origin ≡ i → ⊥
  pub got : is_got (accept_of_key m) e ≡ true → can_be_accepted p.bound m before ≡ true
      → (0 < copies (accept_of_key m) (after_place m before)) ⊎ (has_own (accept_of_key m) (after_place m before) ≡ true)

-- with this copy there are more than omit after the place
pub record TooMany (p : Parameters) (m : MsgKey) (e : NoticeKind) (before : List NoticeKind) : Type 0 where
  pub got : is_got (accept_of_key m) e ≡ true
  pub opened : can_be_accepted p.bound m before ≡ true
  pub many : p.omit ≤ copies (accept_of_key m) (after_place m before)

abbrev pub AcceptCases : Parameters → ℕ → MsgKey → NoticeKind → List NoticeKind → LastEffect → Type 0
AcceptCases p i m e before w =
    ((w ≡ NoEffect) × NoAsk p i m e before)
    ⊎ (((f : FrameParts) × (w ≡ Asked f) × AskCause p i m e before) ⊎ ((w ≡ Withdrawn) × TooMany p m e before))

tot_class : (m : MsgKey) (f : FrameParts) → is_of (tot_of_key m) f ≡ true → same_class f.class class.Tot ≡ true
tot_class m f h =
    ap (λ (x : Identity). same_class x.class class.Tot) (sym (same_identity-true (tot_of_key m) (identity_of f) h)) ∙ same_class_self class.Tot

not_held : (m : MsgKey) (f : FrameParts) → is_of (accept_of_key m) f ≡ true → holds m (Got f) ≡ false
not_held m f h =
    false_from_ne_true (holds m (Got f)) (λ e. elim (or_cases (is_of (tot_of_key m) f) false e) [
      | inl tot ↦
          let c : class.Accept ≡ class.Tot =
          ap (λ (x : Identity). x.class) (same_identity-true (accept_of_key m) (identity_of f) h)
          ∙ same_class-true f.class class.Tot (tot_class m f tot) in
          absurd (cc)
      | inr none ↦ absurd (false≢true none)
    ])

-- a copy of the frame that accepts moves no place
pub got_after_place : (m : MsgKey) (e : NoticeKind) (before : List NoticeKind) → is_got (accept_of_key m) e ≡ true
    → after_place m (e ∷ before) ≡ e ∷ after_place m before
unfolding after_place
got_after_place m Idle before h = absurd (false≢true h)
got_after_place m Bad before h = absurd (false≢true h)
got_after_place m (Sent f) before h = absurd (false≢true h)
got_after_place m (Got f) before h = rw (not_held m f h) refl

own_same : (x : Identity) (f : FrameParts) (before : List NoticeKind) → has_own x (Got f ∷ before) ≡ has_own x before
unfolding has_own
own_same x f before = refl

eager_last_effect : (p : Parameters) (i : ℕ) (m : MsgKey) (f : FrameParts) (before : List NoticeKind) → is_of (accept_of_key m) f ≡ true
    → can_be_accepted p.bound m before ≡ true
    → AcceptCases p i m (Got f) before (last_effect (accept_of_key m) (eager_effects p.omit f (after_place m (Got f ∷ before))))
unfolding eager_effects
eager_last_effect p i m f before mine in_time = by_enough (has_enough p.omit (identity_of f) now) refl (is_first_copy (identity_of f) now) refl
  where
    now : List NoticeKind
    now = after_place m (Got f ∷ before)

    x : Identity
    x = accept_of_key m

    same : identity_of f ≡ accept_of_key m
    same = (accept_class m f mine).2

    shape : now ≡ Got f ∷ after_place m before
    shape = got_after_place m (Got f) before mine

    count : copies (identity_of f) now ≡ suc (copies x (after_place m before))
    count = ap (λ y. copies y now) same ∙ ap (copies x) shape ∙ copies_got x (Got f) (after_place m before) mine

    own : has_own (identity_of f) now ≡ has_own x (after_place m before)
    own = ap (λ y. has_own y now) same ∙ ap (has_own x) shape ∙ own_same x f (after_place m before)

    R : Type 0
    R = AcceptCases p i m (Got f) before (last_effect x (
        if has_enough p.omit (identity_of f) now then Withdraw (identity_of f) ∷ []
        else if is_first_copy (identity_of f) now then Ask f ∷ [] else []))

    by_enough : (b : Bool) → has_enough p.omit (identity_of f) now ≡ b → (d : Bool) → is_first_copy (identity_of f) now ≡ d → R
    by_enough true e d q =
        let many : p.omit + 1 ≤ copies (identity_of f) now = leb-true (p.omit + 1) (copies (identity_of f) now) e in
        inr (inr (rw (e, mine) refl, record { got = mine; opened = in_time; many = omega (arith, many, count) }))
    by_enough false e true q =
        let parts = and_parts (copies (identity_of f) now == 1) (not (has_own (identity_of f) now)) q in
        let one : copies (identity_of f) now ≡ 1 = eqb-true (copies (identity_of f) now) 1 parts.0 in
        inr (inl (f, rw (e, q, mine) refl, inr (mine, in_time, omega (arith, one, count), sym own ∙ not-true (has_own (identity_of f) now) parts.1)))
    by_enough false e false q = inl (
      rw (e, q) refl,
      record {
        sent = λ s o. false≢true s;
        got = λ g o. elim (and_cases (copies (identity_of f) now == 1) (not (has_own (identity_of f) now)) q) [
          | inl more ↦ let ne : copies (identity_of f) now ≢ 1 = eqb-false (copies (identity_of f) now) 1 more in inl (omega (arith, ne, count))
          | inr has_it ↦ inr (sym own ∙ not-false (has_own (identity_of f) now) has_it)
        ];
      },
    )

no_ask_got : (p : Parameters) (i : ℕ) (m : MsgKey) (f : FrameParts) (before : List NoticeKind)
    → (is_of (accept_of_key m) f ≡ true → can_be_accepted p.bound m before ≡ true → ⊥) → NoAsk p i m (Got f) before
no_ask_got p i m f before never = record { sent = λ s o. false≢true s; got = λ g o. absurd (never g o) }

eager_no_effect : (m : MsgKey) (f : FrameParts) → is_of (accept_of_key m) f ≡ false → (omit : ℕ) (now : List NoticeKind)
    → last_effect (accept_of_key m) (eager_effects omit f now) ≡ NoEffect
unfolding eager_effects
eager_no_effect m f q omit now =
    cond_both (has_enough omit (identity_of f) now) (Withdraw (identity_of f) ∷ []) _ (λ es. last_effect (accept_of_key m) es ≡ NoEffect) (λ _. rw q refl)
    (λ _. cond_both (is_first_copy (identity_of f) now) (Ask f ∷ []) [] (λ es. last_effect (accept_of_key m) es ≡ NoEffect) (λ _. rw q refl) (λ _. refl))

abbrev sent_asks : ℕ → FrameParts → List Effect
sent_asks i f = if same_class f.class class.Tot && f.node == i then Ask (accept_frame f) ∷ [] else []

-- at a transmission of its own
sent_cases : (p : Parameters) (i : ℕ) (m : MsgKey) (f : FrameParts) (before : List NoticeKind)
    → AcceptCases p i m (Sent f) before (last_effect (accept_of_key m) (sent_asks i f))
sent_cases p i m f before = by_own (same_class f.class class.Tot && f.node == i) refl (is_of (accept_of_key m) (accept_frame f)) refl
  where
    R : Type 0
    R = AcceptCases p i m (Sent f) before (last_effect (accept_of_key m) (sent_asks i f))

    no_ask : (is_of (tot_of_key m) f ≡ true → m.origin ≡ i → ⊥) → NoAsk p i m (Sent f) before
    no_ask never = record { sent = never; got = λ g o. absurd (false≢true g) }

    by_own : (b : Bool) → (same_class f.class class.Tot && f.node == i) ≡ b → (d : Bool) → is_of (accept_of_key m) (accept_frame f) ≡ d → R
    by_own false e d q = inl (
      rw e refl,
      no_ask (λ s o.
          let same : tot_of_key m ≡ identity_of f = same_identity-true (tot_of_key m) (identity_of f) s in
          let node : f.node ≡ i = sym (ap (λ (y : Identity). y.node) same) ∙ o in
          both_ways (same_class f.class class.Tot && f.node == i) e
          (and_from (same_class f.class class.Tot) (f.node == i) (tot_class m f s) (eq-eqb f.node i node))),
    )
    by_own true e true q =
        let parts = and_parts (same_class f.class class.Tot) (f.node == i) e in
        let x : accept_of_key m ≡ identity_of (accept_frame f) = same_identity-true (accept_of_key m) (identity_of (accept_frame f)) q in
        let c : f.class ≡ class.Tot = same_class-true f.class class.Tot parts.0 in
        inr (inl (
          accept_frame f,
          rw (e, q) refl,
          inl (
            same_identity-from (tot_of_key m) (identity_of f) (λ k. record { class = sym c k; number = (x k).number; node = (x k).node }),
            ap (λ (y : Identity). y.node) x ∙ eqb-true f.node i parts.1,
          ),
        ))
    by_own true e false q = inl (
      rw (e, q) refl,
      no_ask (λ s o.
          let same : tot_of_key m ≡ identity_of f = same_identity-true (tot_of_key m) (identity_of f) s in
          both_ways (is_of (accept_of_key m) (accept_frame f)) q
          (same_identity-from (accept_of_key m) (identity_of (accept_frame f))
          (λ k. record { class = class.Accept; number = (same k).number; node = (same k).node }))),
    )

-- whether the frame accepts an open message
abbrev is_in_time : Parameters → FrameParts → List NoticeKind → Bool
is_in_time p f before = same_class f.class class.Accept && can_be_accepted p.bound (message_in f) before

abbrev got_asks : Parameters → FrameParts → List NoticeKind → List Effect
got_asks p f before = if is_in_time p f before then eager_effects p.omit f (after_place (message_in f) (Got f ∷ before)) else []

got_cases : (p : Parameters) (i : ℕ) (m : MsgKey) (f : FrameParts) (before : List NoticeKind)
    → AcceptCases p i m (Got f) before (last_effect (accept_of_key m) (got_asks p f before))
got_cases p i m f before = by_test (is_in_time p f before) refl (is_of (accept_of_key m) f) refl
  where
    effects : List Effect
    effects = eager_effects p.omit f (after_place (message_in f) (Got f ∷ before))

    R : Type 0
    R = AcceptCases p i m (Got f) before (last_effect (accept_of_key m) (got_asks p f before))

    by_test : (b : Bool) → is_in_time p f before ≡ b → (d : Bool) → is_of (accept_of_key m) f ≡ d → R
    by_test false e d q = inl (
      rw e refl,
      no_ask_got p i m f before (λ mine in_time.
          let a = accept_class m f mine in
          both_ways (is_in_time p f before) e
          (and_from (same_class f.class class.Accept) (can_be_accepted p.bound (message_in f) before) a.0
          (ap (λ (k : MsgKey). can_be_accepted p.bound k before) a.1 ∙ in_time))),
    )
    by_test true e true q =
        let a = accept_class m f q in
        let parts = and_parts (same_class f.class class.Accept) (can_be_accepted p.bound (message_in f) before) e in
        let in_time : can_be_accepted p.bound m before ≡ true = ap (λ (k : MsgKey). can_be_accepted p.bound k before) (sym a.1) ∙ parts.1 in
        let now : got_asks p f before ≡ effects = rw e refl in
        let same : effects ≡ eager_effects p.omit f (after_place m (Got f ∷ before)) =
        ap (λ (k : MsgKey). eager_effects p.omit f (after_place k (Got f ∷ before))) a.1 in
        rw (now ∙ same) (eager_last_effect p i m f before q in_time)
    by_test true e false q =
        let now : got_asks p f before ≡ effects = rw e refl in
        inl (
          ap (last_effect (accept_of_key m)) now ∙ eager_no_effect m f q p.omit (after_place (message_in f) (Got f ∷ before)),
          no_ask_got p i m f before (λ mine _. both_ways (is_of (accept_of_key m) f) q mine),
        )

-- what the notice does about the frame that accepts the message
pub accept_cases : (p : Parameters) (i : ℕ) (m : MsgKey) (e : NoticeKind) (before : List NoticeKind)
    → AcceptCases p i m e before (last_effect (accept_of_key m) (accept_effects p i e before))
unfolding accept_effects
accept_cases p i m Idle before = inl (refl, record { sent = λ s o. false≢true s; got = λ g o. absurd (false≢true g) })
accept_cases p i m Bad before = inl (refl, record { sent = λ s o. false≢true s; got = λ g o. absurd (false≢true g) })
accept_cases p i m (Sent f) before = sent_cases p i m f before
accept_cases p i m (Got f) before = got_cases p i m f before

-- ---- the data frame

-- the last effect of a turn is that of the backlog
pub data_last_effect : (m : MsgKey) (scenario : ScenarioParts) (i : ℕ) (e : NoticeKind) (before : List NoticeKind)
    → last_effect (tot_of_key m) (turn_effects scenario i (e ∷ before))
    ≡ last_effect (tot_of_key m) (ask_for (next_after scenario.params (e ∷ before) (backlog scenario i (e ∷ before)) (asked scenario i before)))
unfolding backlog_effects
data_last_effect m scenario i e before = turn_last_effect scenario i (e ∷ before) (tot_of_key m) tot_backlog tot_alone

-- the message that is asked for next is this one, or nothing has an effect on its data frame
pub asks_next : (m : MsgKey) (o : Option Message)
    → ((last_effect (tot_of_key m) (ask_for o) ≡ NoEffect) × ((k : Message) → o ≡ Some k → data_id k ≡ tot_of_key m → ⊥))
    ⊎ ((k : Message) × (o ≡ Some k) × (data_id k ≡ tot_of_key m) × (last_effect (tot_of_key m) (ask_for o) ≡ Asked (data_frame k)))
asks_next m None = inl (refl, λ k e. absurd (cc))
asks_next m (Some k) = elim (cases_Bool (is_of (tot_of_key m) (data_frame k))) [
  | inl mine ↦ inr (k, refl, sym (same_identity-true (tot_of_key m) (data_id k) mine), rw mine refl)
  | inr other ↦ inl (
    rw other refl,
    λ j e h.
        let same : k ≡ j = cc in
        both_ways (is_of (tot_of_key m) (data_frame k)) other (same_identity-from (tot_of_key m) (data_id k) (sym h ∙ ap data_id (sym same))),
  )
]

-- ---- what was read after the place, was read

after_any : (t : NoticeKind → Bool) (m : MsgKey) (past : List NoticeKind) → list_any t (after_place m past) ≡ true → list_any t past ≡ true
unfolding after_place
after_any t m [] h = h
after_any t m (e ∷ past) h =
    cond_both (holds m e) [] (e ∷ after_place m past) (λ (v : List NoticeKind). list_any t v ≡ true → (t e || list_any t past) ≡ true)
    (λ _ k. absurd (false≢true k))
    (λ _ k. elim (or_cases (t e) (list_any t (after_place m past)) k) [
      | inl now ↦ or_left (t e) (list_any t past) now
      | inr older ↦ or_right (t e) (list_any t past) (after_any t m past older)
    ])
    h

some_counted : (t : NoticeKind → Bool) (past : List NoticeKind) → 0 < count_by t past → list_any t past ≡ true
some_counted t [] h = absurd (omega (arith, h))
some_counted t (e ∷ past) h = elim (cases_Bool (t e)) [
  | inl now ↦ or_left (t e) (list_any t past) now
  | inr other ↦ or_right (t e) (list_any t past) (some_counted t past (omega (arith, h, count-no t e past other)))
]

pub copies_read : (m : MsgKey) (x : Identity) (past : List NoticeKind) → 0 < copies x (after_place m past) → list_any (is_got x) past ≡ true
unfolding copies
copies_read m x past h = after_any (is_got x) m past (some_counted (is_got x) (after_place m past) h)

pub own_read : (m : MsgKey) (x : Identity) (past : List NoticeKind) → has_own x (after_place m past) ≡ true → list_any (is_sent x) past ≡ true
unfolding has_own
own_read m x past h = after_any (is_sent x) m past h

pub copies_fewer : (m : MsgKey) (x : Identity) (past : List NoticeKind) → copies x (after_place m past) ≤ copies x past
unfolding copies after_place
copies_fewer m x [] = omega arith
copies_fewer m x (e ∷ past) =
    cond_both (holds m e) [] (e ∷ after_place m past) (λ (v : List NoticeKind). count_by (is_got x) v ≤ count_by (is_got x) (e ∷ past))
    (λ _. omega arith)
    (λ _. elim (cases_Bool (is_got x e)) [
      | inl now ↦ omega (arith, copies_fewer m x past, count-yes (is_got x) e past now, count-yes (is_got x) e (after_place m past) now)
      | inr other ↦ omega (arith, copies_fewer m x past, count-no (is_got x) e past other, count-no (is_got x) e (after_place m past) other)
    ])

-- ---- what waits after a turn

module _ (scenario : ScenarioParts) (i : ℕ) (e : NoticeKind) (before : List NoticeKind) (W : List FrameParts) where
  abbrev after : List FrameParts
  after = waiting_after (turn_effects scenario i (e ∷ before)) W

  by_last_effects : (m : MsgKey) (c a : LastEffect) → last_effect (accept_of_key m) (closing_effects scenario.params.bound (e ∷ before)) ≡ c
      → last_effect (accept_of_key m) (accept_effects scenario.params i e before) ≡ a
      → waits (accept_of_key m) after ≡ waits_by_last_effect (later c a) (waits (accept_of_key m) W)
  by_last_effects m c a ec ea =
      turn_waits (accept_of_key m) (turn_effects scenario i (e ∷ before)) W
      ∙ ap (λ w. waits_by_last_effect w (waits (accept_of_key m) W)) (accept_last_effect m scenario i e before)
      ∙ ap (λ x. waits_by_last_effect (later x (last_effect (accept_of_key m) (accept_effects scenario.params i e before))) (waits (accept_of_key m) W)) ec
      ∙ ap (λ x. waits_by_last_effect (later c x) (waits (accept_of_key m) W)) ea

  -- a turn that closes the message leaves no frame that accepts it
  none_closed : (m : MsgKey) → last_effect (accept_of_key m) (closing_effects scenario.params.bound (e ∷ before)) ≡ Withdrawn
      → waits (accept_of_key m) after ≡ true → ⊥
  none_closed m closes h =
      false≢true (sym (by_last_effects m Withdrawn (last_effect (accept_of_key m) (accept_effects scenario.params i e before)) closes refl) ∙ h)

  -- the notice asks for the frame that accepts the message, as its last effect
  abbrev pub AsksAccept : MsgKey → Type 0
  AsksAccept m = (f : FrameParts) × (last_effect (accept_of_key m) (accept_effects scenario.params i e before) ≡ Asked f)

  -- a frame that accepts and waits after the turn, waited before it, or the notice asks for it
  pub asked_then : (m : MsgKey) → waits (accept_of_key m) (waiting_after (turn_effects scenario i (e ∷ before)) W) ≡ true
      → (waits (accept_of_key m) W ≡ true) ⊎ (AsksAccept m × AskCause scenario.params i m e before)
  asked_then m h = elim (closing_last_effect scenario.params.bound m (e ∷ before)) [
    | inr closes ↦ absurd (none_closed m closes.0 h)
    | inl no_effect ↦ elim (accept_cases scenario.params i m e before) [
      | inl none ↦ inl (sym (by_last_effects m NoEffect NoEffect no_effect.0 none.0) ∙ h)
      | inr (inl asks) ↦ inr ((asks.0, asks.1), asks.2)
      | inr (inr many) ↦ absurd (false≢true (sym (by_last_effects m NoEffect Withdrawn no_effect.0 many.0) ∙ h))
    ]
  ]

  -- and the message is not closed by the turn
  pub waits_then : (m : MsgKey) → waits (accept_of_key m) (waiting_after (turn_effects scenario i (e ∷ before)) W) ≡ true
      → ((waits (accept_of_key m) W ≡ true) ⊎ AskCause scenario.params i m e before) × (IsClosing scenario.params.bound m (e ∷ before) → ⊥)
  waits_then m h = elim (closing_last_effect scenario.params.bound m (e ∷ before)) [
    | inr closes ↦ absurd (none_closed m closes.0 h)
    | inl no_effect ↦ (elim (asked_then m h) [ inl old ↦ inl old | inr asks ↦ inr asks.1 ], no_effect.1)
  ]

  -- it waits, unless the message is closed or too many copies were read
  abbrev pub WaitsUnless : MsgKey → Type 0
  WaitsUnless m =
      (waits (accept_of_key m) (waiting_after (turn_effects scenario i (e ∷ before)) W) ≡ true)
      ⊎ (IsClosing scenario.params.bound m (e ∷ before) ⊎ TooMany scenario.params m e before)

  -- one that waited, waits on so
  pub waits_still : (m : MsgKey) → waits (accept_of_key m) W ≡ true → WaitsUnless m
  waits_still m h = elim (closing_last_effect scenario.params.bound m (e ∷ before)) [
    | inr closes ↦ inr (inl closes.1)
    | inl no_effect ↦ elim (accept_cases scenario.params i m e before) [
      | inl none ↦ inl (by_last_effects m NoEffect NoEffect no_effect.0 none.0 ∙ h)
      | inr (inl asks) ↦ inl (by_last_effects m NoEffect (Asked asks.0) no_effect.0 asks.1)
      | inr (inr many) ↦ inr (inr many.1)
    ]
  ]

  -- a notice does not make the node ask for it, or it waits so
  pub now_cases : (m : MsgKey) → NoAsk scenario.params i m e before ⊎ WaitsUnless m
  now_cases m = elim (closing_last_effect scenario.params.bound m (e ∷ before)) [
    | inr closes ↦ inr (inr (inl closes.1))
    | inl no_effect ↦ elim (accept_cases scenario.params i m e before) [
      | inl none ↦ inl none.1
      | inr (inl asks) ↦ inr (inl (by_last_effects m NoEffect (Asked asks.0) no_effect.0 asks.1))
      | inr (inr many) ↦ inr (inr (inr many.1))
    ]
  ]

  -- the message is the one that is asked for next
  abbrev pub IsNextMessage : MsgKey → Type 0
  IsNextMessage m =
      (k : Message)
      × (next_after scenario.params (e ∷ before) (backlog scenario i (e ∷ before)) (asked scenario i before) ≡ Some k)
      × (data_id k ≡ tot_of_key m)

  -- a data frame that waits after the turn, waited before it, or is asked for next
  pub data_then : (m : MsgKey) → waits (tot_of_key m) (waiting_after (turn_effects scenario i (e ∷ before)) W) ≡ true
      → (waits (tot_of_key m) W ≡ true) ⊎ IsNextMessage m
  data_then m h =
      elim (asks_next m (next_after scenario.params (e ∷ before) (backlog scenario i (e ∷ before)) (asked scenario i before))) [
        | inl no_effect ↦
            inl (sym (turn_waits (tot_of_key m) (turn_effects scenario i (e ∷ before)) W
            ∙ ap (λ w. waits_by_last_effect w (waits (tot_of_key m) W)) (data_last_effect m scenario i e before ∙ no_effect.0)) ∙ h)
        | inr asks ↦ inr (asks.0, asks.1, asks.2)
      ]

  -- a data frame that waits, waits on
  pub data_still : (m : MsgKey) → waits (tot_of_key m) W ≡ true → waits (tot_of_key m) (waiting_after (turn_effects scenario i (e ∷ before)) W) ≡ true
  data_still m h =
      turn_waits (tot_of_key m) (turn_effects scenario i (e ∷ before)) W
      ∙ ap (λ w. waits_by_last_effect w (waits (tot_of_key m) W)) (data_last_effect m scenario i e before)
      ∙ by_next (next_after scenario.params (e ∷ before) (backlog scenario i (e ∷ before)) (asked scenario i before))
    where
      by_next : (o : Option Message) → waits_by_last_effect (last_effect (tot_of_key m) (ask_for o)) (waits (tot_of_key m) W) ≡ true
      by_next o = elim (asks_next m o) [
        | inl no_effect ↦ ap (λ w. waits_by_last_effect w (waits (tot_of_key m) W)) no_effect.0 ∙ h
        | inr asks ↦ ap (λ w. waits_by_last_effect w (waits (tot_of_key m) W)) asks.3
      ]
