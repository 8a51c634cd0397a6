-- No rule tells an error from an idle slot: EDCAN, RELCAN, TOTCAN and the backlog.
use Rattle.std.proofs.Common.{◌≡◌, ℕ, ◌+◌, true, false, not, List, [], ◌∷◌, drop, take, Option, Some, None, refl, ap, ◌∙◌}
use Rattle.std.specs.Prelude.{slice_index_or}
use Rattle.std.specs.List.{last_or, list_any, list_all}
use Rattle.std.specs.Option.{option_map_or}
use Rattle.cany_base.specs.declared.message.MsgKey.{MsgKey}
use Rattle.cany_base.specs.declared.message.Service.{Service}
use Rattle.cany_base.specs.declared.message.Service.TheVariants as service
use Rattle.cany_base.specs.declared.notice.NoticeKind.{NoticeKind}
use Rattle.cany_base.specs.declared.notice.NoticeKind.TheVariants.{Idle, Got, Sent, Bad}
use Rattle.cany_base.specs.Frame.{FrameParts}
use Rattle.cany_base.specs.Params.{Parameters}
use Rattle.cany_base.specs.Scenario.{ScenarioParts}
use Rattle.cany_model.specs.Bus.Frames.{Identity, identity_of}
use Rattle.cany_model.specs.Bus.History.{has_own, is_got}
use Rattle.cany_model.specs.Rules.Backlog.{asked, backlog, backlog_effects, is_free, is_past_last, next_after, next_of}
use Rattle.cany_model.specs.Rules.Delivery.{brings, delivery_effects}
use Rattle.cany_model.specs.Rules.Eager.{eager_effects, has_enough}
use Rattle.cany_model.specs.Rules.Edcan.{edcan_at, edcan_effects}
use Rattle.cany_model.specs.Rules.Messages.{Message, accept_of_key, message_key, data_id}
use Rattle.cany_model.specs.Rules.Notices.{error_as_idle}
use Rattle.cany_model.specs.Rules.Relcan.{fall_back_effects, falls_back, fell_back, has_copy, has_timer_ahead, is_first_got, relcan_at, relcan_effects, timer_effects}
use Rattle.cany_model.specs.Rules.Totcan.{accept_effects, after_place, closing_effects, closing_of, delivered, delivered_now, done_at, done_from, has_closing_ahead, holds, tot_of_key, is_accepted, is_clear, is_heard, is_pending, is_recent, message_in, tot_in, totcan_effects}
use Rattle.cany_model.proofs.Rules.ErrorCounts.{IsBlind, blind_got, blind_sent, plain, plain-any, plain-at, plain-copies, plain-drop, plain-length, plain-own, plain-take}

-- ---- the eager rule, and deliveries

plain_enough : (omit : ℕ) (x : Identity) (past : List NoticeKind) → has_enough omit x (plain past) ≡ has_enough omit x past
plain_enough omit x past = rw (plain-copies x past) refl

pub plain_eager : (omit : ℕ) (f : FrameParts) (past : List NoticeKind) → eager_effects omit f (plain past) ≡ eager_effects omit f past
unfolding eager_effects
plain_eager omit f past = rw (plain-copies (identity_of f) past, plain-own (identity_of f) past) refl

blind_brings : (i : ℕ) (x : Identity) → IsBlind (brings i x)
blind_brings i x e = rw (blind_got x e, blind_sent x e) refl

pub plain_delivery : (by : Service) (i : ℕ) (f : FrameParts) (e : NoticeKind) (past : List NoticeKind)
    → delivery_effects by i f e (plain past) ≡ delivery_effects by i f e past
unfolding delivery_effects
plain_delivery by i f e past = rw (plain-any (brings i (identity_of f)) (blind_brings i (identity_of f)) past, plain-length past) refl

-- ---- EDCAN

plain_edcan_at : (omit i : ℕ) (e : NoticeKind) (past : List NoticeKind) → edcan_at omit i (error_as_idle e) (plain past) ≡ edcan_at omit i e past
unfolding edcan_at
plain_edcan_at omit i Idle past = refl
plain_edcan_at omit i Bad past = refl
plain_edcan_at omit i (Got f) past = rw (plain_delivery service.Ed i f (Got f) past, plain_eager omit f (Got f ∷ past)) refl
plain_edcan_at omit i (Sent f) past = rw (plain_delivery service.Ed i f (Sent f) past) refl

pub plain_edcan : (scenario : ScenarioParts) (i : ℕ) (past : List NoticeKind) → edcan_effects scenario i (plain past) ≡ edcan_effects scenario i past
unfolding edcan_effects
plain_edcan scenario i [] = refl
plain_edcan scenario i (e ∷ past) = plain_edcan_at scenario.params.omit i e past

-- ---- RELCAN

plain_copy : (x : Identity) (past : List NoticeKind) → has_copy x (plain past) ≡ has_copy x past
plain_copy x past = plain-any (is_got x) (blind_got x) past

plain_first : (x : Identity) (past : List NoticeKind) → is_first_got x (plain past) ≡ is_first_got x past
plain_first x [] = refl
plain_first x (e ∷ past) = rw (blind_got x e, plain_copy x past) refl

plain_falls : (timer i : ℕ) (x : Identity) (past : List NoticeKind) → falls_back timer i x (plain past) ≡ falls_back timer i x past
plain_falls timer i x past = rw (plain-drop timer past, plain_first x (drop timer past), plain_copy _ past) refl

plain_fell : (timer i : ℕ) (x : Identity) (past : List NoticeKind) → fell_back timer i x (plain past) ≡ fell_back timer i x past
unfolding fell_back
plain_fell timer i x [] = refl
plain_fell timer i x (e ∷ past) = rw (plain_falls timer i x (e ∷ past), plain_fell timer i x past) refl

pub plain_timer_ahead : (scenario : ScenarioParts) (m : Message) (i : ℕ) (past : List NoticeKind)
    → has_timer_ahead scenario m i (plain past) ≡ has_timer_ahead scenario m i past
plain_timer_ahead scenario m i past =
    rw (plain-drop scenario.params.confirm past, plain_copy _ past, plain_copy _ (drop scenario.params.confirm past), plain_copy _ past) refl

plain_relcan_at : (p : Parameters) (i : ℕ) (e : NoticeKind) (past : List NoticeKind) → relcan_at p i (error_as_idle e) (plain past) ≡ relcan_at p i e past
unfolding relcan_at
plain_relcan_at p i Idle past = refl
plain_relcan_at p i Bad past = refl
plain_relcan_at p i (Got f) past =
    rw (plain_delivery service.Rel i f (Got f) past, plain_fell p.confirm i (identity_of f) past, plain_copies' f past) refl
  where
    plain_copies' : (f : FrameParts) (past : List NoticeKind) → has_enough p.omit (identity_of f) (Got f ∷ plain past) ≡ has_enough p.omit (identity_of f) (Got f ∷ past)
    plain_copies' f past = plain_enough p.omit (identity_of f) (Got f ∷ past)
plain_relcan_at p i (Sent f) past = rw (plain_delivery service.Rel i f (Sent f) past) refl

plain_fall_back : (p : Parameters) (i : ℕ) (e : NoticeKind) (past : List NoticeKind)
    → fall_back_effects p i (plain past) (error_as_idle e) ≡ fall_back_effects p i past e
plain_fall_back p i Idle past = refl
plain_fall_back p i Bad past = refl
plain_fall_back p i (Sent f) past = refl
plain_fall_back p i (Got f) past = rw (plain_falls p.confirm i (identity_of f) past, plain_enough p.omit (identity_of f) past) refl

plain_timer : (p : Parameters) (i : ℕ) (past : List NoticeKind) → timer_effects p i (plain past) ≡ timer_effects p i past
unfolding timer_effects
plain_timer p i past =
    ap (fall_back_effects p i (plain past)) (plain-at past p.confirm) ∙ plain_fall_back p i (slice_index_or past p.confirm Idle) past

pub plain_relcan : (scenario : ScenarioParts) (i : ℕ) (past : List NoticeKind) → relcan_effects scenario i (plain past) ≡ relcan_effects scenario i past
unfolding relcan_effects
plain_relcan scenario i [] = refl
plain_relcan scenario i (e ∷ past) = rw (plain_relcan_at scenario.params i e past, plain_timer scenario.params i (e ∷ past)) refl

-- ---- TOTCAN: places and acceptance

blind_holds : (key : MsgKey) → IsBlind (holds key)
blind_holds key Idle = refl
blind_holds key Bad = refl
blind_holds key (Got f) = refl
blind_holds key (Sent f) = refl

pub plain_recent : (n : ℕ) (key : MsgKey) (past : List NoticeKind) → is_recent n key (plain past) ≡ is_recent n key past
unfolding is_recent
plain_recent n key past = ap (list_any (holds key)) (plain-take n past) ∙ plain-any (holds key) (blind_holds key) (take n past)

plain_heard : (bound : ℕ) (key : MsgKey) (past : List NoticeKind) → is_heard bound key (plain past) ≡ is_heard bound key past
unfolding is_heard
plain_heard bound key [] = refl
plain_heard bound key (e ∷ past) =
    rw (blind_holds key e, plain_heard bound key past, blind_got (accept_of_key key) e, plain_recent bound key past) refl

plain_accepted : (bound i : ℕ) (key : MsgKey) (past : List NoticeKind) → is_accepted bound i key (plain past) ≡ is_accepted bound i key past
unfolding is_accepted
plain_accepted bound i key past = rw (plain_heard bound key past, plain-own (tot_of_key key) past) refl

plain_after_place : (key : MsgKey) (past : List NoticeKind) → after_place key (plain past) ≡ plain (after_place key past)
unfolding after_place
plain_after_place key [] = refl
plain_after_place key (e ∷ past) = elim (holds key e) as (λ b. (holds key e ≡ b) → after_place key (plain (e ∷ past)) ≡ plain (after_place key (e ∷ past))) [
  | true ↦ λ here. rw (blind_holds key e, here) refl
  | false ↦ λ not_here. rw (blind_holds key e, not_here) (ap (λ rest. error_as_idle e ∷ rest) (plain_after_place key past))
] refl

plain_accept : (p : Parameters) (i : ℕ) (e : NoticeKind) (past : List NoticeKind) → accept_effects p i (error_as_idle e) (plain past) ≡ accept_effects p i e past
unfolding accept_effects
plain_accept p i Idle past = refl
plain_accept p i Bad past = refl
plain_accept p i (Sent f) past = refl
plain_accept p i (Got f) past =
    rw (plain_recent p.bound (message_in f) past, plain_after_place (message_in f) (Got f ∷ past), plain_eager p.omit f (after_place (message_in f) (Got f ∷ past))) refl

plain_tot_in : (e : NoticeKind) → tot_in (error_as_idle e) ≡ tot_in e
unfolding tot_in
plain_tot_in Idle = refl
plain_tot_in Bad = refl
plain_tot_in (Got f) = refl
plain_tot_in (Sent f) = refl

plain_closing_of : (bound : ℕ) (past : List NoticeKind) (f : Option FrameParts) → closing_of bound (plain past) f ≡ closing_of bound past f
plain_closing_of bound past None = refl
plain_closing_of bound past (Some f) = rw (plain_recent bound (message_in f) past) refl

plain_closing : (bound : ℕ) (past : List NoticeKind) → closing_effects bound (plain past) ≡ closing_effects bound past
unfolding closing_effects
plain_closing bound past =
    ap (λ e. closing_of bound (plain past) (tot_in e)) (plain-at past bound)
    ∙ ap (closing_of bound (plain past)) (plain_tot_in (slice_index_or past bound Idle))
    ∙ plain_closing_of bound past (tot_in (slice_index_or past bound Idle))

-- ---- TOTCAN: deliveries

plain_pending : (p : Parameters) (i : ℕ) (past : List NoticeKind) (age : ℕ) (f : Option FrameParts) → is_pending p i (plain past) age f ≡ is_pending p i past age f
plain_pending p i past age None = refl
plain_pending p i past age (Some f) = rw (plain_recent age (message_in f) past, plain_accepted p.bound i (message_in f) past) refl

plain_clear : (p : Parameters) (i : ℕ) (past : List NoticeKind) (age : ℕ) (older : List NoticeKind)
    → is_clear p i (plain past) age (plain older) ≡ is_clear p i past age older
unfolding is_clear
plain_clear p i past age [] = refl
plain_clear p i past age (e ∷ older) = rw (plain_tot_in e, plain_pending p i past age (tot_in e), plain_clear p i past (age + 1) older) refl

plain_done_at : (p : Parameters) (i : ℕ) (past : List NoticeKind) (age : ℕ) (older : List NoticeKind) (f : Option FrameParts)
    → done_at p i (plain past) age (plain older) f ≡ done_at p i past age older f
plain_done_at p i past age older None = refl
plain_done_at p i past age older (Some f) =
    rw (plain_recent age (message_in f) past, plain_accepted p.bound i (message_in f) past, plain_clear p i past (age + 1) older) refl

plain_done : (p : Parameters) (i : ℕ) (past : List NoticeKind) (age : ℕ) (older : List NoticeKind)
    → done_from p i (plain past) age (plain older) ≡ done_from p i past age older
unfolding done_from
plain_done p i past age [] = refl
plain_done p i past age (e ∷ older) =
    rw (plain_done p i past (age + 1) older, plain_tot_in e, plain_done_at p i past age older (tot_in e)) refl

plain_delivered : (p : Parameters) (i : ℕ) (past : List NoticeKind) → delivered p i (plain past) ≡ delivered p i past
unfolding delivered
plain_delivered p i [] = refl
plain_delivered p i (e ∷ past) = rw (plain_delivered p i past, plain_done p i (e ∷ past) 0 (e ∷ past)) refl

plain_delivered_now : (p : Parameters) (i : ℕ) (past : List NoticeKind) → delivered_now p i (plain past) ≡ delivered_now p i past
unfolding delivered_now
plain_delivered_now p i [] = refl
plain_delivered_now p i (e ∷ past) = rw (plain_delivered p i past, plain_done p i (e ∷ past) 0 (e ∷ past)) refl

pub plain_totcan : (scenario : ScenarioParts) (i : ℕ) (past : List NoticeKind) → totcan_effects scenario i (plain past) ≡ totcan_effects scenario i past
unfolding totcan_effects
plain_totcan scenario i [] = refl
plain_totcan scenario i (e ∷ past) =
    rw (
      plain_accept scenario.params i e past,
      plain_closing scenario.params.bound (e ∷ past),
      plain-length past,
      plain_delivered_now scenario.params i (e ∷ past),
    ) refl

pub plain_closing_ahead : (scenario : ScenarioParts) (m : Message) (i : ℕ) (past : List NoticeKind)
    → has_closing_ahead scenario m i (plain past) ≡ has_closing_ahead scenario m i past
plain_closing_ahead scenario m i past = rw (plain_recent scenario.params.bound (message_key m) past) refl

-- ---- the backlog

plain_backlog : (scenario : ScenarioParts) (i : ℕ) (past : List NoticeKind) → backlog scenario i (plain past) ≡ backlog scenario i past
unfolding backlog
plain_backlog scenario i [] = refl
plain_backlog scenario i (e ∷ past) = rw (plain_backlog scenario i past, plain-length past) refl

plain_all_own : (past : List NoticeKind) (ms : List Message) → list_all (λ m. has_own (data_id m) (plain past)) ms ≡ list_all (λ m. has_own (data_id m) past) ms
plain_all_own past [] = refl
plain_all_own past (m ∷ ms) = rw (plain-own (data_id m) past, plain_all_own past ms) refl

plain_past_last : (slots : ℕ) (ms : List Message) (past : List NoticeKind) → is_past_last slots ms (plain past) ≡ is_past_last slots ms past
plain_past_last slots ms past = by_last (last_or None ms)
  where
    by_last : (m : Option Message) → option_map_or (λ m. not (is_recent slots (message_key m) (plain past))) m true
        ≡ option_map_or (λ m. not (is_recent slots (message_key m) past)) m true
    by_last None = refl
    by_last (Some m) = ap not (plain_recent slots (message_key m) past)

plain_free : (p : Parameters) (ms : List Message) (past : List NoticeKind) → is_free p ms (plain past) ≡ is_free p ms past
plain_free p ms past = rw (plain_all_own past ms, plain_past_last (p.bound + p.lag) ms past) refl

plain_next_of : (p : Parameters) (past : List NoticeKind) (earlier later : List Message) → next_of p (plain past) earlier later ≡ next_of p past earlier later
plain_next_of p past earlier [] = refl
plain_next_of p past earlier (m ∷ later) = rw (plain_free p earlier past) refl

plain_next : (p : Parameters) (past : List NoticeKind) (ms : List Message) (n : ℕ) → next_after p (plain past) ms n ≡ next_after p past ms n
plain_next p past ms n = plain_next_of p past (take n ms) (drop n ms)

plain_asked : (scenario : ScenarioParts) (i : ℕ) (past : List NoticeKind) → asked scenario i (plain past) ≡ asked scenario i past
unfolding asked
plain_asked scenario i [] = refl
plain_asked scenario i (e ∷ past) =
    rw (plain_asked scenario i past, plain_backlog scenario i (e ∷ past), plain_next scenario.params (e ∷ past) (backlog scenario i (e ∷ past)) (asked scenario i past)) refl

pub plain_backlog_effects : (scenario : ScenarioParts) (i : ℕ) (past : List NoticeKind) → backlog_effects scenario i (plain past) ≡ backlog_effects scenario i past
unfolding backlog_effects
plain_backlog_effects scenario i [] = refl
plain_backlog_effects scenario i (e ∷ past) =
    rw (plain_asked scenario i past, plain_backlog scenario i (e ∷ past), plain_next scenario.params (e ∷ past) (backlog scenario i (e ∷ past)) (asked scenario i past)) refl
