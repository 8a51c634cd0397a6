-- A notice that brings no frame of TOTCAN is to TOTCAN and to the backlog as an idle slot.
use Rattle.std.specs.Prelude.{slice_get, slice_index_or}
use Rattle.std.specs.List.{AllByRecursion, last_or, list_all, list_any}
use Rattle.std.specs.Option.{option_map_or}
use Rattle.std.proofs.Common.{◌≡◌, ℕ, zero, suc, ◌+◌, ◌-◌, ◌==◌, ◌&&◌, ◌||◌, Bool, true, false, not, nat_lt, if◌then◌else◌, List, [], ◌∷◌, ◌++◌, length, drop, take, map, Option, Some, None, refl, ap, sym, ◌∙◌, subst}
use Rattle.std.proofs.lemmas.Bool.{or_right}
use Rattle.cany_base.specs.declared.class.Class.{Class}
use Rattle.cany_base.specs.declared.class.Class.TheVariants as class
use Rattle.cany_base.specs.declared.message.MsgKey.{MsgKey}
use Rattle.cany_base.specs.declared.notice.NoticeKind.{NoticeKind}
use Rattle.cany_base.specs.declared.notice.NoticeKind.TheVariants.{Idle, Got, Sent, Bad}
use Rattle.cany_base.specs.Frame.{FrameParts, data_class}
use Rattle.cany_base.specs.Params.{Parameters}
use Rattle.cany_base.specs.Scenario.{ScenarioParts}
use Rattle.cany_model.specs.Bus.Frames.{Identity, same_class, same_identity}
use Rattle.cany_model.specs.Bus.History.{copies, has_own, is_got, is_sent}
use Rattle.cany_model.specs.Rules.Backlog.{is_free, is_past_last, next_after, next_of}
use Rattle.cany_model.specs.Rules.Effect.{Withdraw}
use Rattle.cany_model.specs.Rules.Messages.{Message, accept_of_key, data_id, message_key}
use Rattle.cany_model.specs.Rules.Totcan.{accept_effects, after_place, closing_effects, closing_of, delivered, delivered_now, done, done_at, done_from, holds, is_accepted, is_among as is_one_of, is_clear, is_heard, can_be_accepted, is_pending, is_recent, message_in, new_among, tot_delivery, tot_in, tot_of_key, totcan_effects, with_new}
use Rattle.cany_model.proofs.Among.{Each-weaker}
use Rattle.cany_totcan.specs.declared.queue.Placed.{Placed}
use Rattle.cany_totcan.specs.Queue.{placed_at, placed_from, placed_in}
use Rattle.cany_totcan.specs.Totcan.{AreDelivered, AreDone, IsFirstPending, IsOwnTot, IsTotcanOf, TotcanParts, key_of, place_of}
use Rattle.cany_totcan.proofs.OwnFacts.{backlog_same}
use Rattle.cany_node.proofs.TellsNothingOfTheSite.{apart, apart_from}
use Rattle.cany_node.proofs.UnreadFrames.{copies_unread, own_unread}

-- ---- what TOTCAN finds in the notice

-- a class of TOTCAN
abbrev pub is_of_totcan : Class → Bool
is_of_totcan c = same_class c class.Tot || same_class c class.Accept

tot_is : is_of_totcan class.Tot ≡ true
unfolding same_class
tot_is = refl

accept_is : is_of_totcan class.Accept ≡ true
unfolding same_class
accept_is = refl

-- no frame that places or accepts a message
pub record IsUnplaced (e : NoticeKind) : Type 0 where
  pub got : (x : Identity) → is_of_totcan x.class ≡ true → is_got x e ≡ false
  pub sent : (x : Identity) → is_of_totcan x.class ≡ true → is_sent x e ≡ false
  pub accept : (p : Parameters) (i : ℕ) (before : List NoticeKind) → accept_effects p i e before ≡ []
  pub tot : tot_in e ≡ None

pub unplaced_got : (f : FrameParts) → is_of_totcan f.class ≡ false → IsUnplaced (Got f)
unfolding same_identity accept_effects tot_in
unplaced_got f other = record {
  got = λ x is. rw (apart_from is_of_totcan f.class x.class other is) refl;
  sent = λ x is. refl;
  accept = λ p i before. rw (apart is_of_totcan f.class class.Accept other accept_is) refl;
  tot = rw (apart is_of_totcan f.class class.Tot other tot_is) refl;
}

pub unplaced_sent : (f : FrameParts) → is_of_totcan f.class ≡ false → IsUnplaced (Sent f)
unfolding same_identity accept_effects tot_in
unplaced_sent f other = record {
  got = λ x is. refl;
  sent = λ x is. rw (apart_from is_of_totcan f.class x.class other is) refl;
  accept = λ p i before. rw (apart is_of_totcan f.class class.Tot other tot_is) refl;
  tot = rw (apart is_of_totcan f.class class.Tot other tot_is) refl;
}

pub unplaced_idle : IsUnplaced Idle
unfolding accept_effects tot_in
unplaced_idle = record { got = λ x is. refl; sent = λ x is. refl; accept = λ p i before. refl; tot = refl }

pub unplaced_bad : IsUnplaced Bad
unfolding accept_effects tot_in
unplaced_bad = record { got = λ x is. refl; sent = λ x is. refl; accept = λ p i before. refl; tot = refl }

module _ (e : NoticeKind) (only : IsUnplaced e) where
  -- ---- places and acceptance

  no_place : (key : MsgKey) → holds key e ≡ false
  unfolding same_class
  no_place key = λ j. only.got (tot_of_key key) refl j || only.sent (tot_of_key key) refl j

  accept_copies : (key : MsgKey) (past : List NoticeKind) → copies (accept_of_key key) (e ∷ past) ≡ copies (accept_of_key key) (Idle ∷ past)
  unfolding same_class
  accept_copies key past = copies_unread (accept_of_key key) e past (only.got (accept_of_key key) refl)

  accept_own : (key : MsgKey) (past : List NoticeKind) → has_own (accept_of_key key) (e ∷ past) ≡ has_own (accept_of_key key) (Idle ∷ past)
  unfolding same_class
  accept_own key past = own_unread (accept_of_key key) e past (only.sent (accept_of_key key) refl)

  module _ (past : List NoticeKind) where
    tot_own : (key : MsgKey) → has_own (tot_of_key key) (e ∷ past) ≡ has_own (tot_of_key key) (Idle ∷ past)
    unfolding same_class
    tot_own key = own_unread (tot_of_key key) e past (only.sent (tot_of_key key) refl)

    recent_same : (n : ℕ) (key : MsgKey) → is_recent n key (e ∷ past) ≡ is_recent n key (Idle ∷ past)
    unfolding is_recent
    recent_same zero key = refl
    recent_same (suc n) key = ap (λ b. b || list_any (holds key) (take n past)) (no_place key)

    after_same : (key : MsgKey) → after_place key (e ∷ past) ≡ e ∷ after_place key past
    unfolding after_place
    after_same key = ap (λ b. if b then [] else e ∷ after_place key past) (no_place key)

    place_same : (key : MsgKey) → place_of key (e ∷ past) ≡ place_of key (Idle ∷ past)
    unfolding place_of
    place_same key = ap (λ b. if b then Some (length past) else place_of key past) (no_place key)

    heard_same : (bound : ℕ) (key : MsgKey) → is_heard bound key (e ∷ past) ≡ is_heard bound key (Idle ∷ past)
    unfolding is_heard same_class
    heard_same bound key = λ j.
        not (no_place key j) && (is_heard bound key past || only.got (accept_of_key key) refl j && can_be_accepted bound key past)

    accepted_same : (bound i : ℕ) (key : MsgKey) → is_accepted bound i key (e ∷ past) ≡ is_accepted bound i key (Idle ∷ past)
    unfolding is_accepted
    accepted_same bound i key = λ j. heard_same bound key j || key.origin == i && tot_own key j

    -- ---- closings and deliveries

    closing_same : (bound : ℕ) → closing_effects bound (e ∷ past) ≡ closing_effects bound (Idle ∷ past)
    unfolding closing_effects tot_in
    closing_same bound = go bound
      where
        of_frame : (f : Option FrameParts) → closing_of bound (e ∷ past) f ≡ closing_of bound (Idle ∷ past) f
        of_frame None = refl
        of_frame (Some f) = ap (λ b. if b then [] else Withdraw (accept_of_key (message_in f)) ∷ []) (recent_same bound (message_in f))

        go : (n : ℕ) → closing_of bound (e ∷ past) (tot_in (slice_index_or (e ∷ past) n Idle)) ≡ closing_of bound (Idle ∷ past) (tot_in (slice_index_or (Idle ∷ past) n Idle))
        go zero = ap (closing_of bound (e ∷ past)) only.tot
        go (suc n) = of_frame (tot_in (slice_index_or past n Idle))

    module _ (p : Parameters) (i : ℕ) where
      pending_same : (age : ℕ) (f : Option FrameParts) → is_pending p i (e ∷ past) age f ≡ is_pending p i (Idle ∷ past) age f
      pending_same age None = refl
      pending_same age (Some f) = λ j.
          not (recent_same age (message_in f) j) && nat_lt age p.bound && not (accepted_same p.bound i (message_in f) j)

      clear_same : (age : ℕ) (older : List NoticeKind) → is_clear p i (e ∷ past) age older ≡ is_clear p i (Idle ∷ past) age older
      unfolding is_clear
      clear_same age [] = refl
      clear_same age (k ∷ older) = λ j. not (pending_same age (tot_in k) j) && clear_same (age + 1) older j

      done_at_same : (age : ℕ) (older : List NoticeKind) (f : Option FrameParts) → done_at p i (e ∷ past) age older f ≡ done_at p i (Idle ∷ past) age older f
      done_at_same age older None = refl
      done_at_same age older (Some f) = λ j.
          if not (recent_same age (message_in f) j) && accepted_same p.bound i (message_in f) j && clear_same (age + 1) older j then f ∷ [] else []

      done_from_same : (age : ℕ) (older : List NoticeKind) → done_from p i (e ∷ past) age older ≡ done_from p i (Idle ∷ past) age older
      unfolding done_from
      done_from_same age [] = refl
      done_from_same age (k ∷ older) = λ j. done_from_same (age + 1) older j ++ done_at_same age older (tot_in k) j

      done_same : done p i (e ∷ past) ≡ done p i (Idle ∷ past)
      unfolding done_from tot_in
      done_same = λ j. done_from_same (0 + 1) past j ++ done_at p i (e ∷ past) 0 past (only.tot j)

      delivered_same : delivered p i (e ∷ past) ≡ delivered p i (Idle ∷ past)
      unfolding delivered
      delivered_same = ap (with_new (delivered p i past)) done_same

      delivered_now_same : delivered_now p i (e ∷ past) ≡ delivered_now p i (Idle ∷ past)
      unfolding delivered_now
      delivered_now_same = ap (new_among (delivered p i past)) done_same

    pub totcan_same : (scenario : ScenarioParts) (i : ℕ) → totcan_effects scenario i (e ∷ past) ≡ totcan_effects scenario i (Idle ∷ past)
    unfolding totcan_effects accept_effects
    totcan_same scenario i = λ j.
        only.accept scenario.params i past j
        ++ closing_same scenario.params.bound j
        ++ map (tot_delivery (length past)) (delivered_now_same scenario.params i j)

    -- ---- what is open

    placed_at_same : (age : ℕ) (f : Option FrameParts) → placed_at (e ∷ past) age f ≡ placed_at (Idle ∷ past) age f
    placed_at_same age None = refl
    placed_at_same age (Some f) =
        ap (λ b. if not b then record { frame = f; place = length (e ∷ past) - (age + 1) } ∷ [] else []) (recent_same age (message_in f))

    placed_from_same : (age : ℕ) (older : List NoticeKind) → placed_from (e ∷ past) age older ≡ placed_from (Idle ∷ past) age older
    unfolding placed_from
    placed_from_same age [] = refl
    placed_from_same age (k ∷ older) = λ j. placed_from_same (age + 1) older j ++ placed_at_same age (tot_in k) j

    placed_same : (newest : ℕ) → placed_in newest (e ∷ past) ≡ placed_in newest (Idle ∷ past)
    unfolding placed_from tot_in
    placed_same zero = refl
    placed_same (suc n) = λ j. placed_from_same (0 + 1) (take n past) j ++ placed_at (e ∷ past) 0 (only.tot j)

    -- ---- the backlog

    own_of : (m : Message) → data_class m.service ≡ class.Tot → has_own (data_id m) (e ∷ past) ≡ has_own (data_id m) (Idle ∷ past)
    unfolding same_class
    own_of m is = own_unread (data_id m) e past (only.sent (data_id m) (rw is refl))

    all_own : (scenario : ScenarioParts) (i n : ℕ) (messages : List Message) → AllByRecursion (IsOwnTot scenario i) messages
        → list_all (λ m. has_own (data_id m) (e ∷ past)) (take n messages) ≡ list_all (λ m. has_own (data_id m) (Idle ∷ past)) (take n messages)
    all_own scenario i zero messages own = refl
    all_own scenario i (suc n) [] own = refl
    all_own scenario i (suc n) (m ∷ messages) own = λ j. own_of m (ap data_class own.0.sent_by) j && all_own scenario i n messages own.1 j

    past_last_same : (slots : ℕ) (messages : List Message) → is_past_last slots messages (e ∷ past) ≡ is_past_last slots messages (Idle ∷ past)
    past_last_same slots messages = by_last (last_or None messages)
      where
        by_last : (m : Option Message) → option_map_or (λ m. not (is_recent slots (message_key m) (e ∷ past))) m true
            ≡ option_map_or (λ m. not (is_recent slots (message_key m) (Idle ∷ past))) m true
        by_last None = refl
        by_last (Some m) = ap not (recent_same slots (message_key m))

    -- of its own messages the node asks for the same
    pub next_same : (scenario : ScenarioParts) (i : ℕ) (messages : List Message) (n : ℕ) → AllByRecursion (IsOwnTot scenario i) messages
        → next_after scenario.params (e ∷ past) messages n ≡ next_after scenario.params (Idle ∷ past) messages n
    next_same scenario i messages n own = go (drop n messages)
      where
        free : is_free scenario.params (take n messages) (e ∷ past) ≡ is_free scenario.params (take n messages) (Idle ∷ past)
        free = λ j. all_own scenario i n messages own j && past_last_same (scenario.params.bound + scenario.params.lag) (take n messages) j

        go : (later : List Message) → next_of scenario.params (e ∷ past) (take n messages) later ≡ next_of scenario.params (Idle ∷ past) (take n messages) later
        go [] = refl
        go (m ∷ later) = ap (λ b. if b then Some m else None) free

    -- ---- the value

    still_own : (m : Message) → has_own (data_id m) (Idle ∷ past) ≡ true → has_own (data_id m) (e ∷ past) ≡ true
    unfolding has_own
    still_own m own = or_right (is_sent (data_id m) e) (has_own (data_id m) past) own

    -- it stands for the notice as for an idle slot
    pub totcan_unheard : (scenario : ScenarioParts) (i : ℕ) (messages : List Message) (count : ℕ) (v : TotcanParts)
        → IsTotcanOf scenario i (Idle ∷ past) messages count v → IsTotcanOf scenario i (e ∷ past) messages count v
    unfolding after_place
    totcan_unheard scenario i messages count v h = record {
      limits = h.limits;
      queue = record { places = h.queue.places ∙ sym (placed_same p.bound); messages = h.queue.messages };
      acceptances = record {
        copies = λ key recent.
            h.acceptances.copies key (sym (recent_same p.bound key) ∙ recent)
            ∙ sym (ap (copies (accept_of_key key)) (after_same key) ∙ accept_copies key (after_place key past));
        owned = λ key recent.
            h.acceptances.owned key (sym (recent_same p.bound key) ∙ recent)
            ∙ sym (ap (has_own (accept_of_key key)) (after_same key) ∙ accept_own key (after_place key past));
      };
      are_delivered = subst (λ frames. AreDelivered frames v.deliveries) (sym (delivered_same p i)) h.are_delivered;
      done = done_still (take v.queue.done v.queue.items) h.done;
      pending = pending_still (slice_get v.queue.items v.queue.done) h.pending;
      backlog = backlog_same scenario i (Idle ∷ past) (e ∷ past) messages count v.backlog (λ seq. tot_own (key_of seq i)) (λ seq. place_same (key_of seq i)) still_own
          h.backlog;
    }
      where
        p : Parameters
        p = scenario.params

        done_still : (items : List Placed) → AreDone p i (Idle ∷ past) (delivered p i (Idle ∷ past)) items → AreDone p i (e ∷ past) (delivered p i (e ∷ past)) items
        done_still items all =
            Each-weaker _ _
            (λ x both. (accepted_same p.bound i (message_in x.frame) ∙ both.0, ap (λ frames. is_one_of frames x.frame) (delivered_same p i) ∙ both.1)) items all

        pending_still : (next : Option Placed) → IsFirstPending p i (Idle ∷ past) next → IsFirstPending p i (e ∷ past) next
        pending_still None pending = tt
        pending_still (Some x) pending = accepted_same p.bound i (message_in x.frame) ∙ pending
