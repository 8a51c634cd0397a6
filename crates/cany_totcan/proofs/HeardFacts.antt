-- The value after a notice, before what closes and what is delivered in its turn.
use Rattle.cany_model.specs.Rules.Rooms.{sends_by}
use Rattle.std.proofs.Common.{◌≡◌, ℕ, ◌+◌, ◌<◌, ◌==◌, ◌&&◌, ◌||◌, inl, inr, Bool, true, false, if◌then◌else◌, List, [], ◌∷◌, ◌++◌, length, take, Some, None, refl, ap, sym, subst, ◌∙◌, arith}
use Rattle.std.specs.List.{AllByRecursion, list_any}
use Rattle.std.proofs.lemmas.Bool.{and_parts, cases_Bool, eqb-true}
use Rattle.cany_base.specs.declared.class.Class.{Class}
use Rattle.cany_base.specs.declared.class.Class.TheVariants as class
use Rattle.cany_base.specs.declared.message.MsgKey.{MsgKey}
use Rattle.cany_base.specs.declared.message.Service.TheVariants as service
use Rattle.cany_base.specs.declared.notice.Notice.{Notice}
use Rattle.cany_base.specs.declared.notice.NoticeKind.{NoticeKind}
use Rattle.cany_base.specs.declared.notice.NoticeKind.TheVariants.{Idle, Got, Sent, Bad}
use Rattle.cany_base.specs.Frame.{FrameParts}
use Rattle.cany_base.specs.Scenario.{ScenarioParts}
use Rattle.cany_base.proofs.ParamsFacts.{few_slots}
use Rattle.cany_diffuse.specs.Eager.{learnt_of}
use Rattle.cany_message.specs.Actions.{relay_actions}
use Rattle.cany_message.proofs.HistoryFacts.{identity_is}
use Rattle.cany_message.proofs.NoticeFacts.{got_belongs, sent_belongs}
use Rattle.cany_message.proofs.RelayFacts.{eager_is}
use Rattle.cany_model.specs.Bus.Frames.{identity_of, same_class}
use Rattle.cany_model.specs.Bus.History.{copies, has_own}
use Rattle.cany_model.specs.Rules.Actions.{actions_of}
use Rattle.cany_model.specs.Rules.Eager.{eager_effects}
use Rattle.cany_model.specs.Rules.Effect.{Ask}
use Rattle.cany_model.specs.Rules.Messages.{Message}
use Rattle.cany_model.specs.Rules.Notices.{BelongsTo, IsNextNotice, NamesMessage}
use Rattle.cany_model.specs.Rules.Totcan.{accept_effects, accept_frame, after_place, delivered, holds, can_be_accepted, is_recent, message_in, tot_in}
use Rattle.cany_model.proofs.Among.{Each-weaker}
use Rattle.cany_model.proofs.Bus.Identities.{same_class-true}
use Rattle.cany_totcan.specs.declared.queue.Open.{Open}
use Rattle.cany_totcan.specs.declared.queue.Placed.{Placed}
use Rattle.cany_totcan.specs.Acceptances.{IsNoted, forgotten, noted_of, with_copy, with_own}
use Rattle.cany_totcan.specs.Queue.{AreOnce, is_at, moved, placed_in, without_key}
use Rattle.cany_totcan.specs.Totcan.{AreAcceptances, AreDone, CanRead, HasHeard, IsBacklogOf, IsTotcanOf, TotcanParts}
use Rattle.cany_totcan.specs.TotcanSteps.{CanHold, has_open, held, noted_if, origin_actions}
use Rattle.cany_totcan.proofs.AcceptanceFacts.{AcceptsNone, acceptances_learnt, acceptances_moved, acceptances_owned, acceptances_same, accepts_none-bad, accepts_none-got, accepts_none-got_closed, accepts_none-idle, accepts_none-sent, accepts_none-sent_closed, not_accepting, not_carrying}
use Rattle.cany_totcan.proofs.AcceptedFacts.{accepted_stays}
use Rattle.cany_totcan.proofs.KnownFacts.{own_named, number_below}
use Rattle.cany_totcan.proofs.LimitsFacts.{limits_with}
use Rattle.cany_totcan.proofs.OwnFacts.{IsOfOwn, brings_own, got_own, own_noted, own_other, sent_own}
use Rattle.cany_totcan.proofs.PlaceFacts.{IsWithin, holds-none, holds-some, is_of_key_back, open_is, placed_kept, placed_moved, placed_few, placed_once, placed_within, recent_more, tot_in-got, tot_in-got_other, tot_in-sent, tot_in-sent_other}
use Rattle.cany_totcan.proofs.QueueFacts.{both_less, done-moved, length-without-le, named-moved, room_to_place}

and_none : (b : Bool) → (b && false) ≡ false
and_none true = refl
and_none false = refl

-- the node has an open message if its place is one of the newest `bound` notices
pub open_is_recent : (scenario : ScenarioParts) (i : ℕ) (past : List NoticeKind) (messages : List Message) (count : ℕ) (v : TotcanParts) (key : MsgKey)
    → IsTotcanOf scenario i past messages count v → list_any (is_at key) v.queue.items ≡ is_recent scenario.params.bound key past
open_is_recent scenario i past messages count v key h = ap (list_any (is_at key)) h.queue.places ∙ open_is scenario.params.bound key past

-- whether a frame accepts an open message
pub open_now : (scenario : ScenarioParts) (i : ℕ) (past : List NoticeKind) (messages : List Message) (count : ℕ) (v : TotcanParts) (f : FrameParts)
    → IsTotcanOf scenario i past messages count v
    → (same_class f.class class.Accept && can_be_accepted scenario.params.bound (message_in f) past) ≡ (same_class f.class class.Accept && has_open v f)
open_now scenario i past messages count v f h = ap (λ b. same_class f.class class.Accept && b) (sym (open_is_recent scenario i past messages count v (message_in f) h))

-- a value knows its node
pub at_own_node : (scenario : ScenarioParts) (i : ℕ) (past : List NoticeKind) (messages : List Message) (count : ℕ) (v : TotcanParts)
    → IsTotcanOf scenario i past messages count v
    → IsTotcanOf scenario v.node past messages count v
at_own_node scenario i past messages count v h = subst (λ n. IsTotcanOf scenario n past messages count v) (sym h.limits.node) h

pub can_read : (scenario : ScenarioParts) (i : ℕ) (past : List NoticeKind) (messages : List Message) (count : ℕ) (v : TotcanParts) (notice : Notice)
    → IsTotcanOf scenario i past messages count v → IsNextNotice scenario past notice → CanRead v notice
can_read scenario i past messages count v notice h next =
    record { scenario = scenario; past = past; messages = messages; count = count; stands = at_own_node scenario i past messages count v h; next = next }

module _ (scenario : ScenarioParts) (i : ℕ) (notice : NoticeKind) (before : List NoticeKind) (messages : List Message) (count : ℕ) (v w : TotcanParts)
    (h : IsTotcanOf scenario i before messages count v) where
  -- ---- a notice that brings no data frame

  still_done : tot_in notice ≡ None → (items : List Placed) → AreDone scenario.params i before (delivered scenario.params i before) items
      → AreDone scenario.params i (notice ∷ before) (delivered scenario.params i before) items
  still_done none items done =
      Each-weaker _ _ (λ x d. (accepted_stays scenario.params.bound i (message_in x.frame) notice before (holds-none (message_in x.frame) notice none) d.0, d.1)) items done

  pub heard_other : tot_in notice ≡ None → brings_own i notice ≡ false → AreAcceptances (scenario.params.bound + 1) (notice ∷ before) w.acceptances
      → w ≡ record v { acceptances = w.acceptances } → HasHeard scenario i notice before messages count w
  heard_other none not_own acceptances state = subst (HasHeard scenario i notice before messages count) (sym state) (record {
    limits = limits_with scenario i v v.queue w.acceptances v.deliveries v.backlog h.limits refl refl refl;
    queue = record { places = h.queue.places ∙ sym (placed_kept scenario.params.bound notice before none); messages = h.queue.messages };
    acceptances = acceptances;
    are_delivered = h.are_delivered;
    done = still_done none (take v.queue.done v.queue.items) h.done;
    backlog = own_other scenario i notice before messages count v.backlog h.backlog not_own;
  })

  -- ---- a data frame

  module _ (f : FrameParts) (slot : ℕ) (is_own : Bool) (brings : tot_in notice ≡ Some f) (at : slot ≡ length before)
      (named : NamesMessage scenario service.Tot f) where
    moved_places : (moved f slot v.queue).items ≡ placed_in (scenario.params.bound + 1) (notice ∷ before)
    moved_places =
        ap (λ items. without_key (message_in f) items ++ record { frame = f; place = slot } ∷ []) h.queue.places
        ∙ ap (λ n. without_key (message_in f) (placed_in scenario.params.bound before) ++ record { frame = f; place = n } ∷ []) at
        ∙ sym (placed_moved scenario.params.bound notice before f brings)

    stays : (x : Placed) → is_at (message_in f) x ≡ false → holds (message_in x.frame) notice ≡ false
    stays x apart = holds-some (message_in x.frame) notice f brings ∙ is_of_key_back x.frame f ∙ apart

    done_without : (items : List Placed) → AreDone scenario.params i before (delivered scenario.params i before) items
        → AreDone scenario.params i (notice ∷ before) (delivered scenario.params i before) (without_key (message_in f) items)
    done_without [] done = tt
    done_without (x ∷ items) done = elim (cases_Bool (is_at (message_in f) x)) [
      | inl here ↦ rw here (done_without items done.1)
      | inr apart ↦
          rw apart (
            (accepted_stays scenario.params.bound i (message_in x.frame) notice before (stays x apart) done.0.0, done.0.1),
            done_without items done.1,
          )
    ]

    pub backlog_then : (f.node ≡ i → IsOfOwn i f.number is_own notice) → (f.node ≡ i → f.number < length v.backlog.own)
        → ((f.node == i) ≡ false → brings_own i notice ≡ false)
        → IsBacklogOf scenario i (notice ∷ before) messages count (noted_if (f.node == i) f slot is_own v.backlog)
    backlog_then own within none = elim (cases_Bool (f.node == i)) [
      | inl here ↦
          let is = eqb-true f.node i here in
          rw here (own_noted scenario i notice before messages count v.backlog h.backlog f.number slot is_own (own is) at (within is))
      | inr other ↦ rw other (own_other scenario i notice before messages count v.backlog h.backlog (none other))
    ]

    pub heard_data : IsBacklogOf scenario i (notice ∷ before) messages count (noted_if (f.node == v.node) f slot is_own v.backlog)
        → AcceptsNone scenario.params.bound notice before
        → IsNoted forgotten (message_in f) v.acceptances w.acceptances
        → w ≡ held f slot is_own w.acceptances v
        → HasHeard scenario i notice before messages count w
    heard_data backlog other gone state = subst (HasHeard scenario i notice before messages count) (sym state) (record {
      limits =
          limits_with scenario i v (moved f slot v.queue) w.acceptances v.deliveries (noted_if (f.node == v.node) f slot is_own v.backlog) h.limits refl refl refl;
      queue = record { places = moved_places; messages = named-moved scenario service.Tot f slot v.queue named h.queue.messages };
      acceptances = acceptances_moved scenario.params.bound before v.acceptances h.acceptances f notice w.acceptances brings other gone;
      are_delivered = h.are_delivered;
      done =
          subst (AreDone scenario.params i (notice ∷ before) (delivered scenario.params i before)) (sym (done-moved f slot v.queue))
          (done_without (take v.queue.done v.queue.items) h.done);
      backlog = backlog;
    })

-- ---- the notices one by one

module _ (scenario : ScenarioParts) (i : ℕ) (before : List NoticeKind) (messages : List Message) (count : ℕ) (v w : TotcanParts)
    (h : IsTotcanOf scenario i before messages count v) (f : FrameParts) where
  -- there is room for a message of the scenario
  module _ (named : NamesMessage scenario service.Tot f) where
    -- the open messages have their places before the slot that is read
    placed_before : (slot : ℕ) → slot ≡ length before → AllByRecursion (λ x. x.place < slot) v.queue.items
    placed_before slot at =
        rw (h.queue.places, at)
        (Each-weaker (IsWithin scenario.params.bound before) (λ x. x.place < length before) (λ x within. within.1) (placed_in scenario.params.bound before)
        (placed_within scenario.params.bound before))

    can_place : length (without_key (message_in f) v.queue.items) < v.queue.room
    can_place =
        both_less (length (without_key (message_in f) v.queue.items)) (sends_by scenario service.Tot) (scenario.params.bound + 1) v.queue.room h.limits.at_once
        (room_to_place scenario service.Tot f v.queue.items named h.queue.messages
        (subst AreOnce (sym h.queue.places) (placed_once scenario.params.bound before)))
        (omega (
          arith,
          length-without-le (message_in f) v.queue.items,
          placed_few scenario.params.bound before,
          ap length h.queue.places,
        ))

    can_number : f.number < v.queue.numbers
    can_number = omega (arith, number_below scenario f h.limits.legal named, h.limits.numbers)

    can_note : f.node ≡ v.node → f.number < length v.backlog.own
    can_note own = omega (arith, own_named scenario f h.limits.legal named i (own ∙ h.limits.node), h.backlog.own)

    pub can_hold : (slot : ℕ) → slot ≡ length before → CanHold v f slot
    can_hold slot at = record { number = can_number; room = can_place; later = placed_before slot at; own = can_note }

    -- a data frame
    module _ (slot : ℕ) (is : same_class f.class class.Tot ≡ true) (at : slot ≡ length before)
        (gone : IsNoted forgotten (message_in f) v.acceptances w.acceptances) where
      tot : f.class ≡ class.Tot
      tot = same_class-true f.class class.Tot is

      own_at_node : f.node ≡ i → f.number < length v.backlog.own
      own_at_node own = can_note (own ∙ sym h.limits.node)

      -- a frame of another node brings no message of this one
      none_own : (f.node == i) ≡ false → (same_class f.class class.Tot && f.node == i) ≡ false
      none_own other = ap (λ b. same_class f.class class.Tot && b) other ∙ and_none (same_class f.class class.Tot)

      heard_tot : (notice : NoticeKind) (is_own : Bool) → tot_in notice ≡ Some f → (f.node ≡ i → IsOfOwn i f.number is_own notice)
          → ((f.node == i) ≡ false → brings_own i notice ≡ false) → AcceptsNone scenario.params.bound notice before → w ≡ held f slot is_own w.acceptances v
          → HasHeard scenario i notice before messages count w
      heard_tot notice is_own brings own apart none state =
          heard_data scenario i notice before messages count v w h f slot is_own brings at named
          (subst (λ n. IsBacklogOf scenario i (notice ∷ before) messages count (noted_if (f.node == n) f slot is_own v.backlog)) (sym h.limits.node)
          (backlog_then scenario i notice before messages count v w h f slot is_own brings at named own own_at_node apart)) none gone state

      pub heard_got : w ≡ held f slot false w.acceptances v → HasHeard scenario i (Got f) before messages count w
      heard_got = heard_tot (Got f) false (tot_in-got f is) (got_own i f tot) none_own (accepts_none-got scenario.params.bound f before (not_accepting f tot))

      pub heard_sent : w ≡ held f slot true w.acceptances v → HasHeard scenario i (Sent f) before messages count w
      heard_sent = heard_tot (Sent f) true (tot_in-sent f is) (sent_own i f tot) none_own (accepts_none-sent scenario.params.bound f before (not_accepting f tot))

    -- a frame that accepts an open message
    module _ (is : f.class ≡ class.Accept) (state : w ≡ record v { acceptances = w.acceptances }) where
      pub heard_acceptance : length before < scenario.params.slots → IsNoted with_copy (message_in f) v.acceptances w.acceptances
          → HasHeard scenario i (Got f) before messages count w
      heard_acceptance within learnt =
          let none = tot_in-got_other f (not_carrying f is) in
          heard_other scenario i (Got f) before messages count v w h none (ap (λ b. b && f.node == i) (not_carrying f is))
          (acceptances_learnt scenario.params.bound before v.acceptances h.acceptances f w.acceptances is none
          (omega (arith, within, few_slots scenario.params h.limits.legal.in_range)) learnt) state

      pub heard_own_acceptance : IsNoted with_own (message_in f) v.acceptances w.acceptances → HasHeard scenario i (Sent f) before messages count w
      heard_own_acceptance owned =
          let none = tot_in-sent_other f (not_carrying f is) in
          heard_other scenario i (Sent f) before messages count v w h none (ap (λ b. b && f.node == i) (not_carrying f is))
          (acceptances_owned scenario.params.bound before v.acceptances h.acceptances f w.acceptances is none owned) state

  -- any other frame
  module _ (other : same_class f.class class.Tot ≡ false) (none : (same_class f.class class.Accept && has_open v f) ≡ false) where
    -- the message that it names is not open, or it accepts none
    pub not_open : (same_class f.class class.Accept && can_be_accepted scenario.params.bound (message_in f) before) ≡ false
    not_open = open_now scenario i before messages count v f h ∙ none

    closed_if : f.class ≡ class.Accept → same_class f.class class.Accept ≡ true → is_recent scenario.params.bound (message_in f) before ≡ false
    closed_if is same = sym (ap (λ b. b && is_recent scenario.params.bound (message_in f) before) same) ∙ not_open

    -- a notice of the frame says nothing of an open message where that of one that accepts a closed
    -- message, or is of another class, does not
    heard_apart : (notice : NoticeKind) → tot_in notice ≡ None → brings_own i notice ≡ false
        → (f.class ≡ class.Accept → is_recent scenario.params.bound (message_in f) before ≡ false → AcceptsNone scenario.params.bound notice before)
        → (same_class f.class class.Accept ≡ false → AcceptsNone scenario.params.bound notice before)
        → HasHeard scenario i notice before messages count v
    heard_apart notice no_data not_own closed apart =
        heard_other scenario i notice before messages count v v h no_data not_own
        (acceptances_same scenario.params.bound before v.acceptances h.acceptances notice no_data
        (elim (cases_Bool (same_class f.class class.Accept)) [
          | inl same ↦ let is = same_class-true f.class class.Accept same in closed is (closed_if is same)
          | inr differs ↦ apart differs
        ])) refl

    pub heard_got_other : HasHeard scenario i (Got f) before messages count v
    heard_got_other =
        heard_apart (Got f) (tot_in-got_other f other) (ap (λ b. b && f.node == i) other)
        (accepts_none-got_closed scenario.params.bound f before) (accepts_none-got scenario.params.bound f before)

    pub heard_sent_other : HasHeard scenario i (Sent f) before messages count v
    heard_sent_other =
        heard_apart (Sent f) (tot_in-sent_other f other) (ap (λ b. b && f.node == i) other)
        (accepts_none-sent_closed scenario.params.bound f before) (accepts_none-sent scenario.params.bound f before)

-- no frame
module _ (scenario : ScenarioParts) (i : ℕ) (before : List NoticeKind) (messages : List Message) (count : ℕ) (v : TotcanParts)
    (h : IsTotcanOf scenario i before messages count v) where
  pub heard_idle : HasHeard scenario i Idle before messages count v
  unfolding tot_in
  heard_idle =
      heard_other scenario i Idle before messages count v v h refl refl
      (acceptances_same scenario.params.bound before v.acceptances h.acceptances Idle refl (accepts_none-idle scenario.params.bound before)) refl

  pub heard_bad : HasHeard scenario i Bad before messages count v
  unfolding tot_in
  heard_bad =
      heard_other scenario i Bad before messages count v v h refl refl
      (acceptances_same scenario.params.bound before v.acceptances h.acceptances Bad refl (accepts_none-bad scenario.params.bound before)) refl

-- the frame of a notice accepts a message of TOTCAN
acceptance_names : (scenario : ScenarioParts) (slot : ℕ) (k : Class) (f : FrameParts) → k ≡ class.Accept → BelongsTo scenario slot k f
    → NamesMessage scenario service.Tot f
acceptance_names scenario slot k f is belongs = rw is at belongs

pub got_accepts : (scenario : ScenarioParts) (past : List NoticeKind) (notice : Notice) (f : FrameParts) → IsNextNotice scenario past notice
    → notice.kind ≡ Got f → f.class ≡ class.Accept
    → NamesMessage scenario service.Tot f
got_accepts scenario past notice f next kind is = acceptance_names scenario notice.slot f.class f is (got_belongs scenario past notice f next kind)

pub sent_accepts : (scenario : ScenarioParts) (past : List NoticeKind) (notice : Notice) (f : FrameParts) → IsNextNotice scenario past notice
    → notice.kind ≡ Sent f → f.class ≡ class.Accept
    → NamesMessage scenario service.Tot f
sent_accepts scenario past notice f next kind is = acceptance_names scenario notice.slot f.class f is (sent_belongs scenario past notice f next kind)

-- ---- actions

-- a notice that is nothing to accept
pub nothing_got : (scenario : ScenarioParts) (i : ℕ) (f : FrameParts) (before : List NoticeKind)
    → (same_class f.class class.Accept && can_be_accepted scenario.params.bound (message_in f) before) ≡ false
    → accept_effects scenario.params i (Got f) before ≡ []
unfolding accept_effects
nothing_got scenario i f before none = rw none refl

pub nothing_data : (scenario : ScenarioParts) (i : ℕ) (f : FrameParts) (before : List NoticeKind) → f.class ≡ class.Tot
    → accept_effects scenario.params i (Got f) before ≡ []
nothing_data scenario i f before is = nothing_got scenario i f before (ap (λ b. b && can_be_accepted scenario.params.bound (message_in f) before) (not_accepting f is))

pub nothing_sent : (scenario : ScenarioParts) (i : ℕ) (f : FrameParts) (before : List NoticeKind) → same_class f.class class.Tot ≡ false
    → accept_effects scenario.params i (Sent f) before ≡ []
unfolding accept_effects
nothing_sent scenario i f before other = rw other refl

pub nothing_idle : (scenario : ScenarioParts) (i : ℕ) (before : List NoticeKind) → accept_effects scenario.params i Idle before ≡ []
unfolding accept_effects
nothing_idle scenario i before = refl

pub nothing_bad : (scenario : ScenarioParts) (i : ℕ) (before : List NoticeKind) → accept_effects scenario.params i Bad before ≡ []
unfolding accept_effects
nothing_bad scenario i before = refl

-- the origin accepts its message
pub origin_is : (scenario : ScenarioParts) (i : ℕ) (f : FrameParts) (before : List NoticeKind) → same_class f.class class.Tot ≡ true
    → origin_actions (f.node == i) f ≡ actions_of scenario.params.format (accept_effects scenario.params i (Sent f) before)
unfolding accept_effects
origin_is scenario i f before is = rw is (go (f.node == i))
  where
    go : (own : Bool) → origin_actions own f ≡ actions_of scenario.params.format (if own then Ask (accept_frame f) ∷ [] else [])
    go true = refl
    go false = refl

accepts : (scenario : ScenarioParts) (i : ℕ) (f : FrameParts) (before : List NoticeKind)
    → (same_class f.class class.Accept && can_be_accepted scenario.params.bound (message_in f) before) ≡ true
    → accept_effects scenario.params i (Got f) before ≡ eager_effects scenario.params.omit f (after_place (message_in f) (Got f ∷ before))
unfolding accept_effects
accepts scenario i f before is = rw is refl

-- a frame that accepts an open message is relayed by the eager rule
pub relay_is : (scenario : ScenarioParts) (i : ℕ) (f : FrameParts) (before : List NoticeKind) (omit : ℕ) (new : List Open) → f.class ≡ class.Accept
    → (same_class f.class class.Accept && can_be_accepted scenario.params.bound (message_in f) before) ≡ true
    → omit ≡ scenario.params.omit → AreAcceptances (scenario.params.bound + 1) (Got f ∷ before) new
    → relay_actions scenario.params.format (learnt_of omit (noted_of new (message_in f)).copies (noted_of new (message_in f)).owned) f
    ≡ actions_of scenario.params.format (accept_effects scenario.params i (Got f) before)
relay_is scenario i f before omit new is accepts_open omit_is after =
    let recent : is_recent scenario.params.bound (message_in f) before ≡ true =
    (and_parts (same_class f.class class.Accept) (is_recent scenario.params.bound (message_in f) before) accepts_open).1 in
    let recent_then : is_recent (scenario.params.bound + 1) (message_in f) (Got f ∷ before) ≡ true =
    recent_more scenario.params.bound (message_in f) (Got f) before ∙ ap (λ b. holds (message_in f) (Got f) || b) recent ∙ or_true (holds (message_in f) (Got f)) in
    let past : List NoticeKind = after_place (message_in f) (Got f ∷ before) in
    let named = identity_is class.Accept f is in
    let copies_are : (noted_of new (message_in f)).copies ≡ copies (identity_of f) past =
    after.copies (message_in f) recent_then ∙ ap (λ x. copies x past) (sym named) in
    let own_is : (noted_of new (message_in f)).owned ≡ has_own (identity_of f) past =
    after.owned (message_in f) recent_then ∙ ap (λ x. has_own x past) (sym named) in
    ap (λ l. relay_actions scenario.params.format l f) (λ k. learnt_of (omit_is k) (copies_are k) (own_is k))
    ∙ sym (eager_is scenario.params.format scenario.params.omit f past)
    ∙ ap (actions_of scenario.params.format) (sym (accepts scenario i f before accepts_open))
  where
    or_true : (b : Bool) → (b || true) ≡ true
    or_true true = refl
    or_true false = refl
