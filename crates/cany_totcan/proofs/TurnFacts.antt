-- A turn: the notice, then what closes in it, then what is delivered.
use Rattle.std.proofs.Common.{◌≡◌, ℕ, zero, suc, ◌+◌, ◌-◌, ◌<◌, ◌==◌, ◌&&◌, ◌||◌, inl, inr, Bool, true, false, if◌then◌else◌, List, [], ◌∷◌, ◌++◌, length, map, take, drop, Option, Some, None, refl, ap, sym, subst, ◌∙◌, append_assoc, arith}
use Rattle.std.specs.Prelude.{nat_lt, slice_get}
use Rattle.std.specs.List.{AllByRecursion, list_any}
use Rattle.std.proofs.Math.Seq.{take-add}
use Rattle.std.proofs.lemmas.Bool.{cases_Bool, false≢true}
use Rattle.std.proofs.lemmas.List.{append-nil, map-append, take-append-drop}
use Rattle.std.proofs.lemmas.List.Folds.{list_any-append}
use Rattle.cany_base.specs.declared.actions.Action.{Action}
use Rattle.cany_base.specs.declared.actions.Action.TheVariants.{Enter}
use Rattle.cany_base.specs.declared.class.Class.TheVariants as class
use Rattle.cany_base.specs.declared.format.Format.{Format}
use Rattle.cany_base.specs.declared.message.MsgKey.{MsgKey}
use Rattle.cany_base.specs.declared.message.Service.TheVariants as service
use Rattle.cany_base.specs.declared.notice.NoticeKind.{NoticeKind}
use Rattle.cany_base.specs.Frame.{FrameParts}
use Rattle.cany_base.specs.Limits.{most_nodes}
use Rattle.cany_base.specs.Params.{Parameters}
use Rattle.cany_base.specs.Scenario.{ScenarioParts}
use Rattle.cany_message.proofs.HistoryFacts.{identity_is, is_this}
use Rattle.cany_model.specs.Bus.Frames.{Identity, identity_of, same_identity}
use Rattle.cany_model.specs.Rules.Actions.{action_of, actions_of}
use Rattle.cany_model.specs.Rules.Delivery.{delivery}
use Rattle.cany_model.specs.Rules.Effect.{Effect}
use Rattle.cany_model.specs.Rules.Messages.{Message}
use Rattle.cany_model.specs.Rules.Notices.{NamesMessage}
use Rattle.cany_model.specs.Rules.Totcan.{accept_effects, closing_effects, delivered, delivered_now, is_among as is_one_of, is_recent, message_in, new_among, tot_delivery, tot_of_key, totcan_effects, with_new}
use Rattle.cany_model.proofs.Among.{Each-append, Each-drop, Each-weaker}
use Rattle.cany_model.proofs.Bus.Identities.{same_identity-true, same_identity_self}
use Rattle.cany_totcan.specs.declared.queue.Noted.{Noted}
use Rattle.cany_totcan.specs.declared.queue.Open.{Open}
use Rattle.cany_totcan.specs.declared.queue.Placed.{Placed}
use Rattle.cany_totcan.specs.MessageSet.{MessageSetParts, has_message}
use Rattle.cany_totcan.specs.Acceptances.{noted_of}
use Rattle.cany_totcan.specs.Backlog.{own_at}
use Rattle.cany_totcan.specs.Queue.{OpenParts, is_at, placed_in, without_oldest, without_oldest_from}
use Rattle.cany_totcan.specs.Totcan.{AreDelivered, AreDone, HasHeard, IsFirstPending, IsTotcanOf, TotcanParts, key_of}
use Rattle.cany_totcan.proofs.LimitsFacts.{limits_with}
use Rattle.cany_totcan.specs.TotcanSteps.{AreAdded, AreStillNoted, HaveGone, accepted_first, closing_accepted, closing_actions, closing_frame, due, fresh_of, is_accepted_by, is_named, tot_actions, without_closing}
use Rattle.cany_totcan.proofs.AcceptanceFacts.{acceptances_fewer}
use Rattle.cany_totcan.proofs.PlaceFacts.{open_is}
use Rattle.cany_totcan.proofs.ClosedFacts.{IsHeard, closed_done, closed_items, closing_actions_are, done_split, each_there, heard_each}
use Rattle.cany_totcan.proofs.DoneFacts.{FramesOnce, delivered_more, delivered_now_is, done_of, done_of-accepted, done_of-once, has_accepted, has_frame, has_frame-with_new, is_past, new_among-after, new_among-append, new_among-none, open_not_past}
use Rattle.cany_totcan.proofs.DueFacts.{actions-append, due-same, each-due, each_at}
use Rattle.cany_totcan.proofs.KnownFacts.{accepted_each, closing_with}

-- ---- the walk over the accepted messages is what the rules call done

pub walk_is : (v : TotcanParts) (p : Parameters) (i : ℕ) (past : List NoticeKind) (items : List Placed) → AllByRecursion (λ x. is_past p past x ≡ false) items
    → AllByRecursion (λ x. is_accepted_by v x.frame ≡ has_accepted p i past x) items → done_of p i past items ≡ accepted_first v items
unfolding accepted_first
walk_is v p i past [] open' same = refl
walk_is v p i past (x ∷ items) open' same = rw (same.0, open'.0, walk_is v p i past items open'.1 same.1) refl

-- those that it passes are accepted
walked_accepted : (v : TotcanParts) (items : List Placed) → AllByRecursion (λ x. is_accepted_by v x.frame ≡ true) (take (length (accepted_first v items)) items)
unfolding accepted_first
walked_accepted v [] = tt
walked_accepted v (x ∷ items) = elim (cases_Bool (is_accepted_by v x.frame)) [
  | inl is ↦ rw is (is, walked_accepted v items)
  | inr other ↦ rw other tt
]

walked_frames : (v : TotcanParts) (items : List Placed) → map (λ x. x.frame) (take (length (accepted_first v items)) items) ≡ accepted_first v items
unfolding accepted_first
walked_frames v [] = refl
walked_frames v (x ∷ items) = elim (cases_Bool (is_accepted_by v x.frame)) [
  | inl is ↦ rw is (ap (λ frames. x.frame ∷ frames) (walked_frames v items))
  | inr other ↦ rw other refl
]

-- and the next is not
walked_to : (v : TotcanParts) (n : ℕ) (items : List Placed) (x : Placed) → accepted_first v (drop n items) ≡ [] → slice_get items n ≡ Some x
    → is_accepted_by v x.frame ≡ false
unfolding accepted_first
walked_to v zero [] x none at = absurd (cc)
walked_to v (suc n) [] x none at = absurd (cc)
walked_to v (suc n) (y ∷ items) x none at = walked_to v n items x none at
walked_to v zero (y ∷ items) x none at =
    let same : y ≡ x = cc in
    ap (λ z. is_accepted_by v z.frame) (sym same) ∙ go (is_accepted_by v y.frame) none
  where
    go : (b : Bool) → (if b then y.frame ∷ accepted_first v items else []) ≡ [] → b ≡ false
    go true h = absurd (cc)
    go false h = refl

each_take : (P : Placed → Type 0) (n : ℕ) (items : List Placed) → AllByRecursion P items → AllByRecursion P (take n items)
each_take P zero items each = tt
each_take P (suc n) [] each = tt
each_take P (suc n) (x ∷ items) each = (each.0, each_take P n items each.1)

each_from_map : (P : FrameParts → Type 0) (items : List Placed) → AllByRecursion P (map (λ x. x.frame) items) → AllByRecursion (λ x. P x.frame) items
each_from_map P [] each = tt
each_from_map P (x ∷ items) each = (each.0, each_from_map P items each.1)

each_to_map : (P : FrameParts → Type 0) (items : List Placed) → AllByRecursion (λ x. P x.frame) items → AllByRecursion P (map (λ x. x.frame) items)
each_to_map P [] each = tt
each_to_map P (x ∷ items) each = (each.0, each_to_map P items each.1)

-- ---- frames by identity and by name

abbrev pub IsTot : FrameParts → Type 0
IsTot f = f.class ≡ class.Tot

named_frames : (s o : ℕ) (frames : List FrameParts) → AllByRecursion IsTot frames → list_any (is_named s o) frames ≡ has_frame (tot_of_key (key_of s o)) frames
named_frames s o [] tot = refl
named_frames s o (f ∷ frames) tot = λ k. sym (is_this class.Tot s o f tot.0) k || named_frames s o frames tot.1 k

-- each frame is among them
each_among : (frames : List FrameParts) → AllByRecursion (λ f. is_one_of frames f ≡ true) frames
each_among [] = tt
each_among (f ∷ frames) = (
  ap (λ b. b || is_one_of frames f) (same_identity_self (identity_of f)),
  Each-weaker _ _ (λ g there. or_true (same_identity (identity_of g) (identity_of f)) (is_one_of frames g) there) frames (each_among frames),
)
  where
    or_true : (a b : Bool) → b ≡ true → (a || b) ≡ true
    or_true true b h = refl
    or_true false b h = h

-- those that the deliveries have not are the new ones
fresh_is : (frames : List FrameParts) (v : MessageSetParts) (new : List FrameParts) → AreDelivered frames v
    → AllByRecursion (λ f. IsTot f × (f.node < most_nodes)) new
    → fresh_of v new ≡ new_among frames new
fresh_is frames v [] delivered each = refl
fresh_is frames v (f ∷ new) delivered each =
    let same : has_message v f.number f.node ≡ is_one_of frames f =
    delivered f.number f.node each.0.1 ∙ ap (λ x. has_frame x frames) (sym (identity_is class.Tot f each.0.0)) in
    rw (same, fresh_is frames v new delivered each.1) refl

-- the deliveries after these frames
delivered_added : (frames new : List FrameParts) (v w : MessageSetParts) → AreDelivered frames v → AreAdded new v w → AllByRecursion IsTot new
    → AreDelivered (with_new frames new) w
delivered_added frames new v w delivered added tot = λ s o near.
    added.delivered s o near
    ∙ (λ k. named_frames s o new tot k || delivered s o near k)
    ∙ or_swap (has_frame (tot_of_key (key_of s o)) new) (has_frame (tot_of_key (key_of s o)) frames)
    ∙ sym (has_frame-with_new (tot_of_key (key_of s o)) frames new)
  where
    or_swap : (a b : Bool) → (a || b) ≡ (b || a)
    or_swap true true = refl
    or_swap true false = refl
    or_swap false true = refl
    or_swap false false = refl

-- frames that are among the delivered ones add nothing
has_among : (x : Identity) (before frames : List FrameParts) → AllByRecursion (λ f. is_one_of before f ≡ true) frames → has_frame x frames ≡ true
    → has_frame x before ≡ true
has_among x before [] all there = absurd (cc)
has_among x before (f ∷ frames) all there = elim (cases_Bool (same_identity x (identity_of f))) [
  | inl here ↦ ap (λ y. has_frame y before) (same_identity-true x (identity_of f) here) ∙ all.0
  | inr other ↦ has_among x before frames all.1 (sym (ap (λ b. b || has_frame x frames) other) ∙ there)
]

tot_actions_are : (format : Format) (slot : ℕ) (frames : List FrameParts) → tot_actions slot frames ≡ actions_of format (map (tot_delivery slot) frames)
tot_actions_are format slot [] = refl
tot_actions_are format slot (f ∷ frames) = ap (λ actions. Enter (delivery slot service.Tot f) ∷ actions) (tot_actions_are format slot frames)

-- ---- the turn

-- what neither the messages nor how many are done belong to is the same without the oldest
part_kept : {X : Type 0} (part : OpenParts → X) → ((q : OpenParts) (items : List Placed) (done : ℕ) → part (record q { items = items; done = done }) ≡ part q)
    → (place : ℕ) (q : OpenParts) (items : List Placed) → part (without_oldest_from place q items) ≡ part q
part_kept part same place q [] = refl
part_kept part same place q (x ∷ items) = go (x.place == place)
  where
    go : (b : Bool) → part (if b then record q { items = items; done = q.done - 1 } else q) ≡ part q
    go true = same q items (q.done - 1)
    go false = refl

closing_keeps : {X : Type 0} (part : OpenParts → X) → ((q : OpenParts) (items : List Placed) (done : ℕ) → part (record q { items = items; done = done }) ≡ part q)
    → (slot : ℕ) (v : TotcanParts) → part (without_closing slot v).queue ≡ part v.queue
closing_keeps part same slot v = go (nat_lt slot v.bound)
  where
    go : (b : Bool) → part (if b then v.queue else without_oldest (slot - v.bound) v.queue) ≡ part v.queue
    go true = refl
    go false = part_kept part same (slot - v.bound) v.queue v.queue.items

mixed : (before closed passed gone : Bool) → (passed ≡ true → before ≡ true) → (gone || (closed || before)) ≡ (before || (closed || (passed || gone)))
mixed true true p true h = refl
mixed true true p false h = refl
mixed true false p true h = refl
mixed true false p false h = refl
mixed false true p true h = refl
mixed false true p false h = refl
mixed false false true g h = absurd (false≢true (h refl))
mixed false false false true h = refl
mixed false false false false h = refl

module _ (scenario : ScenarioParts) (i : ℕ) (notice : NoticeKind) (before : List NoticeKind) (messages : List Message) (count : ℕ) (v : TotcanParts)
    (h : HasHeard scenario i notice before messages count v) (slot : ℕ) (at : slot ≡ length before)
    (a : List Open) (kept : AreStillNoted (without_closing slot v).queue.items v.acceptances a) (d : MessageSetParts) (added : AreAdded (closing_accepted v (closing_frame slot v)) v.deliveries d)
    (x : TotcanParts) (b c : List Action) (gone : HaveGone slot (record (without_closing slot v) { acceptances = a; deliveries = d }) x b c) (all : due x ≡ []) where
  -- the value after the closing
  abbrev w : TotcanParts
  w = record (without_closing slot v) { acceptances = a; deliveries = d }

  abbrev past : List NoticeKind
  past = notice ∷ before

  abbrev earlier : List FrameParts
  earlier = delivered scenario.params i before

  abbrev closed : List FrameParts
  closed = closing_accepted v (closing_frame slot v)

  abbrev passed : List FrameParts
  passed = map (λ y. y.frame) (take w.queue.done w.queue.items)

  abbrev rest : List Placed
  rest = drop w.queue.done w.queue.items

  gone_is : gone.gone ≡ due w
  gone_is = sym (gone.rest ∙ ap (λ frames. gone.gone ++ frames) all ∙ append-nil gone.gone)

  gone_added : AreAdded (due w) d x.deliveries
  gone_added = subst (λ frames. AreAdded frames d x.deliveries) gone_is gone.added

  heard : AllByRecursion (IsHeard scenario i notice before messages count v h) v.queue.items
  heard = heard_each scenario i notice before messages count v h

  open_heard : AllByRecursion (IsHeard scenario i notice before messages count v h) w.queue.items
  open_heard = closing_with (AllByRecursion (IsHeard scenario i notice before messages count v h)) slot v heard (λ y items each. each.1)

  same_accepted : AllByRecursion (λ y. is_accepted_by w y.frame ≡ has_accepted scenario.params i past y) w.queue.items
  same_accepted = both w.queue.items open_heard (each_there w.queue.items)
    where
      both : (items : List Placed) → AllByRecursion (IsHeard scenario i notice before messages count v h) items
          → AllByRecursion (λ y. list_any (is_at (message_in y.frame)) w.queue.items ≡ true) items
          → AllByRecursion (λ y. is_accepted_by w y.frame ≡ has_accepted scenario.params i past y) items
      both [] each there = tt
      both (y ∷ items) each there = (
        ap (λ (x : Noted). nat_lt 0 x.copies || (y.frame.node == v.node && (own_at v.backlog.own y.frame.number).sent)) (kept.noted (message_in y.frame) there.0)
            ∙ each.0.accepted,
        both items each.1 there.1,
      )

  passed_done : AreDone scenario.params i past earlier (take w.queue.done w.queue.items)
  passed_done = closed_done scenario i notice before messages count v h slot at _ h.done

  passed_among : AllByRecursion (λ f. is_one_of earlier f ≡ true) passed
  passed_among = each_to_map (λ f. is_one_of earlier f ≡ true) (take w.queue.done w.queue.items) (Each-weaker _ _ (λ y is. is.1) (take w.queue.done w.queue.items) passed_done)

  done_is : done_of scenario.params i past (placed_in (scenario.params.bound + 1) past) ≡ closed ++ (passed ++ due w)
  done_is =
      done_split scenario i notice before messages count v h slot at
      ∙ ap (λ frames. closed ++ frames)
      (ap (done_of scenario.params i past) (sym (closed_items scenario i notice before messages count v h slot at) ∙ sym (take-append-drop w.queue.done w.queue.items))
      ∙ done_of-accepted scenario.params i past (take w.queue.done w.queue.items) rest (Each-weaker _ _ (λ y is. is.0) (take w.queue.done w.queue.items) passed_done)
      ∙ ap (λ frames. passed ++ frames)
      (walk_is w scenario.params i past rest
      (Each-drop (λ y. is_past scenario.params past y ≡ false) w.queue.done w.queue.items
      (subst (AllByRecursion (λ y. is_past scenario.params past y ≡ false)) (sym (closed_items scenario i notice before messages count v h slot at)) (open_not_past scenario.params i past)))
      (Each-drop (λ y. is_accepted_by w y.frame ≡ has_accepted scenario.params i past y) w.queue.done w.queue.items same_accepted)))

  -- ---- what is delivered

  closed_tot : AllByRecursion (λ f. IsTot f × (f.node < most_nodes)) closed
  closed_tot = accepted_each (λ f. IsTot f × (f.node < most_nodes)) slot v (Each-weaker _ _ (λ y is. (is.tot, is.near)) v.queue.items heard)

  due_tot : AllByRecursion (λ f. IsTot f × (f.node < most_nodes)) (due w)
  due_tot =
      each-due (λ f. IsTot f × (f.node < most_nodes)) w rest
      (Each-drop (λ y. IsTot y.frame × (y.frame.node < most_nodes)) w.queue.done w.queue.items (Each-weaker _ _ (λ y is. (is.tot, is.near)) w.queue.items open_heard))

  tots : (frames : List FrameParts) → AllByRecursion (λ f. IsTot f × (f.node < most_nodes)) frames → AllByRecursion IsTot frames
  tots frames each = Each-weaker _ _ (λ f is. is.0) frames each

  with_closed : AreDelivered (with_new earlier closed) d
  with_closed = delivered_added earlier closed v.deliveries d h.are_delivered added (tots closed closed_tot)

  passed_still : AllByRecursion (λ f. is_one_of (with_new earlier closed) f ≡ true) passed
  passed_still = Each-weaker _ _ (λ f there. has_frame-with_new (identity_of f) earlier closed ∙ ap (λ s. s || has_frame (identity_of f) closed) there) passed passed_among

  later_new : new_among earlier (passed ++ due w) ≡ fresh_of d (due w)
  later_new =
      sym (new_among-after earlier closed (passed ++ due w) (subst FramesOnce done_is (done_of-once scenario.params i (scenario.params.bound + 1) past)))
      ∙ new_among-append (with_new earlier closed) passed (due w)
      ∙ ap (λ frames. frames ++ new_among (with_new earlier closed) (due w)) (new_among-none (with_new earlier closed) passed passed_still)
      ∙ sym (fresh_is (with_new earlier closed) d (due w) with_closed due_tot)

  now_is : delivered_now scenario.params i past ≡ fresh_of v.deliveries closed ++ fresh_of d (due w)
  now_is =
      delivered_now_is scenario.params i notice before
      ∙ ap (new_among earlier) done_is
      ∙ new_among-append earlier closed (passed ++ due w)
      ∙ (λ k. sym (fresh_is earlier v.deliveries closed h.are_delivered closed_tot) k ++ later_new k)

  -- ---- the actions

  pub turn_actions : (acts out : List Action) → acts ≡ out ++ actions_of scenario.params.format (accept_effects scenario.params i notice before)
      → b ≡ (acts ++ closing_actions v.format (closing_frame slot v)) ++ tot_actions slot (fresh_of v.deliveries closed)
      → c ≡ out ++ actions_of scenario.params.format (totcan_effects scenario i past)
  unfolding totcan_effects
  turn_actions acts out heard_acts closed_acts =
      let format = scenario.params.format in
      let accepts : List Effect = accept_effects scenario.params i notice before in
      let closes : List Effect = closing_effects scenario.params.bound past in
      let now : List FrameParts = delivered_now scenario.params i past in
      let closing : List Action = closing_actions v.format (closing_frame slot v) in
      let first : List Action = tot_actions slot (fresh_of v.deliveries closed) in
      let later : List Action = tot_actions slot (fresh_of d (due w)) in
      let deliveries : first ++ later ≡ actions_of format (map (tot_delivery (length before)) now) =
      sym (actions-append slot (fresh_of v.deliveries closed) (fresh_of d (due w)))
      ∙ ap (tot_actions slot) (sym now_is)
      ∙ tot_actions_are format slot now
      ∙ ap (λ n. actions_of format (map (tot_delivery n) now)) at in
      gone.actions
      ∙ ap (λ frames. b ++ tot_actions slot (fresh_of d frames)) gone_is
      ∙ ap (λ actions. actions ++ later) closed_acts
      ∙ append_assoc (acts ++ closing) first later
      ∙ append_assoc acts closing (first ++ later)
      ∙ ap (λ actions. actions ++ (closing ++ (first ++ later))) heard_acts
      ∙ append_assoc out (actions_of format accepts) (closing ++ (first ++ later))
      ∙ ap (λ actions. out ++ actions)
      ((λ k. actions_of format accepts ++ (closing_actions_are scenario i notice before messages count v h slot at k ++ deliveries k))
      ∙ sym (map-append (action_of format) (accepts ++ closes) (map (tot_delivery (length before)) now)
      ∙ ap (λ actions. actions ++ actions_of format (map (tot_delivery (length before)) now)) (map-append (action_of format) accepts closes)
      ∙ append_assoc (actions_of format accepts) (actions_of format closes) (actions_of format (map (tot_delivery (length before)) now))))

  -- ---- the value

  has_delivered : (y : Identity)
      → has_frame y (delivered scenario.params i past) ≡ (has_frame y earlier || (has_frame y closed || (has_frame y passed || has_frame y (due w))))
  has_delivered y =
      ap (has_frame y) (delivered_more scenario.params i notice before)
      ∙ has_frame-with_new y earlier (done_of scenario.params i past (placed_in (scenario.params.bound + 1) past))
      ∙ ap (λ s. has_frame y earlier || s)
      (ap (has_frame y) done_is
      ∙ list_any-append (λ g. same_identity y (identity_of g)) closed (passed ++ due w)
      ∙ ap (λ s. has_frame y closed || s) (list_any-append (λ g. same_identity y (identity_of g)) passed (due w)))

  turn_delivered : AreDelivered (delivered scenario.params i past) x.deliveries
  turn_delivered = λ s o near.
      let y = tot_of_key (key_of s o) in
      gone_added.delivered s o near
      ∙ (λ k. named_frames s o (due w) (tots (due w) due_tot) k || added.delivered s o near k)
      ∙ (λ k. has_frame y (due w) || (named_frames s o closed (tots closed closed_tot) k || h.are_delivered s o near k))
      ∙ mixed (has_frame y earlier) (has_frame y closed) (has_frame y passed) (has_frame y (due w)) (has_among y earlier passed passed_among)
      ∙ sym (has_delivered y)

  still_there : (f : FrameParts) → is_one_of earlier f ≡ true → is_one_of (delivered scenario.params i past) f ≡ true
  still_there f there =
      has_delivered (identity_of f)
      ∙ ap (λ s. s || (has_frame (identity_of f) closed || (has_frame (identity_of f) passed || has_frame (identity_of f) (due w)))) there

  now_there : (f : FrameParts) → is_one_of (due w) f ≡ true → is_one_of (delivered scenario.params i past) f ≡ true
  now_there f there =
      has_delivered (identity_of f) ∙ last (has_frame (identity_of f) earlier) (has_frame (identity_of f) closed) (has_frame (identity_of f) passed) (has_frame (identity_of f) (due w)) there
    where
      last : (e c p g : Bool) → g ≡ true → (e || (c || (p || g))) ≡ true
      last true c p g h = refl
      last false true p g h = refl
      last false false true g h = refl
      last false false false g h = h

  first_done : AreDone scenario.params i past (delivered scenario.params i past) (take w.queue.done w.queue.items)
  first_done = Each-weaker _ _ (λ y is. (is.0, still_there y.frame is.1)) (take w.queue.done w.queue.items) passed_done

  later_done : AreDone scenario.params i past (delivered scenario.params i past) (take (length (due w)) rest)
  later_done =
      both (take (length (due w)) rest) (walked_accepted w rest)
      (each_take (λ y. is_accepted_by w y.frame ≡ has_accepted scenario.params i past y) (length (due w)) rest
      (Each-drop (λ y. is_accepted_by w y.frame ≡ has_accepted scenario.params i past y) w.queue.done w.queue.items same_accepted))
      (each_from_map (λ f. is_one_of (due w) f ≡ true) (take (length (due w)) rest)
      (subst (AllByRecursion (λ f. is_one_of (due w) f ≡ true)) (sym (walked_frames w rest)) (each_among (due w))))
    where
      both : (items : List Placed) → AllByRecursion (λ y. is_accepted_by w y.frame ≡ true) items
          → AllByRecursion (λ y. is_accepted_by w y.frame ≡ has_accepted scenario.params i past y) items
          → AllByRecursion (λ y. is_one_of (due w) y.frame ≡ true) items
          → AreDone scenario.params i past (delivered scenario.params i past) items
      both [] accepted same there = tt
      both (y ∷ items) accepted same there = ((sym same.0 ∙ accepted.0, now_there y.frame there.0), both items accepted.1 same.1 there.1)

  turn_done : AreDone scenario.params i past (delivered scenario.params i past) (take x.queue.done w.queue.items)
  turn_done =
      let n : x.queue.done ≡ w.queue.done + length (due w) = gone.done ∙ ap (λ frames. w.queue.done + length frames) gone_is in
      subst (AreDone scenario.params i past (delivered scenario.params i past))
      (sym (ap (λ m. take m w.queue.items) n ∙ take-add w.queue.done (length (due w)) w.queue.items))
      (Each-append _ (take w.queue.done w.queue.items) (take (length (due w)) rest) first_done later_done)

  turn_pending : IsFirstPending scenario.params i past (slice_get w.queue.items x.queue.done)
  turn_pending = go (slice_get w.queue.items x.queue.done) refl
    where
      none : accepted_first w (drop x.queue.done w.queue.items) ≡ []
      none =
          let after : TotcanParts = record w { queue = record w.queue { done = x.queue.done }; deliveries = x.deliveries } in
          sym (ap due gone.state ∙ due-same after w (drop x.queue.done w.queue.items) (λ f. refl)) ∙ all

      go : (next : Option Placed) → slice_get w.queue.items x.queue.done ≡ next → IsFirstPending scenario.params i past next
      go None is = tt
      go (Some y) is = sym (each_at _ w.queue.items x.queue.done y same_accepted is) ∙ walked_to w x.queue.done w.queue.items y none is

  still_noted : (key : MsgKey) → is_recent scenario.params.bound key past ≡ true → noted_of a key ≡ noted_of v.acceptances key
  still_noted key recent =
      kept.noted key
      (ap (list_any (is_at key)) (closed_items scenario i notice before messages count v h slot at) ∙ open_is scenario.params.bound key past ∙ recent)

  pub turn_stands : IsTotcanOf scenario i past messages count x
  turn_stands = subst (IsTotcanOf scenario i past messages count) (sym gone.state) (record {
    limits = limits_with scenario i v _ _ _ _ h.limits (closing_keeps (λ q. q.room) (λ q items done. refl) slot v)
        (closing_keeps (λ q. q.numbers) (λ q items done. refl) slot v) (gone_added.numbers ∙ added.numbers);
    queue = record {
      places = closed_items scenario i notice before messages count v h slot at;
      messages = closing_with (λ items. AllByRecursion (λ y. NamesMessage scenario service.Tot y.frame) items) slot v h.queue.messages (λ y items each. each.1);
    };
    acceptances = acceptances_fewer scenario.params.bound (scenario.params.bound + 1) past v.acceptances a (omega arith) still_noted h.acceptances;
    are_delivered = turn_delivered;
    done = turn_done;
    pending = turn_pending;
    backlog = h.backlog;
  })
