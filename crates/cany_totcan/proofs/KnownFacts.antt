-- What is known of the open messages of a value, and that it stays so.
use Rattle.cany_model.specs.Rules.Rooms.{sends_by}
use Rattle.std.proofs.Common.{◌≡◌, ℕ, ◌+◌, ◌-◌, ◌<◌, ◌≤◌, ◌==◌, Bool, true, false, if◌then◌else◌, List, [], ◌∷◌, ◌++◌, count_by, drop, length, Option, Some, None, refl, ap, sym, subst, ◌∙◌, arith}
use Rattle.std.specs.Prelude.{nat_lt, option_map}
use Rattle.std.proofs.lemmas.Bool.Decides.{nat_tests}
use Rattle.std.specs.List.{AllByRecursion, list_any}
use Rattle.std.proofs.lemmas.Bool.{false≢true, false_from_ne_true}
use Rattle.std.proofs.lemmas.List.{append-nil}
use Rattle.cany_model.specs.Rules.Totcan.{message_in}
use Rattle.can_frame.specs.Identifier.{HasSmallNumbers}
use Rattle.cany_base.specs.declared.actions.Action.{Action}
use Rattle.cany_base.specs.declared.format.Format.{Format}
use Rattle.cany_base.specs.declared.format.Format.TheVariants.{One, Two}
use Rattle.cany_base.specs.declared.message.Service.TheVariants as service
use Rattle.cany_base.specs.declared.notice.NoticeKind.{NoticeKind}
use Rattle.cany_base.specs.Frame.{FrameParts}
use Rattle.cany_base.specs.Layout.{layout}
use Rattle.cany_base.specs.Limits.{most_nodes}
use Rattle.cany_base.specs.Scenario.{ScenarioParts, IsLegalScenario}
use Rattle.cany_model.specs.Bus.Frames.{identity_of}
use Rattle.cany_model.specs.Rules.Messages.{Message, is_from}
use Rattle.cany_model.specs.Rules.Notices.{NamesMessage}
use Rattle.cany_model.proofs.Among.{Each-weaker}
use Rattle.cany_model.proofs.Rules.NumberFacts.{message_is_small}
use Rattle.cany_totcan.specs.declared.queue.Open.{Open}
use Rattle.cany_totcan.specs.declared.queue.Placed.{Placed}
use Rattle.cany_totcan.specs.MessageSet.{MessageSetParts, HasRoomOf, numbers_of}
use Rattle.cany_totcan.specs.Acceptances.{IsNoted, forgotten, is_same, noted_of, nothing}
use Rattle.cany_totcan.specs.Queue.{AreOnce, IsIndexOf, OpenParts, is_at, oldest_from, without_first, without_oldest, without_oldest_from}
use Rattle.cany_totcan.specs.Totcan.{HasHeard, TotcanParts}
use Rattle.cany_totcan.specs.TotcanSteps.{AreAdded, AreKnown, AreStillNoted, HaveGone, IsKnown, due, first_of, fresh_of, closing_accepted, closing_actions, closing_frame, is_accepted_by, tot_actions, without_closing}
use Rattle.cany_totcan.proofs.DueFacts.{added_none, due-first, each_frame_at}
use Rattle.cany_totcan.proofs.MessageSetFacts.{below_numbers}
use Rattle.cany_totcan.proofs.OwnFacts.{seq_below}
use Rattle.cany_totcan.proofs.PlaceFacts.{is_of_key-self, placed_few, placed_once}
use Rattle.cany_totcan.proofs.QueueFacts.{both_le, few_named, same_key-true}

-- a message of the scenario
module _ (scenario : ScenarioParts) (f : FrameParts) (legal : IsLegalScenario scenario) (named : NamesMessage scenario service.Tot f) where
  pub small_named : HasSmallNumbers scenario.params.format f
  small_named =
      let small = message_is_small scenario service.Tot (identity_of f) legal named in
      let nodes : scenario.params.nodes ≤ (layout scenario.params.format).nodes = legal.in_range.nodes.1 in
      (small.number, omega (arith, small.node, nodes))

  few_nodes : (format : Format) → (layout format).nodes ≤ most_nodes
  few_nodes One = omega arith
  few_nodes Two = omega arith

  pub near_named : f.node < most_nodes
  near_named =
      let small = message_is_small scenario service.Tot (identity_of f) legal named in
      let nodes : scenario.params.nodes ≤ (layout scenario.params.format).nodes = legal.in_range.nodes.1 in
      omega (arith, small.node, nodes, few_nodes scenario.params.format)

  pub own_named : (i : ℕ) → f.node ≡ i → f.number < count_by (is_from i) scenario.sends
  own_named i own =
      let below = seq_below scenario named.message named.stands in
      let origin : named.message.origin ≡ i = named.origin ∙ own in
      omega (arith, below, ap (λ n. count_by (is_from n) scenario.sends) origin, named.number)

  pub number_below : f.number < numbers_of scenario
  number_below = below_numbers scenario (identity_of f) named (message_is_small scenario service.Tot (identity_of f) legal named).node

  pub can_deliver : (v : MessageSetParts) → HasRoomOf scenario v → f.number < length v.origins
  can_deliver v room = omega (arith, number_below, room)

-- ---- after a notice

module _ (scenario : ScenarioParts) (i : ℕ) (notice : NoticeKind) (before : List NoticeKind) (messages : List Message) (count : ℕ) (v : TotcanParts)
    (h : HasHeard scenario i notice before messages count v) where
  heard_once : AreOnce v.queue.items
  heard_once = subst AreOnce (sym h.queue.places) (placed_once (scenario.params.bound + 1) (notice ∷ before))

  pub known_heard : AreKnown v
  known_heard = record {
    scenario = scenario;
    legal = h.limits.legal;
    format = h.limits.format;
    room = h.limits.deliveries;
    known = Each-weaker _ _ (λ x named. record {
      message = named;
      own = λ own. omega (arith, own_named scenario x.frame h.limits.legal named i (own ∙ h.limits.node), h.backlog.own);
      small = small_named scenario x.frame h.limits.legal named;
    }) v.queue.items h.queue.messages;
    once = heard_once;
  }

  pub heard_few : length v.queue.items ≤ v.queue.room
  heard_few =
      both_le (length v.queue.items) (sends_by scenario service.Tot) (scenario.params.bound + 1) v.queue.room h.limits.at_once
      (few_named scenario service.Tot v.queue.items h.queue.messages heard_once)
      (omega (arith, placed_few (scenario.params.bound + 1) (notice ∷ before), ap length h.queue.places))

-- ---- a closing

-- what is true of the oldest
pub oldest_each : (P : FrameParts → Type 0) (slot : ℕ) (items : List Placed) (f : FrameParts) → AllByRecursion (λ x. P x.frame) items
    → oldest_from slot items ≡ Some f → P f
oldest_each P slot [] f each is = absurd (cc)
oldest_each P slot (x ∷ items) f each is = go (x.place == slot) is
  where
    go : (b : Bool) → (if b then Some x.frame else None) ≡ Some f → P f
    go true at = let same : x.frame ≡ f = cc in subst P same each.0
    go false at = absurd (cc)

-- what is true of the frames of all is true of that of the message that closes
pub closing_is_each : (P : FrameParts → Type 0) (slot : ℕ) (v : TotcanParts) (f : FrameParts) → AllByRecursion (λ x. P x.frame) v.queue.items
    → closing_frame slot v ≡ Some f → P f
closing_is_each P slot v f each is = go (nat_lt slot v.bound) is
  where
    go : (b : Bool) → (if b then None else oldest_from (slot - v.bound) v.queue.items) ≡ Some f → P f
    go true at = absurd (cc)
    go false at = oldest_each P (slot - v.bound) v.queue.items f each at

pub accepted_each : (P : FrameParts → Type 0) (slot : ℕ) (v : TotcanParts) → AllByRecursion (λ x. P x.frame) v.queue.items
    → AllByRecursion P (closing_accepted v (closing_frame slot v))
accepted_each P slot v each = go (closing_frame slot v) refl
  where
    one : (b : Bool) (f : FrameParts) → P f → AllByRecursion P (if b then f ∷ [] else [])
    one true f is = (is, tt)
    one false f is = tt

    go : (closing : Option FrameParts) → closing_frame slot v ≡ closing → AllByRecursion P (closing_accepted v closing)
    go None is = tt
    go (Some f) is = one (is_accepted_by v f) f (closing_is_each P slot v f each is)

-- what is true of all is true of the rest
rest_with : (P : List Placed → Type 0) (slot : ℕ) (v : OpenParts) (items : List Placed) → P v.items → P items
    → ((x : Placed) (rest : List Placed) → P (x ∷ rest) → P rest)
    → P (without_oldest_from slot v items).items
rest_with P slot v [] here all tail = here
rest_with P slot v (x ∷ items) here all tail = go (x.place == slot)
  where
    go : (b : Bool) → P (if b then record v { items = items; done = v.done - 1 } else v).items
    go true = tail x items all
    go false = here

pub closing_with : (P : List Placed → Type 0) (slot : ℕ) (v : TotcanParts) → P v.queue.items → ((x : Placed) (rest : List Placed) → P (x ∷ rest) → P rest)
    → P (without_closing slot v).queue.items
closing_with P slot v here tail = go (nat_lt slot v.bound)
  where
    go : (b : Bool) → P (if b then v.queue else without_oldest (slot - v.bound) v.queue).items
    go true = here
    go false = rest_with P (slot - v.bound) v.queue v.queue.items here here tail

pub closing_few : (slot : ℕ) (v : TotcanParts) → length (without_closing slot v).queue.items ≤ length v.queue.items
closing_few slot v = closing_with (λ items. length items ≤ length v.queue.items) slot v (omega arith) (λ x rest few. omega (arith, few))

pub known_closed : (slot : ℕ) (v w : TotcanParts) → AreKnown v → w ≡ record (without_closing slot v) { acceptances = w.acceptances; deliveries = w.deliveries }
    → AreAdded (closing_accepted v (closing_frame slot v)) v.deliveries w.deliveries → AreKnown w
known_closed slot v w h state added = subst AreKnown (sym state) (record {
  scenario = h.scenario;
  legal = h.legal;
  format = h.format;
  room = added.numbers ∙ h.room;
  known = closing_with (λ items. AllByRecursion (λ x. IsKnown h.scenario v.node (length v.backlog.own) x.frame) items) slot v h.known (λ x rest all. all.1);
  once = closing_with AreOnce slot v h.once (λ x rest all. all.1);
})

-- the message that closes is not there any more
gone_oldest : (place : ℕ) (q : OpenParts) (items : List Placed) (f : FrameParts) → AreOnce items → oldest_from place items ≡ Some f
    → list_any (is_at (message_in f)) (without_oldest_from place q items).items ≡ false
gone_oldest place q [] f once is = absurd (cc)
gone_oldest place q (x ∷ items) f once is = go (x.place == place) is
  where
    go : (b : Bool) → (if b then Some x.frame else None) ≡ Some f
        → list_any (is_at (message_in f)) (if b then record q { items = items; done = q.done - 1 } else q).items ≡ false
    go true at =
        let same : x.frame ≡ f = cc in
        ap (λ g. list_any (is_at (message_in g)) items) (sym same) ∙ once.0
    go false at = absurd (cc)

gone_closing : (slot : ℕ) (v : TotcanParts) (f : FrameParts) → AreOnce v.queue.items → closing_frame slot v ≡ Some f
    → list_any (is_at (message_in f)) (without_closing slot v).queue.items ≡ false
gone_closing slot v f once is = go (nat_lt slot v.bound) is
  where
    go : (b : Bool) → (if b then None else oldest_from (slot - v.bound) v.queue.items) ≡ Some f
        → list_any (is_at (message_in f)) (if b then v.queue else without_oldest (slot - v.bound) v.queue).items ≡ false
    go true at = absurd (cc)
    go false at = gone_oldest (slot - v.bound) v.queue v.queue.items f once at

-- what was noted of the others stays
pub still_noted : (slot : ℕ) (v : TotcanParts) (f : FrameParts) (new : List Open) → AreOnce v.queue.items → closing_frame slot v ≡ Some f
    → IsNoted forgotten (message_in f) v.acceptances new → AreStillNoted (without_closing slot v).queue.items v.acceptances new
still_noted slot v f new once is gone = record {
  noted = λ key there.
      let items = (without_closing slot v).queue.items in
      let other : is_same key (message_in f) ≡ false = false_from_ne_true (is_same key (message_in f)) (λ same.
      false≢true (sym (gone_closing slot v f once is) ∙ ap (λ k. list_any (is_at k) items) (sym (same_key-true key (message_in f) same)) ∙ there)) in
      gone.noted key ∙ ap (λ b. if b then nothing else noted_of v.acceptances key) other;
}

-- ---- the walk

-- the values that the walk leads to are known too
pub known_gone : (slot : ℕ) (v w : TotcanParts) (a b : List Action) → AreKnown v → HaveGone slot v w a b → AreKnown w
known_gone slot v w a b h gone = subst AreKnown (sym gone.state) (record {
  scenario = h.scenario;
  legal = h.legal;
  format = h.format;
  room = gone.added.numbers ∙ h.room;
  known = h.known;
  once = h.once;
})

pub near_known : (v : TotcanParts) → AreKnown v → AllByRecursion (λ x. x.frame.node < most_nodes) v.queue.items
near_known v h = Each-weaker _ _ (λ x known. near_named h.scenario x.frame h.legal known.message) v.queue.items h.known

pub own_known : (v : TotcanParts) → AreKnown v → AllByRecursion (λ x. x.frame.node ≡ v.node → x.frame.number < length v.backlog.own) v.queue.items
own_known v h = Each-weaker _ _ (λ x known. known.own) v.queue.items h.known

-- the first that is to be done can be delivered
pub first_can_deliver : (v : TotcanParts) (f : FrameParts) → AreKnown v → first_of (due v) ≡ Some f → f.number < length v.deliveries.origins
first_can_deliver v f h is =
    let first = due-first v v.queue.done v.queue.items f is in
    can_deliver h.scenario f h.legal
    (each_frame_at (NamesMessage h.scenario service.Tot) v.queue.items v.queue.done f (Each-weaker _ _ (λ x known. known.message) v.queue.items h.known) first.at)
    v.deliveries h.room

-- so can the one that closes
pub closing_can_deliver : (slot : ℕ) (v : TotcanParts) (f : FrameParts) → AreKnown v → closing_frame slot v ≡ Some f
    → f.number < length v.deliveries.origins
closing_can_deliver slot v f h is =
    can_deliver h.scenario f h.legal (closing_is_each (NamesMessage h.scenario service.Tot) slot v f (Each-weaker _ _ (λ x known. known.message) v.queue.items h.known) is)
    v.deliveries h.room

-- what closes in the turn of a slot, by whether there may be anything
pub closing_early : (slot : ℕ) (v : TotcanParts) → slot < v.bound → (closing_frame slot v ≡ None) × (without_closing slot v ≡ v)
closing_early slot v early =
    let is : nat_lt slot v.bound ≡ true = grind (arith, nat_tests, early) in
    (rw is refl, rw is refl)

pub closing_late : (slot : ℕ) (v : TotcanParts) → v.bound ≤ slot → (closing_frame slot v ≡ oldest_from (slot - v.bound) v.queue.items)
    × (without_closing slot v ≡ record v { queue = without_oldest (slot - v.bound) v.queue })
closing_late slot v late =
    let is : nat_lt slot v.bound ≡ false = grind (arith, nat_tests, late) in
    (rw is refl, rw is refl)

-- the message that closes is known
pub closing_known : (slot : ℕ) (v : TotcanParts) (f : FrameParts) (h : AreKnown v) → closing_frame slot v ≡ Some f
    → IsKnown h.scenario v.node (length v.backlog.own) f
closing_known slot v f h is = closing_is_each (IsKnown h.scenario v.node (length v.backlog.own)) slot v f h.known is

pub closed_few : (scenario : ScenarioParts) (i : ℕ) (notice : NoticeKind) (before : List NoticeKind) (messages : List Message) (count : ℕ) (slot : ℕ) (v w : TotcanParts)
    → HasHeard scenario i notice before messages count v → w ≡ record (without_closing slot v) { acceptances = w.acceptances; deliveries = w.deliveries } → length w.queue.items ≤ v.queue.room
closed_few scenario i notice before messages count slot v w h state =
    omega (arith, ap (λ (x : TotcanParts). length x.queue.items) state, closing_few slot v, heard_few scenario i notice before messages count v h)

-- ---- which message closes

-- it is the oldest, as the parts of the value read it
pub closing_read : (slot : ℕ) (u v : TotcanParts) (oldest : Option Open) → u ≡ v → u.bound ≤ slot
    → option_map (λ e. e.placed.frame) oldest ≡ oldest_from (slot - u.bound) u.queue.items → closing_frame slot v ≡ option_map (λ e. e.placed.frame) oldest
closing_read slot u v oldest same late read =
    (closing_late slot v (subst (λ (x : TotcanParts). x.bound ≤ slot) same late)).0
    ∙ ap (λ (x : TotcanParts). oldest_from (slot - x.bound) x.queue.items) (sym same)
    ∙ sym read

pub closes : (slot : ℕ) (u v : TotcanParts) (oldest : Option Open) (e : Open) → u ≡ v → u.bound ≤ slot
    → option_map (λ e. e.placed.frame) oldest ≡ oldest_from (slot - u.bound) u.queue.items → oldest ≡ Some e → closing_frame slot v ≡ Some e.placed.frame
closes slot u v oldest e same late read is = closing_read slot u v oldest same late read ∙ ap (option_map (λ (e : Open). e.placed.frame)) is

oldest_at : (place : ℕ) (items : List Placed) (f : FrameParts) → oldest_from place items ≡ Some f → IsIndexOf (message_in f) 0 items
oldest_at place [] f is = absurd (cc)
oldest_at place (x ∷ items) f is = go (x.place == place) is
  where
    go : (b : Bool) → (if b then Some x.frame else None) ≡ Some f → IsIndexOf (message_in f) 0 (x ∷ items)
    go false is = absurd (cc)
    go true is =
        let same : x.frame ≡ f = cc in
        record { within = omega arith; is = λ d. ap (λ (g : FrameParts). is_at (message_in g) x) (sym same) ∙ is_of_key-self x.frame }

-- it is the first
pub closes_first : (slot : ℕ) (v : TotcanParts) (f : FrameParts) → closing_frame slot v ≡ Some f → IsIndexOf (message_in f) 0 v.queue.items
closes_first slot v f is = go (nat_lt slot v.bound) is
  where
    go : (b : Bool) → (if b then None else oldest_from (slot - v.bound) v.queue.items) ≡ Some f → IsIndexOf (message_in f) 0 v.queue.items
    go true is = absurd (cc)
    go false is = oldest_at (slot - v.bound) v.queue.items f is

rest_from : (place : ℕ) (q : OpenParts) (items : List Placed) (f : FrameParts) → oldest_from place items ≡ Some f
    → record q { items = drop 1 items; done = q.done - 1 } ≡ without_oldest_from place q items
rest_from place q [] f is = absurd (cc)
rest_from place q (x ∷ items) f is = go (x.place == place) is
  where
    go : (b : Bool) → (if b then Some x.frame else None) ≡ Some f
        → record q { items = items; done = q.done - 1 } ≡ (if b then record q { items = items; done = q.done - 1 } else q)
    go true is = refl
    go false is = absurd (cc)

-- so that the rest are those without the first
pub closing_rest : (slot : ℕ) (v : TotcanParts) (f : FrameParts) → closing_frame slot v ≡ Some f → without_first v.queue ≡ (without_closing slot v).queue
closing_rest slot v f is = go (nat_lt slot v.bound) is
  where
    go : (b : Bool) → (if b then None else oldest_from (slot - v.bound) v.queue.items) ≡ Some f
        → without_first v.queue ≡ (if b then v.queue else without_oldest (slot - v.bound) v.queue)
    go true is = absurd (cc)
    go false is = rest_from (slot - v.bound) v.queue v.queue.items f is

-- ---- where none closes

kept_from : (place : ℕ) (q : OpenParts) (items : List Placed) → oldest_from place items ≡ None → without_oldest_from place q items ≡ q
kept_from place q [] none = refl
kept_from place q (x ∷ items) none = go (x.place == place) none
  where
    go : (b : Bool) → (if b then Some x.frame else None) ≡ None → (if b then record q { items = items; done = q.done - 1 } else q) ≡ q
    go true some = absurd (cc)
    go false none = refl

kept_in : (slot bound : ℕ) (q : OpenParts) → (if nat_lt slot bound then None else oldest_from (slot - bound) q.items) ≡ None
    → (if nat_lt slot bound then q else without_oldest (slot - bound) q) ≡ q
kept_in slot bound q none = go (nat_lt slot bound) none
  where
    go : (b : Bool) → (if b then None else oldest_from (slot - bound) q.items) ≡ None → (if b then q else without_oldest (slot - bound) q) ≡ q
    go true none = refl
    go false none = kept_from (slot - bound) q q.items none

-- the value is the same without it
pub closing_kept : (slot : ℕ) (v : TotcanParts) → closing_frame slot v ≡ None → record (without_closing slot v) { deliveries = v.deliveries } ≡ v
closing_kept slot v none = ap (λ q. record v { queue = q }) (kept_in slot v.bound v.queue none)

pub nothing_added : (slot : ℕ) (v : TotcanParts) → closing_frame slot v ≡ None → AreAdded (closing_accepted v (closing_frame slot v)) v.deliveries v.deliveries
nothing_added slot v none = subst (λ o. AreAdded (closing_accepted v o) v.deliveries v.deliveries) (sym none) (added_none v.deliveries)

pub nothing_done : (slot : ℕ) (v : TotcanParts) (out : List Action) → closing_frame slot v ≡ None
    → out ≡ (out ++ closing_actions v.format (closing_frame slot v)) ++ tot_actions slot (fresh_of v.deliveries (closing_accepted v (closing_frame slot v)))
nothing_done slot v out none =
    subst (λ o. out ≡ (out ++ closing_actions v.format o) ++ tot_actions slot (fresh_of v.deliveries (closing_accepted v o))) (sym none)
    (sym (append-nil (out ++ []) ∙ append-nil out))
