-- What TOTCAN does with a frame, at a closing and with accepted messages, from what the value has.
use Rattle.std.specs.Prelude.{◌≡◌, ℕ, ◌+◌, ◌-◌, ◌<◌, ◌==◌, ◌&&◌, ◌||◌, Bool, true, not, nat_lt, if◌then◌else◌, List, [], ◌∷◌, ◌++◌, Option, Some, None, drop, filter, length, map, slice_set}
use Rattle.std.specs.List.{AllByRecursion, list_any}
use Rattle.can_frame.specs.Identifier.{HasSmallNumbers}
use Rattle.cany_base.specs.declared.actions.Action.{Action}
use Rattle.cany_base.specs.declared.actions.Action.TheVariants.{Ask, Enter}
use Rattle.cany_base.specs.declared.format.Format.{Format}
use Rattle.cany_base.specs.declared.message.MsgKey.{MsgKey}
use Rattle.cany_base.specs.declared.message.Service.TheVariants as service
use Rattle.cany_base.specs.Frame.{FrameParts}
use Rattle.cany_base.specs.Limits.{most_nodes}
use Rattle.cany_base.specs.Scenario.{ScenarioParts, IsLegalScenario}
use Rattle.cany_message.specs.Actions.{withdraw_actions}
use Rattle.cany_model.specs.Rules.Delivery.{delivery}
use Rattle.cany_model.specs.Rules.Notices.{NamesMessage}
use Rattle.cany_model.specs.Rules.Totcan.{accept_frame, message_in}
use Rattle.cany_totcan.specs.declared.queue.Open.{Open}
use Rattle.cany_totcan.specs.declared.queue.Placed.{Placed}
use Rattle.cany_totcan.specs.Acceptances.{noted_of}
use Rattle.cany_totcan.specs.Backlog.{BacklogParts, own_at}
use Rattle.cany_totcan.specs.MessageSet.{MessageSetParts, HasRoomOf, has_message}
use Rattle.cany_totcan.specs.Queue.{AreOnce, is_at, moved, oldest_from, without_key, without_oldest}
use Rattle.cany_totcan.specs.Totcan.{TotcanParts}

-- ---- a frame

-- whether the message that the frame names is open
abbrev pub has_open : TotcanParts → FrameParts → Bool
has_open v f = list_any (is_at (message_in f)) v.queue.items

-- the backlog after a data frame of the node was read
abbrev pub noted : FrameParts → ℕ → Bool → BacklogParts → BacklogParts
noted f slot is_sent v =
    let was = own_at v.own f.number in
    record v { own = slice_set v.own f.number (record was { sent = is_sent || was.sent; place = Some slot }) }

-- the backlog after a data frame was read, which may be the node's
abbrev pub noted_if : Bool → FrameParts → ℕ → Bool → BacklogParts → BacklogParts
noted_if own f slot is_sent v = if own then noted f slot is_sent v else v

-- the value after it, with what is noted of acceptances then
abbrev pub held : FrameParts → ℕ → Bool → List Open → TotcanParts → TotcanParts
held f slot is_sent acceptances v =
    record v { queue = moved f slot v.queue; acceptances = acceptances; backlog = noted_if (f.node == v.node) f slot is_sent v.backlog }

-- the origin accepts its message
abbrev pub origin_actions : Bool → FrameParts → List Action
origin_actions own f = if own then Ask (accept_frame f) ∷ [] else []

-- ---- deliveries

-- whether the open message of a data frame is accepted
abbrev pub is_accepted_by : TotcanParts → FrameParts → Bool
is_accepted_by v f = nat_lt 0 (noted_of v.acceptances (message_in f)).copies || (f.node == v.node && (own_at v.backlog.own f.number).sent)

abbrev pub if_accepted : TotcanParts → FrameParts → List FrameParts
if_accepted v f = if is_accepted_by v f then f ∷ [] else []

-- the frames of accepted messages, up to the first that is not accepted
unfoldable pub accepted_first : TotcanParts → List Placed → List FrameParts
accepted_first v [] = []
accepted_first v (x ∷ items) = if is_accepted_by v x.frame then x.frame ∷ accepted_first v items else []

-- those that are to be done
abbrev pub due : TotcanParts → List FrameParts
due v = accepted_first v (drop v.queue.done v.queue.items)

abbrev pub first_of : List FrameParts → Option FrameParts
first_of [] = None
first_of (f ∷ frames) = Some f

-- those of these frames whose messages were not delivered
abbrev pub fresh_of : MessageSetParts → List FrameParts → List FrameParts
fresh_of v frames = filter (λ f. not (has_message v f.number f.node)) frames

abbrev pub tot_actions : ℕ → List FrameParts → List Action
tot_actions slot frames = map (λ f. Enter (delivery slot service.Tot f)) frames

abbrev pub is_named : (seq origin : ℕ) → FrameParts → Bool
is_named seq origin f = seq == f.number && origin == f.node

-- The message of the data frame can have its place in the slot: there is room for it, the places of
-- the open messages are before, and the node keeps something of it if it is its own.
pub record CanHold (v : TotcanParts) (f : FrameParts) (slot : ℕ) : Type 0 where
  pub number : f.number < v.queue.numbers
  pub room : length (without_key (message_in f) v.queue.items) < v.queue.room
  pub later : AllByRecursion (λ x. x.place < slot) v.queue.items
  pub own : f.node ≡ v.node → f.number < length v.backlog.own

-- the messages of these frames were delivered besides
pub record AreAdded (frames : List FrameParts) (old new : MessageSetParts) : Type 0 where
  pub delivered : (seq origin : ℕ) → origin < most_nodes →
      has_message new seq origin ≡ (list_any (is_named seq origin) frames || has_message old seq origin)
  pub numbers : length new.origins ≡ length old.origins

-- the frames up to the first that is due were done, and their messages delivered that were not
pub record HaveGone (slot : ℕ) (old new : TotcanParts) (before after : List Action) : Type 0 where
  pub gone : List FrameParts
  pub rest : due old ≡ gone ++ due new
  pub done : new.queue.done ≡ old.queue.done + length gone
  pub state : new ≡ record old { queue = record old.queue { done = new.queue.done }; deliveries = new.deliveries }
  pub added : AreAdded gone old.deliveries new.deliveries
  pub actions : after ≡ before ++ tot_actions slot (fresh_of old.deliveries gone)

-- ---- a closing

-- the data frame of the message that closes in the turn of a slot
abbrev pub closing_frame : ℕ → TotcanParts → Option FrameParts
closing_frame slot v = if nat_lt slot v.bound then None else oldest_from (slot - v.bound) v.queue.items

-- the value without that message
abbrev pub without_closing : ℕ → TotcanParts → TotcanParts
without_closing slot v = record v { queue = if nat_lt slot v.bound then v.queue else without_oldest (slot - v.bound) v.queue }

-- of each message that is still open what was noted of it is noted
pub record AreStillNoted (items : List Placed) (old new : List Open) : Type 0 where
  pub noted : (key : MsgKey) → list_any (is_at key) items ≡ true → noted_of new key ≡ noted_of old key

-- its acceptance is withdrawn
abbrev pub closing_actions : Format → Option FrameParts → List Action
closing_actions format None = []
closing_actions format (Some f) = withdraw_actions format true (accept_frame f)

-- it is delivered if it is accepted
abbrev pub closing_accepted : TotcanParts → Option FrameParts → List FrameParts
closing_accepted v None = []
closing_accepted v (Some f) = if_accepted v f

-- ---- what is true of the open messages

-- the message is one of the scenario, and if it is the node's it is among those whose fate the node
-- keeps
pub record IsKnown (scenario : ScenarioParts) (node seqs : ℕ) (f : FrameParts) : Type 0 where
  pub message : NamesMessage scenario service.Tot f
  pub own : f.node ≡ node → f.number < seqs
  pub small : HasSmallNumbers scenario.params.format f

-- The open messages are messages of a scenario for which there is room, and no two are the same.
pub record AreKnown (v : TotcanParts) : Type 0 where
  pub scenario : ScenarioParts
  pub legal : IsLegalScenario scenario
  pub format : v.format ≡ scenario.params.format
  pub room : HasRoomOf scenario v.deliveries
  pub known : AllByRecursion (λ x. IsKnown scenario v.node (length v.backlog.own) x.frame) v.queue.items
  pub once : AreOnce v.queue.items
