-- TOTCAN: a node delivers a message once it has heard in time that the message is accepted, in the
-- order in which it last read the data frames, and passes over a message that was not accepted in
-- time. So all nodes are to deliver in one order.
use Rattle.std.specs.Prelude.{ℕ, ◌+◌, ◌==◌, ◌&&◌, ◌||◌, ◌++◌, Bool, true, false, not, nat_lt, if◌then◌else◌, List, [], ◌∷◌, Option, Some, None, length, take, filter, map, slice_index_or}
use Rattle.std.specs.List.{list_any}
use Rattle.cany_base.specs.declared.class.Class.TheVariants as class
use Rattle.cany_base.specs.declared.message.MsgKey.{MsgKey}
use Rattle.cany_base.specs.declared.message.Service.TheVariants as service
use Rattle.cany_base.specs.declared.notice.NoticeKind.{NoticeKind}
use Rattle.cany_base.specs.declared.notice.NoticeKind.TheVariants.{Idle, Got, Sent, Bad}
use Rattle.cany_base.specs.Frame.{FrameParts}
use Rattle.cany_base.specs.Params.{Parameters}
use Rattle.cany_base.specs.Scenario.{ScenarioParts}
use Rattle.cany_model.specs.Bus.Frames.{Identity, identity_of, same_class, same_identity}
use Rattle.cany_model.specs.Bus.History.{is_got, is_sent, has_own}
use Rattle.cany_model.specs.Rules.Delivery.{delivery}
use Rattle.cany_model.specs.Rules.Eager.{eager_effects}
use Rattle.cany_model.specs.Rules.Effect.{Effect, Ask, Withdraw, Enter, TurnRule}
use Rattle.cany_model.specs.Rules.Messages.{Message, message_key, accept_of_key, is_service}
use Rattle.cany_model.specs.Rules.Protocol.{Protocol}

-- ---- frames

-- the message that a data frame carries, or that a frame accepts
abbrev pub message_in : FrameParts → MsgKey
message_in f = record { origin = f.node; seq = f.number }

-- what names the data frame of a message
abbrev pub tot_of_key : MsgKey → Identity
tot_of_key key = record { class = class.Tot; number = key.seq; node = key.origin }

-- the frame that accepts the message of this data frame
abbrev pub accept_frame : FrameParts → FrameParts
accept_frame f = record { class = class.Accept; number = f.number; node = f.node; inc = 0; payload = [] }

-- the frame, if it carries a TOTCAN message
abbrev pub if_tot : FrameParts → Option FrameParts
if_tot f = if same_class f.class class.Tot then Some f else None

-- the data frame that a notice brings, if it brings one
unfoldable pub tot_in : NoticeKind → Option FrameParts
tot_in Idle = None
tot_in (Got f) = if_tot f
tot_in (Sent f) = if_tot f
tot_in Bad = None

-- ---- places

-- Whether the notice brings the data frame of the message, got or sent. The newest that does is the
-- place of the message, so that a later one moves it, also where the message was closed.
abbrev pub holds : MsgKey → NoticeKind → Bool
holds key notice = is_got (tot_of_key key) notice || is_sent (tot_of_key key) notice

-- whether the place of the message is one of so many newest notices
unfoldable pub is_recent : ℕ → MsgKey → List NoticeKind → Bool
is_recent notices key past = list_any (holds key) (take notices past)

-- the notices after the place: all, where there is none
unfoldable pub after_place : MsgKey → List NoticeKind → List NoticeKind
after_place key [] = []
after_place key (notice ∷ before) = if holds key notice then [] else notice ∷ after_place key before

-- ---- acceptance

-- A message is open so long as its place is one of the newest `bound` notices: a frame that accepts
-- it, got next, is in time. Once its place is older it is closed.
abbrev pub can_be_accepted : ℕ → MsgKey → List NoticeKind → Bool
can_be_accepted bound key past = is_recent bound key past

-- whether a frame that accepts the message was got after its place, and in time
unfoldable pub is_heard : ℕ → MsgKey → List NoticeKind → Bool
is_heard bound key [] = false
is_heard bound key (notice ∷ before) =
    not (holds key notice) && (is_heard bound key before || is_got (accept_of_key key) notice && can_be_accepted bound key before)

-- whether the message is accepted at node i: that was heard, or the node is the origin and has read
-- its own transmission
unfoldable pub is_accepted : ℕ → ℕ → MsgKey → List NoticeKind → Bool
is_accepted bound i key past = is_heard bound key past || key.origin == i && has_own (tot_of_key key) past

-- The origin accepts its message once it has read its own transmission. A frame that accepts an
-- open message follows the eager rule, by what was read after the place. One that accepts any other
-- message is ignored.
unfoldable pub accept_effects : Parameters → ℕ → NoticeKind → List NoticeKind → List Effect
accept_effects p i Idle before = []
accept_effects p i Bad before = []
accept_effects p i (Got f) before =
    if same_class f.class class.Accept && can_be_accepted p.bound (message_in f) before
    then eager_effects p.omit f (after_place (message_in f) (Got f ∷ before))
    else []
accept_effects p i (Sent f) before = if same_class f.class class.Tot && f.node == i then Ask (accept_frame f) ∷ [] else []

-- the message of this data frame closes if its place is older than the newest `bound` notices: no
-- frame that accepts it waits then
abbrev pub closing_of : ℕ → List NoticeKind → Option FrameParts → List Effect
closing_of bound past None = []
closing_of bound past (Some f) = if can_be_accepted bound (message_in f) past then [] else Withdraw (accept_of_key (message_in f)) ∷ []

-- what closes in the turn of the newest notice: the message whose place came `bound` notices
-- before, if there is one
unfoldable pub closing_effects : ℕ → List NoticeKind → List Effect
closing_effects bound past = closing_of bound past (tot_in (slice_index_or past bound Idle))

-- ---- deliveries

-- whether a notice that so many newer ones follow is the place of the message that it brings
abbrev pub is_place : ℕ → List NoticeKind → MsgKey → Bool
is_place age past key = not (is_recent age key past)

-- whether the message of this data frame, which came in a notice of this age, is neither accepted
-- nor closed: it holds later ones back
abbrev pub is_pending : Parameters → ℕ → List NoticeKind → ℕ → Option FrameParts → Bool
is_pending p i past age None = false
is_pending p i past age (Some f) =
    is_place age past (message_in f) && nat_lt age p.bound && not (is_accepted p.bound i (message_in f) past)

-- whether no message holds later ones back whose place is one of these notices, the first of which
-- has this age
unfoldable pub is_clear : Parameters → ℕ → List NoticeKind → ℕ → List NoticeKind → Bool
is_clear p i past age [] = true
is_clear p i past age (notice ∷ older) = not (is_pending p i past age (tot_in notice)) && is_clear p i past (age + 1) older

-- The message of this data frame, which came in a notice of this age, is done if it is accepted and
-- none with an older place holds it back.
abbrev pub done_at : Parameters → ℕ → List NoticeKind → ℕ → List NoticeKind → Option FrameParts → List FrameParts
done_at p i past age older None = []
done_at p i past age older (Some f) =
    if is_place age past (message_in f) && is_accepted p.bound i (message_in f) past && is_clear p i past (age + 1) older then f ∷ [] else []

-- those that are done of these notices, the first of which has this age, in the order of their
-- places
unfoldable pub done_from : Parameters → ℕ → List NoticeKind → ℕ → List NoticeKind → List FrameParts
done_from p i past age [] = []
done_from p i past age (notice ∷ older) = done_from p i past (age + 1) older ++ done_at p i past age older (tot_in notice)

-- all that are done
abbrev pub done : Parameters → ℕ → List NoticeKind → List FrameParts
done p i past = done_from p i past 0 past

-- whether the message of this frame is one of those that these frames carry
abbrev pub is_among : List FrameParts → FrameParts → Bool
is_among delivered f = list_any (λ g. same_identity (identity_of f) (identity_of g)) delivered

-- the frames whose messages are not among the delivered ones
abbrev pub new_among : List FrameParts → List FrameParts → List FrameParts
new_among delivered frames = filter (λ f. not (is_among delivered f)) frames

-- the delivered ones and then those: a word of its own, so that a row computes the delivered ones
-- once
abbrev pub with_new : List FrameParts → List FrameParts → List FrameParts
with_new delivered frames = delivered ++ new_among delivered frames

-- The data frames of the messages that node i has delivered, in that order: each in the first turn
-- in which it was done, those of one turn in the order of their places.
unfoldable pub delivered : Parameters → ℕ → List NoticeKind → List FrameParts
delivered p i [] = []
delivered p i (notice ∷ before) = with_new (delivered p i before) (done p i (notice ∷ before))

-- those that it delivers in the turn of the newest notice
unfoldable pub delivered_now : Parameters → ℕ → List NoticeKind → List FrameParts
delivered_now p i [] = []
delivered_now p i (notice ∷ before) = new_among (delivered p i before) (done p i (notice ∷ before))

abbrev pub tot_delivery : ℕ → FrameParts → Effect
tot_delivery slot f = Enter (delivery slot service.Tot f)

-- ---- a turn: the notice, then the closing that is due, then the deliveries

unfoldable pub totcan_effects : TurnRule
totcan_effects scenario i [] = []
totcan_effects scenario i (notice ∷ before) =
    let p = scenario.params in
    accept_effects p i notice before
    ++ closing_effects p.bound (notice ∷ before)
    ++ map (tot_delivery (length before)) (delivered_now p i (notice ∷ before))

-- whether the message has a closing ahead: it is open
abbrev pub has_closing_ahead : ScenarioParts → Message → ℕ → List NoticeKind → Bool
has_closing_ahead scenario m i past = is_service m.service service.Tot && can_be_accepted scenario.params.bound (message_key m) past

abbrev pub totcan : Protocol
totcan = record {
  effects = totcan_effects;
  originates = false;
  ahead = has_closing_ahead;
  names = λ c. same_class c class.Accept;
  delivers = λ by. is_service by service.Tot;
}
