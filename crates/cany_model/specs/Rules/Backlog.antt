-- The backlog of a node: its scripted TOTCAN messages join it one after another, and in that order
-- it asks for their data frames.
use Rattle.std.specs.Prelude.{ℕ, ◌+◌, ◌==◌, ◌&&◌, ◌++◌, Bool, true, false, not, if◌then◌else◌, List, [], ◌∷◌, Option, Some, None, length, take, drop, filter}
use Rattle.std.specs.List.{last_or, list_all}
use Rattle.std.specs.Option.{option_map_or}
use Rattle.cany_base.specs.declared.class.Class.TheVariants as class
use Rattle.cany_base.specs.declared.message.Service.TheVariants as service
use Rattle.cany_base.specs.declared.notice.NoticeKind.{NoticeKind}
use Rattle.cany_base.specs.Params.{Parameters}
use Rattle.cany_base.specs.Scenario.{ScenarioParts}
use Rattle.cany_model.specs.Bus.Frames.{same_class}
use Rattle.cany_model.specs.Bus.History.{has_own}
use Rattle.cany_model.specs.Rules.Effect.{Effect, Ask, TurnRule}
use Rattle.cany_model.specs.Rules.Messages.{Message, message_key, data_frame, data_id, is_service}
use Rattle.cany_model.specs.Rules.Protocol.{Protocol, nothing_ahead}
use Rattle.cany_model.specs.Rules.Sends.{sendable}
use Rattle.cany_model.specs.Rules.Totcan.{is_recent}

-- whether the message is by TOTCAN and joins the backlog of node i in its turn of this slot
abbrev pub joins_in : ℕ → ℕ → Message → Bool
joins_in i slot m = is_service m.service service.Tot && m.origin == i && m.slot == slot

-- the messages that have joined it so far, in that order, with those that were asked for: those of
-- one slot in file order
unfoldable pub backlog : ScenarioParts → ℕ → List NoticeKind → List Message
backlog scenario i [] = []
backlog scenario i (notice ∷ before) = backlog scenario i before ++ filter (joins_in i (length before)) (sendable scenario (length before))

-- Whether so many slots have passed since the place of the last of these messages. A message
-- without a place counts as long past: that it was sent is asked beside this.
abbrev pub is_past_last : ℕ → List Message → List NoticeKind → Bool
is_past_last slots messages past = option_map_or (λ m. not (is_recent slots (message_key m) past)) (last_or None messages) true

-- Whether the next message may be asked for after these: the node has read its own transmission of
-- each, and the place of the last lies bound + lag slots back.
abbrev pub is_free : Parameters → List Message → List NoticeKind → Bool
is_free p earlier past = list_all (λ m. has_own (data_id m) past) earlier && is_past_last (p.bound + p.lag) earlier past

-- the first of the later messages, if it may be asked for after the earlier ones
abbrev pub next_of : Parameters → List NoticeKind → List Message → List Message → Option Message
next_of p past earlier [] = None
next_of p past earlier (m ∷ later) = if is_free p earlier past then Some m else None

-- the message of a backlog that is asked for next, where so many were asked for before
abbrev pub next_after : Parameters → List NoticeKind → List Message → ℕ → Option Message
next_after p past messages n = next_of p past (take n messages) (drop n messages)

abbrev pub one_more : ℕ → Option Message → ℕ
one_more n None = n
one_more n (Some m) = n + 1

abbrev pub asked_after : Parameters → List NoticeKind → List Message → ℕ → ℕ
asked_after p past messages n = one_more n (next_after p past messages n)

-- how many of the backlog node i has asked for: in each turn it may ask for one
unfoldable pub asked : ScenarioParts → ℕ → List NoticeKind → ℕ
asked scenario i [] = 0
asked scenario i (notice ∷ before) =
    asked_after scenario.params (notice ∷ before) (backlog scenario i (notice ∷ before)) (asked scenario i before)

abbrev pub ask_for : Option Message → List Effect
ask_for None = []
ask_for (Some m) = Ask (data_frame m) ∷ []

unfoldable pub backlog_effects : TurnRule
backlog_effects scenario i [] = []
backlog_effects scenario i (notice ∷ before) =
    ask_for (next_after scenario.params (notice ∷ before) (backlog scenario i (notice ∷ before)) (asked scenario i before))

abbrev pub tot_backlog : Protocol
tot_backlog = record {
  effects = backlog_effects;
  originates = true;
  ahead = nothing_ahead;
  names = λ c. same_class c class.Tot;
  delivers = λ by. false;
}
