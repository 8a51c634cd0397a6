-- The account of a run: what its messages, its logs and its failure signs came to. Verdicts are
-- given of accounts alone.
use Rattle.std.specs.Prelude.{ℕ, ◌+◌, ◌==◌, ◌&&◌, ◌||◌, Bool, nat_lt, if◌then◌else◌, List, [], ◌∷◌, map, filter, Option, Some, None, unwrap_or}
use Rattle.std.specs.List.{flat_map, range_with_len}
use Rattle.std.specs.Option.{option_or}
use Rattle.cany_base.specs.declared.log_entry.LogEntry.{LogEntry}
use Rattle.cany_base.specs.declared.log_entry.LogEntry.TheVariants.{Deliver, Failed, View}
use Rattle.cany_base.specs.declared.slot_note.SlotNote.{SlotNote}
use Rattle.cany_base.specs.Nodes.{has}
use Rattle.cany_base.specs.Params.{Parameters}
use Rattle.cany_base.specs.Scenario.{ScenarioParts}
use Rattle.cany_model.specs.Bus.Frames.{Identity, is_of, same_frame}
use Rattle.cany_model.specs.Bus.Slot.{carried}
use Rattle.cany_model.specs.Bus.State.{RunState, node_at, runs}
use Rattle.cany_model.specs.Promises.FirstSlots.{first_carried}
use Rattle.cany_model.specs.Rules.Knowledge.{FailureSign, fda_of}
use Rattle.cany_model.specs.Rules.Messages.{Message, data_frame, data_id, frames_of, message_key, messages_of}
use Rattle.cany_model.specs.Runs.Incarnations.{log_of}
use Rattle.cany_world.specs.Incarnations.{takes_part_since}
use Rattle.cany_world.specs.Settled.{is_queued, nodes_ahead, waiting_nodes}
use Rattle.cany_check.specs.declared.account.record.MessageRecord.{MessageRecord}
use Rattle.cany_check.specs.declared.account.record.SignRecord.{SignRecord}
use Rattle.cany_check.specs.declared.account.record.FirstAndLast.{FirstAndLast}
use Rattle.cany_check.specs.InOrder.{ascending}

-- the log of an incarnation: its node, the slot since which it takes part, whether it is the
-- present incarnation of a running node, and its entries
pub record LogParts : Type 0 where
  pub node : ℕ
  pub from : ℕ
  pub runs : Bool
  pub entries : List LogEntry

-- what a contract sees of an account
pub record AccountParts : Type 0 where
  pub params : Parameters
  pub messages : List MessageRecord
  pub logs : List LogParts
  pub signs : List SignRecord

-- ---- slots, newest first

-- the first that passes a test
unfoldable pub first_where : (SlotNote → Bool) → List SlotNote → Option ℕ
first_where test [] = None
first_where test (note ∷ before) = option_or (first_where test before) (if test note then Some note.slot else None)

-- the last that carried a frame of this identity
unfoldable pub last_carried : Identity → List SlotNote → Option ℕ
last_carried x [] = None
last_carried x (note ∷ before) = if carried (is_of x) note then Some note.slot else last_carried x before

abbrev pub first_and_last : Option ℕ → Option ℕ → Option FirstAndLast
first_and_last (Some first) (Some last) = Some (record { first = first; last = last })
first_and_last (Some first) None = None
first_and_last None last = None

-- the first and the last slot that carried a frame of this identity, with whatever verdict
abbrev pub slots_of : Identity → List SlotNote → Option FirstAndLast
slots_of x trace = first_and_last (first_carried x trace) (last_carried x trace)

-- ---- messages

-- whether the slot carried the data frame of the message, payload included, with its origin among
-- the senders
abbrev pub sends_data : Message → SlotNote → Bool
sends_data m note = carried (same_frame (data_frame m)) note && has note.senders m.origin

-- the record of a message, but for the slots that carried it
abbrev pub unsent_record : ScenarioParts → RunState → Message → MessageRecord
unsent_record scenario s m = record {
  key = message_key m;
  service = m.service;
  payload = m.payload;
  slot = m.slot;
  sent = None;
  carried = None;
  queued = is_queued scenario s m;
  waits = waiting_nodes (frames_of m) s;
  ahead = nodes_ahead scenario s m;
}

abbrev pub message_record : ScenarioParts → RunState → Message → MessageRecord
message_record scenario s m = record (unsent_record scenario s m) { sent = first_where (sends_data m) s.trace; carried = slots_of (data_id m) s.trace }

-- ---- logs

-- that of an incarnation of node i
abbrev pub log_record : ScenarioParts → RunState → ℕ → ℕ → LogParts
log_record scenario s i number = record {
  node = i;
  from = unwrap_or (takes_part_since s i number) 0;
  runs = runs (node_at s.nodes i) && number == (node_at s.nodes i).present.number;
  entries = log_of scenario s i number;
}

-- those of its incarnations, the first before the second
abbrev pub logs_of_node : ScenarioParts → RunState → ℕ → List LogParts
logs_of_node scenario s i = map (log_record scenario s i) (range_with_len 0 ((node_at s.nodes i).present.number + 1))

-- by ascending node, and then by incarnation
abbrev pub logs_of : ScenarioParts → RunState → List LogParts
logs_of scenario s = flat_map (logs_of_node scenario s) (range_with_len 0 scenario.params.nodes)

-- ---- failure signs

abbrev pub sign_in : LogEntry → List FailureSign
sign_in (Deliver slot service msg payload) = []
sign_in (Failed slot node cycle) = record { node = node; cycle = cycle } ∷ []
sign_in (View slot number members) = []

-- by cycle, then node
abbrev pub is_sign_before : FailureSign → FailureSign → Bool
is_sign_before a b = nat_lt a.cycle b.cycle || (a.cycle == b.cycle && nat_lt a.node b.node)

-- the logs of the present incarnations of running nodes
abbrev pub running : List LogParts → List LogParts
running logs = filter (λ log. log.runs) logs

-- the signs that an entry of a running log tells of, each once, by ascending cycle and then node
abbrev pub signs_told : List LogParts → List FailureSign
signs_told logs = ascending is_sign_before (flat_map (λ log. flat_map sign_in log.entries) (running logs))

abbrev pub sign_record : RunState → FailureSign → SignRecord
sign_record s sign = record { node = sign.node; cycle = sign.cycle; carried = slots_of (fda_of sign) s.trace; waits = waiting_nodes (fda_of sign ∷ []) s }

-- ---- the account

-- of a run after which all slots ran and all is read
unfoldable pub account_of : ScenarioParts → RunState → AccountParts
account_of scenario s = record {
  params = scenario.params;
  messages = map (message_record scenario s) (messages_of scenario.sends);
  logs = logs_of scenario s;
  signs = map (sign_record s) (signs_told (logs_of scenario s));
}
