-- What a worked row of a verdict is written with, and what is found of a run.
use Rattle.std.specs.Prelude.{ℕ, zero, suc, Bool, false, List, [], Option, Some, None, map, replicate}
use Rattle.std.proofs.Common.{◌≡◌, ap, ◌∙◌, sym}
use Rattle.cany_base.specs.declared.message.MsgKey.{MsgKey}
use Rattle.cany_base.specs.declared.message.SendAsk.{SendAsk}
use Rattle.cany_base.specs.declared.rule.Rule.{Rule}
use Rattle.cany_base.specs.declared.step.Step.{Step}
use Rattle.cany_base.specs.Nodes.{Nodes, has}
use Rattle.cany_base.specs.Params.{default_parameters}
use Rattle.cany_base.specs.Scenario.{ScenarioParts}
use Rattle.cany_model.proofs.RowWords.{run_words, scenario_of}
use Rattle.cany_model.specs.declared.breaks.Break.{Break}
use Rattle.cany_model.specs.Bus.History.{ended_history}
use Rattle.cany_model.specs.Bus.State.{RunState, opening}
use Rattle.cany_model.specs.Promises.Hypothesis.{first_break}
use Rattle.cany_model.specs.Bus.Restart.{restarted_in}
use Rattle.cany_model.specs.Runs.RoundRobin.{round, round_robin, rounds}
use Rattle.cany_model.specs.Runs.Run.{run, run_from}
use Rattle.cany_model.proofs.Runs.Journals.{run_none, run_then}
use Rattle.cany_model.specs.Promises.FirstSlots.{first_carried}
use Rattle.cany_model.specs.Runs.Incarnations.{incarnation_of}
use Rattle.cany_world.specs.Settled.{nodes_ahead, waiting_nodes}
use Rattle.cany_check.specs.declared.account.record.MessageRecord.{MessageRecord}
use Rattle.cany_check.specs.declared.account.record.SignRecord.{SignRecord}
use Rattle.cany_check.specs.declared.account.record.FirstAndLast.{FirstAndLast}
use Rattle.cany_check.specs.declared.deciders.findings.Accusation.{Accusation}
use Rattle.cany_check.specs.declared.deciders.findings.Delivery.{Delivery}
use Rattle.cany_check.specs.declared.deciders.findings.EntryAt.{EntryAt}
use Rattle.cany_check.specs.declared.deciders.findings.Fate.{Fate}
use Rattle.cany_check.specs.declared.deciders.findings.Judgement.{Judgement}
use Rattle.cany_check.specs.declared.deciders.findings.Judgement.TheVariants.{Held}
use Rattle.cany_check.specs.declared.deciders.findings.Parting.{Parting}
use Rattle.cany_check.specs.declared.deciders.findings.Told.{Told}
use Rattle.cany_check.specs.declared.deciders.findings.ViewParting.{ViewParting}
use Rattle.cany_check.specs.declared.unused_entries.unused_entry.Unused.{Unused}
use Rattle.cany_check.specs.Accounts.Account.{AccountParts, account_of, first_where, last_carried}
use Rattle.cany_check.specs.Deciding.Accuracy.{accusations}
use Rattle.cany_check.specs.Deciding.Fates.{least_and_greatest, message_fate, message_told, sign_fate, sign_told}
use Rattle.cany_check.specs.InOrder.{ascending, put_once}
use Rattle.cany_check.specs.Deciding.Integrity.{first_wrong, first_wrong_of, wrong_entry}
use Rattle.cany_check.specs.Deciding.OneOrder.{by_from, difference, first_parting, parting, parting_from, put_by_from}
use Rattle.cany_check.specs.Idle.Unused.{attempt_slot, unused, with_places}
use Rattle.cany_check.specs.Deciding.Verdict.{judgement, parts, status}
use Rattle.cany_check.specs.Deciding.Views.{view_numbers, view_partings}
use Rattle.cany_check.specs.Accounts.Words.{nodes_of}
-- ---- scenarios

pub use Rattle.cany_model.proofs.RowWords.{set}
unfoldable pub use Rattle.cany_model.proofs.RowWords.{ask as asks, frame_rule, send, slot_rule}

-- three nodes, which are members, at lag 0, one omission and two errors, with everything else by
-- default
unfoldable pub three : ℕ → List SendAsk → List Rule → ScenarioParts
unfolding scenario_of
three slots sends rules = scenario_of (default_parameters 3 slots) 7 sends rules []

-- ---- what is found

-- a message and a sign of the account, with what is told of each
pub record MessageFound : Type 0 where
  pub sent : Option ℕ
  pub carried : Option FirstAndLast
  pub queued : Bool
  pub waits : Nodes
  pub ahead : Nodes
  pub told : Told

pub record SignFound : Type 0 where
  pub sign : SignRecord
  pub told : Told

pub record Found : Type 0 where
  pub broken : Option Break
  pub status : ℕ
  -- of integrity, of agreement by EDCAN, RELCAN and TOTCAN, of one order, views, signs and accuracy
  pub judgements : List Judgement
  pub wrong : Option EntryAt
  pub messages : List MessageFound
  pub parting : Option Parting
  pub numbers : List ℕ
  pub views : List ViewParting
  pub signs : List SignFound
  pub accusations : List Accusation
  pub unused : List Unused

abbrev message_found : AccountParts → MessageRecord → MessageFound
message_found a m = record { sent = m.sent; carried = m.carried; queued = m.queued; waits = m.waits; ahead = m.ahead; told = message_told a m }

-- of the state in which a run ended, and of its account
abbrev found_with : ScenarioParts → RunState → AccountParts → Found
found_with sc s a = record {
  broken = first_break sc.params s.trace;
  status = status a;
  judgements = map (judgement a) parts;
  wrong = wrong_entry a;
  messages = map (message_found a) a.messages;
  parting = parting a;
  numbers = view_numbers a;
  views = view_partings a;
  signs = map (λ sign. record { sign = sign; told = sign_told a sign }) a.signs;
  accusations = accusations a;
  unused = unused sc s;
}

-- what computes it is opened here, once for all rows
unfoldable pub found_in : ScenarioParts → RunState → Found
unfolding run_words restarted_in ended_history first_carried incarnation_of nodes_ahead waiting_nodes account_of first_where last_carried least_and_greatest message_fate sign_fate ascending put_once first_wrong first_wrong_of by_from difference first_parting parting_from put_by_from attempt_slot unused with_places judgement status nodes_of
found_in sc s = found_with sc s (account_of sc s)

-- of the run of a scenario by a journal
unfoldable pub found_by : ScenarioParts → List Step → Found
found_by sc journal = found_in sc (run sc journal)

-- After so many rounds. The round robin journal has the steps of the states to which its rounds
-- lead, so the run of it computes each of them twice.
unfoldable pub found_after : ScenarioParts → ℕ → RunState → Found
found_after sc zero s = found_in sc s
found_after sc (suc n) s = found_after sc n (run_from sc s (round sc s))

found_after_is : (sc : ScenarioParts) (n : ℕ) (s : RunState) → found_after sc n s ≡ found_in sc (run_from sc s (rounds sc n s))
unfolding found_after rounds
found_after_is sc zero s = ap (found_in sc) (sym (run_none sc s))
found_after_is sc (suc n) s =
    let next : RunState = run_from sc s (round sc s) in
    found_after_is sc n next ∙ ap (found_in sc) (sym (run_then sc s (round sc s) (rounds sc n next)))

-- by the round robin journal
unfoldable pub found_of : ScenarioParts → Found
unfolding found_in found_after
found_of sc = found_after sc sc.params.slots (opening sc.params.nodes)

pub found_of_is : (sc : ScenarioParts) → found_of sc ≡ found_by sc (round_robin sc)
unfolding found_of found_by
found_of_is sc = found_after_is sc sc.params.slots (opening sc.params.nodes)

-- nothing was sent, and nothing happened
abbrev pub all_held : Found
all_held = record {
  broken = None;
  status = 0;
  judgements = replicate 8 Held;
  wrong = None;
  messages = [];
  parting = None;
  numbers = [];
  views = [];
  signs = [];
  accusations = [];
  unused = [];
}

abbrev pub slots : ℕ → ℕ → Option FirstAndLast
slots first last = Some (record { first = first; last = last })

abbrev pub tells : Fate → (has lacks had : ℕ) → Option FirstAndLast → Told
tells fate has lacks had slots = record { fate = fate; has = set has; lacks = set lacks; had = set had; slots = slots }

-- a message that is settled, and one that some nodes have ahead
abbrev pub settled : ℕ → Option FirstAndLast → Told → MessageFound
settled sent carried told = record { sent = Some sent; carried = carried; queued = false; waits = set 0; ahead = set 0; told = told }

abbrev pub never_sent : Told → MessageFound
never_sent told = record { sent = None; carried = None; queued = false; waits = set 0; ahead = set 0; told = told }

abbrev pub key : ℕ → ℕ → MsgKey
key origin seq = record { origin = origin; seq = seq }

abbrev pub delivered : ℕ → ℕ → ℕ → Delivery
delivered origin seq slot = record { msg = key origin seq; slot = slot }

unfoldable pub row : Unit {0}
unfolding found_in found_after found_of send slot_rule frame_rule asks three
row = tt
