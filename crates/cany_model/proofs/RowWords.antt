-- What worked rows are written with, here and in the crates above: scenarios, and the words that
-- compute a run.
use Rattle.std.specs.Prelude.{ℕ, List, [], None, zero, suc}
use Rattle.cany_base.specs.Nodes.{Nodes, has, bits_where, those_where}
use Rattle.cany_base.specs.Params.{Parameters}
use Rattle.cany_base.specs.Scenario.{ScenarioParts}
use Rattle.cany_base.specs.declared.class.Class.{Class}
use Rattle.cany_base.specs.declared.message.NodeAsk.{NodeAsk}
use Rattle.cany_base.specs.declared.message.SendAsk.{SendAsk}
use Rattle.cany_base.specs.declared.message.Service.{Service}
use Rattle.cany_base.specs.declared.rule.Place.TheVariants.{At, FrameNth}
use Rattle.cany_base.specs.declared.rule.Rule.{Rule}
use Rattle.cany_base.specs.declared.rule.Verdict.{Verdict}
use Rattle.cany_model.specs.Bus.Frames.{same_class, same_identity, same_frame, is_before}
use Rattle.cany_model.specs.Bus.History.{is_hidden, as_seen, history, copies, has_own}
use Rattle.cany_model.specs.Bus.Restart.{names_restart, after_entries, nodes_after_entries, after_restarts}
use Rattle.cany_model.specs.Bus.Slot.{least_frame, winner, script, share_of, after_share, slot_note_of, node_after, nodes_after, after_slot}
use Rattle.cany_model.specs.Bus.State.{node_at, RunState}
use Rattle.cany_model.specs.Bus.Waiting.{put_in_order}
use Rattle.cany_model.specs.Promises.Hypothesis.{break_at, first_break, count_together}
use Rattle.cany_model.specs.Promises.Settled.{is_settled}
use Rattle.cany_model.specs.Rules.Backlog.{backlog, asked, backlog_effects}
use Rattle.cany_model.specs.Rules.Delivery.{delivery_effects}
use Rattle.cany_model.specs.Rules.Eager.{eager_effects}
use Rattle.cany_model.specs.Rules.Edcan.{edcan_at, edcan_effects}
use Rattle.cany_model.specs.Rules.Effect.{waiting_after, entered}
use Rattle.cany_model.specs.Rules.Knowledge.{shows_life, after_life, with_signs, told, found}
use Rattle.cany_model.specs.Rules.KnowledgeOf.{after_notice, knowledge_of}
use Rattle.cany_model.specs.Rules.Life.{failure_sign_effects, fda_copy_effects, failure_effects, failures_at, life_signs_sent, life_effects}
use Rattle.cany_model.specs.Rules.Log.{log_from}
use Rattle.cany_model.specs.Rules.Membership.{exchange_effects, install_effects, ask_effects}
use Rattle.cany_model.specs.Rules.Messages.{messages_after, is_service}
use Rattle.cany_model.specs.Rules.Relcan.{fell_back, relcan_at, timer_effects, relcan_effects}
use Rattle.cany_model.specs.Rules.Sends.{send_effects}
use Rattle.cany_model.specs.Rules.Totcan.{tot_in, is_recent, after_place, is_heard, is_accepted, accept_effects, closing_effects, is_clear, done_from, delivered as delivered_tot, delivered_now, totcan_effects}
use Rattle.cany_model.specs.Rules.Turn.{has_asked, turn_effects}
use Rattle.cany_model.specs.Rules.Vectors.{brought, met, is_just, is_covered, is_new, vector_effects, end_effects, start_effects, exchange_at}
use Rattle.cany_model.specs.Rules.Views.{after_ask, with_ended, view_effects}
use Rattle.cany_model.specs.Runs.RoundRobin.{round, rounds}
use Rattle.cany_model.specs.Runs.Run.{first_lagging, reply, is_legal_from, after_turn, proceed, after_step, run_from}
use Rattle.std.proofs.Common.{◌≡◌, sym, ◌∙◌}
use Rattle.cany_model.proofs.Runs.Journals.{run_none, run_then}

-- ---- scenarios

abbrev pub set : ℕ → Nodes
set bits = record { bits = bits }

unfoldable pub send : Service → ℕ → ℕ → List ℕ → SendAsk
send by slot node payload = record { slot = slot; node = node; service = by; payload = payload }

unfoldable pub slot_rule : ℕ → Verdict → ℕ → Rule
slot_rule slot verdict stop = record { place = At slot; verdict = verdict; stop = set stop }

unfoldable pub frame_rule : Class → ℕ → ℕ → ℕ → Verdict → ℕ → Rule
frame_rule class number node nth verdict stop = record { place = FrameNth class number node nth; verdict = verdict; stop = set stop }

unfoldable pub ask : ℕ → ℕ → NodeAsk
ask slot node = record { slot = slot; node = node }

-- these nodes are members, and of the entries of a site there are those of restarts alone
unfoldable pub scenario_of : Parameters → ℕ → List SendAsk → List Rule → List NodeAsk → ScenarioParts
scenario_of p members sends rules restarts = record {
  params = p;
  members = set members;
  sends = sends;
  rules = rules;
  joins = [];
  leaves = [];
  restarts = restarts;
  from = 0;
  inc = 0;
  journal = None;
}

-- ---- runs

-- opens all that computes a run, its hypothesis and what is settled
unfoldable pub run_words : Unit {0}
unfolding has bits_where those_where same_class same_identity same_frame is_before messages_after node_at put_in_order least_frame winner script share_of after_share slot_note_of node_after nodes_after after_slot names_restart after_entries nodes_after_entries after_restarts is_hidden as_seen history copies has_own waiting_after entered eager_effects delivery_effects edcan_at edcan_effects fell_back relcan_at timer_effects relcan_effects send_effects tot_in is_recent after_place is_heard is_accepted accept_effects closing_effects is_clear done_from delivered_tot delivered_now totcan_effects shows_life after_life with_signs told found after_notice knowledge_of failure_sign_effects fda_copy_effects failure_effects failures_at life_signs_sent life_effects brought met is_just is_covered is_new vector_effects end_effects start_effects exchange_at exchange_effects after_ask with_ended view_effects install_effects ask_effects backlog asked backlog_effects is_service turn_effects has_asked log_from first_lagging reply after_turn proceed after_step run_from round rounds break_at first_break count_together is_legal_from is_settled
run_words = tt

-- Where so many rounds lead. The round robin journal has the steps of the states to which its
-- rounds lead, so the run of it computes each of them twice.
unfoldable pub after_rounds : ScenarioParts → ℕ → RunState → RunState
after_rounds sc zero s = s
after_rounds sc (suc n) s = after_rounds sc n (run_from sc s (round sc s))

pub after_rounds_is : (sc : ScenarioParts) (n : ℕ) (s : RunState) → after_rounds sc n s ≡ run_from sc s (rounds sc n s)
unfolding after_rounds rounds
after_rounds_is sc zero s = sym (run_none sc s)
after_rounds_is sc (suc n) s =
    after_rounds_is sc n (run_from sc s (round sc s)) ∙ sym (run_then sc s (round sc s) (rounds sc n (run_from sc s (round sc s))))
