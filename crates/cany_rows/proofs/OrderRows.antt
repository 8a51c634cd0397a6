-- Worked rows of the one order of TOTCAN, and of acceptance by all nodes or by none.
use Rattle.std.specs.Prelude.{ℕ, zero, suc, ◌+◌, ◌≡◌, ◌<◌, ◌≤◌, ◌++◌, Bool, true, false, List, [], ◌∷◌, Option, Some, None, map, replicate, refl, codes, Ok, Err, Contains}
use Rattle.std.specs.List.{range_with_len}
use Rattle.std.proofs.Common.{ap, sym, ◌∙◌, arith, lit<, lit≤}
use Rattle.std.proofs.lemmas.Bool.{false≢true}
use Rattle.std.proofs.lemmas.List.{append-nil}
use Rattle.cany_base.specs.declared.message.MsgKey.{MsgKey}
use Rattle.cany_base.specs.declared.message.Service.TheVariants.{Tot}
use Rattle.cany_base.specs.declared.params.ParamName.TheVariants.{Bound}
use Rattle.cany_base.specs.declared.rule.Rule.{Rule}
use Rattle.cany_base.specs.declared.rule.Verdict.TheVariants.{Clean, Lost, Partial, Silent}
use Rattle.cany_base.specs.declared.step.Step.{Step}
use Rattle.cany_base.specs.Params.{first_fault}
use Rattle.cany_base.specs.Scenario.{ScenarioParts}
use Rattle.cany_model.specs.declared.breaks.Break.{Break}
use Rattle.cany_model.specs.declared.breaks.BreakKind.TheVariants as kind
use Rattle.cany_model.specs.Runs.Run.{run}
use Rattle.cany_model.specs.Bus.State.{RunState, node_at}
use Rattle.cany_model.specs.Promises.Acceptance.{HasReadClosing, IsAcceptedByAllOrNone, WasCarriedClean, accepted_in_time, history_to}
use Rattle.cany_model.specs.Promises.Hypothesis.{IsWithin, first_break}
use Rattle.cany_model.specs.Promises.Order.{Content, FollowsOrder, HasOneOrder, content_of, is_accepted_by_some, order, order_by, tot_deliveries, has_accepted}
use Rattle.cany_model.specs.Promises.Entries.{HasDelivered}
use Rattle.cany_model.specs.Promises.FirstSlots.{first_carried}
use Rattle.cany_model.specs.Promises.Settled.{is_settled}
use Rattle.cany_model.specs.Rules.Log.{log}
use Rattle.cany_model.specs.Rules.Messages.{Message, message_key, messages_of}
use Rattle.cany_model.specs.Rules.Totcan.{is_accepted, tot_of_key}
use Rattle.cany_model.proofs.Promises.BreakFacts.{first_break_exact}
use Rattle.cany_rows.proofs.RowWords.{Followed-all, carries, delivers_tot, first_tot, follow, lag_1, one_tot, report, row, scenario, send, send_rel, send_tot, slot_rule, set, steps, three, run_of}

-- ---- what a row is written with

-- a message of a node, as it is delivered
unfoldable pub content : ℕ → ℕ → List ℕ → Content
content origin seq payload = record { msg = record { origin = origin; seq = seq }; payload = payload }

unfoldable pub key : ℕ → ℕ → MsgKey
key origin seq = record { origin = origin; seq = seq }

pub record OrderReport : Type 0 where
  -- the order of all slots
  pub order : List Content
  -- for each node that of the slots in which it takes part, and what it has delivered by TOTCAN
  pub nodes : List (List Content × List Content)
  pub settled : List Bool
  pub broken : Option Break

abbrev node_order : ScenarioParts → RunState → ℕ → List Content × List Content
node_order sc s i = (order sc s (node_at s.nodes i).present.from, tot_deliveries (log sc s i))

unfoldable pub order_report : ScenarioParts → RunState → OrderReport
unfolding report order_by
order_report sc s = record {
  order = order sc s 0;
  nodes = map (node_order sc s) (range_with_len 0 sc.params.nodes);
  settled = map (is_settled sc s) (messages_of sc.sends);
  broken = first_break sc.params s.trace;
}

unfoldable pub order_row : Unit {0}
unfolding row lag_1 content key order_report
order_row = tt

-- ---- a stopped node, and a late one

-- The run of row `totcan_accept_under_lag`: the sender stops after node 3 alone took the frame that
-- accepts the message, and node 3 reads one slot behind the others.

unfoldable pub late_reader : ScenarioParts
late_reader =
    scenario (record (lag_1 140 1) { nodes = 4; bound = 122; cycle = 246; life = 140; silence = 264 }) one_tot (slot_rule 2 (Partial (set 6)) 1 ∷ [])

abbrev its_message : Content
its_message = content 0 0 (1 ∷ [])

-- Nobody else has read that frame. Node 0 has delivered the message, but is stopped: what it
-- accepted does not count.
accepted_by_a_stopped_node : order_report late_reader (run late_reader (steps (codes ".012.0123.12"))) ≡ record {
  order = [];
  nodes = ([], its_message ∷ []) ∷ ([], []) ∷ ([], []) ∷ ([], []) ∷ [];
  settled = false ∷ [];
  broken = None;
}
unfolding order_row late_reader
accepted_by_a_stopped_node = refl

-- Node 3 has read it, and will send it again: the order has the message, and the others are to
-- deliver it yet.
accepted_by_one_node : order_report late_reader (run late_reader (steps (codes ".012.0123.123.123"))) ≡ record {
  order = its_message ∷ [];
  nodes = (its_message ∷ [], its_message ∷ []) ∷ (its_message ∷ [], []) ∷ (its_message ∷ [], []) ∷ (its_message ∷ [], its_message ∷ []) ∷ [];
  settled = false ∷ [];
  broken = None;
}
unfolding order_row late_reader
accepted_by_one_node = refl

accepted_by_all : order_report late_reader (run late_reader (steps (codes ".012.0123.123.123.12"))) ≡ record {
  order = its_message ∷ [];
  nodes = replicate 4 (its_message ∷ [], its_message ∷ []);
  settled = false ∷ [];
  broken = None;
}
unfolding order_row late_reader
accepted_by_all = refl

-- ---- the order is that of the slots that carried the data frames Clean

-- The first message of the text is carried last: the other origin wins arbitration. What goes by
-- other protocols has no place in the order.
order_of_two_origins :
    (let first = content 0 0 (11 ∷ []) in
    let second = content 1 0 (10 ∷ []) in
    let s = scenario (three 12 1 2) (send_tot 0 1 (10 ∷ []) ∷ send_tot 0 0 (11 ∷ []) ∷ send_rel 0 1 (12 ∷ []) ∷ send 0 2 (13 ∷ []) ∷ []) [] in
    order_report s (run_of s) ≡ record {
      order = first ∷ second ∷ [];
      nodes = replicate 3 (first ∷ second ∷ [], first ∷ second ∷ []);
      settled = false ∷ false ∷ true ∷ true ∷ [];
      broken = None;
    })
unfolding order_row
order_of_two_origins = refl

-- The data frame of node 1 is carried Partial in slot 1 and Clean in slot 5, that of node 0 in slot
-- 2.
late_copy_moves_the_place :
    (let first = content 0 0 (11 ∷ []) in
    let second = content 1 0 (10 ∷ []) in
    let s = scenario (three 10 1 2) (send_tot 0 1 (10 ∷ []) ∷ send_tot 1 0 (11 ∷ []) ∷ []) (slot_rule 1 (Partial (set 4)) 0 ∷ []) in
    order_report s (run_of s) ≡ record {
      order = first ∷ second ∷ [];
      nodes = replicate 3 (first ∷ second ∷ [], first ∷ second ∷ []);
      settled = false ∷ false ∷ [];
      broken = None;
    })
unfolding order_row
late_copy_moves_the_place = refl

-- ---- acceptance

-- of a message: whether a running node has accepted it; for each node whether it has by now, and
-- whether it had by the slot that comes as many slots after slot c as the bound has
pub record AcceptanceReport : Type 0 where
  pub by_some : Bool
  pub by_now : List Bool
  pub in_time : List Bool

unfoldable pub acceptance_report : ScenarioParts → MsgKey → ℕ → RunState → AcceptanceReport
unfolding report
acceptance_report sc message c s = record {
  by_some = is_accepted_by_some sc s message;
  by_now = map (has_accepted sc s message) (range_with_len 0 sc.params.nodes);
  in_time = map (accepted_in_time sc s message c) (range_with_len 0 sc.params.nodes);
}

unfoldable acceptance_row : Unit {0}
unfolding order_row acceptance_report late_reader
acceptance_row = tt

accepted_under_lag :
    map (λ journal. acceptance_report late_reader (key 0 0) 1 (run late_reader (steps journal)))
    (codes ".012.0123.12" ∷ codes ".012.0123.123" ∷ codes ".012.0123.123.123" ∷ codes ".012.0123.123.123.12" ∷ [])
    ≡ record { by_some = false; by_now = true ∷ false ∷ false ∷ false ∷ []; in_time = true ∷ false ∷ false ∷ false ∷ [] }
    ∷ record { by_some = false; by_now = true ∷ false ∷ false ∷ false ∷ []; in_time = true ∷ false ∷ false ∷ false ∷ [] }
    ∷ record { by_some = true; by_now = true ∷ false ∷ false ∷ true ∷ []; in_time = true ∷ false ∷ false ∷ true ∷ [] }
    ∷ record { by_some = true; by_now = true ∷ true ∷ true ∷ true ∷ []; in_time = true ∷ true ∷ true ∷ true ∷ [] } ∷ []
unfolding acceptance_row
accepted_under_lag = refl

-- Two nodes, whose parameters meet the formulas. Node 1 rejects the first frame that accepts the
-- message of slot 1.
unfoldable two_nodes : ℕ → ScenarioParts
two_nodes slots =
    scenario (record (three slots 1 1) { nodes = 2; bound = 18; cycle = 36; life = 18; silence = 37 }) one_tot (slot_rule 2 (Partial (set 2)) 0 ∷ [])

accepted_in_time_by_both :
    (let s = two_nodes 22 in acceptance_report s (key 0 0) 1 (run_of s))
    ≡ record { by_some = true; by_now = true ∷ true ∷ []; in_time = true ∷ true ∷ [] }
unfolding acceptance_row two_nodes
accepted_in_time_by_both = refl

the_formulas_are_met : first_fault (two_nodes 22).params ≡ Ok tt
unfolding acceptance_row two_nodes
the_formulas_are_met = refl

-- The frame that accepts the message is Lost from slot 2 on. A message closes 3 slots after its
-- place here, so that this one closes in slot 4.
unfoldable accept_is_lost : List Rule → ScenarioParts
accept_is_lost rules = scenario (record (three 8 1 3) { bound = 3 }) one_tot rules

-- In slot 4 it comes in time, and in slot 5 too late: then the origin alone has accepted the
-- message, though the run is within the hypothesis.
in_the_last_slot_and_after_it :
    map (λ rules. (let s = accept_is_lost rules in acceptance_report s (key 0 0) 1 (run_of s)))
    ((slot_rule 2 Lost 0 ∷ slot_rule 3 Lost 0 ∷ []) ∷ (slot_rule 2 Lost 0 ∷ slot_rule 3 Lost 0 ∷ slot_rule 4 Lost 0 ∷ []) ∷ [])
    ≡ record { by_some = true; by_now = true ∷ true ∷ true ∷ []; in_time = true ∷ true ∷ true ∷ [] }
    ∷ record { by_some = true; by_now = true ∷ false ∷ false ∷ []; in_time = true ∷ false ∷ false ∷ [] } ∷ []
unfolding acceptance_row accept_is_lost
in_the_last_slot_and_after_it = refl

both_are_within :
    map (λ rules. (let s = accept_is_lost rules in order_report s (run_of s)).broken)
    ((slot_rule 2 Lost 0 ∷ slot_rule 3 Lost 0 ∷ []) ∷ (slot_rule 2 Lost 0 ∷ slot_rule 3 Lost 0 ∷ slot_rule 4 Lost 0 ∷ []) ∷ [])
    ≡ None ∷ None ∷ []
unfolding acceptance_row accept_is_lost
both_are_within = refl

-- where it comes in slot 4, what the nodes had accepted by slots 4, 3, 1 and 0
accepted_by_an_earlier_slot :
    (let sc = accept_is_lost (slot_rule 2 Lost 0 ∷ slot_rule 3 Lost 0 ∷ []) in
    let s = run_of sc in
    map (λ slot. map (λ i. is_accepted sc.params.bound i (key 0 0) (history_to slot i s)) (0 ∷ 1 ∷ 2 ∷ [])) (4 ∷ 3 ∷ 1 ∷ 0 ∷ [])
    ≡ (true ∷ true ∷ true ∷ []) ∷ (true ∷ false ∷ false ∷ []) ∷ (true ∷ false ∷ false ∷ []) ∷ (false ∷ false ∷ false ∷ []) ∷ [])
unfolding acceptance_row accept_is_lost
accepted_by_an_earlier_slot = refl

-- The sender of a frame that was carried Clean stops before it accepts its message: the others have
-- it, and none accepts it.
unfoldable sender_stops_after_clean : ScenarioParts
sender_stops_after_clean = scenario (three 37 1 0) one_tot (slot_rule 1 Clean 1 ∷ [])

accepted_by_none :
    (let s = sender_stops_after_clean in acceptance_report s (key 0 0) 1 (run_of s))
    ≡ record { by_some = false; by_now = false ∷ false ∷ false ∷ []; in_time = false ∷ false ∷ false ∷ [] }
unfolding acceptance_row sender_stops_after_clean
accepted_by_none = refl

-- so it has no place in the order, although its data frame was carried Clean
unaccepted_is_dropped :
    (let s = sender_stops_after_clean in order_report s (run_of s))
    ≡ record { order = []; nodes = ([], []) ∷ ([], []) ∷ ([], []) ∷ []; settled = true ∷ []; broken = None }
unfolding acceptance_row sender_stops_after_clean
unaccepted_is_dropped = refl

-- that of row `totcan_unaccepted_is_dropped`, whose data frame is carried Partial alone
partial_is_dropped :
    (let s = scenario (three 38 1 2) one_tot (slot_rule 1 (Partial (set 4)) 1 ∷ []) in
    order_report s (run_of s)
    ≡ record { order = []; nodes = ([], []) ∷ ([], []) ∷ ([], []) ∷ []; settled = true ∷ []; broken = None })
unfolding acceptance_row
partial_is_dropped = refl

-- ---- restarts

-- Node 1 of the two stops in slot 4, starts again at its end, and takes part from slot 23 on. A
-- second message is sent in slot 24.
unfoldable node_1_starts_again : ℕ → ScenarioParts
node_1_starts_again slots =
    record (two_nodes slots) {
      sends = send_tot 0 0 (1 ∷ []) ∷ send_tot 23 0 (2 ∷ []) ∷ [];
      rules = slot_rule 4 Clean 2 ∷ [];
      restarts = record { slot = 4; node = 1 } ∷ [];
    }

abbrev second_message : Content
second_message = content 0 1 (2 ∷ [])

-- the order of the slots in which it takes part is empty, while that of the run has the message,
-- and the other node follows this
restarted_after_the_message :
    (let s = node_1_starts_again 10 in order_report s (run_of s)) ≡ record {
      order = its_message ∷ [];
      nodes = (its_message ∷ [], its_message ∷ []) ∷ ([], []) ∷ [];
      settled = false ∷ false ∷ [];
      broken = None;
    }
unfolding acceptance_row two_nodes node_1_starts_again
restarted_after_the_message = refl

-- it has the second message: a prefix of the order of its slots, and not of the whole
restarted_follows_the_order_of_its_slots :
    (let s = node_1_starts_again 27 in order_report s (run_of s)) ≡ record {
      order = its_message ∷ second_message ∷ [];
      nodes = (its_message ∷ second_message ∷ [], its_message ∷ second_message ∷ []) ∷ (second_message ∷ [], second_message ∷ []) ∷ [];
      settled = true ∷ false ∷ [];
      broken = None;
    }
unfolding acceptance_row two_nodes node_1_starts_again
restarted_follows_the_order_of_its_slots = refl

-- Node 2 starts again in slot 0, and takes part from slot 3 on: a message closes 2 slots after its
-- place here.
unfoldable from_3 : List Rule → ScenarioParts
from_3 rules =
    record (scenario (record (three 8 1 2) { bound = 2 }) (send_tot 1 0 (1 ∷ []) ∷ []) (slot_rule 0 Clean 4 ∷ rules)) {
      restarts = record { slot = 0; node = 2 } ∷ [];
    }

-- The data frame is carried Partial in slot 2 and Clean in slot 3: its place in the order is slot
-- 3, and the node delivers it.
clean_since_it_takes_part :
    (let s = from_3 (slot_rule 2 (Partial (set 2)) 0 ∷ []) in order_report s (run_of s)) ≡ record {
      order = its_message ∷ [];
      nodes = replicate 3 (its_message ∷ [], its_message ∷ []);
      settled = true ∷ [];
      broken = None;
    }
unfolding acceptance_row from_3
clean_since_it_takes_part = refl

-- It is carried Clean in slot 2, and accepted in slot 3: the node hears this, but has no place of
-- the message.
clean_before_it_takes_part :
    (let s = from_3 [] in order_report s (run_of s)) ≡ record {
      order = its_message ∷ [];
      nodes = (its_message ∷ [], its_message ∷ []) ∷ (its_message ∷ [], its_message ∷ []) ∷ ([], []) ∷ [];
      settled = true ∷ [];
      broken = None;
    }
unfolding acceptance_row from_3
clean_before_it_takes_part = refl

-- in the first of the two the data frame was first carried before the node takes part, so that the
-- order says more of it than agreement
first_carried_in_slot_2 :
    map (λ rules. (let s = from_3 rules in first_carried (tot_of_key (key 0 0)) (run_of s).trace))
    ((slot_rule 2 (Partial (set 2)) 0 ∷ []) ∷ [] ∷ [])
    ≡ Some 2 ∷ Some 2 ∷ []
unfolding acceptance_row from_3 first_carried
first_carried_in_slot_2 = refl

not_accepted_by_the_restarted :
    (let s = from_3 [] in acceptance_report s (key 0 0) 2 (run_of s))
    ≡ record { by_some = true; by_now = true ∷ true ∷ false ∷ []; in_time = true ∷ true ∷ false ∷ [] }
unfolding acceptance_row from_3
not_accepted_by_the_restarted = refl

-- ---- that the premises are needed

-- Outside the hypothesis: the sender of the first message is content although node 2 rejects its
-- frame. Node 2 delivers the second alone.
unfoldable pub silent_to_node_2 : ScenarioParts
silent_to_node_2 = scenario (three 8 1 2) (send_tot 0 0 (1 ∷ []) ∷ send_tot 0 1 (2 ∷ []) ∷ []) (slot_rule 1 (Silent (set 4)) 0 ∷ [])

abbrev of_node_1 : Content
of_node_1 = content 1 0 (2 ∷ [])

silent_omission_breaks_the_order :
    (let s = silent_to_node_2 in order_report s (run_of s)) ≡ record {
      order = of_node_1 ∷ [];
      nodes = (of_node_1 ∷ [], its_message ∷ of_node_1 ∷ []) ∷ (of_node_1 ∷ [], its_message ∷ of_node_1 ∷ []) ∷ (of_node_1 ∷ [], of_node_1 ∷ []) ∷ [];
      settled = false ∷ false ∷ [];
      broken = Some (record { kind = kind.Silent; slot = 1 });
    }
unfolding acceptance_row silent_to_node_2
silent_omission_breaks_the_order = refl

-- The frame that accepts the first message is carried once, to node 1 alone, and its sender stops.
unfoldable accept_to_node_1 : ℕ → ScenarioParts
accept_to_node_1 omit =
    scenario (three 39 omit 2) (send_tot 0 0 (1 ∷ []) ∷ send_tot 5 1 (2 ∷ []) ∷ []) (slot_rule 2 (Partial (set 4)) 1 ∷ [])

-- Where no omission is allowed, node 1 does not send it again. So node 2 drops the first message,
-- and delivers the second alone.
one_omission_too_many :
    (let s = accept_to_node_1 0 in order_report s (run_of s)) ≡ record {
      order = its_message ∷ of_node_1 ∷ [];
      nodes = (its_message ∷ of_node_1 ∷ [], its_message ∷ []) ∷ (its_message ∷ of_node_1 ∷ [], its_message ∷ of_node_1 ∷ [])
          ∷ (its_message ∷ of_node_1 ∷ [], of_node_1 ∷ []) ∷ [];
      settled = true ∷ false ∷ [];
      broken = Some (record { kind = kind.Omit; slot = 2 });
    }
unfolding acceptance_row accept_to_node_1
one_omission_too_many = refl

-- where one is, it does
one_omission_that_is_allowed :
    (let s = accept_to_node_1 1 in order_report s (run_of s)) ≡ record {
      order = its_message ∷ of_node_1 ∷ [];
      nodes = (its_message ∷ of_node_1 ∷ [], its_message ∷ []) ∷ (its_message ∷ of_node_1 ∷ [], its_message ∷ of_node_1 ∷ [])
          ∷ (its_message ∷ of_node_1 ∷ [], its_message ∷ of_node_1 ∷ []) ∷ [];
      settled = true ∷ false ∷ [];
      broken = None;
    }
unfolding acceptance_row accept_to_node_1
one_omission_that_is_allowed = refl

-- Within the hypothesis, but a message closes 3 slots after its place, where the formulas want 73.
-- The frame that accepts the message of node 1 waits until this closes, since the frame that
-- accepts the other message wins.
unfoldable pub closes_too_early : List Rule → ScenarioParts
closes_too_early rules =
    scenario (record (lag_1 5 1) { errors = 1; bound = 3 }) (send_tot 0 1 (1 ∷ []) ∷ send_tot 1 0 (2 ∷ []) ∷ []) rules

abbrev early : Content
early = content 1 0 (1 ∷ [])

abbrev late : Content
late = content 0 0 (2 ∷ [])

-- no frame is rejected, and node 1 reads one slot late
unfoldable pub starved : ScenarioParts
starved = closes_too_early []

unfoldable pub starved_journal : List Step
starved_journal = steps (codes ".012.02.012.012.0112")

-- node 2 alone rejects the frame that accepts the message of node 1, and node 0 reads late too
unfoldable rejected : ScenarioParts
rejected = closes_too_early (slot_rule 3 (Partial (set 4)) 0 ∷ [])

unfoldable rejected_journal : List Step
rejected_journal = steps (codes ".012.02.12.012.00112")

unfoldable pub early_row : Unit {0}
unfolding acceptance_row closes_too_early starved starved_journal rejected rejected_journal
early_row = tt

the_bound_is_too_small : first_fault starved.params ≡ Err (record { which = Bound; needed = 73 })
unfolding early_row
the_bound_is_too_small = refl

bound_too_small_breaks_the_order :
    order_report starved (run starved starved_journal) ≡ record {
      order = early ∷ late ∷ [];
      nodes = (early ∷ late ∷ [], late ∷ []) ∷ (early ∷ late ∷ [], early ∷ late ∷ []) ∷ (early ∷ late ∷ [], late ∷ []) ∷ [];
      settled = true ∷ false ∷ [];
      broken = None;
    }
unfolding early_row
bound_too_small_breaks_the_order = refl

bound_too_small_breaks_acceptance :
    (acceptance_report starved (key 1 0) 1 (run starved starved_journal) ∷ acceptance_report rejected (key 1 0) 1 (run rejected rejected_journal) ∷ [])
    ≡ record { by_some = true; by_now = false ∷ true ∷ false ∷ []; in_time = false ∷ true ∷ false ∷ [] }
    ∷ record { by_some = true; by_now = true ∷ true ∷ false ∷ []; in_time = true ∷ true ∷ false ∷ [] } ∷ []
unfolding early_row
bound_too_small_breaks_acceptance = refl

rejected_by_one_too :
    order_report rejected (run rejected rejected_journal) ≡ record {
      order = early ∷ late ∷ [];
      nodes = (early ∷ late ∷ [], early ∷ late ∷ []) ∷ (early ∷ late ∷ [], early ∷ late ∷ []) ∷ (early ∷ late ∷ [], late ∷ []) ∷ [];
      settled = true ∷ false ∷ [];
      broken = None;
    }
unfolding early_row
rejected_by_one_too = refl

they_are_whole_runs :
    (follow starved starved_journal ∷ follow rejected rejected_journal ∷ []) ≡ Followed-all ∷ Followed-all ∷ []
unfolding early_row
they_are_whole_runs = refl

-- ---- what this says of the promises

-- the origin of the first message of an order, counted from 1
abbrev pub first_origin : List Content → ℕ
first_origin [] = 0
first_origin (c ∷ rest) = c.msg.origin + 1

pub two_is_not_one : ◌≡◌ {A = ℕ} 2 1 → ⊥
two_is_not_one same = omega (arith, same)

later_than_1 : 23 ≤ 1 → ⊥
later_than_1 below = omega (arith, below)

-- node 2 begins with the other message
bound_too_small_leaves_no_order : HasOneOrder starved (run starved starved_journal) → ⊥
unfolding early_row
bound_too_small_leaves_no_order follows = two_is_not_one (ap first_origin (follows 2 (record { there = lit< tt; running = refl })).prefix)

-- nodes 0 and 1 have both read the slot in which the message of node 1 closes
bound_too_small_leaves_no_acceptance : IsAcceptedByAllOrNone starved (run starved starved_journal) (key 1 0) 1 → ⊥
unfolding early_row
bound_too_small_leaves_no_acceptance accepted =
    false≢true
    (accepted.alike 0 1
    (record { correct = record { correct = record { there = lit< tt; running = refl }; took_part = lit≤ tt }; read = lit< tt })
    (record { correct = record { correct = record { there = lit< tt; running = refl }; took_part = lit≤ tt }; read = lit< tt }))

-- ---- that the premises are met, and the promises kept

unfoldable two_run : ℕ → RunState
two_run slots = run_of (two_nodes slots)

unfoldable two_row : Unit {0}
unfolding acceptance_row two_nodes two_run
two_row = tt

-- both nodes have read slot 19, in which the message of slot 1 closes
premises_of_acceptance_are_met :
    IsWithin (two_nodes 20).params (two_run 20).trace × WasCarriedClean (two_run 20).trace (key 0 0) 1
    × HasReadClosing (two_nodes 20) (two_run 20) 1 0 × HasReadClosing (two_nodes 20) (two_run 20) 1 1
unfolding two_row
premises_of_acceptance_are_met = (
  (first_break_exact (two_nodes 20).params (two_run 20).trace).0 refl,
  record { note = carries 1 first_tot 1 2 Clean 0; stands = (18, lit< tt, refl); here = refl; frame = refl; clean = refl },
  record { correct = record { correct = record { there = lit< tt; running = refl }; took_part = lit≤ tt }; read = lit< tt },
  record { correct = record { correct = record { there = lit< tt; running = refl }; took_part = lit≤ tt }; read = lit< tt },
)

not_below_itself : (n : ℕ) → n < n → ⊥
not_below_itself n below = omega (arith, below)

-- where slot 18 is the last that they have read, they have not
not_met_one_slot_early : HasReadClosing (two_nodes 19) (two_run 19) 1 0 → ⊥
unfolding two_row
not_met_one_slot_early read = not_below_itself 19 read.read

nodes_are_two : {P : Type 0} (i : ℕ) → suc (suc i) < 2 → P
nodes_are_two i below = absurd (omega (arith, below))

in_time : (i : ℕ) → HasReadClosing (two_nodes 20) (two_run 20) 1 i → accepted_in_time (two_nodes 20) (two_run 20) (key 0 0) 1 i ≡ true
unfolding two_row
in_time zero read = refl
in_time (suc zero) read = refl
in_time (suc (suc i)) read = nodes_are_two i read.correct.correct.there

acceptance_is_kept : IsAcceptedByAllOrNone (two_nodes 20) (two_run 20) (key 0 0) 1
acceptance_is_kept = record {
  alike = λ i j read also. in_time i read ∙ sym (in_time j also);
  by_all = λ i correct accepted j read. in_time j read;
}

-- the run in which node 1 starts again, and follows the order of its slots
unfoldable restarted : ScenarioParts
restarted = node_1_starts_again 27

unfoldable restarted_run : RunState
restarted_run = run_of restarted

unfoldable restarted_row : Unit {0}
unfolding two_row node_1_starts_again restarted restarted_run
restarted_row = tt

-- an entry delivers a message that has its content
abbrev delivers_content : (m : Message) (c : Content) → m.service ≡ Tot → c ≡ content_of m
    → (message_key m ≡ c.msg) × (m.service ≡ Tot) × (m.payload ≡ c.payload)
delivers_content m c tot is = (sym (ap (λ (x : Content). x.msg) is), tot, sym (ap (λ (x : Content). x.payload) is))

-- the order of the slots in which node i takes part, and what it has delivered
abbrev its_order : ℕ → List Content
its_order i = order restarted restarted_run (node_at restarted_run.nodes i).present.from

abbrev its_deliveries : ℕ → List Content
its_deliveries i = tot_deliveries (log restarted restarted_run i)

order_of_node_0 : its_order 0 ≡ its_message ∷ second_message ∷ []
unfolding restarted_row
order_of_node_0 = refl

order_of_node_1 : its_order 1 ≡ second_message ∷ []
unfolding restarted_row
order_of_node_1 = refl

deliveries_of_node_0 : its_deliveries 0 ≡ its_message ∷ second_message ∷ []
unfolding restarted_row
deliveries_of_node_0 = refl

deliveries_of_node_1 : its_deliveries 1 ≡ second_message ∷ []
unfolding restarted_row
deliveries_of_node_1 = refl

delivered_by_node_0 : (m : Message) → m.service ≡ Tot → Contains (its_order 0) (content_of m) → HasDelivered restarted restarted_run 0 m
unfolding restarted_row
delivered_by_node_0 m tot (zero, below, is) =
    record { entry = delivers_tot 1 0 0 (1 ∷ []); stands = (0, lit< tt, refl); delivers = delivers_content m its_message tot is }
delivered_by_node_0 m tot (suc zero, below, is) =
    record { entry = delivers_tot 24 0 1 (2 ∷ []); stands = (1, lit< tt, refl); delivers = delivers_content m second_message tot is }
delivered_by_node_0 m tot (suc (suc k), below, is) = nodes_are_two k below

no_other : {P : Type 0} (k : ℕ) → suc k < 1 → P
no_other k below = absurd (omega (arith, below))

delivered_by_node_1 : (m : Message) → m.service ≡ Tot → Contains (its_order 1) (content_of m) → HasDelivered restarted restarted_run 1 m
unfolding restarted_row
delivered_by_node_1 m tot (zero, below, is) =
    record { entry = delivers_tot 25 0 1 (2 ∷ []); stands = (0, lit< tt, refl); delivers = delivers_content m second_message tot is }
delivered_by_node_1 m tot (suc k, below, is) = no_other k below

restarted_are_two : restarted.params.nodes ≡ 2
unfolding restarted_row
restarted_are_two = refl

-- where the two lists are one, nothing is left to deliver
follows_whole : (i : ℕ) (whole : List Content) → its_order i ≡ whole → its_deliveries i ≡ whole
    → ((m : Message) → m.service ≡ Tot → Contains (its_order i) (content_of m) → HasDelivered restarted restarted_run i m)
    → FollowsOrder restarted restarted_run i
follows_whole i whole order_is deliveries_are delivered = record {
  rest = [];
  prefix = order_is ∙ sym (append-nil whole) ∙ sym (ap (λ (x : List Content). x ++ []) deliveries_are);
  settled = λ m stands tot settled among. delivered m tot among;
}

one_order_is_kept : HasOneOrder restarted restarted_run
one_order_is_kept zero correct = follows_whole 0 _ order_of_node_0 deliveries_of_node_0 delivered_by_node_0
one_order_is_kept (suc zero) correct = follows_whole 1 _ order_of_node_1 deliveries_of_node_1 delivered_by_node_1
one_order_is_kept (suc (suc i)) correct = absurd (omega (arith, correct.there, restarted_are_two))

-- a node that started again since has read that slot too, but takes no part in slot 1
restarted_took_no_part : HasReadClosing restarted restarted_run 1 1 → ⊥
unfolding restarted_row
restarted_took_no_part read = later_than_1 read.correct.took_part
