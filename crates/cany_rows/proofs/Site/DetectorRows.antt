-- Worked rows of the failure detector, and of members that stop, stay or leave: runs in which what
-- is promised holds, and runs that lack a premise of it, and in which it does not. What a run comes
-- to is computed in rows of its own: what is promised for every node then follows without it.
use Rattle.std.specs.Prelude.{ℕ, ◌+◌, ◌*◌, ◌<◌, ◌≡◌, ◌≢◌, Bool, true, false, List, [], ◌∷◌, Option, Some, None, is_none, Err, All, Contains, refl}
use Rattle.std.specs.List.{AllByRecursion}
use Rattle.std.proofs.Common.{ap, arith, ◌∙◌, lit<, lit≤, subst, sym}
use Rattle.std.proofs.lemmas.Bool.{false≢true}
use Rattle.std.proofs.lemmas.List.Elements.{All-contains}
use Rattle.cany_base.specs.declared.log_entry.LogEntry.{LogEntry}
use Rattle.cany_base.specs.declared.log_entry.LogEntry.TheVariants.{Failed, View}
use Rattle.cany_base.specs.declared.message.NodeAsk.{NodeAsk}
use Rattle.cany_base.specs.declared.params.ParamName.TheVariants.{Silence}
use Rattle.cany_base.specs.declared.rule.Verdict.TheVariants.{Clean}
use Rattle.cany_base.specs.Nodes.{Nodes, has}
use Rattle.cany_base.specs.Params.{first_fault}
use Rattle.cany_base.specs.Scenario.{IsLegalScenario, ScenarioParts}
use Rattle.cany_base.proofs.NodesFacts.{AllBelow-bits}
use Rattle.cany_model.specs.Bus.History.{history}
use Rattle.cany_model.specs.Bus.State.{RunState, node_at, slots_run}
use Rattle.cany_model.specs.Runs.RoundRobin.{round_robin}
use Rattle.cany_model.specs.Runs.Run.{run}
use Rattle.cany_model.specs.Promises.Detector.{AsksNoLeave, HasNotFailed, IsRemoved, StandsAfter, StaysInViews, has_asked_leave, members_before}
use Rattle.cany_model.specs.declared.breaks.Break.{Break}
use Rattle.cany_model.specs.Promises.Hypothesis.{IsWithin, first_break}
use Rattle.cany_model.specs.Promises.Settled.{IsCorrect}
use Rattle.cany_model.specs.Rules.Log.{log}
use Rattle.cany_model.specs.Rules.KnowledgeOf.{knowledge_of}
use Rattle.cany_model.specs.Rules.Turn.{scenario_at}
use Rattle.cany_model.proofs.Promises.BreakFacts.{first_break_exact}
use Rattle.cany_rows.proofs.Site.DetectorWords.{OfView, detector_row, each_correct, of_views, run_of, stands_after, two, two_is_legal}
use Rattle.cany_rows.proofs.RowWords.{scenario, set, slot_rule, three}
use Rattle.cany_rows.proofs.Site.SiteWords.{asks_at, of_members}

-- ---- a member that stops

-- Node 1 stops in slot 1.
abbrev node_1_stops : ScenarioParts
node_1_stops = two 96 3 (slot_rule 1 Clean 2 ∷ []) [] []

abbrev stopped_run : RunState
stopped_run = run_of node_1_stops

stopped_is_legal : IsLegalScenario node_1_stops
unfolding detector_row
stopped_is_legal = two_is_legal 96 3 (slot_rule 1 Clean 2 ∷ []) [] [] (lit≤ tt) (lit≤ tt) (lit< tt) (record {
  rules = (record { place = lit< tt; verdict = tt; stop = AllBelow-bits 2 (set 2) (lit< tt) }, tt);
  one_rule = lit≤ tt;
  joins = tt;
  few_joins = lit≤ tt;
  leaves = tt;
  few_leaves = lit≤ tt;
})

-- Node 0 finds out in the first cycle, after it has started. So node 1 stands in the view of this
-- cycle, and not in that of the next.
abbrev stopped_entries : List LogEntry
stopped_entries = Failed 39 1 1 ∷ View 57 1 (set 3) ∷ View 95 2 (set 1) ∷ []

-- What is seen of the run, which is computed here once: where it leaves the hypothesis, how many
-- slots ran, when node 1 stopped, and of node 0 the log, the view after the turn of slot 1, who has
-- failed, and whether it has asked to leave.
record SeenOfTheStop : Type 0 where
  broken : Option Break
  slots : ℕ
  stopped : Option ℕ
  entries : List LogEntry
  members : Nodes
  failed : Nodes
  left : Bool

abbrev stop_seen_in : RunState → SeenOfTheStop
stop_seen_in s = record {
  broken = first_break node_1_stops.params s.trace;
  slots = slots_run s;
  stopped = (node_at s.nodes 1).stopped;
  entries = log node_1_stops s 0;
  members = members_before node_1_stops s (1 + 1) 0;
  failed = (knowledge_of (scenario_at node_1_stops s 0) 0 (history 0 s)).failed;
  left = has_asked_leave (scenario_at node_1_stops s 0) 0 (history 0 s);
}

stop_is_seen :
    stop_seen_in stopped_run
    ≡ record { broken = None; slots = 96; stopped = Some 1; entries = stopped_entries; members = set 3; failed = set 2; left = false }
unfolding detector_row has_asked_leave
stop_is_seen = refl

stopped_is_within : IsWithin node_1_stops.params stopped_run.trace
stopped_is_within = (first_break_exact node_1_stops.params stopped_run.trace).0 (ap (λ (seen : SeenOfTheStop). seen.broken) stop_is_seen)

it_stops : (node_at stopped_run.nodes 1).stopped ≡ Some 1
it_stops = ap (λ (seen : SeenOfTheStop). seen.stopped) stop_is_seen

it_runs_no_more : {P : Type 0} → IsCorrect node_1_stops stopped_run 1 → P
it_runs_no_more correct = absurd (false≢true (sym (ap (λ (stopped : Option ℕ). is_none stopped) it_stops) ∙ correct.running))

stopped_log : log node_1_stops stopped_run 0 ≡ stopped_entries
stopped_log = ap (λ (seen : SeenOfTheStop). seen.entries) stop_is_seen

both_are_in_it : (has (set 3) 0 ≡ true) × (has (set 3) 1 ≡ true)
unfolding detector_row
both_are_in_it = (refl, refl)

-- after the turn of slot 1 both are members
members_after_the_stop :
    (1 < slots_run stopped_run) × (has (members_before node_1_stops stopped_run (1 + 1) 0) 0 ≡ true)
    × (has (members_before node_1_stops stopped_run (1 + 1) 0) 1 ≡ true)
members_after_the_stop =
    let members : members_before node_1_stops stopped_run (1 + 1) 0 ≡ set 3 = ap (λ (seen : SeenOfTheStop). seen.members) stop_is_seen in (
      subst (λ slots. 1 < slots) (sym (ap (λ (seen : SeenOfTheStop). seen.slots) stop_is_seen)) (lit< tt),
      ap (λ (v : Nodes). has v 0) members ∙ both_are_in_it.0,
      ap (λ (v : Nodes). has v 1) members ∙ both_are_in_it.1,
    )

-- so the premise of a removal is met
it_stops_as_a_member : StandsAfter node_1_stops stopped_run 1 1
it_stops_as_a_member =
    stands_after node_1_stops stopped_run 1 1 refl members_after_the_stop.0 (λ correct. members_after_the_stop.2) it_runs_no_more

-- A view of a cycle that starts more than the silence of 39 slots after slot 1 has not node 1: the
-- first cycle starts too early, and the view of the second has it not.
abbrev HasNotNode1 : ℕ → Nodes → Type 0
HasNotNode1 number members = 1 + node_1_stops.params.silence < number * node_1_stops.params.cycle → has members 1 ≡ false

starts_too_early : {P : Type 0} → 40 < 38 → P
starts_too_early early = absurd (omega (arith, early))

views_after_the_stop : AllByRecursion (OfView HasNotNode1) stopped_entries
unfolding detector_row
views_after_the_stop = (tt, (starts_too_early, ((λ late. refl), tt)))

it_is_removed : IsRemoved node_1_stops stopped_run 1 1
it_is_removed =
    each_correct node_1_stops stopped_run
    (λ i. (slot number : ℕ) (members : Nodes) → Contains (log node_1_stops stopped_run i) (View slot number members)
    → HasNotNode1 number members) refl
    (λ correct. of_views HasNotNode1 (log node_1_stops stopped_run 0) stopped_entries stopped_log views_after_the_stop)
    it_runs_no_more

node_1_is_out_of_it : has (set 1) 1 ≡ false
unfolding detector_row
node_1_is_out_of_it = refl

-- and there is such a view
view_without_it :
    Contains (log node_1_stops stopped_run 0) (View 95 2 (set 1))
    × (1 + node_1_stops.params.silence < 2 * node_1_stops.params.cycle) × (has (set 1) 1 ≡ false)
view_without_it = (subst (λ entries. Contains entries (View 95 2 (set 1))) (sym stopped_log) (2, lit< tt, refl), lit< tt, node_1_is_out_of_it)

-- ---- a member that stays: node 0 of that run

abbrev HasNode0 : ℕ → Nodes → Type 0
HasNode0 number members = 1 < number * node_1_stops.params.cycle + node_1_stops.params.bound → has members 0 ≡ true

views_of_the_other : AllByRecursion (OfView HasNode0) stopped_entries
unfolding detector_row
views_of_the_other = (tt, ((λ ends. refl), ((λ ends. refl), tt)))

it_asks_no_leave : AsksNoLeave node_1_stops stopped_run 0
it_asks_no_leave = ap (λ (seen : SeenOfTheStop). seen.left) stop_is_seen

it_stands_in_the_view : StandsAfter node_1_stops stopped_run 0 1
it_stands_in_the_view =
    stands_after node_1_stops stopped_run 0 1 refl members_after_the_stop.0 (λ correct. members_after_the_stop.1) it_runs_no_more

it_stays : StaysInViews node_1_stops stopped_run 0 1
it_stays =
    each_correct node_1_stops stopped_run
    (λ i. (slot number : ℕ) (members : Nodes) → Contains (log node_1_stops stopped_run i) (View slot number members)
    → HasNode0 number members) refl
    (λ correct. of_views HasNode0 (log node_1_stops stopped_run 0) stopped_entries stopped_log views_of_the_other)
    it_runs_no_more

-- of node 0 nobody thinks that it has failed, and of node 1 it does
failed_at_node_0 : (knowledge_of (scenario_at node_1_stops stopped_run 0) 0 (history 0 stopped_run)).failed ≡ set 2
failed_at_node_0 = ap (λ (seen : SeenOfTheStop). seen.failed) stop_is_seen

it_alone_has_failed : (has (set 2) 0 ≡ false) × (has (set 2) 1 ≡ true)
unfolding detector_row
it_alone_has_failed = (refl, refl)

node_0_has_not_failed : HasNotFailed node_1_stops stopped_run 0
node_0_has_not_failed =
    each_correct node_1_stops stopped_run
    (λ i. has (knowledge_of (scenario_at node_1_stops stopped_run i) i (history i stopped_run)).failed 0 ≡ false) refl
    (λ correct. ap (λ (failed : Nodes). has failed 0) failed_at_node_0 ∙ it_alone_has_failed.0) it_runs_no_more

-- ---- a silence that is too short

-- A silence of one slot more than the life: the life signs of three nodes are due in one slot, so
-- that two of them come too late.
unfoldable hasty : ScenarioParts
hasty = of_members 7 (scenario (record (three 39 1 2) { silence = 37 }) [] [])

hasty_is_within_but_for_silence :
    (first_fault hasty.params ≡ Err (record { which = Silence; needed = 73 })) × IsWithin hasty.params (run_of hasty).trace
unfolding detector_row hasty
hasty_is_within_but_for_silence = (refl, (first_break_exact hasty.params (run_of hasty).trace).0 refl)

-- node 1 runs
hasty_node_runs : IsCorrect hasty (run_of hasty) 1
unfolding detector_row hasty
hasty_node_runs = record { there = lit< tt; running = refl }

accuracy_needs_the_silence : HasNotFailed hasty (run_of hasty) 1 → ⊥
unfolding detector_row hasty
accuracy_needs_the_silence says = false≢true (sym (says 0 (record { there = lit< tt; running = refl })))

-- ---- a node that stops as a joiner

-- Node 1 asks to join, and stops in the slot after that which carries its ask. So cycle 1 admits
-- it, and it counts as alive from the end of this on: it stands in the view of cycle 2, which
-- starts in slot 76, more than the silence of 39 slots after slot 36.
abbrev joiner_stops : ScenarioParts
joiner_stops = two 96 1 (slot_rule 36 Clean 2 ∷ []) (asks_at 34 1 ∷ []) []

joiner_is_legal : IsLegalScenario joiner_stops
unfolding detector_row
joiner_is_legal = two_is_legal 96 1 (slot_rule 36 Clean 2 ∷ []) (asks_at 34 1 ∷ []) [] (lit≤ tt) (lit≤ tt) (lit< tt) (record {
  rules = (record { place = lit< tt; verdict = tt; stop = AllBelow-bits 2 (set 2) (lit< tt) }, tt);
  one_rule = lit≤ tt;
  joins = ((lit< tt, lit< tt), tt);
  few_joins = lit≤ tt;
  leaves = tt;
  few_leaves = lit≤ tt;
})

joiner_is_within : IsWithin joiner_stops.params (run_of joiner_stops).trace
unfolding detector_row
joiner_is_within = (first_break_exact joiner_stops.params (run_of joiner_stops).trace).0 refl

joiner_stops_in_slot_36 : (node_at (run_of joiner_stops).nodes 1).stopped ≡ Some 36
unfolding detector_row
joiner_stops_in_slot_36 = refl

joiner_is_no_member : StandsAfter joiner_stops (run_of joiner_stops) 1 36 → ⊥
unfolding detector_row
joiner_is_no_member stands = false≢true (stands.member 0 (record { there = lit< tt; running = refl }))

joiner_log : log joiner_stops (run_of joiner_stops) 0 ≡ View 57 1 (set 3) ∷ View 95 2 (set 3) ∷ []
unfolding detector_row
joiner_log = refl

removal_needs_a_member : IsRemoved joiner_stops (run_of joiner_stops) 1 36 → ⊥
unfolding detector_row
removal_needs_a_member removed =
    false≢true (sym (removed 0 (record { there = lit< tt; running = refl }) 95 2 (set 3) (1, lit< tt, refl) (lit< tt)))

-- ---- a member that leaves

-- Node 1 asks in slot 10 to leave, and runs on. It stands in the view until the end of cycle 1 in
-- slot 57, and not in that of this cycle.
abbrev node_1_leaves : ScenarioParts
node_1_leaves = two 58 3 [] [] (asks_at 10 1 ∷ [])

abbrev left_run : RunState
left_run = run_of node_1_leaves

leaver_is_legal : IsLegalScenario node_1_leaves
unfolding detector_row
leaver_is_legal = two_is_legal 58 3 [] [] (asks_at 10 1 ∷ []) (lit≤ tt) (lit≤ tt) (lit< tt) (record {
  rules = tt;
  one_rule = lit≤ tt;
  joins = tt;
  few_joins = lit≤ tt;
  leaves = ((lit< tt, lit< tt), tt);
  few_leaves = lit≤ tt;
})

leaver_is_within : IsWithin node_1_leaves.params left_run.trace
unfolding detector_row
leaver_is_within = (first_break_exact node_1_leaves.params left_run.trace).0 refl

leaver_runs : IsCorrect node_1_leaves left_run 1
unfolding detector_row
leaver_runs = record { there = lit< tt; running = refl }

members_before_the_end :
    (56 < slots_run left_run) × (has (members_before node_1_leaves left_run (56 + 1) 0) 1 ≡ true)
    × (has (members_before node_1_leaves left_run (56 + 1) 1) 1 ≡ true)
unfolding detector_row
members_before_the_end = (lit< tt, refl, refl)

leaver_stands_in_the_view : StandsAfter node_1_leaves left_run 1 56
leaver_stands_in_the_view =
    stands_after node_1_leaves left_run 1 56 refl members_before_the_end.0 (λ correct. members_before_the_end.1) (λ correct. members_before_the_end.2)

staying_needs_no_leave : StaysInViews node_1_leaves left_run 1 56 → ⊥
unfolding detector_row
staying_needs_no_leave stays =
    false≢true (stays 0 (record { there = lit< tt; running = refl }) 57 1 (set 1) (0, lit< tt, refl) (lit< tt))

-- it has asked, in its turn of slot 10
leaver_has_asked : AsksNoLeave node_1_leaves left_run 1 → ⊥
unfolding detector_row has_asked_leave
leaver_has_asked none = false≢true (sym none)

-- ---- a scripted leave by which the node has not asked

-- that no entry of the scenario names the node: more than that it has asked for no leave in the run
abbrev HasNoScriptedLeave : ScenarioParts → ℕ → Type 0
HasNoScriptedLeave sc r = All (λ ask. ask.node ≢ r) sc.leaves

scripted_leave : (sc : ScenarioParts) (slot r : ℕ) → Contains sc.leaves (asks_at slot r) → HasNoScriptedLeave sc r → ⊥
unfolding detector_row
scripted_leave sc slot r stands none = All-contains (λ (ask : NodeAsk). ask.node ≢ r) sc.leaves (asks_at slot r) none stands refl

-- Node 1 is no member at slot 0, so its leave of this slot does nothing. It asks in slot 5 to join,
-- and stands in both views.
abbrev leaves_as_no_member : ScenarioParts
leaves_as_no_member = two 96 1 [] (asks_at 5 1 ∷ []) (asks_at 0 1 ∷ [])

abbrev joined_run : RunState
joined_run = run_of leaves_as_no_member

joined_log : log leaves_as_no_member joined_run 0 ≡ View 57 1 (set 3) ∷ View 95 2 (set 3) ∷ []
unfolding detector_row
joined_log = refl

joined_is_within : IsWithin leaves_as_no_member.params joined_run.trace
unfolding detector_row
joined_is_within = (first_break_exact leaves_as_no_member.params joined_run.trace).0 refl

its_leave_is_none : AsksNoLeave leaves_as_no_member joined_run 1
unfolding detector_row has_asked_leave
its_leave_is_none = refl

its_leave_is_scripted : HasNoScriptedLeave leaves_as_no_member 1 → ⊥
unfolding detector_row
its_leave_is_scripted = scripted_leave leaves_as_no_member 0 1 (0, lit< tt, refl)

-- Node 1 is to leave in slot 60. After the first 58 slots it has not asked, and stands in the view
-- of the first cycle; after all it has.
abbrev leaves_later : ScenarioParts
leaves_later = two 96 3 [] [] (asks_at 60 1 ∷ [])

abbrev early_run : RunState
early_run = run leaves_later (round_robin (two 58 3 [] [] []))

early_log : log leaves_later early_run 0 ≡ View 57 1 (set 3) ∷ []
unfolding detector_row
early_log = refl

early_is_within : IsWithin leaves_later.params early_run.trace
unfolding detector_row
early_is_within = (first_break_exact leaves_later.params early_run.trace).0 refl

it_has_not_asked_yet : AsksNoLeave leaves_later early_run 1
unfolding detector_row has_asked_leave
it_has_not_asked_yet = refl

it_is_to_leave : HasNoScriptedLeave leaves_later 1 → ⊥
unfolding detector_row
it_is_to_leave = scripted_leave leaves_later 60 1 (0, lit< tt, refl)

it_has_asked_at_last : AsksNoLeave leaves_later (run_of leaves_later) 1 → ⊥
unfolding detector_row has_asked_leave
it_has_asked_at_last none = false≢true (sym none)
