-- Worked runs of the site: a node that stops, one that joins, and one that leaves.
use Rattle.std.specs.Prelude.{ℕ, ◌≡◌, ◌++◌, List, [], ◌∷◌, codes, replicate, refl, take}
use Rattle.cany_base.specs.declared.log_entry.LogEntry.{LogEntry}
use Rattle.cany_base.specs.declared.log_entry.LogEntry.TheVariants.{Failed, View}
use Rattle.cany_base.specs.declared.rule.Verdict.TheVariants.{Clean, Partial}
use Rattle.cany_base.specs.Scenario.{ScenarioParts}
use Rattle.cany_rows.proofs.RowWords.{RunReport, carries, idle, scenario, set, slot_rule, steps, three, running_node, stopped_node, whole_run, report_of}
use Rattle.cany_rows.proofs.Site.SiteWords.{asks_at, els, fda, join, leave, of_members, rha, rounds_of, site_row, with_asks}

-- a report with so many of its lines of the bus
unfoldable of_lines : ℕ → RunReport → RunReport
of_lines n r = record r { bus = take n r.bus }

-- Node 1 stops in slot 5. The others find out in the first cycle, after it has started, so that it
-- stands in the view of this cycle. It does not in that of the next.
unfoldable node_1_stops : ScenarioParts
node_1_stops = of_members 7 (scenario (three 300 1 2) [] (slot_rule 5 Clean 2 ∷ []))

unfoldable without_node_1 : List LogEntry
without_node_1 = Failed 73 1 1 ∷ View 108 1 (set 7) ∷ View 180 2 (set 5) ∷ View 252 3 (set 5) ∷ []

stopped_node_is_removed :
    (let s = node_1_stops in of_lines 10 (report_of s)) ≡ whole_run (steps (rounds_of 5 (codes ".012") ++ rounds_of 295 (codes ".02")))
    (idle 5 2 ∷ carries 37 (els 0 0) 1 4 Clean 0 ∷ carries 38 (els 2 0) 4 1 Clean 0 ∷ carries 73 (rha 0 1 7) 1 4 Clean 0
    ∷ carries 74 (rha 2 1 7) 4 1 Clean 0 ∷ carries 75 (fda 1 1) 5 0 Clean 0 ∷ carries 110 (els 0 1) 1 4 Clean 0
    ∷ carries 111 (els 2 1) 4 1 Clean 0 ∷ carries 145 (rha 0 2 5) 1 4 Clean 0 ∷ carries 146 (rha 2 2 5) 4 1 Clean 0 ∷ [])
    (running_node 300 without_node_1 ∷ stopped_node 5 5 [] ∷ running_node 300 without_node_1 ∷ [])
    []
unfolding site_row of_lines node_1_stops without_node_1
stopped_node_is_removed = refl

-- Node 1 rejects the ask of node 2 to join, so it is carried again.
unfoldable node_2_joins : ℕ → ScenarioParts
node_2_joins stop = with_asks (asks_at 10 2 ∷ []) [] (of_members 3 (scenario (three 120 1 2) [] (slot_rule 11 (Partial (set 2)) stop ∷ [])))

join_after_partial :
    report_of (node_2_joins 0) ≡ whole_run (steps (rounds_of 120 (codes ".012")))
    (carries 11 (join 2 0) 4 1 (Partial (set 2)) 0 ∷ carries 12 (join 2 0) 4 3 Clean 0 ∷ carries 37 (els 0 0) 1 6 Clean 0
    ∷ carries 38 (els 1 0) 2 5 Clean 0 ∷ carries 73 (rha 0 1 7) 1 6 Clean 0 ∷ carries 74 (rha 1 1 7) 2 5 Clean 0
    ∷ carries 110 (els 0 1) 1 6 Clean 0 ∷ carries 111 (els 1 1) 2 5 Clean 0 ∷ [])
    (replicate 3 (running_node 120 (View 108 1 (set 7) ∷ [])))
    []
unfolding site_row node_2_joins
join_after_partial = refl

-- It stops with that, and node 0 alone has heard its ask: the two start with different vectors, and
-- come to the one without it.
join_after_partial_of_a_node_that_stops :
    report_of (node_2_joins 4) ≡ whole_run (steps (rounds_of 11 (codes ".012") ++ rounds_of 109 (codes ".01")))
    (carries 11 (join 2 0) 4 1 (Partial (set 2)) 4 ∷ carries 37 (els 0 0) 1 2 Clean 0 ∷ carries 38 (els 1 0) 2 1 Clean 0
    ∷ carries 73 (rha 0 1 7) 1 2 Clean 0 ∷ carries 74 (rha 1 1 3) 2 1 Clean 0 ∷ carries 75 (rha 0 1 3) 1 2 Clean 0
    ∷ carries 111 (els 1 1) 2 1 Clean 0 ∷ carries 112 (els 0 1) 1 2 Clean 0 ∷ [])
    (running_node 120 (View 108 1 (set 3) ∷ []) ∷ running_node 120 (View 108 1 (set 3) ∷ []) ∷ stopped_node 11 11 [] ∷ [])
    []
unfolding site_row node_2_joins
join_after_partial_of_a_node_that_stops = refl

-- Node 1 rejects the ask of node 2 to leave, which is carried in the slot in which the cycle
-- starts: nodes 1 and 2 start with all nodes, node 0 without node 2.
unfoldable node_2_leaves : ScenarioParts
node_2_leaves = with_asks [] (asks_at 71 2 ∷ []) (of_members 7 (scenario (three 115 1 2) [] (slot_rule 72 (Partial (set 2)) 0 ∷ [])))

leave_across_a_cycle_start :
    report_of node_2_leaves ≡ whole_run (steps (rounds_of 115 (codes ".012")))
    (carries 37 (els 0 0) 1 6 Clean 0 ∷ carries 38 (els 1 0) 2 5 Clean 0 ∷ carries 39 (els 2 0) 4 3 Clean 0
    ∷ carries 72 (leave 2 0) 4 1 (Partial (set 2)) 0 ∷ carries 73 (rha 0 1 3) 1 6 Clean 0 ∷ carries 74 (rha 1 1 3) 2 5 Clean 0
    ∷ carries 75 (leave 2 0) 4 3 Clean 0 ∷ carries 76 (els 2 1) 4 3 Clean 0 ∷ carries 110 (els 0 1) 1 6 Clean 0
    ∷ carries 111 (els 1 1) 2 5 Clean 0 ∷ [])
    (running_node 115 (View 108 1 (set 3) ∷ []) ∷ running_node 115 (View 108 1 (set 3) ∷ []) ∷ running_node 115 [] ∷ [])
    []
unfolding site_row node_2_leaves
leave_across_a_cycle_start = refl
