-- Worked reports of runs with views.
use Rattle.std.specs.Prelude.{ℕ, ◌≡◌, ◌++◌, List, [], ◌∷◌, codes, replicate, refl}
use Rattle.std.specs.List.{concat}
use Rattle.cany_base.specs.declared.rule.Verdict.TheVariants.{Partial}
use Rattle.cany_base.specs.Scenario.{ScenarioParts}
use Rattle.cany_rows.proofs.Texts.ReportRows.{text_of}
use Rattle.cany_rows.proofs.RowWords.{scenario, set, slot_rule, three}
use Rattle.cany_rows.proofs.Site.SiteWords.{asks_at, of_members, rounds_of, site_row, with_asks}

-- so many rounds of three nodes, as a line of the journal
unfoldable journal_of : ℕ → List ℕ
journal_of n = codes "journal " ++ rounds_of n (codes ".012") ++ codes "\n"

-- node 2 asks to join, and node 1 rejects its frame at first
unfoldable node_2_joins : ScenarioParts
node_2_joins = with_asks (asks_at 10 2 ∷ []) [] (of_members 3 (scenario (three 120 1 2) [] (slot_rule 11 (Partial (set 2)) 0 ∷ [])))

report_of_a_join : text_of node_2_joins ≡ concat (
    codes "canely report 1\n"
    ∷ codes "params nodes 3 lag 0 omit 1 errors 2 bound 36 cycle 72 life 36 silence 73 confirm 10 slots 120\n"
    ∷ concat (replicate 7 (journal_of 16)) ∷ journal_of 8
    ∷ codes "bus 11 join 2 0 r from 2 to 0 partial\n"
    ∷ codes "bus 12 join 2 0 r from 2 to 0,1 clean\n"
    ∷ codes "bus 37 els 0 0 r from 0 to 1,2 clean\n"
    ∷ codes "bus 38 els 1 0 r from 1 to 0,2 clean\n"
    ∷ codes "bus 73 rha 0 1 x00000007 from 0 to 1,2 clean\n"
    ∷ codes "bus 74 rha 1 1 x00000007 from 1 to 0,2 clean\n"
    ∷ codes "bus 110 els 0 1 r from 0 to 1,2 clean\n"
    ∷ codes "bus 111 els 1 1 r from 1 to 0,2 clean\n"
    ∷ codes "hypothesis within\n"
    ∷ codes "node 0 correct read 120\n"
    ∷ codes "view 108 1 0,1,2\n"
    ∷ codes "node 1 correct read 120\n"
    ∷ codes "view 108 1 0,1,2\n"
    ∷ codes "node 2 correct read 120\n"
    ∷ codes "view 108 1 0,1,2\n"
    ∷ codes "end\n" ∷ [])
unfolding site_row text_of journal_of node_2_joins
report_of_a_join = refl

-- node 2 asks to leave, and node 1 rejects its frame as the cycle starts
unfoldable node_2_leaves : ScenarioParts
node_2_leaves = with_asks [] (asks_at 71 2 ∷ []) (of_members 7 (scenario (three 115 1 2) [] (slot_rule 72 (Partial (set 2)) 0 ∷ [])))

report_of_a_leave : text_of node_2_leaves ≡ concat (
    codes "canely report 1\n"
    ∷ codes "params nodes 3 lag 0 omit 1 errors 2 bound 36 cycle 72 life 36 silence 73 confirm 10 slots 115\n"
    ∷ concat (replicate 7 (journal_of 16)) ∷ journal_of 3
    ∷ codes "bus 37 els 0 0 r from 0 to 1,2 clean\n"
    ∷ codes "bus 38 els 1 0 r from 1 to 0,2 clean\n"
    ∷ codes "bus 39 els 2 0 r from 2 to 0,1 clean\n"
    ∷ codes "bus 72 leave 2 0 r from 2 to 0 partial\n"
    ∷ codes "bus 73 rha 0 1 x00000003 from 0 to 1,2 clean\n"
    ∷ codes "bus 74 rha 1 1 x00000003 from 1 to 0,2 clean\n"
    ∷ codes "bus 75 leave 2 0 r from 2 to 0,1 clean\n"
    ∷ codes "bus 76 els 2 1 r from 2 to 0,1 clean\n"
    ∷ codes "bus 110 els 0 1 r from 0 to 1,2 clean\n"
    ∷ codes "bus 111 els 1 1 r from 1 to 0,2 clean\n"
    ∷ codes "hypothesis within\n"
    ∷ codes "node 0 correct read 115\n"
    ∷ codes "view 108 1 0,1\n"
    ∷ codes "node 1 correct read 115\n"
    ∷ codes "view 108 1 0,1\n"
    ∷ codes "node 2 correct read 115\n"
    ∷ codes "end\n" ∷ [])
unfolding site_row text_of journal_of node_2_leaves
report_of_a_leave = refl
