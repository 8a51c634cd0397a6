-- Worked reports of runs in which a node starts again.
use Rattle.std.specs.Prelude.{◌≡◌, [], ◌∷◌, codes, refl}
use Rattle.std.specs.List.{concat}
use Rattle.cany_base.specs.declared.rule.Verdict.TheVariants.{Clean}
use Rattle.cany_base.specs.Scenario.{ScenarioParts}
use Rattle.cany_rows.proofs.Texts.ReportRows.{text_of}
use Rattle.cany_rows.proofs.RowWords.{scenario, send, set, slot_rule, three}
use Rattle.cany_rows.proofs.Site.SiteWords.{asks_at, site_row}

-- node 0 stops in slot 5, and starts again at the end of slot 10; all nodes are members
unfoldable stopped_and_back : ScenarioParts
stopped_and_back = record (scenario (three 60 1 2) (send 50 1 (1 ∷ []) ∷ []) (slot_rule 5 Clean 1 ∷ [])) {
  members = set 7;
  restarts = asks_at 10 0 ∷ [];
}

-- five rounds of three nodes, six of two, and then of three again
restart_hears_again : text_of stopped_and_back ≡ concat (
    codes "canely report 1\n"
    ∷ codes "params nodes 3 lag 0 omit 1 errors 2 bound 36 cycle 72 life 36 silence 73 confirm 10 slots 60\n"
    ∷ codes "journal .012.012.012.012.012.12.12.12.12.12.12.012.012.012.012.012.012.0\n"
    ∷ codes "journal 12.012.012.012.012.012.012.012.012.012.012.012.012.012.012.012.0\n"
    ∷ codes "journal 12.012.012.012.012.012.012.012.012.012.012.012.012.012.012.012.0\n"
    ∷ codes "journal 12.012.012.012.012.012.012.012.012.012.012\n"
    ∷ codes "bus 5 idle stop 0\n"
    ∷ codes "bus 10 idle restart 0\n"
    ∷ codes "bus 37 els 1 0 r from 1 to 0,2 clean\n"
    ∷ codes "bus 38 els 2 0 r from 2 to 0,1 clean\n"
    ∷ codes "bus 51 ed 1 0 x01 from 1 to 0,2 clean\n"
    ∷ codes "bus 52 ed 1 0 x01 from 0,2 to 1 clean\n"
    ∷ codes "hypothesis within\n"
    ∷ codes "node 0 stopped 5 read 5\n"
    ∷ codes "node 0 inc 1 since 11 correct read 49\n"
    ∷ codes "deliver 51 ed 1 0 x01\n"
    ∷ codes "node 1 correct read 60\n"
    ∷ codes "deliver 51 ed 1 0 x01\n"
    ∷ codes "node 2 correct read 60\n"
    ∷ codes "deliver 51 ed 1 0 x01\n"
    ∷ codes "message ed 1 0 settled\n"
    ∷ codes "end\n" ∷ [])
unfolding site_row text_of stopped_and_back
restart_hears_again = refl
