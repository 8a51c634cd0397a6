-- A worked report of more nodes than format one has.
use Rattle.std.specs.Prelude.{ℕ, ◌≡◌, ◌++◌, List, [], ◌∷◌, codes, decimal, refl}
use Rattle.std.specs.List.{concat, flat_map, range_with_len}
use Rattle.std.specs.Fmt.{digits}
use Rattle.cany_base.specs.declared.format.Format.TheVariants.{Two}
use Rattle.cany_base.specs.Params.{default_parameters_of}
use Rattle.cany_base.specs.Scenario.{ScenarioParts}
use Rattle.cany_model.proofs.RowWords.{scenario_of}
use Rattle.cany_rows.proofs.Texts.ReportRows.{text_of}
use Rattle.cany_rows.proofs.RowWords.{send}

-- two slots of forty nodes, which are all members, and one EDCAN message of the last node, without
-- data
unfoldable forty : ScenarioParts
unfolding send scenario_of
forty = scenario_of (default_parameters_of Two 40 2) 1099511627775 (send 0 39 [] ∷ []) [] []

-- what a node tells
unfoldable section : ℕ → List ℕ
unfolding digits
section i = codes "node " ++ decimal i ++ codes " correct read 2\ndeliver 1 ed 39 0 x\n"

-- the message is open, since all other nodes wait with its relay
forty_nodes : text_of forty ≡ concat (
    codes "canely report 2\n"
    ∷ codes "params nodes 40 lag 0 omit 1 errors 2 bound 4883 cycle 9766 life 4883 silence 9767 confirm 10 slots 2\n"
    ∷ codes "journal .0123456789abcdefghijklmnopqrstuvwxyzABCD.0123456789abcdefghijkl\n"
    ∷ codes "journal mnopqrstuvwxyzABCD\n"
    ∷ codes "bus 1 ed 39 0 x from 39 to "
    ∷ codes "0,1,2,3,4,5,6,7,8,9,10,11,12,13,14,15,16,17,18,19,20,21,22,23,24,25,26,27,28,29,30,31,32,33,34,35,36,37,38 clean\n"
    ∷ codes "hypothesis within\n"
    ∷ flat_map section (range_with_len 0 40)
    ∷ codes "message ed 39 0 open\n"
    ∷ codes "end\n" ∷ [])
unfolding text_of forty section
forty_nodes = refl
