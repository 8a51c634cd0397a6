-- Worked rows of the last event of a run, and of the numbers that the settling of a run is told by.
use Rattle.std.specs.Prelude.{ℕ, ◌≡◌, List, [], ◌∷◌, refl}
use Rattle.cany_base.specs.declared.message.SendAsk.{SendAsk}
use Rattle.cany_base.specs.declared.message.Service.TheVariants.{Ed, Tot}
use Rattle.cany_base.specs.declared.rule.Rule.{Rule}
use Rattle.cany_base.specs.declared.rule.Verdict.TheVariants.{Clean, Lost, Partial}
use Rattle.cany_base.specs.Params.{Parameters, default_parameters}
use Rattle.cany_base.specs.Scenario.{ScenarioParts}
use Rattle.cany_model.proofs.RowWords.{ask, run_words, scenario_of, send, set, slot_rule}
use Rattle.cany_model.specs.Runs.RoundRobin.{round_robin}
use Rattle.cany_model.specs.Runs.Run.{run}
use Rattle.cany_settle.specs.LastEvent.{greatest, last_event, last_slot}
use Rattle.cany_settle.specs.LongEnough.{last_load, settling_time, short_tail, tail}

-- three nodes at lag 0, with everything else by default: all are members, or nobody is
unfoldable scenario : ℕ → ℕ → List SendAsk → List Rule → ScenarioParts
unfolding scenario_of
scenario slots members sends rules = scenario_of (default_parameters 3 slots) members sends rules []

-- the last event of the run by round robin, and its last load
unfoldable last_of : ScenarioParts → List ℕ
unfolding run_words greatest last_slot
last_of sc = last_event sc (run sc (round_robin sc)) ∷ last_load sc (run sc (round_robin sc)) ∷ []

-- ---- what is an event

-- a run in which nothing is asked for: its life signs are no events
life_signs_are_no_events : last_of (scenario 45 7 [] []) ≡ 0 ∷ 0 ∷ []
unfolding last_of scenario
life_signs_are_no_events = refl

-- an EDCAN message and its copy, in slots 1 and 2
copies_are_events : last_of (scenario 6 0 (send Ed 0 0 [] ∷ []) []) ≡ 2 ∷ 2 ∷ []
unfolding last_of scenario send
copies_are_events = refl

-- a stop is one, and no load
stops_are_events : last_of (scenario 6 0 (send Ed 0 0 [] ∷ []) (slot_rule 4 Clean 2 ∷ [])) ≡ 4 ∷ 2 ∷ []
unfolding last_of scenario send slot_rule
stops_are_events = refl

-- a message of TOTCAN in slot 1, and the frames that accept it, which win over all others
acceptance_is_no_event : last_of (scenario 6 0 (send Tot 0 0 [] ∷ []) []) ≡ 1 ∷ 1 ∷ []
unfolding last_of scenario send
acceptance_is_no_event = refl

-- an error is one, also of such a frame, and no load
errors_are_events :
    last_of (scenario 6 0 (send Tot 0 0 [] ∷ []) (slot_rule 2 Lost 0 ∷ []))
    ∷ last_of (scenario 6 0 (send Tot 0 0 [] ∷ []) (slot_rule 3 (Partial (set 1)) 0 ∷ [])) ∷ [] ≡ (2 ∷ 1 ∷ []) ∷ (3 ∷ 1 ∷ []) ∷ []
unfolding last_of scenario send slot_rule
errors_are_events = refl

-- a join and a leave are, also one that is asked for in the last slot; their frames are load
joins_and_leaves_are_events :
    last_of (record (scenario 6 0 [] []) { joins = ask 5 1 ∷ ask 2 0 ∷ [] })
    ∷ last_of (record (scenario 6 7 [] []) { leaves = ask 3 0 ∷ ask 5 1 ∷ [] }) ∷ [] ≡ (5 ∷ 3 ∷ []) ∷ (5 ∷ 4 ∷ []) ∷ []
unfolding last_of scenario ask
joins_and_leaves_are_events = refl

-- ---- how long it takes

abbrev numbers : Parameters → List ℕ
numbers p = tail p ∷ settling_time p ∷ short_tail p ∷ []

-- bound 36, lag 0, cycle 72 and confirm 10; then with lag 4, and with confirm 60
tails :
    numbers (default_parameters 3 100) ∷ numbers (record (default_parameters 3 100) { lag = 4 }) ∷ numbers (record (default_parameters 3 100) { confirm = 60 }) ∷ []
    ≡ (144 ∷ 36 ∷ 73 ∷ []) ∷ (144 ∷ 40 ∷ 81 ∷ []) ∷ (144 ∷ 60 ∷ 97 ∷ []) ∷ []
tails = refl
