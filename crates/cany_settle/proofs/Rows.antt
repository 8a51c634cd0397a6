-- Worked texts, computed from the definitions, and runs that show what the premises are for.
use Rattle.std.specs.Prelude.{ℕ, ◌≡◌, List, [], ◌∷◌, codes, refl, replicate}
use Rattle.std.specs.Fmt.{digits}
use Rattle.std.specs.List.{concat}
use Rattle.cany_base.specs.declared.message.NodeAsk.{NodeAsk}
use Rattle.cany_base.specs.declared.message.SendAsk.{SendAsk}
use Rattle.cany_base.specs.declared.message.Service.TheVariants.{Ed, Tot}
use Rattle.cany_base.specs.declared.rule.Rule.{Rule}
use Rattle.cany_base.specs.declared.rule.Verdict.TheVariants.{Clean, Partial}
use Rattle.cany_base.specs.Params.{default_parameters}
use Rattle.cany_base.specs.Scenario.{ScenarioParts}
use Rattle.cany_log.specs.Summary.{open_count, settled_count, settled_line}
use Rattle.cany_model.proofs.RowWords.{ask, run_words, scenario_of, send, set, slot_rule}
use Rattle.cany_model.specs.Runs.RoundRobin.{round_robin}
use Rattle.cany_settle.specs.LastEvent.{greatest, last_slot}
use Rattle.cany_settle.specs.TailText.{claim_line, ending_lines, enough_line, lengths_lines, number_line, tail_lines, tail_text, word_line}
use Rattle.cany_text.specs.ReportLines.{break_name, hypothesis_line, line_of}

-- three nodes at lag 0, with everything else by default: all are members, or nobody is, so that no
-- life sign is sent
unfoldable scenario : ℕ → ℕ → List SendAsk → List Rule → List NodeAsk → ScenarioParts
unfolding scenario_of
scenario slots members sends rules restarts = scenario_of (default_parameters 3 slots) members sends rules restarts

-- one EDCAN message of node 0 at slot 0
unfoldable one_message : ℕ → ScenarioParts
unfolding scenario send
one_message slots = scenario slots 7 (send Ed 0 0 (1 ∷ []) ∷ []) [] []

-- a TOTCAN message of node 1 whose first copy does not reach node 2, and one of node 0 just after
-- it
unfoldable late_copy : ℕ → ScenarioParts
unfolding scenario send slot_rule
late_copy slots =
    scenario slots 7 (send Tot 0 1 (10 ∷ []) ∷ send Tot 1 0 (11 ∷ []) ∷ []) (slot_rule 1 (Partial (set 4)) 0 ∷ []) []

-- a node that stopped starts again and hears a message
unfoldable restart_hears_again : ScenarioParts
unfolding scenario send slot_rule ask
restart_hears_again = scenario 60 7 (send Ed 50 1 (1 ∷ []) ∷ []) (slot_rule 5 Clean 1 ∷ []) (ask 10 0 ∷ [])

unfoldable text_of : ScenarioParts → List ℕ
unfolding run_words digits open_count settled_count settled_line greatest last_slot claim_line ending_lines enough_line lengths_lines number_line tail_lines tail_text word_line break_name hypothesis_line line_of
text_of sc = tail_text sc (round_robin sc)

-- the run of five slots is too short to be claimed, though its message is settled: 146 are needed
tail_too_short : text_of (one_message 5) ≡ concat (
    codes "tail 144\n" ∷ codes "last 2\n" ∷ codes "slots 5\n" ∷ codes "short 146\n" ∷ codes "settled 1 open 0\n" ∷ codes "hypothesis within\n" ∷ codes "end\n" ∷ [])
unfolding text_of one_message
tail_too_short = refl

-- a run too short that has open messages
tail_too_short_and_open : text_of (late_copy 10) ≡ concat (
    codes "tail 144\n" ∷ codes "last 5\n" ∷ codes "slots 10\n" ∷ codes "short 149\n" ∷ codes "settled 0 open 2\n" ∷ codes "hypothesis within\n" ∷ codes "end\n" ∷ [])
unfolding text_of late_copy
tail_too_short_and_open = refl

-- and 146 are enough
tail_enough : text_of (one_message 146) ≡ concat (
    codes "tail 144\n" ∷ codes "last 2\n" ∷ codes "slots 146\n" ∷ codes "enough\n" ∷ codes "settled 1 open 0\n" ∷ codes "hypothesis within\n" ∷ codes "end\n" ∷ [])
unfolding text_of one_message
tail_enough = refl

-- nothing is claimed of a run with restarts
tail_unclaimed : text_of restart_hears_again ≡ concat (
    codes "tail 144\n" ∷ codes "last 52\n" ∷ codes "slots 60\n" ∷ codes "unclaimed\n" ∷ codes "settled 1 open 0\n" ∷ codes "hypothesis within\n" ∷ codes "end\n" ∷ [])
unfolding text_of restart_hears_again
tail_unclaimed = refl

-- ---- what the premises are for

-- the messages of TOTCAN of one node, all at slot 0: each waits for the one before
unfoldable backlog_of_five : ℕ → ScenarioParts
unfolding scenario send
backlog_of_five slots = scenario slots 0 (replicate 5 (send Tot 0 0 [])) [] []

-- A run that goes on for the tail after the last ask, where nothing went wrong, and that has an
-- open message: the last frame of a lower class came later.
late_frames_are_events : text_of (backlog_of_five 149) ≡ concat (
    codes "tail 144\n" ∷ codes "last 112\n" ∷ codes "slots 149\n" ∷ codes "short 256\n" ∷ codes "settled 4 open 1\n" ∷ codes "hypothesis within\n" ∷ codes "end\n" ∷ [])
unfolding text_of backlog_of_five
late_frames_are_events = refl

-- a message that is asked for in the last slot is open: the last ask is an event
late_asks_are_events : text_of (scenario 40 0 (send Ed 39 0 (1 ∷ []) ∷ []) [] []) ≡ concat (
    codes "tail 144\n" ∷ codes "last 39\n" ∷ codes "slots 40\n" ∷ codes "short 183\n" ∷ codes "settled 0 open 1\n" ∷ codes "hypothesis within\n" ∷ codes "end\n" ∷ [])
unfolding text_of scenario send
late_asks_are_events = refl
