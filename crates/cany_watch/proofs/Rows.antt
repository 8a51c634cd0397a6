-- Worked rows: the lines of nodes in two runs, and words of the command, computed from the
-- definitions.
use Rattle.std.specs.Prelude.{ℕ, ◌≡◌, List, [], ◌∷◌, None, Err, codes, refl}
use Rattle.std.specs.Fmt.{digits}
use Rattle.std.specs.List.{concat}
use Rattle.cany_base.specs.declared.message.NodeAsk.{NodeAsk}
use Rattle.cany_base.specs.declared.message.SendAsk.{SendAsk}
use Rattle.cany_base.specs.declared.message.Service.TheVariants.{Ed}
use Rattle.cany_base.specs.declared.rule.Rule.{Rule}
use Rattle.cany_base.specs.declared.rule.Verdict.TheVariants.{Clean, Partial}
use Rattle.cany_base.specs.Params.{default_parameters}
use Rattle.cany_base.specs.Scenario.{ScenarioParts}
use Rattle.cany_model.proofs.RowWords.{ask, run_words, scenario_of, send, set, slot_rule}
use Rattle.cany_model.specs.Bus.History.{ended_history}
use Rattle.cany_model.specs.Runs.Incarnations.{incarnation_of}
use Rattle.cany_model.specs.Runs.RoundRobin.{round_robin}
use Rattle.cany_text.specs.ReportLines.{entry_line, line_of, payload_text, set_text}
use Rattle.cany_text.specs.TextNames.{service_name}
use Rattle.cany_watch.specs.Lines.{line}
use Rattle.cany_watch.specs.Top.{choose}
use Rattle.cany_watch.specs.WatchText.{first_line, last_line, no_node_line, node_line, watch_text}
use Rattle.cany_command.specs.Numbers.{named_number, number_of}
use Rattle.cany_watch.specs.WatchWords.{watched_node}

-- three nodes, which are all members, with every parameter by default
unfoldable scenario : ℕ → List SendAsk → List Rule → List NodeAsk → ScenarioParts
unfolding scenario_of
scenario slots sends rules restarts = scenario_of (default_parameters 3 slots) 7 sends rules restarts

-- node 1 alone accepts the frame before its sender stops, and relays it to node 2
unfoldable sender_stops : ScenarioParts
unfolding scenario send slot_rule
sender_stops = scenario 6 (send Ed 0 0 (1 ∷ []) ∷ []) (slot_rule 1 (Partial (set 4)) 1 ∷ []) []

-- node 0 stops and starts again between two messages
unfoldable two_incarnations : ScenarioParts
unfolding scenario send slot_rule ask
two_incarnations = scenario 60 (send Ed 0 1 (1 ∷ []) ∷ send Ed 50 1 (2 ∷ []) ∷ []) (slot_rule 5 Clean 1 ∷ []) (ask 8 0 ∷ [])

-- the text of a node of the run by round robin
unfoldable text_of : ℕ → ScenarioParts → List ℕ
unfolding run_words digits line_of entry_line service_name payload_text set_text first_line node_line last_line watch_text line incarnation_of ended_history
text_of node sc = watch_text node sc (round_robin sc)

watch_one_node : text_of 2 sender_stops ≡ concat (codes "canely watch 1\n" ∷ codes "node 2\n" ∷ codes "deliver 2 ed 0 0 x01\n" ∷ codes "end\n" ∷ [])
unfolding text_of sender_stops
watch_one_node = refl

-- a node that stopped has what it entered before
watch_the_node_that_stops : text_of 0 sender_stops ≡ concat (codes "canely watch 1\n" ∷ codes "node 0\n" ∷ codes "end\n" ∷ [])
unfolding text_of sender_stops
watch_the_node_that_stops = refl

-- the log of the first incarnation, and then that of the second
watch_two_incarnations : text_of 0 two_incarnations ≡ concat (
    codes "canely watch 1\n" ∷ codes "node 0\n" ∷ codes "deliver 1 ed 1 0 x01\n" ∷ codes "deliver 51 ed 1 1 x02\n" ∷ codes "end\n" ∷ [])
unfolding text_of two_incarnations
watch_two_incarnations = refl

-- a number may begin with a zero, and is printed without it
watch_no_such_node : choose (codes "watch" ∷ codes "03" ∷ []) sender_stops ≡ Err (codes "refused no node 3\n")
unfolding watched_node named_number number_of no_node_line line_of digits sender_stops
watch_no_such_node = refl

-- ---- words that name no node

three_digits : watched_node (codes "watch" ∷ codes "003" ∷ []) ≡ None
unfolding watched_node named_number number_of
three_digits = refl

no_digits : watched_node (codes "watch" ∷ [] ∷ []) ≡ None
unfolding watched_node named_number number_of
no_digits = refl

signed : watched_node (codes "watch" ∷ codes "-1" ∷ []) ≡ None
unfolding watched_node named_number number_of
signed = refl

no_word : watched_node (codes "watch" ∷ []) ≡ None
unfolding watched_node named_number
no_word = refl
