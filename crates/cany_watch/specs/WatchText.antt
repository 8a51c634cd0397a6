-- The text of the command `watch`: the line of a node.
use Rattle.std.specs.Prelude.{ℕ, List, [], ◌∷◌, ◌++◌, codes, decimal}
use Rattle.std.specs.List.{flat_map}
use Rattle.cany_base.specs.declared.actions.Action.{Action}
use Rattle.cany_base.specs.declared.actions.Action.TheVariants.{Ask, Enter, Withdraw}
use Rattle.cany_base.specs.declared.step.Step.{Step}
use Rattle.cany_base.specs.Scenario.{ScenarioParts}
use Rattle.cany_model.specs.Runs.Run.{run}
use Rattle.cany_text.specs.ReportLines.{entry_line, line_of}
use Rattle.cany_watch.specs.Lines.{line}

unfoldable pub first_line : List ℕ
first_line = line_of (codes "canely watch 1" ∷ [])

unfoldable pub node_line : ℕ → List ℕ
node_line node = line_of (codes "node" ∷ decimal node ∷ [])

unfoldable pub last_line : List ℕ
last_line = line_of (codes "end" ∷ [])

-- the line of the refusal of a node that there is not
unfoldable pub no_node_line : ℕ → List ℕ
no_node_line node = line_of (codes "refused no node" ∷ decimal node ∷ [])

-- each entry of the node's line stands as in the report
unfoldable pub watch_text : ℕ → ScenarioParts → List Step → List ℕ
watch_text node scenario journal =
    first_line ++ node_line node ++ flat_map entry_line (line scenario (run scenario journal) node) ++ last_line

-- the line of what a reading appended, which is an entry
abbrev pub read_text : Action → List ℕ
read_text (Ask frame) = []
read_text (Withdraw ident) = []
read_text (Enter entry) = entry_line entry
