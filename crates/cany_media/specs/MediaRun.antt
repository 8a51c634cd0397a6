-- A run over two media: a run of the scenario, with another ruling in the slots that have no whole
-- line.
use Rattle.std.specs.Prelude.{ℕ, Bool, not, if◌then◌else◌, List, [], ◌∷◌, length}
use Rattle.cany_base.specs.declared.rule.Rule.{Rule}
use Rattle.cany_base.specs.declared.rule.Verdict.TheVariants.{Lost}
use Rattle.cany_base.specs.declared.step.Step.{Step}
use Rattle.cany_base.specs.declared.step.Step.TheVariants as step
use Rattle.cany_base.specs.Scenario.{ScenarioParts}
use Rattle.cany_model.specs.Bus.Restart.{after_restarts}
use Rattle.cany_model.specs.Bus.Slot.{FaultScript, Ruling, after_slot, ruling_of, script, slot_rule}
use Rattle.cany_model.specs.Bus.State.{RunState, opening}
use Rattle.cany_model.specs.Runs.Run.{after_turn, is_done, reply}
use Rattle.cany_media.specs.Lines.{has_whole}
use Rattle.cany_media.specs.Plan.{FaultParts, lines_at}

-- whether no line is whole in the slot, on a bus of so many nodes
abbrev pub is_blind : ℕ → List FaultParts → ℕ → Bool
is_blind nodes faults slot = not (has_whole nodes (lines_at faults slot))

-- the ruling there: the frame is lost, and the nodes stop that the rule for the slot names
abbrev pub blind_ruling : List Rule → ℕ → Ruling
blind_ruling rules slot = record { verdict = Lost; stop = (ruling_of (slot_rule rules slot)).stop }

unfoldable pub media_script : ScenarioParts → List FaultParts → FaultScript
media_script scenario faults trace frame =
    if is_blind scenario.params.nodes faults (length trace)
    then blind_ruling scenario.rules (length trace)
    else script scenario.rules trace frame

unfoldable pub media_proceed : ScenarioParts → List FaultParts → RunState → Step → RunState
media_proceed scenario faults s step.Slot = after_restarts scenario (after_slot (media_script scenario faults) s)
media_proceed scenario faults s (step.Turn i) = after_turn scenario i s

-- a step is refused as on one bus, and a refused one changes nothing
unfoldable pub after_media_step : ScenarioParts → List FaultParts → RunState → Step → RunState
after_media_step scenario faults s step =
    if is_done (reply scenario s step) then media_proceed scenario faults s step else s

unfoldable pub media_run_from : ScenarioParts → List FaultParts → RunState → List Step → RunState
media_run_from scenario faults s [] = s
media_run_from scenario faults s (step ∷ journal) =
    media_run_from scenario faults (after_media_step scenario faults s step) journal

abbrev pub media_run : ScenarioParts → List FaultParts → List Step → RunState
media_run scenario faults journal = media_run_from scenario faults (opening scenario.params.nodes) journal
