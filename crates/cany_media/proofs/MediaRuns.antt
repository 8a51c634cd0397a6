-- A run over two media is a run of one bus whose rules say the same of each slot.
use Rattle.std.proofs.Common.{◌≡◌, ℕ, ◌<◌, true, not, List, [], ◌∷◌, length, Option, refl, ap, sym, ◌∙◌, inl, inr}
use Rattle.std.proofs.lemmas.Bool.{cases_Bool}
use Rattle.cany_base.specs.declared.rule.Rule.{Rule}
use Rattle.cany_base.specs.declared.slot_note.SlotNote.{SlotNote}
use Rattle.cany_base.specs.declared.step.Step.{Step}
use Rattle.cany_base.specs.declared.step.Step.TheVariants as step
use Rattle.cany_base.specs.Frame.{FrameParts}
use Rattle.cany_base.specs.Scenario.{ScenarioParts}
use Rattle.cany_model.specs.Bus.Restart.{after_restarts}
use Rattle.cany_model.specs.Bus.Slot.{FaultScript, after_slot, script, slot_note_of, winner}
use Rattle.cany_model.specs.Bus.State.{RunState, opening}
use Rattle.cany_model.specs.Runs.Run.{after_step, is_done, proceed, reply, run, run_from}
use Rattle.cany_model.proofs.Runs.Runs.{slot_done}
use Rattle.cany_media.specs.Lines.{has_whole}
use Rattle.cany_media.specs.MediaRun.{after_media_step, media_proceed, media_run, media_run_from, media_script}
use Rattle.cany_media.specs.Plan.{FaultParts, lines_at}
use Rattle.cany_media.specs.Single.{single_bus, single_rules}
use Rattle.cany_media.proofs.RulesAside.{after_restarts_same, after_turn_same, reply_same, with_rules}
use Rattle.cany_media.proofs.Scripts.{scripts_agree, scripts_same}

-- these rules say of each slot of the run what is said over two media
abbrev pub RuleAlike : ScenarioParts → List FaultParts → List Rule → Type 0
RuleAlike sc faults rules =
    (trace : List SlotNote) (frame : Option FrameParts) → length trace < sc.params.slots → media_script sc faults trace frame ≡ script rules trace frame

slot_alike : (a b : FaultScript) (s : RunState) → a s.trace (winner s.nodes) ≡ b s.trace (winner s.nodes) → after_slot a s ≡ after_slot b s
unfolding after_slot slot_note_of
slot_alike a b s e = rw e refl

proceeds_alike : (sc : ScenarioParts) (faults : List FaultParts) (rules : List Rule) → RuleAlike sc faults rules → (s : RunState) (made : Step)
    → is_done (reply sc s made) ≡ true → media_proceed sc faults s made ≡ proceed (with_rules sc rules) s made
unfolding media_proceed proceed
proceeds_alike sc faults rules alike s step.Slot done =
    ap (after_restarts sc) (slot_alike (media_script sc faults) (script rules) s (alike s.trace (winner s.nodes) (slot_done sc s done).room))
    ∙ sym (after_restarts_same sc rules (after_slot (script rules) s))
proceeds_alike sc faults rules alike s (step.Turn i) done = sym (after_turn_same sc rules i s)

step_alike : (sc : ScenarioParts) (faults : List FaultParts) (rules : List Rule) → RuleAlike sc faults rules → (s : RunState) (made : Step)
    → after_media_step sc faults s made ≡ after_step (with_rules sc rules) s made
unfolding after_media_step after_step
step_alike sc faults rules alike s made = elim (cases_Bool (is_done (reply sc s made))) [
  | inl done ↦ rw (reply_same sc rules s made, done) (proceeds_alike sc faults rules alike s made done)
  | inr refused ↦ rw (reply_same sc rules s made, refused) refl
]

run_alike : (sc : ScenarioParts) (faults : List FaultParts) (rules : List Rule) → RuleAlike sc faults rules → (journal : List Step) (s : RunState)
    → media_run_from sc faults s journal ≡ run_from (with_rules sc rules) s journal
unfolding media_run_from run_from
run_alike sc faults rules alike [] s = refl
run_alike sc faults rules alike (made ∷ journal) s =
    rw (step_alike sc faults rules alike s made) (run_alike sc faults rules alike journal (after_step (with_rules sc rules) s made))

-- the run over two media is that of the single bus
pub media_is_single : (sc : ScenarioParts) (faults : List FaultParts) (journal : List Step) → media_run sc faults journal ≡ run (single_bus sc faults) journal
media_is_single sc faults journal =
    run_alike sc faults (single_rules sc faults) (λ trace frame runs. scripts_agree sc faults trace frame runs) journal (opening sc.params.nodes)

-- and where each slot has a whole line, that of the scenario itself
pub media_is_same : (sc : ScenarioParts) (faults : List FaultParts) (journal : List Step)
    → ((slot : ℕ) → slot < sc.params.slots → has_whole sc.params.nodes (lines_at faults slot) ≡ true) → media_run sc faults journal ≡ run sc journal
media_is_same sc faults journal whole =
    run_alike sc faults sc.rules (λ trace frame runs. scripts_same sc faults trace frame (ap not (whole (length trace) runs))) journal (opening sc.params.nodes)
