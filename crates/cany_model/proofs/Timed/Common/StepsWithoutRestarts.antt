-- What is kept along a journal without restarts, where a step may use what is known of the state
-- before it.
use Rattle.std.proofs.Common.{◌≡◌, ℕ, inl, inr, true, List, [], ◌∷◌, ◌++◌, refl, sym, ◌∙◌, subst, append-nil, append_assoc}
use Rattle.std.proofs.lemmas.Bool.{cases_Bool}
use Rattle.cany_base.specs.declared.step.Step.{Step}
use Rattle.cany_base.specs.declared.step.Step.TheVariants as step
use Rattle.cany_base.specs.Scenario.{ScenarioParts}
use Rattle.cany_model.specs.Runs.Run.{after_step, after_turn, is_done, proceed, reply, run}
use Rattle.cany_model.specs.Bus.Slot.{after_slot, script}
use Rattle.cany_model.specs.Bus.State.{RunState, opening}
use Rattle.cany_model.proofs.Runs.Journals.{run_none, run_push, step_is, step_refused}
use Rattle.cany_model.proofs.Runs.Runs.{IsOrderly, MaySlot, orderly, slot_done, turn_done}
use Rattle.cany_model.proofs.Runs.Steps.{MayTurn}
use Rattle.cany_model.proofs.Timed.Detector.NoRestarts.{restarts_none}

-- what a step from this state has to keep
pub record KeepsFrom (scenario : ScenarioParts) (P : RunState → Type 0) (s : RunState) : Type 0 where
  pub slot : MaySlot scenario s → P s → P (after_slot (script scenario.rules) s)
  pub turn : (i : ℕ) → MayTurn s i → P s → P (after_turn scenario i s)

done_step : (scenario : ScenarioParts) → scenario.restarts ≡ [] → (P : RunState → Type 0) (s : RunState) → IsOrderly scenario.params.nodes s
    → KeepsFrom scenario P s → P s → (next : Step) → is_done (reply scenario s next) ≡ true → P (proceed scenario s next)
unfolding proceed
done_step scenario none P s o keeps p step.Slot done =
    subst P (sym (restarts_none scenario none (after_slot (script scenario.rules) s))) (keeps.slot (slot_done scenario s done) p)
done_step scenario none P s o keeps p (step.Turn i) done = keeps.turn i (turn_done scenario s i o.count done) p

any_step : (scenario : ScenarioParts) → scenario.restarts ≡ [] → (P : RunState → Type 0) (s : RunState) → IsOrderly scenario.params.nodes s
    → KeepsFrom scenario P s → P s → (next : Step) → P (after_step scenario s next)
any_step scenario none P s o keeps p next = elim (cases_Bool (is_done (reply scenario s next))) [
  | inl done ↦ subst P (sym (step_is scenario s next done)) (done_step scenario none P s o keeps p next done)
  | inr refused ↦ subst P (sym (step_refused scenario s next refused)) p
]

-- what holds after a front of the journal, and is kept by the steps from each later one, holds
-- after it
pub from_front : (scenario : ScenarioParts) → scenario.restarts ≡ [] → (P : RunState → Type 0) (journal : List Step)
    → ((front rest : List Step) → journal ≡ front ++ rest → KeepsFrom scenario P (run scenario front))
    → (front rest : List Step) → journal ≡ front ++ rest → P (run scenario front) → P (run scenario journal)
from_front scenario none P journal keeps front [] e p = subst (λ j. P (run scenario j)) (sym (e ∙ append-nil front)) p
from_front scenario none P journal keeps front (next ∷ rest) e p =
    from_front scenario none P journal keeps (front ++ next ∷ []) rest (e ∙ sym (append_assoc front (next ∷ []) rest))
    (subst P (sym (run_push scenario (opening scenario.params.nodes) front next))
    (any_step scenario none P (run scenario front) (orderly scenario front) (keeps front (next ∷ rest) e) p next))

-- what holds at first, and is kept by the steps from each front of the journal, holds after it
pub along_fronts : (scenario : ScenarioParts) → scenario.restarts ≡ [] → (P : RunState → Type 0) (journal : List Step)
    → P (opening scenario.params.nodes)
    → ((front rest : List Step) → journal ≡ front ++ rest → KeepsFrom scenario P (run scenario front)) → P (run scenario journal)
along_fronts scenario none P journal first keeps =
    from_front scenario none P journal keeps [] journal refl (subst P (sym (run_none scenario (opening scenario.params.nodes))) first)
