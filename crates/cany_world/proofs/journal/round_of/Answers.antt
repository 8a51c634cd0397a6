use Rattle.std.proofs.Common.{◌≡◌, suc, ◌+◌, ◌-◌, ◌++◌, Bool, true, false, List, [], ◌∷◌, length, take, refl, ap, sym, subst, ◌∙◌, arith, length-set}
use Rattle.std.specs.Prelude.{is_none, not}
use Rattle.std.proofs.lemmas.List.{take_more_set}
use Rattle.cany_base.specs.declared.step.Step.{Step}
use Rattle.cany_base.specs.declared.step.Step.TheVariants.{Turn}
use Rattle.can_controller.specs.Controller.{ControllerState}
use Rattle.cany_world.specs.Resting.{round_of, runs_at}
use Rattle.cany_world.proofs.Idle.JournalRounds.{IsInSteps, not_not, round_begun, runs_here, turn_left_out, turn_pushed, turns_from}
use Rattle.cany_world.proofs.PlaceFacts.{found}
use Rattle.cany_world.proofs.journal.round_of.Goals.{then-is_none, else-is_none}
use Rattle.cany_world.proofs.journal.round_of.Goals as goal

pub loop-i-init : goal.loop-i-init
loop-i-init c = record {
  steps = round_begun c.args.controllers.now [] _ _ (omega arith) refl;
  few = omega arith;
  len = refl;
}

pub loop-i-preserved : goal.loop-i-preserved
loop-i-preserved c =
    let row : List ControllerState = c.args.controllers.now in
    let at = found row row c.loop-i.i c.loop-i.i c.index-controllers-i.result refl refl (omega (arith, c.loop-i-test.true)) c.index-controllers-i.is in
    let left : length row - c.loop-i.i ≡ suc (length row - (c.loop-i.i + 1)) = omega (arith, c.loop-i-test.true) in
    let test : (b : Bool) → c.is_none.result ≡ b → runs_at row c.loop-i.i ≡ b =
    λ b e. runs_here row c.loop-i.i c.index-controllers-i.result at b
    (ap is_none (sym c.stopped.ensures) ∙ ap not c.is_none.ensures ∙ not_not c.is_none.result ∙ e) in
    let now : List Step = take c.loop-i.count c.loop-i.steps in
    elim c.if-is_none.branch [
      | then-is_none w ↦
          let more : take (c.loop-i.count + 1) c.if-is_none.steps ≡ now ++ Turn c.loop-i.i ∷ [] =
          ap (λ (l : List Step). take (c.loop-i.count + 1) l) w.steps-is
          ∙ take_more_set c.loop-i.steps c.loop-i.count (Turn w.of_index.result) (omega (arith, c.loop-i.invariant.few, c.loop-i.invariant.len, c.requires, c.loop-i-test.true))
          ∙ ap (λ k. now ++ Turn k ∷ []) w.of_index.ensures in
          record {
            steps =
                turn_pushed row (round_of row) now (take c.if-is_none.count c.if-is_none.steps) c.loop-i.i (length row - c.loop-i.i) (length row - (c.loop-i.i + 1))
                c.loop-i.invariant.steps left (test true w.if-is_none.true)
                (ap (λ n. take n c.if-is_none.steps) w.count-is ∙ more);
            few = omega (arith, c.loop-i.invariant.few, w.count-is);
            len = ap (λ (l : List Step). length l) w.steps-is ∙ length-set c.loop-i.steps c.loop-i.count (Turn w.of_index.result) ∙ c.loop-i.invariant.len;
          }
      | else-is_none w ↦
          let same : now ≡ take c.if-is_none.count c.if-is_none.steps =
          ap (λ n. take n c.loop-i.steps) (sym w.count-is) ∙ ap (λ (l : List Step). take c.if-is_none.count l) (sym w.steps-is) in
          record {
            steps =
                subst (λ (now : List Step). IsInSteps (round_of row) now (turns_from row (c.loop-i.i + 1) (length row - (c.loop-i.i + 1)))) same
                (turn_left_out row (round_of row) now c.loop-i.i (length row - c.loop-i.i) (length row - (c.loop-i.i + 1)) c.loop-i.invariant.steps left
                (test false w.if-is_none.false));
            few = omega (arith, c.loop-i.invariant.few, w.count-is);
            len = ap (λ (l : List Step). length l) w.steps-is ∙ c.loop-i.invariant.len;
          }
    ]
