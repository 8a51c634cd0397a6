-- Following a journal step by step: what is left to do after the first steps, and what its end
-- says.
use Rattle.std.specs.Prelude.{◌≡◌, ℕ, suc, ◌+◌, ◌<◌, ◌≤◌, true, false, List, [], ◌∷◌, ◌++◌, length, take, drop, Option, Some, None, refl}
use Rattle.std.proofs.Common.{sym, ap, ◌∙◌, arith, add-one, drop-cons, get_or}
use Rattle.std.proofs.lemmas.List.{drop_all, take_all}
use Rattle.std.proofs.Math.Seq.{take-suc}
use Rattle.cany_base.specs.declared.step.Step.{Step}
use Rattle.cany_base.specs.Scenario.{ScenarioParts}
use Rattle.cany_model.specs.declared.follow.FollowFault.{FollowFault}
use Rattle.cany_model.specs.declared.follow.FollowFault.TheVariants.{Refused, Unfinished}
use Rattle.cany_model.specs.declared.reply.StepReply.{StepReply}
use Rattle.cany_model.specs.Runs.Follow.{first_refused_from, first_refused, undone, or_undone, journal_fault, steps_made, first_unread}
use Rattle.cany_model.specs.Runs.Run.{reply, is_done, after_step, run, run_from, has_ended}
use Rattle.cany_model.specs.Bus.State.{RunState, opening, slots_run}
use Rattle.cany_model.proofs.Runs.Journals.{run_push}

refused_next : (scenario : ScenarioParts) (s : RunState) (place : ℕ) (step : Step) (rest : List Step) → is_done (reply scenario s step) ≡ true
    → first_refused_from scenario s place (step ∷ rest) ≡ first_refused_from scenario (after_step scenario s step) (place + 1) rest
unfolding first_refused_from
refused_next scenario s place step rest done = rw done refl

refused_here : (scenario : ScenarioParts) (s : RunState) (place : ℕ) (step : Step) (rest : List Step) → is_done (reply scenario s step) ≡ false
    → first_refused_from scenario s place (step ∷ rest) ≡ Some (Refused place (reply scenario s step))
unfolding first_refused_from
refused_here scenario s place step rest refused = rw refused refl

refused_never : (scenario : ScenarioParts) (s : RunState) (place : ℕ) → first_refused_from scenario s place [] ≡ None
unfolding first_refused_from
refused_never scenario s place = refl

-- the first steps of the journal were made, each of them done
pub record IsFollowed (scenario : ScenarioParts) (journal made : List Step) (place : ℕ) : Type 0 where
  pub steps : made ≡ take place journal
  pub left : first_refused_from scenario (run scenario made) place (drop place journal) ≡ first_refused scenario journal

pub followed_none : (scenario : ScenarioParts) (journal made : List Step) → made ≡ [] → IsFollowed scenario journal made 0
unfolding run_from
followed_none scenario journal made e = record {
  steps = e;
  left = ap (λ j. first_refused_from scenario (run scenario j) 0 journal) e;
}

at_place : (journal : List Step) (place : ℕ) (step : Step) → place < length journal → step ≡ get_or journal place step
    → drop place journal ≡ step ∷ drop (place + 1) journal
at_place journal place step within e = rw add-one (drop-cons journal place step within ∙ ap (λ x. x ∷ drop (suc place) journal) (sym e))

pub followed_more : (scenario : ScenarioParts) (journal made next : List Step) (place : ℕ) (step : Step) → IsFollowed scenario journal made place
    → place < length journal → step ≡ get_or journal place step → is_done (reply scenario (run scenario made) step) ≡ true
    → next ≡ made ++ step ∷ [] → IsFollowed scenario journal next (place + 1)
followed_more scenario journal made next place step so within e done is =
    let s : RunState = run scenario made in
    let to : run scenario next ≡ after_step scenario s step = ap (run scenario) is ∙ run_push scenario (opening scenario.params.nodes) made step in
    record {
      steps = is ∙ ap (λ t. t ++ step ∷ []) so.steps ∙ ap (λ x. take place journal ++ x ∷ []) e
          ∙ sym (rw add-one (take-suc journal place step within));
      left = ap (λ (t : RunState). first_refused_from scenario t (place + 1) (drop (place + 1) journal)) to
          ∙ sym (refused_next scenario s place step (drop (place + 1) journal) done)
          ∙ ap (first_refused_from scenario s place) (sym (at_place journal place step within e))
          ∙ so.left;
    }

-- what the fault says of the steps that are made
pub record IsFaultOf (scenario : ScenarioParts) (journal made : List Step) (fault : Option FollowFault) : Type 0 where
  pub is : journal_fault scenario journal ≡ fault
  pub steps : made ≡ steps_made journal fault

pub followed_refused : (scenario : ScenarioParts) (journal made : List Step) (place : ℕ) (step : Step) (answer : StepReply) → IsFollowed scenario journal made place
    → place < length journal → step ≡ get_or journal place step → answer ≡ reply scenario (run scenario made) step → is_done answer ≡ false
    → IsFaultOf scenario journal made (Some (Refused place answer))
unfolding journal_fault
followed_refused scenario journal made place step answer so within e is refused =
    let s : RunState = run scenario made in
    let first : first_refused scenario journal ≡ Some (Refused place answer) =
    sym so.left
    ∙ ap (first_refused_from scenario s place) (at_place journal place step within e)
    ∙ refused_here scenario s place step (drop (place + 1) journal) (ap is_done (sym is) ∙ refused)
    ∙ ap (λ r. Some (Refused place r)) (sym is) in
    record {
      is = ap (λ o. or_undone o (undone scenario (run scenario journal))) first;
      steps = so.steps;
    }

-- all steps were done
all_done : (scenario : ScenarioParts) (journal made : List Step) (place : ℕ) → IsFollowed scenario journal made place → place ≡ length journal
    → (made ≡ journal) × (first_refused scenario journal ≡ None)
all_done scenario journal made place so e =
    let short : length journal ≤ place = omega (arith, e) in (
      so.steps ∙ take_all place journal short,
      sym so.left ∙ ap (first_refused_from scenario (run scenario made) place) (drop_all place journal short) ∙ refused_never scenario (run scenario made) place,
    )

pub followed_whole : (scenario : ScenarioParts) (journal made : List Step) (place : ℕ) → IsFollowed scenario journal made place → place ≡ length journal
    → has_ended scenario (run scenario made) ≡ true → IsFaultOf scenario journal made None
unfolding journal_fault
followed_whole scenario journal made place so e ended =
    let all = all_done scenario journal made place so e in
    let over : has_ended scenario (run scenario journal) ≡ true = ap (λ j. has_ended scenario (run scenario j)) (sym all.0) ∙ ended in
    record {
      is = ap (λ o. or_undone o (undone scenario (run scenario journal))) all.1 ∙ rw over refl;
      steps = all.0;
    }

pub followed_part : (scenario : ScenarioParts) (journal made : List Step) (place : ℕ) (ran : ℕ) (node : Option ℕ) → IsFollowed scenario journal made place → place ≡ length journal
    → has_ended scenario (run scenario made) ≡ false → ran ≡ slots_run (run scenario made) → node ≡ first_unread (run scenario made)
    → IsFaultOf scenario journal made (Some (Unfinished ran node))
unfolding journal_fault
followed_part scenario journal made place ran node so e open_still slots unread =
    let all = all_done scenario journal made place so e in
    let left : has_ended scenario (run scenario journal) ≡ false = ap (λ j. has_ended scenario (run scenario j)) (sym all.0) ∙ open_still in
    let fault : Unfinished (slots_run (run scenario journal)) (first_unread (run scenario journal)) ≡ Unfinished ran node =
    ap (λ j. Unfinished (slots_run (run scenario j)) (first_unread (run scenario j))) (sym all.0)
    ∙ ap (λ k. Unfinished k (first_unread (run scenario made))) (sym slots) ∙ ap (λ o. Unfinished ran o) (sym unread) in
    record {
      is = ap (λ o. or_undone o (undone scenario (run scenario journal))) all.1 ∙ rw left (ap (λ f. Some f) fault);
      steps = all.0;
    }
