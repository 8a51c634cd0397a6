-- A given journal, as a world follows it.
use Rattle.std.proofs.Common.{◌≡◌, ℕ, ◌+◌, ◌<◌, Bool, true, false, List, [], ◌∷◌, ◌++◌, length, get_or, sym, ap, ◌∙◌, subst}
use Rattle.std.specs.Prelude.{if◌then◌else◌, Option, Some, None}
use Rattle.cany_base.specs.declared.step.Step.{Step}
use Rattle.cany_base.specs.Scenario.{ScenarioParts}
use Rattle.cany_model.specs.declared.follow.FollowFault.{FollowFault}
use Rattle.cany_model.specs.declared.follow.FollowFault.TheVariants.{Refused, Unfinished}
use Rattle.cany_model.specs.declared.reply.StepReply.{StepReply}
use Rattle.cany_model.specs.declared.reply.StepReply.TheVariants.{Done}
use Rattle.cany_model.specs.Runs.Follow.{first_unread, journal_fault, steps_made}
use Rattle.cany_model.specs.Runs.Run.{has_ended, is_done, reply, run}
use Rattle.cany_model.specs.Bus.State.{slots_run}
use Rattle.cany_model.proofs.Runs.Following.{IsFollowed, IsFaultOf, followed_more, followed_refused, followed_whole, followed_part}
use Rattle.cany_world.specs.World.{WorldParts, state_of}
use Rattle.cany_world.proofs.JournalFacts.{made, refused}

-- the scenario stays, and the first steps of the journal were made
pub record IsAlong (before now : WorldParts) (journal : List Step) (place : ℕ) : Type 0 where
  pub scenario : now.scenario ≡ before.scenario
  pub steps : IsFollowed before.scenario journal now.journal place

-- what the fault and the world are at the end
pub record EndsWith (before new : WorldParts) (journal : List Step) (fault : Option FollowFault) : Type 0 where
  pub is : journal_fault before.scenario journal ≡ fault
  pub made : new ≡ record { scenario = before.scenario; journal = steps_made journal (journal_fault before.scenario journal) }

ends : (before new : WorldParts) (journal : List Step) (fault : Option FollowFault) → new.scenario ≡ before.scenario → IsFaultOf before.scenario journal new.journal fault
    → EndsWith before new journal fault
ends before new journal fault same of = record {
  is = of.is;
  made = λ k. record { scenario = same k; journal = (of.steps ∙ ap (steps_made journal) (sym of.is)) k };
}

-- the reply to the step at this place
module _ (before now new : WorldParts) (journal : List Step) (place : ℕ) (step : Step) (r : StepReply) (so : IsAlong before now journal place) (within : place < length journal)
    (at : step ≡ get_or journal place step) (is : r ≡ reply now.scenario (state_of now) step) (e : new ≡ (if is_done r then record now { journal = now.journal ++ step ∷ [] } else now)) where
  replies : r ≡ reply before.scenario (run before.scenario now.journal) step
  replies = is ∙ ap (λ (s : ScenarioParts). reply s (run s now.journal) step) so.scenario

  next : (new.scenario ≡ now.scenario) × (new.journal ≡ (if is_done r then now.journal ++ step ∷ [] else now.journal))
  next = made now new (now.journal ++ step ∷ []) (is_done r) e

  pub along_more : r ≡ Done → IsAlong before new journal (place + 1)
  along_more done = record {
    scenario = next.0 ∙ so.scenario;
    steps = followed_more before.scenario journal now.journal new.journal place step so.steps within at (ap is_done (sym replies ∙ done)) (rw done at next.1);
  }

  pub along_refused : (r ≡ Done → ⊥) → EndsWith before new journal (Some (Refused place r))
  along_refused no_such =
      let still : new.journal ≡ now.journal = rw (refused r no_such) at next.1 in
      ends before new journal (Some (Refused place r)) (next.0 ∙ so.scenario)
      (subst (λ (steps : List Step). IsFaultOf before.scenario journal steps (Some (Refused place r))) (sym still)
      (followed_refused before.scenario journal now.journal place step r so.steps within at replies (refused r no_such)))

pub along_whole : (before now : WorldParts) (journal : List Step) (place : ℕ) (ended : Bool) → IsAlong before now journal place → place ≡ length journal
    → ended ≡ has_ended now.scenario (state_of now) → ended ≡ true → EndsWith before now journal None
along_whole before now journal place ended so all is over =
    ends before now journal None so.scenario
    (followed_whole before.scenario journal now.journal place so.steps all
    (sym (ap (λ (s : ScenarioParts). has_ended s (run s now.journal)) so.scenario) ∙ sym is ∙ over))

pub along_part : (before now : WorldParts) (journal : List Step) (place : ℕ) (ended : Bool) (ran : ℕ) (node : Option ℕ) → IsAlong before now journal place → place ≡ length journal
    → ended ≡ has_ended now.scenario (state_of now) → ended ≡ false → ran ≡ slots_run (state_of now) → node ≡ first_unread (state_of now)
    → EndsWith before now journal (Some (Unfinished ran node))
along_part before now journal place ended ran node so all is left slots unread =
    let here : state_of now ≡ run before.scenario now.journal = ap (λ (s : ScenarioParts). run s now.journal) so.scenario in
    ends before now journal (Some (Unfinished ran node)) so.scenario
    (followed_part before.scenario journal now.journal place ran node so.steps all
    (sym (ap (λ (s : ScenarioParts). has_ended s (run s now.journal)) so.scenario) ∙ sym is ∙ left)
    (slots ∙ ap slots_run here) (unread ∙ ap first_unread here))
