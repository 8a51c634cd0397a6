-- The journal of a world after a step, by the reply to it.
use Rattle.std.proofs.Common.{◌≡◌, ℕ, Bool, true, false, List, ap, refl}
use Rattle.std.specs.Prelude.{if◌then◌else◌}
use Rattle.cany_base.specs.declared.step.Step.{Step}
use Rattle.cany_model.specs.declared.reply.StepReply.{StepReply}
use Rattle.cany_model.specs.declared.reply.StepReply.TheVariants.{Done, Lagging, Over, NothingYet, Stopped, NoNode}
use Rattle.cany_model.specs.Runs.Run.{is_done}
use Rattle.cany_node.specs.declared.reply.TurnReply.{TurnReply}
use Rattle.cany_node.specs.declared.reply.TurnReply.TheVariants as turn
use Rattle.cany_node.specs.declared.reply.TurnReply.TheVariants.{Turned}
use Rattle.cany_world.specs.Replies.{has_turned, step_reply}
use Rattle.cany_world.specs.World.{WorldParts}

pub refused : (r : StepReply) → (r ≡ Done → ⊥) → is_done r ≡ false
refused Done no_such = absurd (no_such refl)
refused (Lagging node unread) no_such = refl
refused (Over slots) no_such = refl
refused (NothingYet now) no_such = refl
refused (Stopped slot) no_such = refl
refused (NoNode node) no_such = refl

-- a turn that is not made is a step that is not done
pub turn_refused : (r : TurnReply) → ((slot : ℕ) → r ≡ Turned slot → ⊥) → is_done (step_reply r) ≡ false
turn_refused (Turned slot) no_such = absurd (no_such slot refl)
turn_refused (turn.NothingYet now) no_such = refl
turn_refused (turn.Stopped slot) no_such = refl

-- a turn is made where it is done as a step
pub turned_done : (r : TurnReply) → has_turned r ≡ is_done (step_reply r)
turned_done (Turned slot) = refl
turned_done (turn.NothingYet now) = refl
turned_done (turn.Stopped slot) = refl

-- where the steps are made, they are the journal, and the scenario stays
pub made : (old new : WorldParts) (steps : List Step) (b : Bool) → new ≡ (if b then record old { journal = steps } else old)
    → (new.scenario ≡ old.scenario) × (new.journal ≡ (if b then steps else old.journal))
made old new steps true e = (ap (λ (w : WorldParts). w.scenario) e, ap (λ (w : WorldParts). w.journal) e)
made old new steps false e = (ap (λ (w : WorldParts). w.scenario) e, ap (λ (w : WorldParts). w.journal) e)
