-- A step of a world, and the turns and the slots of a journal.
use Rattle.std.specs.Prelude.{ℕ, Bool, true, false, List, [], ◌∷◌, ◌++◌, count_by, if◌then◌else◌}
use Rattle.cany_base.specs.declared.step.Step.{Step}
use Rattle.cany_base.specs.declared.step.Step.TheVariants.{Slot, Turn}
use Rattle.cany_model.specs.Runs.Run.{after_step, reply}
use Rattle.cany_model.specs.Bus.State.{RunState}
use Rattle.cany_model.specs.declared.reply.StepReply.{StepReply}
use Rattle.cany_world.specs.World.{WorldParts, state_of}

-- ---- a step

-- the reply to the step, and the state of the run after it
abbrev pub reply_in : WorldParts → Step → StepReply
reply_in world step = reply world.scenario (state_of world) step

abbrev pub state_after : WorldParts → Step → RunState
state_after world step = after_step world.scenario (state_of world) step

-- the world after the step, which is in its journal if it was done
abbrev pub world_after : Bool → WorldParts → Step → WorldParts
world_after done world step = if done then record world { journal = world.journal ++ step ∷ [] } else world

-- ---- a journal

abbrev pub is_slot : Step → Bool
is_slot Slot = true
is_slot (Turn node) = false

abbrev pub is_turn : Step → Bool
is_turn Slot = false
is_turn (Turn node) = true

-- how many slots the journal has, and how many turns of whatever node
abbrev pub slots_in : List Step → ℕ
slots_in journal = count_by is_slot journal

abbrev pub turns_in : List Step → ℕ
turns_in journal = count_by is_turn journal
