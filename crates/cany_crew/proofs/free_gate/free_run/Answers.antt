use Rattle.std.proofs.Common.{◌≡◌, ℕ, List, Option, None, map, refl, Result, Ok, Err, IfErr}
use Rattle.cany_crew.specs.declared.crew.CrewFault.{CrewFault}
use Rattle.cany_crew.specs.declared.crew.CrewFault.TheVariants.{Held, Memory}
use Rattle.cany_crew.specs.Gates.{IsHeldAt}
use Rattle.cany_crew.specs.Held.{IfHeld, IfMemory, IsMemory, world_of}
use Rattle.cany_crew.proofs.GateFacts.{free_refuse_none}
use Rattle.cany_crew.proofs.free_gate.free_run.Goals as goal
use Rattle.cany_world.specs.World.{WorldParts}

no_refusal : {X : Type 0} (refusals : X → ℕ) → ((gate : X) → refusals gate ≡ 0) → (old new : List X) (last : List (Option ℕ)) (world : WorldParts) (r : Result WorldParts CrewFault)
    → IfErr r (λ fault. IfHeld fault (λ node slot. IsHeldAt node slot (map refusals old) (map refusals new) last))
    → IfErr r (λ fault. IfMemory fault (λ back. back ≡ world)) → IfErr r (λ fault. IsMemory fault × (world_of fault ≡ world))
no_refusal refusals free old new last world (Ok ended) held memory = tt
no_refusal refusals free old new last world (Err (Held back node slot)) held memory = absurd (free_refuse_none refusals free old new node held.refused)
no_refusal refusals free old new last world (Err (Memory back)) held memory = (tt, memory)

pub returns-clause-memory : goal.returns-clause-memory
returns-clause-memory g c =
    no_refusal (λ gate. 0) (λ gate. refl) c.args.gates.now.items c.crew_run.new.gates.items
    (map (λ gate. None) c.crew_run.new.gates.items) c.args.world c.crew_run.result c.crew_run.ensures.held
    c.crew_run.ensures.memory
