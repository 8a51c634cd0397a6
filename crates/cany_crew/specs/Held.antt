-- Why a crew gave no ended world.
use Rattle.std.specs.Prelude.{ℕ}
use Rattle.cany_world.specs.World.{WorldParts}
use Rattle.cany_crew.specs.declared.crew.CrewFault.{CrewFault}
use Rattle.cany_crew.specs.declared.crew.CrewFault.TheVariants.{Held, Memory}

-- the fact holds of the node and the slot of the pass that was refused; want of memory says nothing
abbrev pub IfHeld : CrewFault → ((node slot : ℕ) → Type 0) → Type 0
IfHeld (Held world node slot) Fact = Fact node slot
IfHeld (Memory world) Fact = Unit {0}

-- the fact holds of the world for which there was no memory; a refusal says nothing
abbrev pub IfMemory : CrewFault → (WorldParts → Type 0) → Type 0
IfMemory (Held world node slot) Fact = Unit {0}
IfMemory (Memory world) Fact = Fact world

-- there was no memory
abbrev pub IsMemory : CrewFault → Type 0
IsMemory (Held world node slot) = ⊥
IsMemory (Memory world) = Unit {0}

-- the world that is handed back
abbrev pub world_of : CrewFault → WorldParts
world_of (Held world node slot) = world
world_of (Memory world) = world
