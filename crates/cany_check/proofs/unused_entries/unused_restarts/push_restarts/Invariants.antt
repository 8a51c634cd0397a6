use Rattle.std.proofs.Common.{◌≡◌, [], ◌∷◌, ◌++◌, take}
use Rattle.std.specs.Prelude.{if◌then◌else◌}
use Rattle.cany_world.specs.World.{state_of}
use Rattle.cany_check.specs.declared.unused_entries.unused_entry.UnusedEntry.TheVariants as entry
use Rattle.cany_check.specs.Idle.Unused.{is_unused_restart, with_places}
use Rattle.cany_check.proofs.unused_entries.unused_restarts.push_restarts.Given as goal

abbrev pub invariant-loop-place : goal.invariant-loop-place
invariant-loop-place l =
    l.found.items ≡ l.fn.found.items
    ++ with_places (λ ask. if is_unused_restart (state_of l.world) ask then entry.Restart ∷ [] else []) (λ e. e) 0 (take l.place l.restarts)
