use Rattle.std.proofs.Common.{◌≡◌, ◌++◌, take}
use Rattle.cany_world.specs.World.{state_of}
use Rattle.cany_check.specs.Idle.Asks.{ask_class, ask_entry}
use Rattle.cany_check.specs.Idle.Unused.{as_list, unused_ask, with_places}
use Rattle.cany_check.proofs.unused_entries.unused_asks.push_asks.Given as goal

abbrev pub invariant-loop-place : goal.invariant-loop-place
invariant-loop-place l =
    l.found.items ≡ l.fn.found.items
    ++ with_places (λ ask. as_list (unused_ask l.world.scenario (state_of l.world) (ask_class l.kind) ask)) (ask_entry l.kind) 0 (take l.place l.asks)
