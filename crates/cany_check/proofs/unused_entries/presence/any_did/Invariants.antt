use Rattle.std.proofs.Common.{◌≡◌, drop}
use Rattle.std.specs.List.{list_any}
use Rattle.cany_model.specs.Runs.Incarnations.{incarnations}
use Rattle.cany_world.specs.World.{state_of}
use Rattle.cany_check.specs.Idle.Presence.{did}
use Rattle.cany_check.proofs.unused_entries.presence.any_did.Given as goal

abbrev pub invariant-loop-back : goal.invariant-loop-back
invariant-loop-back l =
    list_any (did l.activity l.slot) (drop l.back (incarnations (state_of l.world) l.node)) ≡ list_any (did l.activity l.slot) (incarnations (state_of l.world) l.node)
