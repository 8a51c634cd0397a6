use Rattle.std.proofs.Common.{◌≡◌, drop}
use Rattle.std.specs.Prelude.{find}
use Rattle.cany_model.specs.Runs.Incarnations.{incarnations}
use Rattle.cany_world.specs.World.{state_of}
use Rattle.cany_check.specs.Idle.Unused.{read_notice}
use Rattle.cany_check.proofs.unused_entries.presence.reader_since.Given as goal

abbrev pub invariant-loop-back : goal.invariant-loop-back
invariant-loop-back l =
    find (read_notice l.slot) (drop l.back (incarnations (state_of l.world) l.node)) ≡ find (read_notice l.slot) (incarnations (state_of l.world) l.node)
