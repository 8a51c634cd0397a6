use Rattle.std.proofs.Common.{◌≡◌, ◌++◌, take}
use Rattle.cany_watch.proofs.publishing.take_all.Given as goal

abbrev pub invariant-loop-entry : goal.invariant-loop-entry
invariant-loop-entry l = l.publisher ≡ record l.fn.publisher { taken = l.fn.publisher.taken ++ take l.entry-index l.entries }
