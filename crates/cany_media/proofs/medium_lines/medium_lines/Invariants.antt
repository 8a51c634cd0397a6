use Rattle.std.proofs.Common.{◌≡◌, take}
use Rattle.cany_media.specs.MediaText.{medium_lines}
use Rattle.cany_media.proofs.medium_lines.medium_lines.Given as goal

-- the lines of the faults so far
abbrev pub invariant-loop-fault : goal.invariant-loop-fault
invariant-loop-fault l = l.text.items ≡ medium_lines (take l.fault-index l.faults)
