use Rattle.std.proofs.Common.{◌≡◌, drop}
use Rattle.std.specs.List.{list_any}
use Rattle.cany_model.specs.Rules.Messages.{frames_named}
use Rattle.cany_world.specs.Controllers.{awaits}
use Rattle.cany_world.proofs.settled.is_awaited.Given as goal

abbrev pub invariant-loop-i : goal.invariant-loop-i
invariant-loop-i l = list_any (awaits (frames_named l.service l.key)) (drop l.i l.controllers) ≡ list_any (awaits (frames_named l.service l.key)) l.controllers
