use Rattle.std.proofs.Common.{ap, ◌∙◌}
use Rattle.cany_check.specs.Idle.Unused.{attempt_slot}
use Rattle.cany_check.proofs.unused_entries.attempts.AttemptSlots.last.Goals as goal

pub returns : goal.returns
returns c =
    λ named trace x are h e.
    c.slot.ensures named trace x are h e ∙ ap (λ n. attempt_slot x n trace) (c.count.ensures named trace x are h e)
