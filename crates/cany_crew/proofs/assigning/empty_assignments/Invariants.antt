use Rattle.std.proofs.Common.{◌≡◌, ◌+◌, vec_len, vec_capacity}
use Rattle.std.specs.Prelude.{is_some}
use Rattle.cany_crew.proofs.AssignmentFacts.{AreEmptied}
use Rattle.cany_crew.proofs.assigning.empty_assignments.Given as goal

abbrev pub invariant-loop-assignments : goal.invariant-loop-assignments
invariant-loop-assignments g l =
    (vec_capacity l.seats ≡ vec_capacity l.fn.seats)
    × (vec_capacity l.gates ≡ vec_capacity l.fn.gates)
    × (vec_len l.gates + vec_len l.fn.seats ≡ vec_len l.fn.gates + vec_len l.seats)
    × AreEmptied g.G.Gate.refusals g.G.Gate.refused_at (is_some l.of_bus) l.fn.assignments.items l.assignments.items l.fn.gates.items l.gates.items (vec_len l.fn.seats) (vec_len l.seats)

abbrev pub decreases-loop-assignments : goal.decreases-loop-assignments
decreases-loop-assignments g l = goal.left-loop-assignments g l
