use Rattle.std.proofs.Common.{◌≡◌, ◌+◌, vec_len, vec_capacity}
use Rattle.cany_crew.proofs.AssignmentFacts.{AreFilled}
use Rattle.cany_crew.proofs.assigning.fill_assignments.Given as goal

abbrev pub invariant-loop-i : goal.invariant-loop-i
invariant-loop-i g l =
    (vec_len l.seats + l.i ≡ vec_len l.fn.seats)
    × (vec_len l.gates + l.i ≡ vec_len l.fn.gates)
    × (vec_len l.assignments ≡ l.i + 1)
    × (vec_capacity l.assignments ≡ vec_capacity l.fn.assignments)
    × (vec_capacity l.gates ≡ vec_capacity l.fn.gates)
    × AreFilled g.G.Gate.refusals l.i l.assignments.items l.gates.items l.fn.gates.items l.seats.items
