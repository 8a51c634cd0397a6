use Rattle.std.proofs.Common.{◌≡◌, drop}
use Rattle.cany_crew.specs.Assignments.{first_refused}
use Rattle.cany_crew.proofs.assigning.first_refused.Given as goal

abbrev pub invariant-loop-assignment : goal.invariant-loop-assignment
invariant-loop-assignment g l = first_refused (drop l.assignment-index l.assignments) ≡ first_refused l.assignments
