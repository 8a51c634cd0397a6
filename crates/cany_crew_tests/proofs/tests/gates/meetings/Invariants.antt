use Rattle.std.proofs.Common.{◌≡◌, vec_len}
use Rattle.cany_crew_tests.proofs.tests.gates.meetings.Given as goal

abbrev pub invariant-loop : goal.invariant-loop
invariant-loop l = vec_len l.gates ≡ l.counter
