use Rattle.std.proofs.Common.{◌≡◌, vec_len}
use Rattle.cany_command_trials.proofs.gates.meetings.Given as goal

abbrev pub invariant-loop : goal.invariant-loop
invariant-loop l = vec_len l.gates ≡ l.counter
