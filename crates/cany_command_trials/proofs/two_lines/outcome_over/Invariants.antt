use Rattle.std.proofs.Common.{◌≡◌}
use Rattle.cany_base.specs.declared.format.Format.TheVariants.{Two}
use Rattle.cany_command_trials.proofs.two_lines.outcome_over.Given as goal

abbrev pub invariant-loop-word : goal.invariant-loop-word
invariant-loop-word l = l.offers.format ≡ Two
