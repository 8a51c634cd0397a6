use Rattle.std.proofs.Common.{◌≡◌}
use Rattle.cany_base.specs.declared.format.Format.TheVariants.{Two}
use Rattle.cany_low_tests.proofs.tests.arbitration.put_all.Given as goal

abbrev pub invariant-loop-offer : goal.invariant-loop-offer
invariant-loop-offer l = l.offers.format ≡ Two
