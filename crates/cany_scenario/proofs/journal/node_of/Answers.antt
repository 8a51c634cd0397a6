use Rattle.std.proofs.Common.{arith}
use Rattle.std.proofs.lemmas.Bool.Decides.{nat_tests}
use Rattle.cany_scenario.proofs.journal.node_of.Goals as goal

pub returns-in-43 : goal.returns-in-43
returns-in-43 c = grind (arith, nat_tests)

pub returns-in-45 : goal.returns-in-45
returns-in-45 c = grind (arith, nat_tests)

pub returns-in-48-to-57 : goal.returns-in-48-to-57
returns-in-48-to-57 c = grind (arith, nat_tests)

pub returns-in-65-to-90 : goal.returns-in-65-to-90
returns-in-65-to-90 c = grind (arith, nat_tests)

pub returns-in-97-to-122 : goal.returns-in-97-to-122
returns-in-97-to-122 c = grind (arith, nat_tests)

pub returns-in_default : goal.returns-in_default
returns-in_default c = grind (arith, nat_tests)
