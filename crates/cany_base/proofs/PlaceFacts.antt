-- The test of places tells whether they are equal.
use Rattle.std.proofs.Common.{◌≡◌, true, arith}
use Rattle.std.proofs.lemmas.Grind.{common_steps}
use Rattle.cany_base.specs.declared.rule.Place.{Place}
use Rattle.cany_base.specs.Scenario.{same_place}

pub same_place-true : (a b : Place) → same_place a b ≡ true → a ≡ b
same_place-true a b h = grind (arith, common_steps)

pub same_place_self : (a : Place) → same_place a a ≡ true
same_place_self a = grind (arith, common_steps)
