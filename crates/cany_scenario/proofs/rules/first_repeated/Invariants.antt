use Rattle.std.proofs.Common.{◌≡◌, ◌<◌, ℕ, false, take}
use Rattle.std.specs.HashSet.{contains}
use Rattle.cany_base.specs.declared.rule.Place.{Place}
use Rattle.cany_base.specs.declared.rule.Rule.{Rule}
use Rattle.cany_text.specs.FaultsText.{repeats}
use Rattle.cany_text.proofs.FirstAfter.{holds_at}
use Rattle.cany_scenario.proofs.PlacesFacts.{is_equal, has_place}
use Rattle.cany_scenario.proofs.rules.first_repeated.Given as goal

-- no rule so far has the place of an earlier one, and the set has their places
abbrev pub invariant-loop-index : goal.invariant-loop-index
invariant-loop-index l = record {
  apart : (k : ℕ) (d : Rule) → k < l.index → holds_at repeats l.rules k d ≡ false;
  seen : (place : Place) → contains is_equal l.places place ≡ has_place (take l.index l.rules) place;
}
