-- The places of rules, as a set of places has them.
use Rattle.std.proofs.Common.{◌≡◌, ℕ, ◌+◌, ◌<◌, Bool, true, false, ◌||◌, not, cond, List, [], ◌∷◌, take, length, get_or, refl, ap, sym, ◌∙◌, arith}
use Rattle.std.specs.Bool.{Decides}
use Rattle.std.specs.List.{list_any}
use Rattle.std.proofs.lemmas.Bool.Decides.{same_from_decides}
use Rattle.std.proofs.lemmas.Grind.{common_steps}
use Rattle.std.proofs.lemmas.List.{get_or_default, take_more}
use Rattle.std.proofs.lemmas.List.Folds.{list_any-append}
use Rattle.cany_base.specs.contracts.rule.PlacePartialEq.TheImpl as place_eq
use Rattle.cany_base.specs.contracts.rule.PlaceEq.TheImpl.Laws as place_laws
use Rattle.cany_base.specs.declared.rule.Place.{Place}
use Rattle.cany_base.specs.declared.rule.Rule.{Rule}
use Rattle.cany_base.specs.Scenario.{same_place}
use Rattle.cany_base.proofs.PlaceFacts.{same_place-true, same_place_self}
use Rattle.cany_text.specs.FaultsText.{repeats}
use Rattle.cany_text.proofs.FaultsTextLegal.{repeats_at}
use Rattle.cany_text.proofs.FirstAfter.{holds_at}

abbrev pub is_equal : Place → Place → Bool
is_equal = place_eq.eq-value.it

-- one of the rules has the place
abbrev pub has_place : List Rule → Place → Bool
has_place rules place = list_any (λ rule. same_place rule.place place) rules

is_equal-Decides : (a b : Place) → Decides (is_equal a b) (a ≡ b)
is_equal-Decides a b = (λ h. grind (arith, common_steps), λ e. rw e (place_laws.laws-law.refl b))

same_place-Decides : (a b : Place) → Decides (same_place a b) (a ≡ b)
same_place-Decides a b = (same_place-true a b, λ e. rw e (same_place_self b))

is_equal_place : (a b : Place) → is_equal a b ≡ same_place a b
is_equal_place a b = same_from_decides _ _ (is_equal-Decides a b) (same_place-Decides a b)

-- the rule at an index repeats exactly where one of those before has its place
pub repeats_by_place : (rules : List Rule) (k : ℕ) (rule d : Rule) → k < length rules → rule ≡ get_or rules k rule
    → holds_at repeats rules k d ≡ has_place (take k rules) rule.place
repeats_by_place rules k rule d within is =
    repeats_at rules k d ∙ ap (λ (r : Rule). has_place (take k rules) r.place) (get_or_default rules k d rule within ∙ sym is)

or_last : (a b : Bool) → (b || (a || false)) ≡ cond a true b
or_last true true = refl
or_last true false = refl
or_last false true = refl
or_last false false = refl

-- the places of one rule more
pub has_place-more : (rules : List Rule) (k : ℕ) (rule : Rule) (place : Place) → k < length rules → rule ≡ get_or rules k rule
    → has_place (take (k + 1) rules) place ≡ cond (is_equal rule.place place) true (has_place (take k rules) place)
has_place-more rules k rule place within is =
    ap (λ those. has_place those place) (take_more rules k rule within)
    ∙ list_any-append (λ r. same_place r.place place) (take k rules) (get_or rules k rule ∷ [])
    ∙ ap (λ (r : Rule). has_place (take k rules) place || (same_place r.place place || false)) (sym is)
    ∙ or_last (same_place rule.place place) (has_place (take k rules) place)
    ∙ ap (λ test. cond test true (has_place (take k rules) place)) (sym (is_equal_place rule.place place))

-- what the answer of an insert tells of the set before
pub held_before : (added held : Bool) → added ≡ not held → added ≡ false → held ≡ true
held_before added true told was = refl
held_before added false told was = cc

pub new_before : (added held : Bool) → added ≡ not held → added ≡ true → held ≡ false
new_before added true told was = cc
new_before added false told was = refl
