-- Rules with distinct places repeat none.
use Rattle.std.proofs.Common.{◌≡◌, ℕ, ◌<◌, List, length, map, take, get_or, refl, ap, sym, ◌∙◌, arith}
use Rattle.std.specs.Prelude.{Option, Some, None, Contains, slice_get}
use Rattle.std.specs.Option.{IsSomeAnd}
use Rattle.std.proofs.lemmas.List.{get_or-map, get_or-take, length-map, length-take}
use Rattle.std.proofs.lemmas.Option.{get_or_from_slice_get, slice_get_within}
use Rattle.cany_base.specs.declared.rule.Rule.{Rule}
use Rattle.cany_base.specs.Scenario.{HaveDistinctPlaces}
use Rattle.can_fault.specs.Rules.{IsFirstRepeated}

repeated_at : (rules : List Rule) (index : ℕ) → HaveDistinctPlaces rules → (o : Option Rule) → slice_get rules index ≡ o
    → IsSomeAnd o (λ rule. Contains (map (λ (r : Rule). r.place) (take index rules)) rule.place) → ⊥
repeated_at rules index apart None e h = h
repeated_at rules index apart (Some rule) e h =
    let k : ℕ = h.0 in
    let within : index < length rules = slice_get_within rules index rule e in
    let early : k < length (map (λ (r : Rule). r.place) (take index rules)) = h.1 in
    let long : length (map (λ (r : Rule). r.place) (take index rules)) ≡ length (take index rules) = length-map (take index rules) (λ (r : Rule). r.place) in
    let before : k < length (take index rules) = omega arith in
    let less : k < index = omega (arith, length-take index rules) in
    let place : (get_or rules k rule).place ≡ rule.place =
    ap (λ (r : Rule). r.place) (sym (get_or-take index rules k rule less))
    ∙ sym (get_or-map (λ (r : Rule). r.place) (take index rules) k rule rule.place before) ∙ h.2 in
    apart k index rule less within (place ∙ ap (λ (r : Rule). r.place) (sym (get_or_from_slice_get rules index rule rule e)))

pub no_repeated : (rules : List Rule) (index : ℕ) → HaveDistinctPlaces rules → IsFirstRepeated rules index → ⊥
no_repeated rules index apart first = repeated_at rules index apart (slice_get rules index) refl first.repeated
