-- The scenario of one bus that stands for one over two media: a rule at each slot that has no whole
-- line.
use Rattle.std.specs.Prelude.{ℕ, ◌++◌, ◌&&◌, Bool, false, nat_lt, not, List, filter, map}
use Rattle.std.specs.List.{range_with_len}
use Rattle.cany_base.specs.declared.rule.Rule.{Rule}
use Rattle.cany_base.specs.declared.rule.Place.{Place}
use Rattle.cany_base.specs.declared.rule.Place.TheVariants.{At, FrameNth}
use Rattle.cany_base.specs.Params.{Parameters}
use Rattle.cany_base.specs.Scenario.{ScenarioParts}
use Rattle.cany_media.specs.MediaRun.{blind_ruling, is_blind}
use Rattle.cany_media.specs.Plan.{FaultParts}

-- the slots of the run without a whole line
abbrev pub blind_slots : ScenarioParts → List FaultParts → List ℕ
blind_slots scenario faults = filter (is_blind scenario.params.nodes faults) (range_with_len 0 scenario.params.slots)

-- the rule of such a slot
abbrev pub blind_rule : List Rule → ℕ → Rule
blind_rule rules slot =
    record { place = At slot; verdict = (blind_ruling rules slot).verdict; stop = (blind_ruling rules slot).stop }

-- whether a rule is one for a slot of the run without a whole line, and is replaced
abbrev pub is_replaced : Parameters → List FaultParts → Place → Bool
is_replaced params faults (At slot) = nat_lt slot params.slots && is_blind params.nodes faults slot
is_replaced params faults (FrameNth class number node nth) = false

-- the rules that stay, and then those of the slots without a whole line
unfoldable pub single_rules : ScenarioParts → List FaultParts → List Rule
single_rules scenario faults =
    filter (λ rule. not (is_replaced scenario.params faults rule.place)) scenario.rules
    ++ map (blind_rule scenario.rules) (blind_slots scenario faults)

abbrev pub single_bus : ScenarioParts → List FaultParts → ScenarioParts
single_bus scenario faults = record scenario { rules = single_rules scenario faults }
