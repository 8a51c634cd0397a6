-- The rules that a text gives are legal.
use Rattle.std.proofs.Common.{◌≡◌, ◌≢◌, ℕ, zero, suc, ◌-◌, ◌<◌, ◌≤◌, Bool, true, false, ◌||◌, List, [], ◌∷◌, length, take, get_or, None, refl, ap, sym, ◌∙◌, arith}
use Rattle.std.specs.Prelude.{All, Ok, if◌then◌else◌}
use Rattle.std.specs.List.{list_any}
use Rattle.std.proofs.lemmas.Bool.{false≢true}
use Rattle.std.proofs.lemmas.List.Kept.{AllPairs-cons}
use Rattle.cany_base.specs.declared.rule.Place.{Place}
use Rattle.cany_base.specs.declared.rule.Place.TheVariants.{At, FrameNth}
use Rattle.cany_base.specs.declared.rule.Rule.{Rule}
use Rattle.cany_base.specs.declared.rule.Verdict.{Verdict}
use Rattle.cany_base.specs.declared.rule.Verdict.TheVariants.{Clean, Lost, Partial, Silent}
use Rattle.cany_base.specs.Limits.{greatest_attempt, greatest_number, most_rules}
use Rattle.cany_base.specs.Nodes.{Nodes, AllBelow}
use Rattle.cany_base.proofs.PlaceFacts.{same_place_self}
use Rattle.cany_base.specs.Params.{Parameters, IsInRange}
use Rattle.cany_base.specs.Scenario.{IsPlaceOf, IsVerdictOf, IsRuleOf, same_place, HaveDistinctPlaces}
use Rattle.cany_text.specs.declared.scenario_fault.KeyName.TheVariants as key
use Rattle.cany_text.specs.declared.scenario_fault.ScenarioFault.TheVariants.{UnknownKey, RepeatedRule}
use Rattle.cany_text.specs.declared.scenario_fault.TableName.TheVariants as table
use Rattle.cany_text.specs.FaultsText.{verdict_from, rejected_by, class_from, slot_rule_keys, frame_rule_keys, slot_place_from, frame_place_from, is_frame_rule, place_from, rule_from, repeats, rules_of}
use Rattle.cany_text.specs.NodesText.{set_of, nodes_from}
use Rattle.cany_text.specs.TomlKeys.{Read, Entry, has_only, required, optional, number_from, entries_of, first_after}
use Rattle.cany_text.proofs.AsksTextLegal.{some_node}
use Rattle.cany_text.proofs.FirstAfter.{holds_at, list_any-reverse, none_after}
use Rattle.cany_text.proofs.NodesTextLegal.{nobody-below, nodes_at-below}
use Rattle.cany_text.proofs.TomlSteps.{bind_ok, same_ok, fault_unless-true, required-range, required-below, entries_of-few, entries_of-none}

-- ---- a rule

rejected_by-of : (p : Parameters) (reject : Nodes) → AllBelow p.nodes reject → (verdict : Verdict)
    → IsVerdictOf p (rejected_by reject verdict)
rejected_by-of p reject below Clean = tt
rejected_by-of p reject below Lost = tt
rejected_by-of p reject below (Partial nobody) = below
rejected_by-of p reject below (Silent nobody) = below

slot_place_from-of : (p : Parameters) → IsInRange p → (entry : Entry) (place : Place) → slot_place_from p entry ≡ Ok place
    → IsPlaceOf p place
unfolding slot_place_from
slot_place_from-of p r entry place h =
    let known = fault_unless-true (has_only slot_rule_keys entry.members) (UnknownKey entry.table entry.place) _ place h in
    let slot = bind_ok (required (number_from 0 (p.slots - 1)) key.Slot entry) _ place known.1 in
    let made = same_ok (At slot.0) place slot.2 in
    let in_run = required-below p.slots r.slots.0 key.Slot entry slot.0 slot.1 in
    rw (← made) in_run

frame_place_from-of : (p : Parameters) → IsInRange p → (entry : Entry) (place : Place) → frame_place_from p entry ≡ Ok place
    → IsPlaceOf p place
unfolding frame_place_from
frame_place_from-of p r entry place h =
    let known = fault_unless-true (has_only frame_rule_keys entry.members) (UnknownKey entry.table entry.place) _ place h in
    let class = bind_ok (required class_from key.Class entry) _ place known.1 in
    let number = bind_ok (required (number_from 0 (greatest_number p.format)) key.Number entry) _ place class.2 in
    let node = bind_ok (required (number_from 0 (p.nodes - 1)) key.Node entry) _ place number.2 in
    let nth = bind_ok (required (number_from 1 (greatest_attempt p.format)) key.Nth entry) _ place node.2 in
    let made = same_ok (FrameNth class.0 number.0 node.0 nth.0) place nth.2 in
    let on_bus = required-below p.nodes (some_node p r) key.Node entry node.0 node.1 in
    let counted = required-range 1 (greatest_attempt p.format) key.Nth entry nth.0 nth.1 in
    rw (← made) (on_bus, counted.0, counted.1)

place_of_test : (p : Parameters) (of_frame of_slot : Read Place) → ((place : Place) → of_frame ≡ Ok place → IsPlaceOf p place)
    → ((place : Place) → of_slot ≡ Ok place → IsPlaceOf p place) → (test : Bool) (place : Place)
    → (if test then of_frame else of_slot) ≡ Ok place
    → IsPlaceOf p place
place_of_test p of_frame of_slot frames slots true place h = frames place h
place_of_test p of_frame of_slot frames slots false place h = slots place h

place_from-of : (p : Parameters) → IsInRange p → (entry : Entry) (place : Place) → place_from p entry ≡ Ok place → IsPlaceOf p place
unfolding place_from
place_from-of p r entry place h =
    place_of_test p (frame_place_from p entry) (slot_place_from p entry) (frame_place_from-of p r entry) (slot_place_from-of p r entry)
    (is_frame_rule entry) place h

rule_from-of : (p : Parameters) → IsInRange p → (entry : Entry) (rule : Rule) → rule_from p entry ≡ Ok rule → IsRuleOf p rule
unfolding rule_from
rule_from-of p r entry rule h =
    let place = bind_ok (place_from p entry) _ rule h in
    let verdict = bind_ok (optional verdict_from Clean key.Verdict entry) _ rule place.2 in
    let reject = bind_ok (optional (nodes_from p) (set_of []) key.Reject entry) _ rule verdict.2 in
    let stop = bind_ok (optional (nodes_from p) (set_of []) key.Stop entry) _ rule reject.2 in
    let made = same_ok _ rule stop.2 in
    let rejects = nodes_at-below p r (set_of []) (nobody-below p) key.Reject entry reject.0 reject.1 in
    rw (← made) (record {
      place = place_from-of p r entry place.0 place.1;
      verdict = rejected_by-of p reject.0 rejects verdict.0;
      stop = nodes_at-below p r (set_of []) (nobody-below p) key.Stop entry stop.0 stop.1;
    })

-- ---- the places

-- the test at a rule by its place in the list: one of those before has the place where it acts
pub repeats_at : (rules : List Rule) (k : ℕ) (d : Rule)
    → holds_at repeats rules k d ≡ list_any (λ earlier. same_place earlier.place (get_or rules k d).place) (take k rules)
repeats_at rules k d = list_any-reverse (λ earlier. same_place earlier.place (get_or rules k d).place) (take k rules)

-- a rule of its place is one that repeats, where the rule is among those before
abbrev IsAmong : List Rule → Rule → Type 0
IsAmong before rule = (later : Rule) → rule.place ≡ later.place → repeats before later ≡ true

or_true : (a b : Bool) → b ≡ true → (a || b) ≡ true
or_true true b h = refl
or_true false b h = h

newest_among : (before : List Rule) (rule : Rule) → IsAmong (rule ∷ before) rule
newest_among before rule later e = grind (arith, ap (λ place. same_place rule.place place) (sym e) ∙ same_place_self rule.place)

still_among : (before : List Rule) (rule newer : Rule) → IsAmong before rule → IsAmong (newer ∷ before) rule
still_among before rule newer among later e = or_true (same_place newer.place later.place) (repeats before later) (among later e)

-- where no rule repeats an earlier one, no rule has the place of one among the earlier
apart_after : (before rest : List Rule) (rule : Rule) → IsAmong before rule → first_after repeats before rest ≡ None
    → (k : ℕ) (d : Rule) → k < length rest → rule.place ≢ (get_or rest k d).place
apart_after before [] rule among none k d within e = absurd (omega arith)
apart_after before (next ∷ rest) rule among none zero d within e = false≢true
    (sym (none_after repeats before next rest none).0 ∙ among next e)
apart_after before (next ∷ rest) rule among none (suc k) d within e =
    apart_after (next ∷ before) rest rule (still_among before rule next among) (none_after repeats before next rest none).1 k d
    (omega arith) e

distinct_after : (before rules : List Rule) → first_after repeats before rules ≡ None → HaveDistinctPlaces rules
distinct_after before [] none = λ i j d earlier within. absurd (omega arith)
distinct_after before (rule ∷ rest) none =
    let step = none_after repeats before rule rest none in
    AllPairs-cons (λ a b. a.place ≢ b.place) rule rest
    (apart_after (rule ∷ before) rest rule (newest_among before rule) step.1) (distinct_after (rule ∷ before) rest step.1)

-- ---- all of them

pub record AreRulesOf (p : Parameters) (rules : List Rule) : Type 0 where
  pub all : All (IsRuleOf p) rules
  pub few : length rules ≤ most_rules
  pub apart : HaveDistinctPlaces rules

pub rules_of-legal : (p : Parameters) → IsInRange p → (top : Entry) (rules : List Rule) → rules_of p top ≡ Ok rules → AreRulesOf p rules
unfolding rules_of
rules_of-legal p r top rules h =
    let read = entries_of-none (IsRuleOf p) table.Fault most_rules (rule_from p) (rule_from-of p r) key.Fault top repeats RepeatedRule rules h in
    record { all = read.0.0; few = read.0.1; apart = distinct_after [] rules read.1 }
