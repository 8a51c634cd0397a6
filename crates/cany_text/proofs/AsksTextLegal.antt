-- The joins, leaves and restarts that a text gives are legal.
use Rattle.std.proofs.Common.{◌≡◌, ℕ, ◌+◌, ◌-◌, ◌≤◌, ◌==◌, Bool, true, false, nat_le, List, [], ◌∷◌, length, take, get_or, None, refl, ap, sym, ◌∙◌, arith}
use Rattle.std.specs.Prelude.{All, Ok, count_by, cond}
use Rattle.std.proofs.lemmas.Bool.Decides.{nat_tests}
use Rattle.std.proofs.lemmas.List.Sums.{sum_by-cons}
use Rattle.cany_base.specs.declared.message.NodeAsk.{NodeAsk}
use Rattle.cany_base.specs.Limits.{most_joins, most_leaves, most_restarts, most_restarts_of_node}
use Rattle.cany_base.specs.Params.{Parameters, IsInRange}
use Rattle.cany_base.specs.Scenario.{IsAskOf, is_ask_of_node}
use Rattle.cany_text.specs.declared.scenario_fault.KeyName.TheVariants as key
use Rattle.cany_text.specs.declared.scenario_fault.ScenarioFault.TheVariants.{UnknownKey, TooOften}
use Rattle.cany_text.specs.declared.scenario_fault.TableName.TheVariants as table
use Rattle.cany_text.specs.AsksText.{ask_keys, ask_from, joins_of, leaves_of, is_one_too_many, restarts_of}
use Rattle.cany_text.specs.TomlKeys.{Entry, has_only, required, number_from, entries_of, first_after}
use Rattle.cany_text.proofs.FirstAfter.{count_by-reverse, holds_at, none_after}
use Rattle.cany_text.proofs.TomlSteps.{bind_ok, same_ok, fault_unless-true, required-below, AreFew, entries_of-few, entries_of-none}

pub some_node : (p : Parameters) → IsInRange p → 1 ≤ p.nodes
some_node p r = let n = r.nodes in omega (arith, n)

ask_from-legal : (p : Parameters) → IsInRange p → (entry : Entry) (ask : NodeAsk) → ask_from p entry ≡ Ok ask → IsAskOf p ask
unfolding ask_from
ask_from-legal p r entry ask h =
    let known = fault_unless-true (has_only ask_keys entry.members) (UnknownKey entry.table entry.place) _ ask h in
    let slot = bind_ok (required (number_from 0 (p.slots - 1)) key.Slot entry) _ ask known.1 in
    let node = bind_ok (required (number_from 0 (p.nodes - 1)) key.Node entry) _ ask slot.2 in
    let made = same_ok _ ask node.2 in
    let in_run = required-below p.slots r.slots.0 key.Slot entry slot.0 slot.1 in
    let on_bus = required-below p.nodes (some_node p r) key.Node entry node.0 node.1 in
    rw (← made) (in_run, on_bus)

pub joins_of-legal : (p : Parameters) → IsInRange p → (top : Entry) (joins : List NodeAsk) → joins_of p top ≡ Ok joins
    → AreFew (IsAskOf p) most_joins joins
joins_of-legal p r top joins h = entries_of-few (IsAskOf p) table.Join most_joins (ask_from p) (ask_from-legal p r) key.Join top joins h

pub leaves_of-legal : (p : Parameters) → IsInRange p → (top : Entry) (leaves : List NodeAsk) → leaves_of p top ≡ Ok leaves
    → AreFew (IsAskOf p) most_leaves leaves
leaves_of-legal p r top leaves h = entries_of-few (IsAskOf p) table.Leave most_leaves (ask_from p)
    (ask_from-legal p r) key.Leave top leaves h

-- ---- restarts: how many of one node

-- the test at an entry by its place: as many of its node as there may be stand among those before
pub too_many_at : (asks : List NodeAsk) (k : ℕ) (d : NodeAsk)
    → holds_at is_one_too_many asks k d ≡ nat_le most_restarts_of_node (count_by (is_ask_of_node (get_or asks k d).node) (take k asks))
too_many_at asks k d = ap (nat_le most_restarts_of_node) (count_by-reverse (is_ask_of_node (get_or asks k d).node) (take k asks))

-- the count of a node's entries, with one more in front
one_more : (node : ℕ) (ask : NodeAsk) (asks : List NodeAsk)
    → count_by (is_ask_of_node node) (ask ∷ asks) ≡ cond (ask.node == node) 1 0 + count_by (is_ask_of_node node) asks
one_more node ask asks = sum_by-cons (λ a. cond (is_ask_of_node node a) 1 0) ask asks

-- where an entry is not one too many for its own node, it is none for any node
room_for_one : (node : ℕ) (ask : NodeAsk) (before : List NodeAsk) → is_one_too_many before ask ≡ false
    → count_by (is_ask_of_node node) before ≤ most_restarts_of_node
    → cond (ask.node == node) 1 0 + count_by (is_ask_of_node node) before ≤ most_restarts_of_node
room_for_one node ask before fits few = by_test (ask.node == node) refl
  where
    by_test : (same : Bool) → (ask.node == node) ≡ same → cond same 1 0 + count_by (is_ask_of_node node) before ≤ most_restarts_of_node
    by_test false e = omega (arith, few)
    by_test true e =
        let its : ask.node ≡ node = grind (arith, nat_tests) in
        let count : ℕ → ℕ = λ n. count_by (is_ask_of_node n) before in
        let below : nat_le most_restarts_of_node (count node) ≡ false = ap (λ n. nat_le most_restarts_of_node (count n)) (sym its) ∙ fits in
        grind (arith, nat_tests)

few_after : (node : ℕ) (before asks : List NodeAsk) → first_after is_one_too_many before asks ≡ None
    → count_by (is_ask_of_node node) before ≤ most_restarts_of_node
    → count_by (is_ask_of_node node) before + count_by (is_ask_of_node node) asks ≤ most_restarts_of_node
few_after node before [] none few = omega (arith, few)
few_after node before (ask ∷ asks) none few =
    let step = none_after is_one_too_many before ask asks none in
    let room = room_for_one node ask before step.0 few in
    let front = one_more node ask before in
    let later = few_after node (ask ∷ before) asks step.1 (omega (arith, room, front)) in
    let whole = one_more node ask asks in
    omega (arith, later, front, whole)

few_of_each : (asks : List NodeAsk) → first_after is_one_too_many [] asks ≡ None → (node : ℕ)
    → count_by (is_ask_of_node node) asks ≤ most_restarts_of_node
few_of_each asks none node = let few = few_after node [] asks none (omega arith) in omega (arith, few)

-- the restarts are few, each in a slot of the run, at a node of the bus, and few of each node
pub record AreRestartsOf (p : Parameters) (restarts : List NodeAsk) : Type 0 where
  pub all : All (IsAskOf p) restarts
  pub few : length restarts ≤ most_restarts
  pub few_of_node : (node : ℕ) → count_by (is_ask_of_node node) restarts ≤ most_restarts_of_node

pub restarts_of-legal : (p : Parameters) → IsInRange p → (top : Entry) (restarts : List NodeAsk) → restarts_of p top ≡ Ok restarts
    → AreRestartsOf p restarts
unfolding restarts_of
restarts_of-legal p r top restarts h =
    let read = entries_of-none (IsAskOf p) table.Restart most_restarts (ask_from p) (ask_from-legal p r) key.Restart top is_one_too_many TooOften restarts h in
    record { all = read.0.0; few = read.0.1; few_of_node = few_of_each restarts read.1 }
