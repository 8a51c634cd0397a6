-- What the worked rows of the failure detector and of the membership are written with: runs of two
-- nodes, and what logs and vectors say.
use Rattle.std.specs.Prelude.{ℕ, suc, zero, true, ◌+◌, ◌<◌, ◌≤◌, ◌≡◌, List, [], Option, Some, None, Contains, length}
use Rattle.std.specs.List.{AllByRecursion}
use Rattle.std.proofs.Common.{arith, ◌∙◌, lit≤, subst, sym}
use Rattle.std.proofs.lemmas.List.Elements.{All-from_recursion, All-nil}
use Rattle.std.proofs.lemmas.Option.{same_Some}
use Rattle.cany_base.specs.declared.log_entry.LogEntry.{LogEntry}
use Rattle.cany_base.specs.declared.log_entry.LogEntry.TheVariants.{Deliver, Failed, View}
use Rattle.cany_base.specs.declared.message.NodeAsk.{NodeAsk}
use Rattle.cany_base.specs.declared.rule.Rule.{Rule}
use Rattle.cany_base.specs.Nodes.{Nodes, has}
use Rattle.cany_base.specs.Params.{default_parameters}
use Rattle.cany_base.specs.Scenario.{IsAskOf, IsLegalScenario, IsRuleOf, IsSendOf, ScenarioParts}
use Rattle.cany_base.proofs.NodesFacts.{AllBelow-bits}
use Rattle.cany_model.specs.Bus.State.{RunState, slots_run}
use Rattle.cany_model.specs.Promises.Detector.{StandsAfter, members_before}
use Rattle.cany_model.specs.Promises.OneView.{installed_of}
use Rattle.cany_model.specs.Bus.History.{history_but}
use Rattle.cany_model.specs.Promises.Settled.{IsCorrect}
use Rattle.cany_model.proofs.Among.{Among-from_Contains, Each-of}
use Rattle.cany_rows.proofs.RowWords.{set}
unfoldable pub use Rattle.cany_rows.proofs.RowWords.{run_of}
use Rattle.cany_rows.proofs.Site.SiteWords.{site_row}

-- ---- runs of two nodes

-- Two nodes, of which these are members, with these rules and asks to join and to leave. The other
-- parameters are the least that the formulas allow: a cycle has 38 slots and ends in its slot 19, a
-- member shows life after 19 slots, and has failed after 39 without.
abbrev pub two : ℕ → ℕ → List Rule → List NodeAsk → List NodeAsk → ScenarioParts
two slots members rules joins leaves = record {
  params = default_parameters 2 slots;
  members = set members;
  sends = [];
  rules = rules;
  joins = joins;
  leaves = leaves;
  restarts = [];
  from = 0;
  inc = 0;
  journal = None;
}

-- opens all that a row of a run is written with
unfoldable pub detector_row : Unit {0}
unfolding site_row history_but installed_of
detector_row = tt

-- the lists of a scenario: few, and of nodes and slots that there are
pub record HasLegalLists (sc : ScenarioParts) : Type 0 where
  pub rules : AllByRecursion (IsRuleOf sc.params) sc.rules
  pub one_rule : length sc.rules ≤ 1
  pub joins : AllByRecursion (IsAskOf sc.params) sc.joins
  pub few_joins : length sc.joins ≤ 2
  pub leaves : AllByRecursion (IsAskOf sc.params) sc.leaves
  pub few_leaves : length sc.leaves ≤ 2

-- with these it is legal
pub two_is_legal : (slots members : ℕ) (rules : List Rule) (joins leaves : List NodeAsk) → 1 ≤ slots → slots ≤ 100 → members < 4
    → HasLegalLists (two slots members rules joins leaves) → IsLegalScenario (two slots members rules joins leaves)
two_is_legal slots members rules joins leaves some few small lists = let p = default_parameters 2 slots in record {
  in_range = record {
    nodes = (lit≤ tt, lit≤ tt);
    lag = lit≤ tt;
    omit = lit≤ tt;
    errors = lit≤ tt;
    bound = (lit≤ tt, lit≤ tt);
    cycle = (lit≤ tt, lit≤ tt);
    life = (lit≤ tt, lit≤ tt);
    silence = (lit≤ tt, lit≤ tt);
    confirm = (lit≤ tt, lit≤ tt);
    slots = (some, omega (arith, few));
  };
  formulas = record { bound = lit≤ tt; cycle = lit≤ tt; life = lit≤ tt; silence = lit≤ tt; confirm = lit≤ tt };
  members = AllBelow-bits 2 (set members) small;
  sends = All-nil (IsSendOf p);
  rules = All-from_recursion (IsRuleOf p) rules lists.rules;
  joins = All-from_recursion (IsAskOf p) joins lists.joins;
  leaves = All-from_recursion (IsAskOf p) leaves lists.leaves;
  restarts = All-nil (IsAskOf p);
  few_sends = lit≤ tt;
  few_rules = let few_rules = lists.one_rule in omega (arith, few_rules);
  few_joins = let few_joins = lists.few_joins in omega (arith, few_joins);
  few_leaves = let few_leaves = lists.few_leaves in omega (arith, few_leaves);
  few_restarts = lit≤ tt;
  few_of_node = λ node. lit≤ tt;
  places = λ i j rule earlier last. let one = lists.one_rule in absurd (omega (arith, earlier, last, one));
}

-- ---- the correct ones of two nodes

for_two : (P : ℕ → Type 0) → P 0 → P 1 → (i : ℕ) → i < 2 → P i
for_two P zeroth first zero below = zeroth
for_two P zeroth first (suc zero) below = first
for_two P zeroth first (suc (suc i)) below = absurd (omega (arith, below))

-- what holds of each of the two if it is correct holds of each correct node
pub each_correct : (sc : ScenarioParts) (s : RunState) (P : ℕ → Type 0) → sc.params.nodes ≡ 2 → (IsCorrect sc s 0 → P 0)
    → (IsCorrect sc s 1 → P 1) → (i : ℕ) → IsCorrect sc s i → P i
each_correct sc s P nodes zeroth first i correct =
    for_two (λ j. IsCorrect sc s j → P j) zeroth first i (subst (λ n. i < n) nodes correct.there) correct

-- a node stands in the view after the turn of a slot, where each of the two that is correct has it
-- in its own before the next
pub stands_after : (sc : ScenarioParts) (s : RunState) (r slot : ℕ) → sc.params.nodes ≡ 2 → slot < slots_run s
    → (IsCorrect sc s 0 → has (members_before sc s (slot + 1) 0) r ≡ true) → (IsCorrect sc s 1 → has (members_before sc s (slot + 1) 1) r ≡ true)
    → StandsAfter sc s r slot
stands_after sc s r slot nodes ran zeroth first =
    record { ran = ran; member = each_correct sc s (λ i. has (members_before sc s (slot + 1) i) r ≡ true) nodes zeroth first }

-- ---- what logs and vectors say

-- if the entry is a view, this holds of its number and its members
abbrev pub OfView : (ℕ → Nodes → Type 0) → LogEntry → Type 0
OfView P (Deliver slot service msg payload) = Unit {0}
OfView P (Failed slot node cycle) = Unit {0}
OfView P (View slot number members) = P number members

-- a log with these entries: what holds of its views
pub of_views : (P : ℕ → Nodes → Type 0) (entries all : List LogEntry) → entries ≡ all → AllByRecursion (OfView P) all
    → (slot number : ℕ) (members : Nodes) → Contains entries (View slot number members) → P number members
of_views P entries all same holds slot number members stands =
    Each-of (OfView P) (View slot number members) entries (subst (AllByRecursion (OfView P)) (sym same) holds)
    (Among-from_Contains entries (View slot number members) stands)

-- a node that installed this vector: what holds of it
pub of_installed : (P : Nodes → Type 0) (found : Option Nodes) (v : Nodes) → found ≡ Some v → P v → (w : Nodes) → found ≡ Some w → P w
of_installed P found v same holds w also = subst P (same_Some v w (sym same ∙ also)) holds
