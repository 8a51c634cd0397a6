-- Each restart of a run has an entry of its own: a node has no more incarnations than entries and
-- the first.
use Rattle.std.specs.Prelude.{◌≡◌, ℕ, ◌+◌, ◌-◌, ◌<◌, ◌≤◌, ◌==◌, ◌&&◌, Bool, true, false, List, [], ◌∷◌, Some, None, nat_le, length, count_by, if◌then◌else◌, refl}
use Rattle.std.proofs.Common.{sym, ap, ◌∙◌, subst, inl, inr, arith}
use Rattle.std.proofs.lemmas.Bool.{and_from, and_parts, cases_Bool, cases_eq, cases_lt, eqb-true, false≢true, le-leb, leb-true, lt-leb}
use Rattle.std.proofs.lemmas.List.{length-replicate}
use Rattle.cany_base.specs.declared.message.NodeAsk.{NodeAsk}
use Rattle.cany_base.specs.declared.slot_note.SlotNote.{SlotNote}
use Rattle.cany_base.specs.declared.step.Step.{Step}
use Rattle.cany_base.specs.Nodes.{has}
use Rattle.cany_base.specs.Scenario.{ScenarioParts, is_ask_of_node}
use Rattle.cany_model.specs.Bus.Restart.{after_restarts, is_restart, names_restart}
use Rattle.cany_model.specs.Runs.Run.{after_turn, run}
use Rattle.cany_model.specs.Bus.Slot.{FaultScript, after_slot, node_after, script, slot_note_of}
use Rattle.cany_model.specs.Bus.State.{Incarnation, NodeState, RunState, fresh, node_at, opening, runs, slots_run}
use Rattle.cany_model.proofs.Among.{count-grows, count-no, count-yes}
use Rattle.cany_model.proofs.Bus.Notes.{note_of-slot}
use Rattle.cany_model.proofs.Bus.Restarts.{after_restarts-length, after_restarts-trace, restarts_or_stays}
use Rattle.cany_model.proofs.Runs.Runs.{IsOrderly, along_run}
use Rattle.cany_model.proofs.Bus.States.{node_at-opening, node_at_past}
use Rattle.cany_model.proofs.Runs.Steps.{MayTurn, after_slot-length, after_slot-node, after_slot-trace, after_turn-node, after_turn-length, after_turn-other, after_turn-runs, after_turn-trace}
use Rattle.cany_world.proofs.InOrder.{HaveSame, slot_same, turn_same}

-- an entry of node i in slot t or a later one
abbrev pub is_from_on : ℕ → ℕ → NodeAsk → Bool
is_from_on t i ask = nat_le t ask.slot && ask.node == i

-- how many of them there are
abbrev pub entries_from : List NodeAsk → ℕ → ℕ → ℕ
entries_from restarts t i = count_by (is_from_on t i) restarts

-- the first slot whose entries can still make node i start again: a stopped one may start at the
-- end of the slot that ran last
abbrev pub first_left : RunState → ℕ → ℕ
first_left s i = if runs (node_at s.nodes i) then slots_run s else slots_run s - 1

abbrev HasLeftBefore : RunState → ℕ → Type 0
HasLeftBefore s i = i < length s.nodes → (stop : ℕ) → (node_at s.nodes i).stopped ≡ Some stop → stop < length s.trace

pub record HasLeft (scenario : ScenarioParts) (s : RunState) (i : ℕ) : Type 0 where
  pub entries : (node_at s.nodes i).present.number + entries_from scenario.restarts (first_left s i) i ≤ count_by (is_ask_of_node i) scenario.restarts
  pub before : HasLeftBefore s i

abbrev pub AllHaveLeft : ScenarioParts → RunState → Type 0
AllHaveLeft scenario s = (i : ℕ) → HasLeft scenario s i

-- ---- counts of entries

fewer : (p q : NodeAsk → Bool) → ((ask : NodeAsk) → p ask ≡ true → q ask ≡ true) → (asks : List NodeAsk) → count_by p asks ≤ count_by q asks
fewer p q h [] = omega arith
fewer p q h (ask ∷ asks) = elim (cases_Bool (p ask)) [
  | inl here ↦ omega (arith, fewer p q h asks, count-yes p ask asks here, count-yes q ask asks (h ask here))
  | inr other ↦ omega (arith, fewer p q h asks, count-no p ask asks other, count-grows q ask asks)
]

later_fewer : (restarts : List NodeAsk) (a b i : ℕ) → a ≤ b → entries_from restarts b i ≤ entries_from restarts a i
later_fewer restarts a b i h =
    fewer (is_from_on b i) (is_from_on a i)
    (λ ask from. let parts = and_parts (nat_le b ask.slot) (ask.node == i) from in
    and_from (nat_le a ask.slot) (ask.node == i) (le-leb a ask.slot (omega (arith, h, leb-true b ask.slot parts.0))) parts.1)
    restarts

all_fewer : (restarts : List NodeAsk) (t i : ℕ) → entries_from restarts t i ≤ count_by (is_ask_of_node i) restarts
all_fewer restarts t i = fewer (is_from_on t i) (is_ask_of_node i) (λ ask from. (and_parts (nat_le t ask.slot) (ask.node == i) from).1) restarts

-- an entry of slot t is one that is not of a later slot
named_fewer : (restarts : List NodeAsk) (t i : ℕ) → names_restart restarts t i ≡ true → entries_from restarts (t + 1) i < entries_from restarts t i
unfolding names_restart
named_fewer [] t i h = absurd (false≢true h)
named_fewer (ask ∷ asks) t i h = elim (cases_Bool (is_restart t i ask)) [
  | inl here ↦
      let parts = and_parts (ask.slot == t) (ask.node == i) here in
      let slot : ask.slot ≡ t = eqb-true ask.slot t parts.0 in
      let from : is_from_on t i ask ≡ true = and_from (nat_le t ask.slot) (ask.node == i) (le-leb t ask.slot (omega (arith, slot))) parts.1 in
      let past : is_from_on (t + 1) i ask ≡ false = rw (lt-leb (t + 1) ask.slot (omega (arith, slot))) refl in
      omega (arith, later_fewer asks t (t + 1) i (omega arith), count-yes (is_from_on t i) ask asks from, count-no (is_from_on (t + 1) i) ask asks past)
  | inr other ↦
      let rest : names_restart asks t i ≡ true = rw other at h in
      let less = named_fewer asks t i rest in
      elim (cases_Bool (is_from_on (t + 1) i ask)) [
        | inl later ↦
            let parts = and_parts (nat_le (t + 1) ask.slot) (ask.node == i) later in
            let from : is_from_on t i ask ≡ true = and_from (nat_le t ask.slot) (ask.node == i) (le-leb t ask.slot (omega (arith, leb-true (t + 1) ask.slot parts.0))) parts.1 in
            omega (arith, less, count-yes (is_from_on t i) ask asks from, count-yes (is_from_on (t + 1) i) ask asks later)
        | inr none ↦ omega (arith, less, count-no (is_from_on (t + 1) i) ask asks none, count-grows (is_from_on t i) ask asks)
      ]
]

-- ---- every run

-- what is left in one state is left in a later one of the same incarnation
still_left : (scenario : ScenarioParts) (s t : RunState) (i : ℕ) → HaveSame (node_at s.nodes i) (node_at t.nodes i) → first_left s i ≤ first_left t i
    → (i < length t.nodes → (stop : ℕ) → (node_at t.nodes i).stopped ≡ Some stop → stop < length t.trace) → HasLeft scenario s i → HasLeft scenario t i
still_left scenario s t i same later before h = record {
  entries = omega (arith, h.entries, later_fewer scenario.restarts (first_left s i) (first_left t i) i later, ap (λ (inc : Incarnation). inc.number) same.present);
  before = before;
}

not_over : (s : RunState) (i : ℕ) → (first_left s i ≤ slots_run s) × (slots_run s - 1 ≤ first_left s i)
not_over s i = either (runs (node_at s.nodes i))
  where
    either : (b : Bool) → ((if b then slots_run s else slots_run s - 1) ≤ slots_run s) × (slots_run s - 1 ≤ (if b then slots_run s else slots_run s - 1))
    either true = (omega arith, omega arith)
    either false = (omega arith, omega arith)

-- the slot of a stop is one that ran
stop_within : (rules : FaultScript) (s : RunState) (i : ℕ) → HasLeftBefore s i → i < length s.nodes → (stop : ℕ)
    → (node_at (after_slot rules s).nodes i).stopped ≡ Some stop → stop < length s.trace + 1
unfolding node_after
stop_within rules s i before below stop is = by_run (runs node) refl
  where
    node : NodeState
    node = node_at s.nodes i

    here : (node_after i (slot_note_of rules s) node).stopped ≡ Some stop
    here = sym (ap (λ (n : NodeState). n.stopped) (after_slot-node rules s i below)) ∙ is

    now : (b : Bool) → (if b then Some (slot_note_of rules s).slot else None) ≡ Some stop → stop < length s.trace + 1
    now true e = let same : (slot_note_of rules s).slot ≡ stop = cc in omega (arith, same, note_of-slot rules s)
    now false e = absurd (cc)

    by_run : (b : Bool) → runs node ≡ b → stop < length s.trace + 1
    by_run true e = now (has (slot_note_of rules s).stops i) (rw e at here)
    by_run false e = let was : node.stopped ≡ Some stop = rw e at here in omega (arith, before below stop was)

left_slot_of : (scenario : ScenarioParts) (rules : FaultScript) (s : RunState) (i : ℕ) → HasLeft scenario s i → HasLeft scenario (after_slot rules s) i
left_slot_of scenario rules s i h =
    let longer : length (after_slot rules s).trace ≡ length s.trace + 1 = ap length (after_slot-trace rules s) ∙ omega arith in
    still_left scenario s (after_slot rules s) i (slot_same rules s i) (omega (arith, longer, (not_over s i).0, (not_over (after_slot rules s) i).1))
    (λ below stop is. omega (arith, longer, stop_within rules s i h.before (omega (arith, below, after_slot-length rules s)) stop is)) h

left_restarts : (scenario : ScenarioParts) (s : RunState) (i : ℕ) → 0 < length s.trace → HasLeft scenario s i → HasLeft scenario (after_restarts scenario s) i
left_restarts scenario s i some h = elim (restarts_or_stays scenario s i) [
  | inl new ↦
      let fewer = named_fewer scenario.restarts (slots_run s - 1) i new.named in
      let next : slots_run s - 1 + 1 ≡ slots_run s = omega (arith, some) in
      let was : first_left s i ≡ slots_run s - 1 = ap (λ b. if b then slots_run s else slots_run s - 1) new.stopped in
      let running : runs (node_at (after_restarts scenario s).nodes i) ≡ true = ap (λ (n : NodeState). runs n) new.is in
      let is : first_left (after_restarts scenario s) i ≡ slots_run s =
      ap (λ b. if b then slots_run (after_restarts scenario s) else slots_run (after_restarts scenario s) - 1) running ∙ ap length (after_restarts-trace scenario s) in
      let number : (node_at (after_restarts scenario s).nodes i).present.number ≡ (node_at s.nodes i).present.number + 1 = ap (λ (n : NodeState). n.present.number) new.is in
      record {
        entries = omega (
          arith,
          h.entries,
          fewer,
          ap (λ t. entries_from scenario.restarts t i) next,
          ap (λ t. entries_from scenario.restarts t i) was,
          ap (λ t. entries_from scenario.restarts t i) is,
          number,
        );
        before = λ below stop none. let not : None ≡ Some stop = sym (ap (λ (n : NodeState). n.stopped) new.is) ∙ none in absurd (cc);
      }
  | inr same ↦
      let trace = after_restarts-trace scenario s in
      let is : first_left (after_restarts scenario s) i ≡ first_left s i =
      ap (λ (n : NodeState). if runs n then slots_run (after_restarts scenario s) else slots_run (after_restarts scenario s) - 1) same
      ∙ ap (λ (t : List SlotNote). if runs (node_at s.nodes i) then length t else length t - 1) trace in
      still_left scenario s (after_restarts scenario s) i (record { present = ap (λ (n : NodeState). n.present) same; ended = ap (λ (n : NodeState). n.ended) same }) (omega (arith, is))
      (λ below stop e. omega (arith, ap length trace, h.before (omega (arith, below, after_restarts-length scenario s)) stop (sym (ap (λ (n : NodeState). n.stopped) same) ∙ e))) h
]

left_turn : (scenario : ScenarioParts) (i : ℕ) (s : RunState) (j : ℕ) → IsOrderly scenario.params.nodes s → MayTurn s i → HasLeft scenario s j
    → HasLeft scenario (after_turn scenario i s) j
left_turn scenario i s j o may h =
    let t : RunState = after_turn scenario i s in
    let trace = after_turn-trace scenario i s in
    let is : first_left t j ≡ first_left s j =
    ap (λ b. if b then slots_run t else slots_run t - 1) (after_turn-runs scenario i s j may (o.unread i))
    ∙ ap (λ (x : List SlotNote). if runs (node_at s.nodes j) then length x else length x - 1) trace in
    still_left scenario s t j (turn_same scenario i s j may (o.unread i)) (omega (arith, is))
    (λ below stop e. omega (arith, ap length trace, h.before (omega (arith, below, after_turn-length scenario i s)) stop (sym stops ∙ e))) h
  where
    stops : (node_at (after_turn scenario i s).nodes j).stopped ≡ (node_at s.nodes j).stopped
    stops = elim (cases_eq j i) [
      | inl same ↦ subst (λ k. (node_at (after_turn scenario i s).nodes k).stopped ≡ (node_at s.nodes k).stopped) (sym same)
          (ap (λ (n : NodeState). n.stopped) (after_turn-node scenario i s may (o.unread i)))
      | inr other ↦ ap (λ (n : NodeState). n.stopped) (after_turn-other scenario i s j other)
    ]

left_opening : (scenario : ScenarioParts) → AllHaveLeft scenario (opening scenario.params.nodes)
left_opening scenario i = record { entries = omega (arith, number, all_fewer scenario.restarts (first_left s i) i); before = before }
  where
    s : RunState
    s = opening scenario.params.nodes

    number : (node_at (opening scenario.params.nodes).nodes i).present.number ≡ 0
    number = elim (cases_lt i scenario.params.nodes) [
      | inl below ↦ ap (λ (n : NodeState). n.present.number) (node_at-opening scenario.params.nodes i below)
      | inr past ↦ ap (λ (n : NodeState). n.present.number)
          (node_at_past s.nodes i (omega (arith, past, length-replicate scenario.params.nodes fresh)))
    ]

    before : i < length (opening scenario.params.nodes).nodes → (stop : ℕ) → (node_at (opening scenario.params.nodes).nodes i).stopped ≡ Some stop → stop < 0
    before below stop e =
        let running = ap (λ (n : NodeState). n.stopped) (node_at-opening scenario.params.nodes i (omega (arith, below, length-replicate scenario.params.nodes fresh))) in
        let none : None ≡ Some stop = sym running ∙ e in
        absurd (cc)

pub all_left : (scenario : ScenarioParts) (journal : List Step) → AllHaveLeft scenario (run scenario journal)
all_left scenario journal =
    along_run scenario (AllHaveLeft scenario) (left_opening scenario)
    (record {
      slot = λ s o may h i. left_slot_of scenario (script scenario.rules) s i (h i);
      restarts = λ s o some h i. left_restarts scenario s i some (h i);
      turn = λ s i o may h j. left_turn scenario i s j o may (h j);
    })
    journal

-- after a slot, and before the restarts at its end
pub slot_left : (scenario : ScenarioParts) (journal : List Step) → AllHaveLeft scenario (after_slot (script scenario.rules) (run scenario journal))
slot_left scenario journal i = left_slot_of scenario (script scenario.rules) (run scenario journal) i (all_left scenario journal i)

-- a stopped node that an entry of the slot names has an incarnation left
pub one_left : (scenario : ScenarioParts) (s : RunState) (i : ℕ) → HasLeft scenario s i → runs (node_at s.nodes i) ≡ false
    → names_restart scenario.restarts (slots_run s - 1) i ≡ true → (node_at s.nodes i).present.number < count_by (is_ask_of_node i) scenario.restarts
one_left scenario s i h stopped named =
    let was : first_left s i ≡ slots_run s - 1 = ap (λ b. if b then slots_run s else slots_run s - 1) stopped in
    omega (arith, h.entries, ap (λ t. entries_from scenario.restarts t i) was, named_fewer scenario.restarts (slots_run s - 1) i named)
