-- The round robin journal of every scenario is legal and whole: before each slot every running node
-- has read every notice, the slot gives each one more, and in its turn the node reads it. A node
-- that starts again at the end of the slot has none.
use Rattle.std.specs.Prelude.{◌≡◌, ℕ, zero, suc, ◌+◌, ◌<◌, ◌≤◌, ◌==◌, ◌&&◌, ◌||◌, Bool, true, false, not, nat_le, nat_lt, List, [], ◌∷◌, ◌++◌, length, map, filter, slice_index_or, refl}
use Rattle.std.specs.List.{range_with_len}
use Rattle.std.proofs.Common.{sym, ap, ◌∙◌, subst, inl, inr, arith, ltb-false}
use Rattle.std.proofs.lemmas.Bool.{and_parts, and_from, or_left, or_right, cases_Bool, cases_eq, cond_both, eq-eqb, le-leb, not_from_false}
use Rattle.std.proofs.lemmas.List.{get_or_default}
use Rattle.std.proofs.lemmas.List.Sums.{list_all-from_AllPass}
use Rattle.cany_base.specs.declared.slot_note.SlotNote.{SlotNote}
use Rattle.cany_base.specs.declared.step.Step.{Step}
use Rattle.cany_base.specs.declared.step.Step.TheVariants.{Slot, Turn}
use Rattle.cany_base.specs.Scenario.{ScenarioParts}
use Rattle.cany_model.specs.Runs.RoundRobin.{is_to_read, reading_nodes, round, rounds, round_robin}
use Rattle.cany_model.specs.Runs.Run.{reply, is_done, proceed, after_step, after_turn, run_from, is_legal_from, all_read, IsLegal, IsWhole}
use Rattle.cany_model.specs.Bus.Slot.{script, after_slot}
use Rattle.cany_model.specs.Bus.State.{NodeState, RunState, absent, opening, node_at, runs, slots_run}
use Rattle.cany_model.proofs.Runs.Journals.{orderly_slot_step, slot_step-trace}
use Rattle.cany_model.proofs.Bus.Restarts.{restarts_or_stays}
use Rattle.cany_model.proofs.Runs.Rounds.{may_read}
use Rattle.cany_model.proofs.Runs.Runs.{opening_within, slot_is_done, turn_is_done, IsOrderly, MaySlot, orderly_opening, orderly_turn}
use Rattle.cany_model.proofs.Bus.States.{runs_within, node_at-opening}
use Rattle.cany_model.proofs.Runs.Steps.{MayTurn, running_before_slot, after_slot-unread, after_turn-length, after_turn-trace, after_turn-node, after_turn-other, after_turn-runs}

-- ---- journals that lead to states

-- from s each step of the journal is done, and it leads to a state of which P holds
record Leads (scenario : ScenarioParts) (P : RunState → Type 0) (s : RunState) (journal : List Step) : Type 0 where
  legal : is_legal_from scenario s journal ≡ true
  orderly : IsOrderly scenario.params.nodes (run_from scenario s journal)
  holds : P (run_from scenario s journal)

leads_nowhere : (scenario : ScenarioParts) (P : RunState → Type 0) (s : RunState) → IsOrderly scenario.params.nodes s → P s → Leads scenario P s []
unfolding is_legal_from run_from
leads_nowhere scenario P s o p = record { legal = refl; orderly = o; holds = p }

leads_on : (scenario : ScenarioParts) (P : RunState → Type 0) (s t : RunState) (step : Step) (journal : List Step) → is_done (reply scenario s step) ≡ true
    → proceed scenario s step ≡ t → Leads scenario P t journal → Leads scenario P s (step ∷ journal)
unfolding is_legal_from run_from after_step
leads_on scenario P s t step journal done to l = record {
  legal = rw (done, to) l.legal;
  orderly = rw (done, to) l.orderly;
  holds = rw (done, to) l.holds;
}

leads_then : (scenario : ScenarioParts) (P Q : RunState → Type 0) (s : RunState) (first rest : List Step) → Leads scenario P s first
    → Leads scenario Q (run_from scenario s first) rest → Leads scenario Q s (first ++ rest)
unfolding is_legal_from run_from
leads_then scenario P Q s [] rest p q = q
leads_then scenario P Q s (step ∷ first) rest p q =
    let parts = and_parts (is_done (reply scenario s step)) (is_legal_from scenario (after_step scenario s step) first) p.legal in
    let after = leads_then scenario P Q (after_step scenario s step) first rest (record { legal = parts.1; orderly = p.orderly; holds = p.holds }) q in
    record {
      legal = and_from (is_done (reply scenario s step)) (is_legal_from scenario (after_step scenario s step) (first ++ rest)) parts.0 after.legal;
      orderly = after.orderly;
      holds = after.holds;
    }

-- ---- the turns of a round

abbrev pub HaveRead : RunState → Type 0
HaveRead s = (i : ℕ) → runs (node_at s.nodes i) ≡ true → (node_at s.nodes i).unread ≡ 0

-- the nodes below k have read every notice, and the others all but at most one
record ReadBelow (k : ℕ) (s : RunState) : Type 0 where
  below : (i : ℕ) → i < k → runs (node_at s.nodes i) ≡ true → (node_at s.nodes i).unread ≡ 0
  from : (i : ℕ) → k ≤ i → runs (node_at s.nodes i) ≡ true → (node_at s.nodes i).unread ≤ 1

read_all : (s : RunState) → ReadBelow (length s.nodes) s → HaveRead s
read_all s h i running = h.below i (runs_within s.nodes i running) running

pub none_to_read : (node : NodeState) → is_to_read node ≡ false → runs node ≡ true → node.unread ≡ 0
none_to_read node skips running =
    let none : node.unread ≤ 0 = ltb-false 0 node.unread (sym (ap (λ b. b && nat_lt 0 node.unread) running) ∙ skips) in
    omega arith

-- node k has nothing to read
read_past : (k : ℕ) (s : RunState) → is_to_read (node_at s.nodes k) ≡ false → ReadBelow k s → ReadBelow (k + 1) s
read_past k s skips h = record {
  below = λ i less running. elim (cases_eq i k) [
    | inl same ↦
        subst (λ n. (node_at s.nodes n).unread ≡ 0) (sym same)
        (none_to_read (node_at s.nodes k) skips (subst (λ n. runs (node_at s.nodes n) ≡ true) same running))
    | inr other ↦ h.below i (omega arith) running
  ];
  from = λ i more. h.from i (omega arith);
}

read_next : (scenario : ScenarioParts) (k : ℕ) (s : RunState) → IsOrderly scenario.params.nodes s → MayTurn s k → ReadBelow k s
    → ReadBelow (k + 1) (after_turn scenario k s)
read_next scenario k s o may h = record {
  below = λ i less running. elim (cases_eq i k) [
    | inl same ↦ subst (λ n. (node_at (after_turn scenario k s).nodes n).unread ≡ 0) (sym same)
        (omega (arith, ap (λ (node : NodeState). node.unread) (after_turn-node scenario k s may (o.unread k)), h.from k (omega arith) may.running))
    | inr other ↦ other_unread i 0 other (h.below i (omega arith) (ran i running))
  ];
  from = λ i more running.
      omega (arith, other_unread i (node_at s.nodes i).unread (λ same. absurd (omega arith)) refl, h.from i (omega arith) (ran i running));
}
  where
    ran : (i : ℕ) → runs (node_at (after_turn scenario k s).nodes i) ≡ true → runs (node_at s.nodes i) ≡ true
    ran i running = sym (after_turn-runs scenario k s i may (o.unread k)) ∙ running

    other_unread : (i n : ℕ) → (i ≡ k → ⊥) → (node_at s.nodes i).unread ≡ n → (node_at (after_turn scenario k s).nodes i).unread ≡ n
    other_unread i n other e = ap (λ node. node.unread) (after_turn-other scenario k s i other) ∙ e

-- every running node has read every notice, of these slots
abbrev IsCaughtUp : List SlotNote → RunState → Type 0
IsCaughtUp trace s = HaveRead s × (s.trace ≡ trace)

-- the turns of the nodes from k on that have something to read
turns_lead : (scenario : ScenarioParts) (trace : List SlotNote) (test : ℕ → Bool) (n k : ℕ) (s : RunState) → IsOrderly scenario.params.nodes s → k + n ≡ length s.nodes
    → ((i : ℕ) → k ≤ i → test i ≡ is_to_read (node_at s.nodes i)) → s.trace ≡ trace → ReadBelow k s
    → Leads scenario (IsCaughtUp trace) s (map (λ i. Turn i) (filter test (range_with_len k n)))
unfolding proceed
turns_lead scenario trace test zero k s o count same at h =
    let e : k ≡ length s.nodes = omega arith in
    leads_nowhere scenario (IsCaughtUp trace) s o (read_all s (subst (λ m. ReadBelow m s) e h), at)
turns_lead scenario trace test (suc n) k s o count same at h =
    cond_both (test k) (k ∷ filter test (range_with_len (k + 1) n)) (filter test (range_with_len (k + 1) n))
    (λ ks. Leads scenario (IsCaughtUp trace) s (map (λ i. Turn i) ks))
    (λ reads.
    let may : MayTurn s k = may_read s k (sym (same k (omega arith)) ∙ reads) in
    leads_on scenario (IsCaughtUp trace) s (after_turn scenario k s) (Turn k) _ (turn_is_done scenario s k o.count may) refl
    (turns_lead scenario trace test n (k + 1) (after_turn scenario k s) (orderly_turn scenario.params.nodes scenario k s may o)
    (omega (arith, after_turn-length scenario k s))
    (λ i more. same i (omega arith) ∙ ap (λ (node : NodeState). is_to_read node) (sym (after_turn-other scenario k s i (λ e. absurd (omega arith)))))
    (after_turn-trace scenario k s ∙ at)
    (read_next scenario k s o may h)))
    (λ skips. turns_lead scenario trace test n (k + 1) s o (omega arith) (λ i more. same i (omega arith)) at
    (read_past k s (sym (same k (omega arith)) ∙ skips) h))

-- ---- a round

-- every running node has read every notice, and so many slots ran
abbrev IsBetween : ℕ → RunState → Type 0
IsBetween slots s = HaveRead s × (length s.trace ≡ slots)

one_unread : (scenario : ScenarioParts) (s : RunState) → HaveRead s → ReadBelow 0 (proceed scenario s Slot)
unfolding proceed
one_unread scenario s h = record {
  below = λ i less. absurd (omega arith);
  from = λ i more running. elim (restarts_or_stays scenario (after_slot (script scenario.rules) s) i) [
    | inl new ↦ omega (arith, ap (λ (node : NodeState). node.unread) new.is)
    | inr same ↦
        let ran = running_before_slot (script scenario.rules) s i (ap (λ (node : NodeState). runs node) (sym same) ∙ running) in
        omega (arith, ap (λ (node : NodeState). node.unread) same, after_slot-unread (script scenario.rules) s i (runs_within s.nodes i ran.0), h i ran.0)
  ];
}

leads_weaker : (scenario : ScenarioParts) (P Q : RunState → Type 0) → ((t : RunState) → P t → Q t) → (s : RunState) (journal : List Step)
    → Leads scenario P s journal → Leads scenario Q s journal
leads_weaker scenario P Q f s journal l = record { legal = l.legal; orderly = l.orderly; holds = f (run_from scenario s journal) l.holds }

round-is : (scenario : ScenarioParts) (s : RunState) → is_done (reply scenario s Slot) ≡ true
    → Slot ∷ map (λ i. Turn i) (reading_nodes (proceed scenario s Slot).nodes) ≡ round scenario s
unfolding round after_step
round-is scenario s done = rw done refl

round_leads : (scenario : ScenarioParts) (slots : ℕ) (s : RunState) → IsOrderly scenario.params.nodes s → IsBetween slots s → slots < scenario.params.slots
    → Leads scenario (IsBetween (suc slots)) s (round scenario s)
round_leads scenario slots s o between room =
    let may : MaySlot scenario s = record { room = omega (arith, between.1); lag = λ i running. omega (arith, between.0 i running) } in
    let done : is_done (reply scenario s Slot) ≡ true = slot_is_done scenario s may in
    let t : RunState = proceed scenario s Slot in
    let long : length t.trace ≡ suc slots = ap (λ trace. length trace) (slot_step-trace scenario s) ∙ ap (λ n. suc n) between.1 in
    leads_weaker scenario (IsCaughtUp t.trace) (IsBetween (suc slots)) (λ u caught. (caught.0, ap (λ trace. length trace) caught.1 ∙ long)) s (round scenario s)
    (subst (Leads scenario (IsCaughtUp t.trace) s) (round-is scenario s done)
    (leads_on scenario (IsCaughtUp t.trace) s t Slot _ done refl
    (turns_lead scenario t.trace (λ i. is_to_read (node_at t.nodes i)) (length t.nodes) 0 t (orderly_slot_step scenario s o)
    (omega arith) (λ i more. refl) refl (one_unread scenario s between.0))))

rounds_lead : (scenario : ScenarioParts) (rest slots : ℕ) (s : RunState) → IsOrderly scenario.params.nodes s → IsBetween slots s
    → slots + rest ≡ scenario.params.slots → Leads scenario (IsBetween scenario.params.slots) s (rounds scenario rest s)
unfolding rounds
rounds_lead scenario zero slots s o between e =
    leads_nowhere scenario (IsBetween scenario.params.slots) s o (between.0, omega (arith, between.1))
rounds_lead scenario (suc rest) slots s o between e =
    let first = round_leads scenario slots s o between (omega arith) in
    leads_then scenario (IsBetween (suc slots)) (IsBetween scenario.params.slots) s (round scenario s) _ first
    (rounds_lead scenario rest (suc slots) (run_from scenario s (round scenario s)) first.orderly first.holds (omega arith))

-- ---- the whole journal

opening_between : (nodes : ℕ) → IsBetween 0 (opening nodes)
opening_between nodes = (
  λ i running.
      ap (λ node. node.unread) (node_at-opening nodes i (opening_within nodes i running)),
  refl,
)

pub all_have_read : (s : RunState) → HaveRead s → all_read s ≡ true
unfolding node_at
all_have_read s h =
    list_all-from_AllPass (λ (node : NodeState). not (runs node) || node.unread == 0) s.nodes (λ i d less.
    subst (λ (node : NodeState). (not (runs node) || node.unread == 0) ≡ true) (get_or_default s.nodes i absent d less)
    (elim (cases_Bool (runs (slice_index_or s.nodes i absent))) [
      | inl running ↦ or_right (not (runs (slice_index_or s.nodes i absent))) _ (eq-eqb _ 0 (h i running))
      | inr stopped ↦ or_left (not (runs (slice_index_or s.nodes i absent))) _ (not_from_false _ stopped)
    ]))

-- at every lag and under every script
pub round_robin_ends : (scenario : ScenarioParts) → IsLegal scenario (round_robin scenario) × IsWhole scenario (round_robin scenario)
round_robin_ends scenario =
    let l = rounds_lead scenario scenario.params.slots 0 (opening scenario.params.nodes) (orderly_opening scenario.params.nodes) (opening_between scenario.params.nodes) (omega arith) in
    let end : RunState = run_from scenario (opening scenario.params.nodes) (round_robin scenario) in (
      l.legal,
      and_from (nat_le scenario.params.slots (slots_run end)) (all_read end) (le-leb scenario.params.slots (slots_run end) (omega (arith, l.holds.1)))
          (all_have_read end l.holds.0),
    )
