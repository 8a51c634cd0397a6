-- One idle slot with its turns: the slot carries nothing and stops nobody, and the turn of a node
-- that has nothing to do only reads it.
use Rattle.std.specs.Prelude.{◌≡◌, ℕ, zero, suc, ◌+◌, ◌-◌, ◌<◌, ◌≤◌, ◌&&◌, ◌||◌, Bool, true, false, nat_lt, if◌then◌else◌, List, [], ◌∷◌, ◌++◌, Option, Some, None, Contains, is_none, length, map, drop, filter, refl}
use Rattle.std.specs.List.{range_with_len}
use Rattle.std.proofs.Common.{sym, ap, ◌∙◌, subst, inl, inr, arith}
use Rattle.std.proofs.lemmas.Bool.{false≢true, cases_Bool, cases_eq, cases_lt, cond_both, lt-ltb}
use Rattle.std.proofs.lemmas.List.{ext_get_or, get_or-map, length-map}
use Rattle.cany_base.specs.declared.slot_note.SlotNote.{SlotNote}
use Rattle.cany_base.specs.declared.step.Step.{Step}
use Rattle.cany_base.specs.declared.step.Step.TheVariants.{Slot, Turn}
use Rattle.cany_base.specs.Frame.{FrameParts}
use Rattle.cany_base.specs.Limits.{most_nodes}
use Rattle.cany_base.specs.Nodes.{has, nobody}
use Rattle.cany_base.specs.Scenario.{ScenarioParts}
use Rattle.cany_base.proofs.NodesFacts.{has_none, same_as_those_where}
use Rattle.cany_model.specs.Bus.History.{given, history, seen, trace_for}
use Rattle.cany_model.specs.Bus.Restart.{names_restart}
use Rattle.cany_model.specs.Runs.RoundRobin.{is_to_read, reading_nodes, round}
use Rattle.cany_model.specs.Runs.Run.{after_step, after_turn, is_done, is_legal_from, proceed, reply, run_from}
use Rattle.cany_model.specs.Bus.Slot.{after_share, after_slot, exceeds, node_after, note_by, ruling_of, script, share_of, slot_note_of, stopping, winner}
use Rattle.cany_model.specs.Bus.State.{NodeState, RunState, absent, node_at, runs, slots_run}
use Rattle.cany_model.specs.Rules.Effect.{waiting_after}
use Rattle.cany_model.specs.Rules.Turn.{effects_for}
use Rattle.cany_model.proofs.Runs.Journals.{legal_none, legal_then, orderly_slot_step, run_none, run_then, slot_step-trace, step_is}
use Rattle.cany_model.proofs.Bus.Notes.{IsOffered, winner-offered}
use Rattle.cany_model.proofs.Bus.Restarts.{after_restarts-length, restarts_or_stays}
use Rattle.cany_model.proofs.Runs.Runs.{IsOrderly, orderly_turn, slot_is_done, turn_is_done}
use Rattle.cany_model.proofs.Bus.States.{node_at_past, note_at, runs_within}
use Rattle.cany_model.proofs.Runs.Steps.{MayTurn, after_slot-length, after_slot-node, after_slot-trace, after_turn-history, after_turn-length, after_turn-node, after_turn-other, after_turn-trace, next_notice, node_after_turn}
use Rattle.cany_model.proofs.Rules.IncarnationFacts.{effects_for-is}
use Rattle.can_bus.specs.Rest.{idle_note, idle_trace}
use Rattle.cany_world.specs.Resting.{IsFree}
use Rattle.cany_world.proofs.Idle.IdleSlots.{HasNothingToDo, MayRest, after_rest, idle_round, rested}

-- ---- the slot

-- every running node has nothing to do
abbrev AllHaveNothingToDo : RunState → Type 0
AllHaveNothingToDo s = (i : ℕ) → runs (node_at s.nodes i) ≡ true → HasNothingToDo (node_at s.nodes i)

-- nobody competes

nothing_offered : (s : RunState) (f : FrameParts) → AllHaveNothingToDo s → IsOffered s.nodes f → ⊥
nothing_offered s f nothing_to_do o =
    let c : Contains [] f = subst (λ waiting. Contains waiting f) (nothing_to_do o.node o.running).waiting o.waits in
    absurd (omega (arith, c.1))

no_winner : (s : RunState) → AllHaveNothingToDo s → winner s.nodes ≡ None
no_winner s nothing_to_do = by_winner (winner s.nodes) refl
  where
    by_winner : (found : Option FrameParts) → winner s.nodes ≡ found → found ≡ None
    by_winner None e = refl
    by_winner (Some f) e = absurd (nothing_offered s f nothing_to_do (winner-offered s.nodes f e))

-- nobody stops, by the script or by its counters
none_stops : (s : RunState) (slot : ℕ) → AllHaveNothingToDo s → stopping nobody s.nodes (idle_note slot) ≡ nobody
unfolding share_of after_share
none_stops s slot nothing_to_do = sym (same_as_those_where nobody _ (λ i. has_none i ∙ sym (outside (nat_lt i most_nodes) _ (goes_on i))))
  where
    outside : (b c : Bool) → c ≡ false → (b && c) ≡ false
    outside true c e = e
    outside false c e = refl

    goes_on : (i : ℕ) → (runs (node_at s.nodes i) && (has nobody i || exceeds (node_at s.nodes i))) ≡ false
    goes_on i = elim (cases_Bool (runs (node_at s.nodes i))) [
      | inl running ↦ rw (running, has_none i) (nothing_to_do i running).counters
      | inr stopped ↦ rw stopped refl
    ]

-- what happens in the slot
idle_note-is : (scenario : ScenarioParts) (s : RunState) → AllHaveNothingToDo s → IsFree scenario (slots_run s)
    → slot_note_of (script scenario.rules) s ≡ idle_note (length s.trace)
unfolding slot_note_of script
idle_note-is scenario s nothing_to_do free =
    ap (λ found. note_by (length s.trace) s.nodes found (script scenario.rules s.trace found)) (no_winner s nothing_to_do)
    ∙ ap (λ rule. note_by (length s.trace) s.nodes None (ruling_of rule)) free.rules
    ∙ ap (λ stops. record (idle_note (length s.trace)) { stops = stops }) (none_stops s (length s.trace) nothing_to_do)

-- the node with one notice more unread
abbrev pub one_unread : NodeState → NodeState
one_unread node = record node { unread = node.unread + 1 }

not_stopped : (stopped : Option ℕ) (b : Bool) (slot : ℕ) → is_none stopped ≡ true → b ≡ false → (if b then Some slot else None) ≡ stopped
not_stopped None b slot running e = rw e refl
not_stopped (Some t) b slot running e = absurd (false≢true running)

pub idle_node : (i slot : ℕ) (node : NodeState) → node_after i (idle_note slot) node ≡ one_unread node
unfolding node_after share_of after_share
idle_node i slot node = by_run (runs node) refl
  where
    by_run : (b : Bool) → runs node ≡ b
        → (if b then record node { unread = node.unread + 1; stopped = if has nobody i then Some slot else None } else one_unread node) ≡ one_unread node
    by_run true running =
        ap (λ stopped. record node { unread = node.unread + 1; stopped = stopped })
        (not_stopped node.stopped (has nobody i) slot running (has_none i))
    by_run false e = refl

-- the state after the slot, before the turns
abbrev pub idle_slot : RunState → RunState
idle_slot s = record { trace = idle_trace 1 s.trace; nodes = map one_unread s.nodes }

-- two lists with the same nodes are equal
same_nodes_at : (a b : List NodeState) → length a ≡ length b → ((i : ℕ) → i < length a → node_at a i ≡ node_at b i) → a ≡ b
unfolding node_at
same_nodes_at a b long same = ext_get_or absent a b long same

pub node_at-map : (f : NodeState → NodeState) (nodes : List NodeState) (i : ℕ) → i < length nodes → node_at (map f nodes) i ≡ f (node_at nodes i)
unfolding node_at
node_at-map f nodes i h = get_or-map f nodes i absent absent h

-- no restart entry is of the slot, so that each node is as the slot left it
slot_node : (scenario : ScenarioParts) (s : RunState) → AllHaveNothingToDo s → IsFree scenario (slots_run s) → (i : ℕ) → i < length s.nodes
    → node_at (proceed scenario s Slot).nodes i ≡ one_unread (node_at s.nodes i)
unfolding proceed
slot_node scenario s nothing_to_do free i below = elim (restarts_or_stays scenario t i) [
  | inl new ↦ absurd (false≢true (sym (ap (λ slot. names_restart scenario.restarts slot i) last ∙ free.restarts i) ∙ new.named))
  | inr same ↦
      same ∙ after_slot-node (script scenario.rules) s i below
      ∙ ap (λ note. node_after i note (node_at s.nodes i)) (idle_note-is scenario s nothing_to_do free)
      ∙ idle_node i (length s.trace) (node_at s.nodes i)
]
  where
    t : RunState
    t = after_slot (script scenario.rules) s

    last : slots_run t - 1 ≡ slots_run s
    last = let longer : length t.trace ≡ suc (length s.trace) = ap length (after_slot-trace (script scenario.rules) s) in omega (arith, longer)

slot_length : (scenario : ScenarioParts) (s : RunState) → length (proceed scenario s Slot).nodes ≡ length s.nodes
unfolding proceed
slot_length scenario s = after_restarts-length scenario (after_slot (script scenario.rules) s) ∙ after_slot-length (script scenario.rules) s

slot_trace : (scenario : ScenarioParts) (s : RunState) → AllHaveNothingToDo s → IsFree scenario (slots_run s) → (proceed scenario s Slot).trace ≡ idle_trace 1 s.trace
unfolding idle_trace
slot_trace scenario s nothing_to_do free = slot_step-trace scenario s ∙ ap (λ note. note ∷ s.trace) (idle_note-is scenario s nothing_to_do free)

idle_slot-is : (scenario : ScenarioParts) (s : RunState) → AllHaveNothingToDo s → IsFree scenario (slots_run s) → proceed scenario s Slot ≡ idle_slot s
idle_slot-is scenario s nothing_to_do free =
    let nodes : (proceed scenario s Slot).nodes ≡ map one_unread s.nodes =
    same_nodes_at (proceed scenario s Slot).nodes (map one_unread s.nodes) (slot_length scenario s ∙ sym (length-map s.nodes one_unread))
    (λ i h. let below : i < length s.nodes = subst (λ n. i < n) (slot_length scenario s) h in
    slot_node scenario s nothing_to_do free i below ∙ sym (node_at-map one_unread s.nodes i below)) in
    λ k. record { trace = (slot_trace scenario s nothing_to_do free) k; nodes = nodes k }

slot_done : (scenario : ScenarioParts) (s : RunState) → AllHaveNothingToDo s → slots_run s < scenario.params.slots → is_done (reply scenario s Slot) ≡ true
slot_done scenario s nothing_to_do room =
    slot_is_done scenario s (record { room = room; lag = λ i running. omega (arith, (nothing_to_do i running).unread) })

-- ---- the turns

-- every running node has something to read
abbrev AllMayTurn : RunState → Type 0
AllMayTurn u = (i : ℕ) → runs (node_at u.nodes i) ≡ true → MayTurn u i

-- From the state u on the running nodes below k took their turns. To each it is as if it had taken
-- its turn alone, and the other nodes are as they were.
record HaveTurned (scenario : ScenarioParts) (u t : RunState) (k : ℕ) : Type 0 where
  trace : t.trace ≡ u.trace
  count : length t.nodes ≡ length u.nodes
  below : (i : ℕ) → i < k → runs (node_at u.nodes i) ≡ true → node_at t.nodes i ≡ node_at (after_turn scenario i u).nodes i
  stopped : (i : ℕ) → runs (node_at u.nodes i) ≡ false → node_at t.nodes i ≡ node_at u.nodes i
  from : (i : ℕ) → k ≤ i → node_at t.nodes i ≡ node_at u.nodes i

none_turned : (scenario : ScenarioParts) (u : RunState) → HaveTurned scenario u u 0
none_turned scenario u = record {
  trace = refl;
  count = refl;
  below = λ i h running. absurd (omega arith);
  stopped = λ i h. refl;
  from = λ i h. refl;
}

pub rested_stopped : (n : ℕ) (node : NodeState) → runs node ≡ false → rested n node ≡ record node { unread = node.unread + n }
rested_stopped n node stopped = rw stopped refl

pub rested_running : (n : ℕ) (node : NodeState) → runs node ≡ true → rested n node ≡ node
rested_running n node running = rw running refl

-- node k had stopped
turn_skipped : (scenario : ScenarioParts) (u t : RunState) (k : ℕ) → HaveTurned scenario u t k → runs (node_at u.nodes k) ≡ false
    → HaveTurned scenario u t (k + 1)
turn_skipped scenario u t k now stopped = record {
  trace = now.trace;
  count = now.count;
  below = λ i h running. elim (cases_eq i k) [
    | inl same ↦ absurd (false≢true (sym stopped ∙ ap (λ n. runs (node_at u.nodes n)) (sym same) ∙ running))
    | inr other ↦ now.below i (omega arith) running
  ];
  stopped = now.stopped;
  from = λ i h. now.from i (omega arith);
}

-- the history depends on the trace, the incarnation and how much of it is unread
same_history : (i : ℕ) (s t : RunState) → s.trace ≡ t.trace → (node_at s.nodes i).present ≡ (node_at t.nodes i).present
    → (node_at s.nodes i).unread ≡ (node_at t.nodes i).unread → history i s ≡ history i t
unfolding history
same_history i s t trace present unread = λ k. map (given i) (drop (unread k) (trace_for (present k).number (present k) (trace k)))

-- what a turn makes of the node that takes it depends on the trace and that node
same_turn : (scenario : ScenarioParts) (u t : RunState) (k : ℕ) → MayTurn u k → MayTurn t k → (node_at u.nodes k).unread ≤ length u.trace
    → t.trace ≡ u.trace → node_at t.nodes k ≡ node_at u.nodes k → node_at (after_turn scenario k t).nodes k ≡ node_at (after_turn scenario k u).nodes k
same_turn scenario u t k may may' short trace node =
    let short' : (node_at t.nodes k).unread ≤ length t.trace =
    omega (arith, short, ap (λ (n : NodeState). n.unread) node, ap (λ (l : List SlotNote). length l) trace) in
    let next : next_notice t k ≡ next_notice u k = λ j. given k (note_at (seen (node j).present (trace j)) ((node j).unread - 1)) in
    let past : history k t ≡ history k u = same_history k t u trace (ap (λ (n : NodeState). n.present) node) (ap (λ (n : NodeState). n.unread) node) in
    after_turn-node scenario k t may' short'
    ∙ (λ j. node_after_turn scenario k (next j ∷ past j) (node j))
    ∙ sym (after_turn-node scenario k u may short)

may_still : (u t : RunState) (k : ℕ) → length t.nodes ≡ length u.nodes → node_at t.nodes k ≡ node_at u.nodes k → MayTurn u k → MayTurn t k
may_still u t k count node may = record {
  there = omega (arith, may.there, count);
  running = ap (λ (n : NodeState). runs n) node ∙ may.running;
  unread = omega (arith, may.unread, ap (λ (n : NodeState). n.unread) node);
}

turn_taken : (scenario : ScenarioParts) (u t : RunState) (k : ℕ) → IsOrderly scenario.params.nodes u → HaveTurned scenario u t k → MayTurn u k
    → HaveTurned scenario u (after_turn scenario k t) (k + 1)
turn_taken scenario u t k o now may =
    let here : node_at t.nodes k ≡ node_at u.nodes k = now.from k (omega arith) in
    record {
      trace = after_turn-trace scenario k t ∙ now.trace;
      count = after_turn-length scenario k t ∙ now.count;
      below = λ i h running. elim (cases_eq i k) [
        | inl same ↦
            subst (λ n. node_at (after_turn scenario k t).nodes n ≡ node_at (after_turn scenario n u).nodes n) (sym same)
            (same_turn scenario u t k may (may_still u t k now.count here may) (o.unread k) now.trace here)
        | inr other ↦ after_turn-other scenario k t i other ∙ now.below i (omega arith) running
      ];
      stopped = λ i h.
          after_turn-other scenario k t i (λ same. absurd (false≢true (sym h ∙ ap (λ n. runs (node_at u.nodes n)) same ∙ may.running)))
          ∙ now.stopped i h;
      from = λ i h. after_turn-other scenario k t i (λ same. absurd (omega arith)) ∙ now.from i (omega arith);
    }

-- ---- journals that lead to states

-- from s each step of the journal is done, and it leads to t
pub record LeadsTo (scenario : ScenarioParts) (s : RunState) (journal : List Step) (t : RunState) : Type 0 where
  pub legal : is_legal_from scenario s journal ≡ true
  pub to : run_from scenario s journal ≡ t
  pub orderly : IsOrderly scenario.params.nodes t

pub leads_nowhere : (scenario : ScenarioParts) (s t : RunState) → IsOrderly scenario.params.nodes s → s ≡ t → LeadsTo scenario s [] t
leads_nowhere scenario s t o same = record {
  legal = legal_none scenario s;
  to = run_none scenario s ∙ same;
  orderly = subst (λ (u : RunState). IsOrderly scenario.params.nodes u) same o;
}

leads_on : (scenario : ScenarioParts) (s t u : RunState) (step : Step) (journal : List Step) → is_done (reply scenario s step) ≡ true
    → proceed scenario s step ≡ t → LeadsTo scenario t journal u → LeadsTo scenario s (step ∷ journal) u
unfolding is_legal_from run_from after_step
leads_on scenario s t u step journal done next l = record {
  legal = rw (done, next) l.legal;
  to = rw (done, next) l.to;
  orderly = l.orderly;
}

pub leads_then : (scenario : ScenarioParts) (s t u : RunState) (first rest : List Step) → LeadsTo scenario s first t → LeadsTo scenario t rest u
    → LeadsTo scenario s (first ++ rest) u
leads_then scenario s t u first rest p q = record {
  legal = legal_then scenario s first rest p.legal (subst (λ (v : RunState). is_legal_from scenario v rest ≡ true) (sym p.to) q.legal);
  to = run_then scenario s first rest ∙ ap (λ v. run_from scenario v rest) p.to ∙ q.to;
  orderly = q.orderly;
}

-- ---- the turns of all running nodes

-- these steps are done from t on, and then the running nodes have taken their turns in the state u
record TurnsLead (scenario : ScenarioParts) (u t : RunState) (steps : List Step) : Type 0 where
  end : RunState
  leads : LeadsTo scenario t steps end
  now : HaveTurned scenario u end (length u.nodes)

-- the turns of the running nodes from k on
turns_lead : (scenario : ScenarioParts) (u : RunState) → IsOrderly scenario.params.nodes u → AllMayTurn u → (n k : ℕ) (t : RunState)
    → IsOrderly scenario.params.nodes t → k + n ≡ length u.nodes → HaveTurned scenario u t k
    → TurnsLead scenario u t (map (λ i. Turn i) (filter (λ i. runs (node_at u.nodes i)) (range_with_len k n)))
unfolding proceed
turns_lead scenario u p all zero k t o count now =
    let e : k ≡ length u.nodes = omega arith in
    record { end = t; leads = leads_nowhere scenario t t o refl; now = subst (HaveTurned scenario u t) e now }
turns_lead scenario u p all (suc n) k t o count now =
    let rest : List ℕ = filter (λ i. runs (node_at u.nodes i)) (range_with_len (k + 1) n) in
    cond_both (runs (node_at u.nodes k)) (k ∷ rest) rest
    (λ ks. TurnsLead scenario u t (map (λ i. Turn i) ks))
    (λ running.
    let may : MayTurn t k = may_still u t k now.count (now.from k (omega arith)) (all k running) in
    let next : TurnsLead scenario u (after_turn scenario k t) (map (λ i. Turn i) rest) =
    turns_lead scenario u p all n (k + 1) (after_turn scenario k t) (orderly_turn scenario.params.nodes scenario k t may o) (omega arith)
    (turn_taken scenario u t k p now (all k running)) in
    record {
      end = next.end;
      leads = leads_on scenario t (after_turn scenario k t) next.end (Turn k) _ (turn_is_done scenario t k o.count may) refl next.leads;
      now = next.now;
    })
    (λ stopped. turns_lead scenario u p all n (k + 1) t o (omega arith) (turn_skipped scenario u t k now stopped))

-- ---- the round

-- the running nodes run on after the slot
runs_after_slot : (s : RunState) (i : ℕ) → runs (node_at (idle_slot s).nodes i) ≡ runs (node_at s.nodes i)
runs_after_slot s i = elim (cases_lt i (length s.nodes)) [
  | inl within ↦ ap (λ (node : NodeState). runs node) (node_at-map one_unread s.nodes i within)
  | inr past ↦
      let past' : length (map one_unread s.nodes) ≤ i = omega (arith, past, length-map s.nodes one_unread) in
      ap (λ (node : NodeState). runs node) (node_at_past (map one_unread s.nodes) i past' ∙ sym (node_at_past s.nodes i past))
]

-- a running node has something to read after the slot, and no other has
reads_after_slot : (s : RunState) (i : ℕ) → is_to_read (node_at (idle_slot s).nodes i) ≡ runs (node_at s.nodes i)
reads_after_slot s i = elim (cases_lt i (length s.nodes)) [
  | inl within ↦ ap (λ (node : NodeState). is_to_read node) (node_at-map one_unread s.nodes i within) ∙ some (runs node) node.unread
  | inr past ↦
      let past' : length (map one_unread s.nodes) ≤ i = omega (arith, past, length-map s.nodes one_unread) in
      ap (λ (node : NodeState). is_to_read node) (node_at_past (map one_unread s.nodes) i past')
      ∙ sym (ap (λ (node : NodeState). runs node) (node_at_past s.nodes i past))
]
  where
    node : NodeState
    node = node_at s.nodes i

    some : (b : Bool) (n : ℕ) → (b && nat_lt 0 (n + 1)) ≡ b
    some true n = lt-ltb 0 (n + 1) (omega arith)
    some false n = refl

-- a slot is left of which the script says nothing, and the running nodes have nothing to do
pub record IsIdleNext (scenario : ScenarioParts) (s : RunState) : Type 0 where
  pub room : slots_run s < scenario.params.slots
  pub free : IsFree scenario (slots_run s)
  pub nothing_to_do : (i : ℕ) → runs (node_at s.nodes i) ≡ true → HasNothingToDo (node_at s.nodes i)

pub idle_next : (scenario : ScenarioParts) (s : RunState) (slots : ℕ) → MayRest scenario s (suc slots) → IsIdleNext scenario s
idle_next scenario s slots may = record {
  room = omega (arith, may.left.room);
  free = may.left.free (slots_run s) (omega arith) (omega arith);
  nothing_to_do = may.nothing_to_do;
}

-- the steps that round robin makes
pub round-is : (scenario : ScenarioParts) (s : RunState) → IsIdleNext scenario s → round scenario s ≡ idle_round s.nodes
unfolding round
round-is scenario s idle =
    let slot : after_step scenario s Slot ≡ idle_slot s =
    step_is scenario s Slot (slot_done scenario s idle.nothing_to_do idle.room) ∙ idle_slot-is scenario s idle.nothing_to_do idle.free in
    let tests : (λ i. is_to_read (node_at (idle_slot s).nodes i)) ≡ (λ i. runs (node_at s.nodes i)) = λ k i. (reads_after_slot s i) k in
    ap (λ (t : RunState). Slot ∷ map (λ i. Turn i) (reading_nodes t.nodes)) slot
    ∙ ap (λ test. Slot ∷ map (λ i. Turn i) (filter test (range_with_len 0 (length (idle_slot s).nodes)))) tests
    ∙ ap (λ n. Slot ∷ map (λ i. Turn i) (filter (λ i. runs (node_at s.nodes i)) (range_with_len 0 n))) (length-map s.nodes one_unread)

-- The state after them. To each running node it is as if it had taken its turn alone after the
-- slot.
pub record IsAfterRound (scenario : ScenarioParts) (s t : RunState) : Type 0 where
  pub trace : t.trace ≡ idle_trace 1 s.trace
  pub count : length t.nodes ≡ length s.nodes
  pub running : (i : ℕ) → runs (node_at s.nodes i) ≡ true → node_at t.nodes i ≡ node_at (after_turn scenario i (proceed scenario s Slot)).nodes i
  pub stopped : (i : ℕ) → i < length s.nodes → runs (node_at s.nodes i) ≡ false → node_at t.nodes i ≡ one_unread (node_at s.nodes i)

-- the slot and its turns are done, and lead to such a state
pub record RoundLeads (scenario : ScenarioParts) (s : RunState) : Type 0 where
  pub end : RunState
  pub leads : LeadsTo scenario s (idle_round s.nodes) end
  pub after : IsAfterRound scenario s end

pub slot_leads : (scenario : ScenarioParts) (s : RunState) → IsOrderly scenario.params.nodes s → IsIdleNext scenario s
    → LeadsTo scenario s (Slot ∷ []) (proceed scenario s Slot)
slot_leads scenario s o idle =
    leads_on scenario s (proceed scenario s Slot) (proceed scenario s Slot) Slot [] (slot_done scenario s idle.nothing_to_do idle.room) refl
    (leads_nowhere scenario (proceed scenario s Slot) (proceed scenario s Slot) (orderly_slot_step scenario s o) refl)

pub proceed_idle : (scenario : ScenarioParts) (s : RunState) → IsIdleNext scenario s → proceed scenario s Slot ≡ idle_slot s
proceed_idle scenario s idle = idle_slot-is scenario s idle.nothing_to_do idle.free

orderly_idle : (scenario : ScenarioParts) (s : RunState) → IsOrderly scenario.params.nodes s → IsIdleNext scenario s
    → IsOrderly scenario.params.nodes (idle_slot s)
orderly_idle scenario s o idle =
    subst (λ (t : RunState). IsOrderly scenario.params.nodes t) (proceed_idle scenario s idle) (orderly_slot_step scenario s o)

may_turn : (s : RunState) → AllMayTurn (idle_slot s)
may_turn s i runs_on =
    let within : i < length s.nodes = runs_within s.nodes i (sym (runs_after_slot s i) ∙ runs_on) in
    record {
      there = omega (arith, within, length-map s.nodes one_unread);
      running = runs_on;
      unread = omega (arith, ap (λ (node : NodeState). node.unread) (node_at-map one_unread s.nodes i within));
    }

pub round_leads : (scenario : ScenarioParts) (s : RunState) → IsOrderly scenario.params.nodes s → IsIdleNext scenario s → RoundLeads scenario s
round_leads scenario s o idle =
    let u : RunState = idle_slot s in
    let is : proceed scenario s Slot ≡ u = proceed_idle scenario s idle in
    let p : IsOrderly scenario.params.nodes u = orderly_idle scenario s o idle in
    let turns : TurnsLead scenario u u (map (λ i. Turn i) (filter (λ i. runs (node_at u.nodes i)) (range_with_len 0 (length u.nodes)))) =
    turns_lead scenario u p (may_turn s) (length u.nodes) 0 u p (omega arith) (none_turned scenario u) in
    let tests : (λ i. runs (node_at u.nodes i)) ≡ (λ i. runs (node_at s.nodes i)) = λ k i. (runs_after_slot s i) k in
    let steps : map (λ i. Turn i) (filter (λ i. runs (node_at u.nodes i)) (range_with_len 0 (length u.nodes)))
    ≡ map (λ i. Turn i) (filter (λ i. runs (node_at s.nodes i)) (range_with_len 0 (length s.nodes))) =
    λ k. map (λ i. Turn i) (filter (tests k) (range_with_len 0 ((length-map s.nodes one_unread) k))) in
    record {
      end = turns.end;
      leads = subst (λ (made : List Step). LeadsTo scenario s (Slot ∷ made) turns.end) steps
          (leads_on scenario s u turns.end Slot _ (slot_done scenario s idle.nothing_to_do idle.room) is turns.leads);
      after = record {
        trace = turns.now.trace;
        count = turns.now.count ∙ length-map s.nodes one_unread;
        running = λ i running.
            let runs_on : runs (node_at u.nodes i) ≡ true = runs_after_slot s i ∙ running in
            turns.now.below i (runs_within u.nodes i runs_on) runs_on
            ∙ ap (λ (t : RunState). node_at (after_turn scenario i t).nodes i) (sym is);
        stopped = λ i within stopped. turns.now.stopped i (runs_after_slot s i ∙ stopped) ∙ node_at-map one_unread s.nodes i within;
      };
    }

-- ---- a node that has nothing to do

-- in the round node k asks for nothing, withdraws nothing and enters nothing
abbrev pub HasNothing : ScenarioParts → RunState → ℕ → Type 0
HasNothing scenario s k =
    effects_for (node_at s.nodes k).present.number scenario (node_at s.nodes k).present k (history k (after_rest 1 s)) ≡ []

-- after its turn it has read what it has read when the round is over
turn_history : (scenario : ScenarioParts) (s : RunState) (k : ℕ) → IsOrderly scenario.params.nodes (idle_slot s) → runs (node_at s.nodes k) ≡ true
    → next_notice (idle_slot s) k ∷ history k (idle_slot s) ≡ history k (after_rest 1 s)
turn_history scenario s k o running =
    let u : RunState = idle_slot s in
    let within : k < length s.nodes = runs_within s.nodes k running in
    let may : MayTurn u k = may_turn s k (runs_after_slot s k ∙ running) in
    let after = after_turn-node scenario k u may (o.unread k) in
    let is : node_at u.nodes k ≡ one_unread (node_at s.nodes k) = node_at-map one_unread s.nodes k within in
    let end : node_at (after_rest 1 s).nodes k ≡ node_at s.nodes k =
    node_at-map (rested 1) s.nodes k within ∙ rested_running 1 (node_at s.nodes k) running in
    let one_less : (node_at s.nodes k).unread + 1 - 1 ≡ (node_at s.nodes k).unread = omega arith in
    sym (after_turn-history scenario k u may (o.unread k))
    ∙ same_history k (after_turn scenario k u) (after_rest 1 s) (after_turn-trace scenario k u)
    (ap (λ node. node.present) after ∙ ap (λ node. node.present) is ∙ sym (ap (λ node. node.present) end))
    (ap (λ node. node.unread) after ∙ ap (λ node. node.unread - 1) is ∙ one_less ∙ sym (ap (λ node. node.unread) end))

-- its turn leaves it as it was before the slot
pub turn_node : (scenario : ScenarioParts) (s : RunState) (k : ℕ) → IsOrderly scenario.params.nodes s → IsIdleNext scenario s
    → runs (node_at s.nodes k) ≡ true → HasNothing scenario s k → node_at (after_turn scenario k (proceed scenario s Slot)).nodes k ≡ node_at s.nodes k
unfolding waiting_after
turn_node scenario s k o idle running nothing =
    let u : RunState = idle_slot s in
    let p : IsOrderly scenario.params.nodes u = orderly_idle scenario s o idle in
    let node : NodeState = node_at s.nodes k in
    let is : node_at u.nodes k ≡ one_unread node = node_at-map one_unread s.nodes k (runs_within s.nodes k running) in
    let one_less : node.unread + 1 - 1 ≡ node.unread = omega arith in
    ap (λ (t : RunState). node_at (after_turn scenario k t).nodes k) (proceed_idle scenario s idle)
    ∙ after_turn-node scenario k u (may_turn s k (runs_after_slot s k ∙ running)) (p.unread k)
    ∙ ap (λ now. node_after_turn scenario k (next_notice u k ∷ history k u) now) is
    ∙ ap (λ past. node_after_turn scenario k past (one_unread node)) (turn_history scenario s k p running)
    ∙ ap (λ effects. record node { unread = node.unread + 1 - 1; waiting = waiting_after effects node.waiting })
    (sym (effects_for-is scenario node.present k (history k (after_rest 1 s))) ∙ nothing)
    ∙ ap (λ unread. record node { unread = unread }) one_less

-- where no running node has anything to do, the round leads to the state after the rest
pub idle_round_leads : (scenario : ScenarioParts) (s : RunState) → IsOrderly scenario.params.nodes s → IsIdleNext scenario s
    → ((i : ℕ) → runs (node_at s.nodes i) ≡ true → HasNothing scenario s i) → LeadsTo scenario s (idle_round s.nodes) (after_rest 1 s)
idle_round_leads scenario s o idle nothing =
    let round : RoundLeads scenario s = round_leads scenario s o idle in
    let nodes : round.end.nodes ≡ map (rested 1) s.nodes =
    same_nodes_at round.end.nodes (map (rested 1) s.nodes) (round.after.count ∙ sym (length-map s.nodes (rested 1)))
    (λ i h. let within : i < length s.nodes = subst (λ n. i < n) round.after.count h in
    at round i within ∙ sym (node_at-map (rested 1) s.nodes i within)) in
    let end : round.end ≡ after_rest 1 s = λ k. record { trace = round.after.trace k; nodes = nodes k } in
    subst (LeadsTo scenario s (idle_round s.nodes)) end round.leads
  where
    at : (round : RoundLeads scenario s) (i : ℕ) → i < length s.nodes → node_at round.end.nodes i ≡ rested 1 (node_at s.nodes i)
    at round i within = elim (cases_Bool (runs (node_at s.nodes i))) [
      | inl running ↦
          round.after.running i running ∙ turn_node scenario s i o idle running (nothing i running)
          ∙ sym (rested_running 1 (node_at s.nodes i) running)
      | inr stopped ↦ round.after.stopped i within stopped ∙ sym (rested_stopped 1 (node_at s.nodes i) stopped)
    ]
