-- A stretch of idle slots: that the next slots are one, and what idle slots leave of a controller
-- and its node.
use Rattle.std.proofs.Common.{◌≡◌, ℕ, zero, suc, ◌+◌, ◌<◌, ◌≤◌, true, false, List, [], ◌∷◌, ◌++◌, length, map, take, replicate, refl, ap, sym, ◌∙◌, subst, inl, inr, arith}
use Rattle.std.specs.List.{range_with_len}
use Rattle.std.specs.Option.{option_map_or}
use Rattle.std.specs.Prelude.{if◌then◌else◌, is_none, filter, nat_lt, slice_get, slice_set, ◌||◌, Option, Some, None}
use Rattle.std.proofs.lemmas.Bool.{cases_lt, true≢false}
use Rattle.std.proofs.lemmas.List.{length-append}
use Rattle.std.proofs.lemmas.Option.{slice_get_past}
use Rattle.cany_base.specs.declared.notice.Notice.{Notice}
use Rattle.cany_base.specs.declared.notice.NoticeKind.{NoticeKind}
use Rattle.cany_base.specs.declared.notice.NoticeKind.TheVariants.{Idle}
use Rattle.cany_base.specs.declared.slot_note.SlotNote.{SlotNote}
use Rattle.cany_base.specs.declared.step.Step.{Step}
use Rattle.cany_base.specs.declared.step.Step.TheVariants.{Slot, Turn}
use Rattle.cany_base.specs.Limits.{greatest_error_counter}
use Rattle.cany_base.specs.Nodes.{Nodes}
use Rattle.cany_base.specs.Scenario.{ScenarioParts, IsLegalScenario}
use Rattle.cany_base.proofs.NodesFacts.{has_none}
use Rattle.cany_base.proofs.ParamsFacts.{few_slots}
use Rattle.cany_model.specs.declared.share.Share.TheVariants as share
use Rattle.cany_model.specs.Bus.History.{history}
use Rattle.cany_model.specs.Runs.Run.{run}
use Rattle.cany_model.specs.Bus.Slot.{after_share, exceeds, node_after, share_of}
use Rattle.cany_model.specs.Bus.State.{NodeState, RunState, node_at, runs, slots_run}
use Rattle.cany_model.specs.Rules.Turn.{effects_for, scenario_for, turn_effects}
use Rattle.cany_model.proofs.Runs.Runs.{IsOrderly, orderly}
use Rattle.cany_model.proofs.Bus.Seen.{history-is}
use Rattle.cany_model.proofs.Bus.States.{node_at_past, runs_within}
use Rattle.cany_model.proofs.Rules.ErrorFacts.{error_turn}
use Rattle.cany_model.proofs.Rules.IncarnationFacts.{effects_for-is}
use Rattle.can_bus.specs.Bus.{BusParts}
use Rattle.can_bus.specs.Rest.{idle_note, idle_trace}
use Rattle.can_bus.specs.Controllers.{controller_after}
use Rattle.can_bus.proofs.RestFacts.{length-idle_trace}
use Rattle.can_controller.specs.Controller.{ControllerState, node_state, seen, stopped_at}
use Rattle.cany_node.specs.Node.{NodeParts, IsNodeOf}
use Rattle.cany_node.specs.Resting.{RestsUntil}
use Rattle.cany_node.proofs.Idle.RestFacts.{rested_as, rested_effects}
use Rattle.cany_world.specs.Incarnations.{IncarnationsParts}
use Rattle.cany_world.specs.Kept.{IsKeptAs, IsKeptAt, IsPresentAt, AreControllersOf, AreNodesOf, StandFor, heard_of, newest_notices, past_of}
use Rattle.cany_world.specs.Resting.{runs_at as controller_runs}
use Rattle.cany_world.specs.Resting.{CanAllPass, CanCount, IncarnationRests, IsIdleFor, IsOpen, passes, round_of, rounds_of}
use Rattle.cany_world.proofs.Idle.IdleSlots.{HasNothingToDo, MayRest, after_rest, idle_round, idle_rounds, rested}
use Rattle.cany_world.proofs.ControllerFacts.{kept_slot, running_after, stopped_after, stopped_node}
use Rattle.cany_world.proofs.Idle.IdleNotes.{all_ended_rested, heard_rested, past_rested, past_unread, plain_rested}
use Rattle.cany_world.proofs.Idle.IdleRound.{IsIdleNext, idle_node, node_at-map, one_unread, rested_running}
use Rattle.cany_world.proofs.Idle.IdleRounds.{still_is, still_runs}
use Rattle.cany_world.proofs.InOrder.{IsInOrder, weaker}
use Rattle.cany_world.proofs.NodeFacts.{kept_still, kept_turned}
use Rattle.cany_world.proofs.Idle.PassFacts.{passes_few, passes_most}
use Rattle.cany_world.proofs.PlaceFacts.{there}
use Rattle.cany_world.proofs.TurnFacts.{past_length}

-- ---- a node that runs, and its part of the program

-- the controller and the incarnations of node i, which runs
pub record IsThere (scenario : ScenarioParts) (s : RunState) (row : List ControllerState) (kept : List IncarnationsParts) (i : ℕ) : Type 0 where
  pub c : ControllerState
  pub v : IncarnationsParts
  pub at : slice_get row i ≡ Some c
  pub node_at : slice_get kept i ≡ Some v

pub is_there : (scenario : ScenarioParts) (s : RunState) (row : List ControllerState) (kept : List IncarnationsParts) (i : ℕ) → AreControllersOf scenario s row
    → AreNodesOf scenario s kept → i < scenario.params.nodes → IsThere scenario s row kept i
is_there scenario s row kept i controllers nodes within =
    let c = there row i (omega (arith, within, controllers.whole)) in
    let v = there kept i (omega (arith, within, nodes.whole)) in
    record { c = c.0; v = v.0; at = c.1; node_at = v.1 }

running_stop : (stopped : Option ℕ) → is_none stopped ≡ true → stopped ≡ None
running_stop None e = refl
running_stop (Some slot) e = absurd (true≢false (sym e))

nothing_to_do_of : (scenario : ScenarioParts) (trace : List SlotNote) (i next slots : ℕ) (node : NodeState) (c : ControllerState) (v : IncarnationsParts)
    → IsKeptAs scenario trace i node c → c.stopped ≡ None → IsIdleFor next slots c v → HasNothingToDo node
nothing_to_do_of scenario trace i next slots node c v kept running idle = record {
  waiting = sym kept.waiting ∙ idle.waiting;
  unread = sym (kept.all running) ∙ ap (λ (l : List Notice). length l) idle.unread;
  counters = ap (λ n. nat_lt greatest_error_counter n || nat_lt greatest_error_counter node.receive) (sym kept.transmit)
      ∙ ap (λ n. nat_lt greatest_error_counter c.transmit || nat_lt greatest_error_counter n) (sym kept.receive) ∙ idle.counters;
}

-- a node that has read so many notices has nothing to do in slots before this one, of which there
-- are none
rests_on : (next slots : ℕ) (v : IncarnationsParts) (it : NodeParts) → (0 < slots → IncarnationRests (next + slots) v)
    → slice_get v.nodes v.present ≡ Some it → it.read ≡ next → RestsUntil (next + slots) it
rests_on next zero v it rests at read = λ scenario past stands since early within. absurd (omega (arith, read, since, early))
rests_on next (suc slots) v it rests at read = rests (omega arith) it at

module _ (scenario : ScenarioParts) (journal : List Step) (slots : ℕ) (due : Nodes) (bus : BusParts) (row : List ControllerState)
    (kept : List IncarnationsParts)
    (stands : StandFor scenario (run scenario journal) bus row kept) (passes_on : CanAllPass (slots_run (run scenario journal)) slots due row kept)
    (open_on : IsOpen scenario (run scenario journal) slots) where
  abbrev s : RunState
  s = run scenario journal

  abbrev node : ℕ → NodeState
  node i = node_at s.nodes i

  o : IsOrderly scenario.params.nodes s
  o = orderly scenario journal

  -- what is known of a node that runs
  pub record Runs (i : ℕ) : Type 0 where
    pub at : IsThere scenario s row kept i
    pub ctl : IsKeptAs scenario s.trace i (node i) at.c
    pub is : IsKeptAt scenario s.trace i (node i) at.v
    pub running : at.c.stopped ≡ None
    pub idle : IsIdleFor (slots_run s) (passes slots due i) at.c at.v
    pub nothing_to_do : HasNothingToDo (node i)
    pub heard : length (heard_of i s.trace (node i)) ≡ slots_run s
    pub rests : RestsUntil (slots_run s + passes slots due i) is.present.it

  pub runs_at : (i : ℕ) → runs (node i) ≡ true → Runs i
  runs_at i running =
      let at = is_there scenario s row kept i stands.controllers stands.nodes (subst (λ n. i < n) o.count (runs_within s.nodes i running)) in
      let ctl : IsKeptAs scenario s.trace i (node i) at.c = stands.controllers.each i at.c at.at in
      let is : IsKeptAt scenario s.trace i (node i) at.v = stands.nodes.each i at.v at.node_at in
      let none : at.c.stopped ≡ None = ctl.stopped ∙ running_stop (node i).stopped running in
      let idle : IsIdleFor (slots_run s) (passes slots due i) at.c at.v = passes_on i at.c at.v at.at at.node_at none in
      let nothing_to_do : HasNothingToDo (node i) = nothing_to_do_of scenario s.trace i (slots_run s) (passes slots due i) (node i) at.c at.v ctl none idle in
      let heard : length (heard_of i s.trace (node i)) ≡ slots_run s = omega (arith, past_length s i, nothing_to_do.unread) in
      record {
        at = at;
        ctl = ctl;
        is = is;
        running = none;
        idle = idle;
        nothing_to_do = nothing_to_do;
        heard = heard;
        rests = rests_on (slots_run s) (passes slots due i) at.v is.present.it idle.node is.present.at (is.present.stands.read ∙ heard);
      }

  -- in the turn of each of the slots that it passes nothing is done
  pub nothing_at : (n i : ℕ) → n < passes slots due i → runs (node i) ≡ true
      → effects_for (node i).present.number scenario (node i).present i (history i (after_rest (n + 1) s)) ≡ []
  nothing_at n i less running =
      let r : Runs i = runs_at i running in
      let p : IsPresentAt scenario s.trace i (node i) r.at.v = r.is.present in
      let follows : ScenarioParts = scenario_for scenario (node i).present in
      let heard : List NoticeKind = heard_of i s.trace (node i) in
      let past : List NoticeKind = past_of i s.trace (node i) in
      let here : node_at (after_rest (n + 1) s).nodes i ≡ node i =
      node_at-map (rested (n + 1)) s.nodes i (runs_within s.nodes i running) ∙ rested_running (n + 1) (node i) running in
      let reads : history i (after_rest (n + 1) s) ≡ replicate (n + 1) Idle ++ past =
      history-is i (after_rest (n + 1) s) ∙ ap (λ (x : NodeState). past_of i (idle_trace (n + 1) s.trace) x) here
      ∙ past_rested i (n + 1) s.trace (node i) r.nothing_to_do.unread in
      let more : replicate (n + 1) Idle ++ past ≡ Idle ∷ (replicate n Idle ++ past) = next_idle n past in
      let none : turn_effects follows i (Idle ∷ (replicate n Idle ++ heard)) ≡ [] =
      subst (λ k. turn_effects follows k (Idle ∷ (replicate n Idle ++ heard)) ≡ []) p.number
      (rested_effects follows heard p.it (slots_run s + passes slots due i) (passes slots due i) r.rests p.stands (omega (arith, r.heard))
      (omega (arith, r.heard, open_on.room, passes_few slots due i)) n less) in
      effects_for-is scenario (node i).present i (history i (after_rest (n + 1) s))
      ∙ ap (turn_effects follows i) (reads ∙ more)
      ∙ sym (error_turn follows i (Idle ∷ (replicate n Idle ++ past)))
      ∙ ap (λ h. turn_effects follows i (Idle ∷ h)) (plain_rested n past)
      ∙ none
    where
      next_idle : (n : ℕ) (past : List NoticeKind) → replicate (n + 1) Idle ++ past ≡ Idle ∷ (replicate n Idle ++ past)
      next_idle n past = let e : n + 1 ≡ suc n = omega arith in ap (λ k. replicate k Idle ++ past) e

  -- so before the last one no node has anything to do
  pub may_rest : (fewer : ℕ) → fewer + 1 ≡ slots → MayRest scenario s fewer
  may_rest fewer e = record {
    left = record { room = omega (arith, open_on.room, e); free = λ slot from below. open_on.free slot from (omega (arith, below, e)) };
    nothing_to_do = λ i running. (runs_at i running).nothing_to_do;
    nothing = λ n i less running. nothing_at n i (omega (arith, less, e, passes_most slots due i)) running;
  }

  -- and the last one is idle
  pub last_idle : (fewer : ℕ) → fewer + 1 ≡ slots → IsIdleNext scenario (after_rest fewer s)
  last_idle fewer e =
      let long : slots_run (after_rest fewer s) ≡ slots_run s + fewer = omega (arith, length-idle_trace fewer s.trace) in
      record {
        room = omega (arith, open_on.room, e, long);
        free = open_on.free (slots_run (after_rest fewer s)) (omega (arith, long)) (omega (arith, long, e));
        nothing_to_do = λ i runs_on.
            let running : runs (node i) ≡ true = sym (still_runs fewer s i) ∙ runs_on in
            subst (λ (x : NodeState). HasNothingToDo x) (sym (still_is fewer s i running)) (runs_at i running).nothing_to_do;
      }

-- ---- controllers after it

-- of a stopped node only the count of unread slots rises
pub stopped_rests : (scenario : ScenarioParts) (trace : List SlotNote) (i : ℕ) (node : NodeState) (c : ControllerState) (stop : ℕ) → IsKeptAs scenario trace i node c
    → node.unread ≤ length trace → c.stopped ≡ Some stop → (slots : ℕ)
    → IsKeptAs scenario (idle_trace slots trace) i (record node { unread = node.unread + slots }) c
unfolding idle_trace
stopped_rests scenario trace i node c stop kept short stopped zero =
    let e : node.unread ≡ node.unread + 0 = omega arith in
    subst (λ n. IsKeptAs scenario trace i (record node { unread = n }) c) e kept
stopped_rests scenario trace i node c stop kept short stopped (suc slots) =
    let now : List SlotNote = idle_trace slots trace in
    let note : SlotNote = idle_note (length now) in
    let before : IsKeptAs scenario now i (record node { unread = node.unread + slots }) c = stopped_rests scenario trace i node c stop kept short stopped slots in
    let next : IsKeptAs scenario (note ∷ now) i (node_after i note (record node { unread = node.unread + slots })) (controller_after i note c) =
    kept_slot scenario now i (record node { unread = node.unread + slots }) c note before (omega (arith, short, length-idle_trace slots trace))
    (λ running. absurd (true≢false (sym (ap is_none running) ∙ ap is_none stopped))) in
    let e : node.unread + slots + 1 ≡ node.unread + suc slots = omega arith in
    subst (λ n. IsKeptAs scenario (note ∷ now) i (record node { unread = n }) c) e
    (subst (λ (x : NodeState). IsKeptAs scenario (note ∷ now) i x c)
    (stopped_node i note (record node { unread = node.unread + slots }) stop (sym kept.stopped ∙ stopped))
    (subst (IsKeptAs scenario (note ∷ now) i (node_after i note (record node { unread = node.unread + slots }))) (stopped_after i note c stop stopped) next))

-- a running one has read them
pub running_rests : (scenario : ScenarioParts) (trace : List SlotNote) (i : ℕ) (node : NodeState) (c : ControllerState) (slots : ℕ) → IsKeptAs scenario trace i node c
    → node.unread ≡ 0 → c.unread ≡ [] → IsKeptAs scenario (idle_trace slots trace) i node (record c { read = c.read + slots })
running_rests scenario trace i node c slots kept all none = record {
  number = kept.number;
  params = kept.params;
  room = kept.room;
  waiting = kept.waiting;
  transmit = kept.transmit;
  receive = kept.receive;
  stopped = kept.stopped;
  read = omega (arith, kept.read, all, length-idle_trace slots trace);
  unread = none ∙ sym (ap (λ (l : List Notice). take (length l) (newest_notices i node.unread (idle_trace slots trace))) none);
  all = kept.all;
}

-- ---- nodes after it

module _ (scenario : ScenarioParts) (trace : List SlotNote) (i slots : ℕ) (node : NodeState) (v : IncarnationsParts) (order : IsInOrder trace node)
    (kept : IsKeptAt scenario trace i node v) where
  abbrev later : List SlotNote
  later = idle_trace slots trace

  abbrev unread : NodeState
  unread = record node { unread = node.unread + slots }

  -- as long as it reads nothing
  pub node_waits : IsKeptAt scenario later i unread v
  node_waits =
      kept_still scenario trace later i node unread v (record { present = refl; ended = refl }) (past_unread i slots trace node)
      (all_ended_rested i slots trace node.ended order.past) kept

  in_order_later : IsInOrder later unread
  in_order_later = record {
    order = order.order;
    past = weaker (λ e. e.next ≤ length trace) (λ e. e.next ≤ length later) (λ e within. omega (arith, within, length-idle_trace slots trace)) node.ended order.past;
  }

  abbrev after : NodeParts
  after = record kept.present.it { read = kept.present.it.read + slots }

  -- once it has read them
  pub node_rests : (end : ℕ) → RestsUntil end kept.present.it → node.unread ≡ 0 → length (heard_of i trace node) + slots ≤ end
      → length (heard_of i trace node) + slots ≤ scenario.params.slots
      → IsKeptAt scenario later i node (record v { nodes = slice_set v.nodes v.present after })
  node_rests end rests all early within =
      kept_turned scenario later i unread node v kept.present.it after in_order_later (record { present = refl; ended = refl }) node_waits kept.present.at refl refl refl
      (subst (λ past. IsNodeOf (scenario_for scenario node.present) past after) (sym (heard_rested i slots trace node all))
      (rested_as (scenario_for scenario node.present) (heard_of i trace node) kept.present.it after end slots rests kept.present.stands refl early within))

-- ---- one slot more

-- a running controller whose counters do not stop it has one notice more to read
pub idle_notice : (scenario : ScenarioParts) (trace : List SlotNote) (i slot : ℕ) (node : NodeState) (c : ControllerState) → IsKeptAs scenario trace i node c
    → node.unread ≤ length trace → c.stopped ≡ None → exceeds (node_state c) ≡ false → slot ≡ length trace
    → IsKeptAs scenario (idle_trace 1 trace) i (one_unread node) (seen slot share.Idle c)
unfolding idle_trace share_of after_share
idle_notice scenario trace i slot node c kept short running nothing_to_do e =
    let note : SlotNote = idle_note (length trace) in
    let sees : controller_after i note c ≡ seen (length trace) share.Idle c =
    running_after i note c running
    ∙ ap (λ b. if b then stopped_at (length trace) (seen (length trace) share.Idle c) else seen (length trace) share.Idle c) (has_none i) in
    let long : length (c.unread ++ record { slot = length trace; kind = Idle } ∷ []) ≡ length c.unread + 1 =
    length-append c.unread (record { slot = length trace; kind = Idle } ∷ []) in
    let goes_on : (if exceeds (node_state c) then Some (length trace) else None) ≡ c.stopped = rw (nothing_to_do, running) refl in
    let law : node_state (controller_after i note c) ≡ node_after i note (node_state c) =
    ap node_state sees ∙ (λ k. record (node_state c) { unread = long k; stopped = goes_on k }) ∙ sym (idle_node i (length trace) (node_state c)) in
    subst (λ n. IsKeptAs scenario (note ∷ trace) i (one_unread node) (seen n share.Idle c)) (sym e)
    (subst (λ (x : NodeState). IsKeptAs scenario (note ∷ trace) i x (seen (length trace) share.Idle c)) (idle_node i (length trace) node)
    (subst (IsKeptAs scenario (note ∷ trace) i (node_after i note node)) sees (kept_slot scenario trace i node c note kept short (λ _. law))))

-- ---- what the calls ask for

-- no count runs over
pub can_count : (scenario : ScenarioParts) (journal : List Step) (slots i : ℕ) (c : ControllerState) (v : IncarnationsParts) → IsLegalScenario scenario
    → IsKeptAs scenario (run scenario journal).trace i (node_at (run scenario journal).nodes i) c
    → IsKeptAt scenario (run scenario journal).trace i (node_at (run scenario journal).nodes i) v
    → slots_run (run scenario journal) + slots ≤ scenario.params.slots → CanCount slots c v
can_count scenario journal slots i c v legal kept node room =
    let few = few_slots scenario.params legal.in_range in
    let p = node.present in
    record {
      controller = omega (arith, kept.read, room, few);
      it = p.it;
      at = p.at;
      node = omega (arith, p.stands.read, past_length (run scenario journal) i, room, few);
    }

-- the round of the controllers is that of the nodes
runs_as : (stopped : Option ℕ) (row : List ControllerState) (i : ℕ) (c : ControllerState) → slice_get row i ≡ Some c → c.stopped ≡ stopped
    → controller_runs row i ≡ is_none stopped
runs_as stopped row i c at same = ap (λ o. option_map_or (λ (x : ControllerState). is_none x.stopped) o false) at ∙ ap is_none same

same_test : (scenario : ScenarioParts) (s : RunState) (row : List ControllerState) → IsOrderly scenario.params.nodes s → AreControllersOf scenario s row → (i : ℕ)
    → controller_runs row i ≡ runs (node_at s.nodes i)
same_test scenario s row o controllers i = elim (cases_lt i (length row)) [
  | inl within ↦
      let c = there row i within in
      runs_as (node_at s.nodes i).stopped row i c.0 c.1 (controllers.each i c.0 c.1).stopped
  | inr past ↦
      ap (λ o. option_map_or (λ (x : ControllerState). is_none x.stopped) o false) (slice_get_past row i past)
      ∙ sym (ap (λ (node : NodeState). runs node) (node_at_past s.nodes i (omega (arith, past, controllers.whole, o.count))))
]

round_is : (scenario : ScenarioParts) (s : RunState) (row : List ControllerState) → IsOrderly scenario.params.nodes s → AreControllersOf scenario s row
    → round_of row ≡ idle_round s.nodes
round_is scenario s row o controllers =
    let tests : (λ i. controller_runs row i) ≡ (λ i. runs (node_at s.nodes i)) = λ k i. (same_test scenario s row o controllers i) k in
    ap (λ test. Slot ∷ map (λ i. Turn i) (filter test (range_with_len 0 (length row)))) tests
    ∙ ap (λ n. Slot ∷ map (λ i. Turn i) (filter (λ i. runs (node_at s.nodes i)) (range_with_len 0 n))) (controllers.whole ∙ sym o.count)

pub rounds_are : (scenario : ScenarioParts) (s : RunState) (row : List ControllerState) (slots : ℕ) → IsOrderly scenario.params.nodes s → AreControllersOf scenario s row
    → rounds_of slots row ≡ idle_rounds slots s.nodes
unfolding rounds_of idle_rounds
rounds_are scenario s row zero o controllers = refl
rounds_are scenario s row (suc slots) o controllers =
    λ k. (round_is scenario s row o controllers) k ++ (rounds_are scenario s row slots o controllers) k
