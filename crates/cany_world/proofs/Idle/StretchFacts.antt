-- A stretch of idle slots: bus, controllers and nodes stand for the run after it.
use Rattle.std.proofs.Common.{◌≡◌, ℕ, ◌+◌, ◌-◌, ◌<◌, Bool, true, false, List, [], ◌∷◌, ◌++◌, length, refl, ap, sym, ◌∙◌, subst, arith}
use Rattle.std.specs.Prelude.{is_none, slice_get, Option, Some, None}
use Rattle.std.proofs.lemmas.List.{length-map}
use Rattle.std.proofs.lemmas.Option.{slice_get_within}
use Rattle.cany_base.specs.declared.actions.Action.{Action}
use Rattle.cany_base.specs.declared.notice.Notice.{Notice}
use Rattle.cany_base.specs.declared.notice.NoticeKind.TheVariants.{Idle}
use Rattle.cany_base.specs.declared.rule.Rule.{Rule}
use Rattle.cany_base.specs.declared.slot_note.SlotNote.{SlotNote}
use Rattle.cany_base.specs.declared.step.Step.{Step}
use Rattle.cany_base.specs.declared.step.Step.TheVariants.{Slot}
use Rattle.cany_base.specs.Bounded.{Bounded}
use Rattle.cany_base.specs.Nodes.{Nodes, has}
use Rattle.cany_base.specs.Scenario.{ScenarioParts, IsLegalScenario}
use Rattle.cany_base.proofs.ParamsFacts.{few_nodes, few_slots}
use Rattle.cany_model.specs.Bus.History.{history}
use Rattle.cany_model.specs.Runs.RoundRobin.{rounds}
use Rattle.cany_model.specs.Runs.Run.{after_turn, proceed, run}
use Rattle.cany_model.specs.Bus.State.{NodeState, RunState, node_at, runs, slots_run}
use Rattle.cany_model.specs.Rules.Effect.{Effect}
use Rattle.cany_model.specs.Rules.Rooms.{actions_room}
use Rattle.cany_model.specs.Rules.Turn.{effects_for}
use Rattle.cany_model.proofs.Runs.Runs.{IsOrderly, orderly}
use Rattle.cany_model.proofs.Runs.Steps.{after_turn-trace}
use Rattle.can_bus.specs.Bus.{BusParts, Follows}
use Rattle.can_bus.specs.Rest.{idle_trace}
use Rattle.can_bus.proofs.RestFacts.{length-idle_trace}
use Rattle.can_controller.specs.Controller.{ControllerState}
use Rattle.cany_world.specs.Incarnations.{IncarnationsParts}
use Rattle.cany_world.specs.Kept.{IsKeptAs, IsKeptAt, StandFor}
use Rattle.cany_world.specs.Resting.{CanAllGo, CanAllPass, CanGo, CanRest, CanTakeTurn, HasPassed, HasTakenTurn, HaveAllPassed, HavePassed, HavePassedAt, HaveRested, IsOpen, noticed, passes}
use Rattle.cany_world.proofs.Idle.IdleSlots.{MayRest, after_rest, rested}
use Rattle.cany_world.proofs.Idle.IdleRound.{HasNothing, IsAfterRound, IsIdleNext, node_at-map, one_unread, proceed_idle, rested_stopped, turn_node}
use Rattle.cany_world.proofs.Idle.IdleRounds.{after_rest_then, before_slot, before_slot_run, still_is, still_runs, stretch_run, trace_then, with_slot, with_slot_run}
use Rattle.cany_world.proofs.InOrder.{IsInOrder, in_order}
use Rattle.cany_world.proofs.Idle.PassFacts.{passes_all, passes_most}
use Rattle.cany_world.proofs.Idle.RestFacts.{IsThere, Runs, can_count, idle_notice, is_there, last_idle, may_rest, node_rests, node_waits, nothing_at, running_rests, runs_at, stopped_rests}
use Rattle.cany_world.proofs.PlaceFacts.{one_each}
use Rattle.cany_world.proofs.TurnFacts.{AreTurned, can_turn, turned_one}

module _ (scenario : ScenarioParts) (journal : List Step) (slots : ℕ) (due : Nodes) (bus : BusParts) (row : List ControllerState)
    (kept : List IncarnationsParts)
    (legal : IsLegalScenario scenario) (stands : StandFor scenario (run scenario journal) bus row kept)
    (passes_on : CanAllPass (slots_run (run scenario journal)) slots due row kept) (open_on : IsOpen scenario (run scenario journal) slots)
    (some : 0 < slots) where
  abbrev s : RunState
  s = run scenario journal

  abbrev node : ℕ → NodeState
  node i = node_at s.nodes i

  -- the slots before the last one
  abbrev fewer : ℕ
  fewer = slots - 1

  with_last : fewer + 1 ≡ slots
  with_last = omega (arith, some)

  may : MayRest scenario s fewer
  may = may_rest scenario journal slots due bus row kept stands passes_on open_on fewer with_last

  -- the state before the last slot
  abbrev before : RunState
  before = after_rest fewer s

  last : IsIdleNext scenario before
  last = last_idle scenario journal slots due bus row kept stands passes_on open_on fewer with_last

  before_long : length before.trace ≡ slots_run s + fewer
  before_long = omega (arith, length-idle_trace fewer s.trace)

  ran : run scenario (before_slot scenario journal fewer may last) ≡ before
  ran = before_slot_run scenario journal fewer may last

  o : IsOrderly scenario.params.nodes before
  o = subst (λ (t : RunState). IsOrderly scenario.params.nodes t) ran (orderly scenario (before_slot scenario journal fewer may last))

  -- the journal with it, before the turns
  abbrev slot_made : List Step
  slot_made = with_slot scenario journal fewer may last

  abbrev then : RunState
  then = run scenario slot_made

  then_is : then ≡ proceed scenario before Slot
  then_is = with_slot_run scenario journal fewer may last

  -- the state after the round
  abbrev after : RunState
  after = run scenario (journal ++ rounds scenario slots s)

  ends : IsAfterRound scenario before after
  ends = subst (λ n. IsAfterRound scenario before (run scenario (journal ++ rounds scenario n s))) with_last (stretch_run scenario journal fewer may last)

  after_trace : idle_trace slots s.trace ≡ after.trace
  after_trace = ap (λ n. idle_trace n s.trace) (sym with_last) ∙ sym (ends.trace ∙ trace_then fewer s.trace)

  -- ---- the state of a node after it

  after_stopped : (i : ℕ) → i < length s.nodes → runs (node i) ≡ false → record (node i) { unread = (node i).unread + slots } ≡ node_at after.nodes i
  after_stopped i within stopped =
      let inside : i < length before.nodes = omega (arith, within, length-map s.nodes (rested fewer)) in
      let sum : (node i).unread + fewer + 1 ≡ (node i).unread + slots = omega (arith, with_last) in
      sym (ends.stopped i inside (still_runs fewer s i ∙ stopped)
      ∙ ap (λ (x : NodeState). one_unread x) (node_at-map (rested fewer) s.nodes i within ∙ rested_stopped fewer (node i) stopped)
      ∙ ap (λ n. record (node i) { unread = n }) sum)

  after_running : (i : ℕ) → runs (node i) ≡ true → node_at after.nodes i ≡ node_at (after_turn scenario i (proceed scenario before Slot)).nodes i
  after_running i running = ends.running i (still_runs fewer s i ∙ running)

  nothing : (i : ℕ) → runs (node i) ≡ true → has due i ≡ false → HasNothing scenario before i
  nothing i running early =
      ap (λ (x : NodeState). does x i (after_rest 1 before)) (still_is fewer s i running)
      ∙ ap (λ (t : RunState). does (node i) i t) (after_rest_then fewer s)
      ∙ nothing_at scenario journal slots due bus row kept stands passes_on open_on fewer i (omega (arith, some, passes_all slots due i early)) running
    where
      does : NodeState → ℕ → RunState → List Effect
      does x i t = effects_for x.present.number scenario x.present i (history i t)

  after_resting : (i : ℕ) → runs (node i) ≡ true → has due i ≡ false → node i ≡ node_at after.nodes i
  after_resting i running early =
      sym (after_running i running ∙ turn_node scenario before i o last (still_runs fewer s i ∙ running) (nothing i running early)
      ∙ still_is fewer s i running)

  -- ---- what stands for it

  record IsKeptBoth (i : ℕ) (c : ControllerState) (v : IncarnationsParts) : Type 0 where
    ctl : IsKeptAs scenario after.trace i (node_at after.nodes i) c
    at : IsKeptAt scenario after.trace i (node_at after.nodes i) v

  -- what is kept of a node with this trace and state is kept of it after the stretch
  both : (i : ℕ) (x : NodeState) (c : ControllerState) (v : IncarnationsParts) → x ≡ node_at after.nodes i
      → IsKeptAs scenario (idle_trace slots s.trace) i x c → IsKeptAt scenario (idle_trace slots s.trace) i x v → IsKeptBoth i c v
  both i x c v state ctl at = record {
    ctl = subst (λ (t : List SlotNote). IsKeptAs scenario t i (node_at after.nodes i) c) after_trace
        (subst (λ (y : NodeState). IsKeptAs scenario (idle_trace slots s.trace) i y c) state ctl);
    at = subst (λ (t : List SlotNote). IsKeptAt scenario t i (node_at after.nodes i) v) after_trace
        (subst (λ (y : NodeState). IsKeptAt scenario (idle_trace slots s.trace) i y v) state at);
  }

  stopped_both : (i : ℕ) (at : IsThere scenario s row kept i) (stop : ℕ) → at.c.stopped ≡ Some stop → i < length s.nodes
      → (c' : ControllerState) (v' : IncarnationsParts) → c' ≡ at.c → v' ≡ at.v → IsKeptBoth i c' v'
  stopped_both i at stop stopped within c' v' same same' =
      let ctl : IsKeptAs scenario s.trace i (node i) at.c = stands.controllers.each i at.c at.at in
      both i (record (node i) { unread = (node i).unread + slots }) c' v'
      (after_stopped i within (ap is_none (sym ctl.stopped ∙ stopped)))
      (subst (IsKeptAs scenario (idle_trace slots s.trace) i (record (node i) { unread = (node i).unread + slots })) (sym same)
      (stopped_rests scenario s.trace i (node i) at.c stop ctl ((orderly scenario journal).unread i) stopped slots))
      (subst (IsKeptAt scenario (idle_trace slots s.trace) i (record (node i) { unread = (node i).unread + slots })) (sym same')
      (node_waits scenario s.trace i slots (node i) at.v (in_order scenario journal i) (stands.nodes.each i at.v at.node_at)))

  -- of a node that runs
  abbrev RunsOn : ℕ → Type 0
  RunsOn i = Runs scenario journal slots due bus row kept stands passes_on open_on i

  runs_on : (i : ℕ) → runs (node i) ≡ true → RunsOn i
  runs_on i running = runs_at scenario journal slots due bus row kept stands passes_on open_on i running

  resting_both : (i : ℕ) (r : RunsOn i) → runs (node i) ≡ true → has due i ≡ false
      → (c' : ControllerState) (v' : IncarnationsParts) → HaveRested slots r.at.c c' r.at.v v' → IsKeptBoth i c' v'
  resting_both i r running early c' v' passed =
      both i (node i) c' v' (after_resting i running early)
      (subst (IsKeptAs scenario (idle_trace slots s.trace) i (node i)) (sym passed.controller)
      (running_rests scenario s.trace i (node i) r.at.c slots r.ctl r.nothing_to_do.unread r.idle.unread))
      (subst (IsKeptAt scenario (idle_trace slots s.trace) i (node i)) (sym (passed.node r.is.present.it r.is.present.at))
      (node_rests scenario s.trace i slots (node i) r.at.v (in_order scenario journal i) r.is (slots_run s + passes slots due i) r.rests r.nothing_to_do.unread
      (omega (arith, r.heard, passes_all slots due i early)) (omega (arith, r.heard, open_on.room))))

  -- ---- the turn of a node that is due

  -- after the last slot the node has passed those before it and has one notice to read
  record IsNoticed (i : ℕ) (c : ControllerState) (v : IncarnationsParts) : Type 0 where
    ctl : IsKeptAs scenario then.trace i (node_at then.nodes i) c
    at : IsKeptAt scenario then.trace i (node_at then.nodes i) v

  then_trace : idle_trace 1 before.trace ≡ then.trace
  then_trace = sym (ap (λ (t : RunState). t.trace) (then_is ∙ proceed_idle scenario before last))

  then_node : (i : ℕ) → runs (node i) ≡ true → i < length s.nodes → one_unread (node i) ≡ node_at then.nodes i
  then_node i running within =
      let inside : i < length before.nodes = omega (arith, within, length-map s.nodes (rested fewer)) in
      sym (ap (λ (t : RunState). node_at t.nodes i) (then_is ∙ proceed_idle scenario before last)
      ∙ node_at-map one_unread before.nodes i inside ∙ ap (λ (x : NodeState). one_unread x) (still_is fewer s i running))

  before_order : (i : ℕ) → runs (node i) ≡ true → IsInOrder before.trace (node i)
  before_order i running =
      subst (IsInOrder before.trace) (still_is fewer s i running)
      (subst (λ (t : RunState). IsInOrder t.trace (node_at t.nodes i)) ran (in_order scenario (before_slot scenario journal fewer may last) i))

  noticed_both : (i : ℕ) (r : RunsOn i) → runs (node i) ≡ true → i < length s.nodes → (w : IncarnationsParts) → HasPassed fewer r.at.v w
      → IsNoticed i (noticed (slots_run s) fewer r.at.c) w
  noticed_both i r running within w passed =
      let c : ControllerState = record r.at.c { read = r.at.c.read + fewer } in
      let ctl : IsKeptAs scenario before.trace i (node i) c = running_rests scenario s.trace i (node i) r.at.c fewer r.ctl r.nothing_to_do.unread r.idle.unread in
      let at : IsKeptAt scenario before.trace i (node i) w =
      subst (IsKeptAt scenario before.trace i (node i)) (sym (passed r.is.present.it r.is.present.at))
      (node_rests scenario s.trace i fewer (node i) r.at.v (in_order scenario journal i) r.is (slots_run s + passes slots due i) r.rests r.nothing_to_do.unread
      (omega (arith, r.heard, passes_most slots due i)) (omega (arith, r.heard, open_on.room))) in
      record {
        ctl = subst (λ (t : List SlotNote). IsKeptAs scenario t i (node_at then.nodes i) (noticed (slots_run s) fewer r.at.c)) then_trace
            (subst (λ (x : NodeState). IsKeptAs scenario (idle_trace 1 before.trace) i x (noticed (slots_run s) fewer r.at.c)) (then_node i running within)
            (idle_notice scenario before.trace i (slots_run s + fewer) (node i) c ctl (omega (arith, r.nothing_to_do.unread)) r.running r.idle.counters
            (sym before_long)));
        at = subst (λ (t : List SlotNote). IsKeptAt scenario t i (node_at then.nodes i) w) then_trace
            (subst (λ (x : NodeState). IsKeptAt scenario (idle_trace 1 before.trace) i x w) (then_node i running within)
            (node_waits scenario before.trace i 1 (node i) w (before_order i running) at));
      }

  due_both : (i : ℕ) (r : RunsOn i) → runs (node i) ≡ true → i < length s.nodes → i < scenario.params.nodes
      → (c' : ControllerState) (v' : IncarnationsParts) → HasTakenTurn (slots_run s) slots r.at.c c' r.at.v v' → IsKeptBoth i c' v'
  due_both i r running within few c' v' turn =
      let c : ControllerState = noticed (slots_run s) fewer r.at.c in
      let notice : Notice = record { slot = slots_run s + fewer; kind = Idle } in
      let both : IsNoticed i c turn.before = noticed_both i r running within turn.before turn.passed in
      let none : c.stopped ≡ None =
      both.ctl.stopped ∙ ap (λ (x : NodeState). x.stopped) (sym (then_node i running within)) ∙ sym r.ctl.stopped ∙ r.running in
      let first : slice_get c.unread 0 ≡ Some notice = ap (λ (l : List Notice). slice_get (l ++ notice ∷ []) 0) r.idle.unread in
      let turned : AreTurned scenario then i c' v' =
      turned_one scenario slot_made i turn.before v' c c' notice legal few both.ctl both.at none first turn.turn in
      let state : node_at (after_turn scenario i then).nodes i ≡ node_at after.nodes i =
      ap (λ (t : RunState). node_at (after_turn scenario i t).nodes i) then_is ∙ sym (after_running i running) in
      let trace : (after_turn scenario i then).trace ≡ after.trace = after_turn-trace scenario i then ∙ sym then_trace ∙ sym ends.trace in
      record {
        ctl = subst (λ (t : List SlotNote). IsKeptAs scenario t i (node_at after.nodes i) c') trace
            (subst (λ (x : NodeState). IsKeptAs scenario (after_turn scenario i then).trace i x c') state turned.controller);
        at = subst (λ (t : List SlotNote). IsKeptAt scenario t i (node_at after.nodes i) v') trace
            (subst (λ (x : NodeState). IsKeptAt scenario (after_turn scenario i then).trace i x v') state turned.node);
      }

  -- ---- that all can go

  can_go : scenario.inc ≡ 0 → (actions : Bounded Action) → actions ≡ record { items = []; room = actions_room scenario }
      → (i : ℕ) (c : ControllerState) (v : IncarnationsParts) → slice_get row i ≡ Some c → slice_get kept i ≡ Some v
      → CanGo (slots_run s) slots (has due i) c v actions
  can_go opening actions free i c v at node_at = record {
    count = can_count scenario journal slots i c v legal (stands.controllers.each i c at) (stands.nodes.each i v node_at) open_on.room;
    turn = λ none late.
        let within : i < length s.nodes = omega (arith, slice_get_within row i c at, stands.controllers.whole, (orderly scenario journal).count) in
        let running : runs (node i) ≡ true = ap is_none (sym (stands.controllers.each i c at).stopped ∙ none) in
        let r : RunsOn i = runs_on i running in
        let is_c : Some r.at.c ≡ Some c = sym r.at.at ∙ at in
        let is_v : Some r.at.v ≡ Some v = sym r.at.node_at ∙ node_at in
        let same_c : r.at.c ≡ c = cc in
        let same_v : r.at.v ≡ v = cc in
        subst (λ (x : IncarnationsParts). CanTakeTurn (slots_run s) slots c x actions) same_v
        (subst (λ (x : ControllerState). CanTakeTurn (slots_run s) slots x r.at.v actions) same_c
        (record {
          running = r.running;
          all_read = r.idle.unread;
          turn = λ w passed.
              let both : IsNoticed i (noticed (slots_run s) fewer r.at.c) w = noticed_both i r running within w passed in
              can_turn scenario slot_made i w (noticed (slots_run s) fewer r.at.c) actions legal opening both.at both.ctl free;
        }));
  }

  pub can_rest : scenario.inc ≡ 0 → (actions : Bounded Action) → actions ≡ record { items = []; room = actions_room scenario }
      → CanRest slots due bus row kept actions
  can_rest opening actions free =
      let long : slots_run s ≡ length bus.trace = ap (λ t. length t) (sym stands.bus.trace) in
      record {
        some = some;
        room = omega (arith, open_on.room, long, ap (λ p. p.slots) stands.bus.params);
        small = omega (arith, open_on.room, long, few_slots scenario.params legal.in_range);
        few = omega (arith, stands.controllers.whole, few_nodes scenario.params legal.in_range);
        all = subst (λ n. CanAllGo n slots due row kept actions) long
            (record { count = stands.controllers.whole ∙ sym stands.nodes.whole; each = can_go opening actions free });
      }

  -- ---- and what stands for the run when they went

  -- what holds of a controller and a node at a place holds of those that were found there
  same : (i : ℕ) (r : RunsOn i) (was : IsThere scenario s row kept i) (P : ControllerState → IncarnationsParts → Type 0) → P was.c was.v → P r.at.c r.at.v
  same i r was P holds =
      let is_c : Some was.c ≡ Some r.at.c = sym was.at ∙ r.at.at in
      let is_v : Some was.v ≡ Some r.at.v = sym was.node_at ∙ r.at.node_at in
      let same_c : was.c ≡ r.at.c = cc in
      let same_v : was.v ≡ r.at.v = cc in
      subst (λ (x : IncarnationsParts). P r.at.c x) same_v (subst (λ (x : ControllerState). P x was.v) same_c holds)

  module _ (bus' : BusParts) (row' : List ControllerState) (kept' : List IncarnationsParts)
      (passed : HaveAllPassed (slots_run s) slots due row row' kept kept') where
    -- what stands at the place of node i
    record IsAfterAt (i : ℕ) : Type 0 where
      c : ControllerState
      v : IncarnationsParts
      at : slice_get row' i ≡ Some c
      node_at : slice_get kept' i ≡ Some v
      is : IsKeptBoth i c v

    by_stop : (i : ℕ) → i < scenario.params.nodes → i < length s.nodes → (was : IsThere scenario s row kept i)
        → (p : HavePassedAt (slots_run s) slots (has due i) i row' kept' was.c was.v) → (stopped : Option ℕ) (is_due : Bool) → was.c.stopped ≡ stopped
        → has due i ≡ is_due → HavePassed (slots_run s) slots stopped is_due was.c p.after was.v p.node
        → IsKeptBoth i p.after p.node
    by_stop i few within was p (Some stop) is_due e late changes = stopped_both i was stop e within p.after p.node changes.0 changes.1
    by_stop i few within was p None true e late changes =
        let running : runs (node i) ≡ true = ap is_none (sym (stands.controllers.each i was.c was.at).stopped ∙ e) in
        let r : RunsOn i = runs_on i running in
        due_both i r running within few p.after p.node
        (same i r was (λ (c : ControllerState) (v : IncarnationsParts). HasTakenTurn (slots_run s) slots c p.after v p.node) changes)
    by_stop i few within was p None false e late changes =
        let running : runs (node i) ≡ true = ap is_none (sym (stands.controllers.each i was.c was.at).stopped ∙ e) in
        let r : RunsOn i = runs_on i running in
        resting_both i r running late p.after p.node
        (same i r was (λ (c : ControllerState) (v : IncarnationsParts). HaveRested slots c p.after v p.node) changes)

    after_at : (i : ℕ) → i < scenario.params.nodes → IsAfterAt i
    after_at i few =
        let was : IsThere scenario s row kept i = is_there scenario s row kept i stands.controllers stands.nodes few in
        let p : HavePassedAt (slots_run s) slots (has due i) i row' kept' was.c was.v = passed.each i was.c was.v was.at was.node_at in
        record {
          c = p.after;
          v = p.node;
          at = p.at;
          node_at = p.node_at;
          is = by_stop i few (omega (arith, few, (orderly scenario journal).count)) was p was.c.stopped (has due i) refl refl p.passed;
        }

    pub stand_after_rest : bus'.trace ≡ idle_trace slots bus.trace → bus'.params ≡ bus.params → ((rules : List Rule) → Follows rules bus → Follows rules bus')
        → StandFor scenario after bus' row' kept'
    stand_after_rest trace params follows = record {
      bus = record {
        params = params ∙ stands.bus.params;
        trace = trace ∙ ap (idle_trace slots) stands.bus.trace ∙ after_trace;
        follows = follows scenario.rules stands.bus.follows;
      };
      controllers = one_each (λ i c. IsKeptAs scenario after.trace i (node_at after.nodes i) c) scenario.params.nodes row' (passed.whole ∙ stands.controllers.whole)
          (λ i few. let a : IsAfterAt i = after_at i few in (a.c, a.at, a.is.ctl));
      nodes = one_each (λ i v. IsKeptAt scenario after.trace i (node_at after.nodes i) v) scenario.params.nodes kept' (passed.nodes ∙ stands.nodes.whole)
          (λ i few. let a : IsAfterAt i = after_at i few in (a.v, a.node_at, a.is.at));
    }
