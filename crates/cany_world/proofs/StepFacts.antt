-- One step of a world, by its reply.
use Rattle.std.proofs.Common.{◌≡◌, ℕ, ◌+◌, ◌*◌, ◌<◌, ◌≤◌, Bool, true, false, List, [], ◌∷◌, ◌++◌, length, map, refl, sym, ap, ◌∙◌, subst, arith}
use Rattle.std.specs.Prelude.{MatchBool}
use Rattle.std.proofs.lemmas.List.{length-append}
use Rattle.cany_base.specs.declared.step.Step.{Step}
use Rattle.cany_base.specs.declared.step.Step.TheVariants.{Slot, Turn}
use Rattle.cany_base.specs.Bounded.{Bounded}
use Rattle.cany_base.specs.Scenario.{IsLegalScenario, ScenarioParts}
use Rattle.cany_model.specs.declared.reply.StepReply.{StepReply}
use Rattle.cany_model.specs.declared.reply.StepReply.TheVariants.{Done}
use Rattle.cany_model.specs.Bus.Restart.{after_restarts}
use Rattle.cany_model.specs.Runs.Run.{run, reply, slot_reply, turn_reply, is_done, proceed, after_turn, IsLegal}
use Rattle.cany_model.specs.Bus.Slot.{after_slot, script}
use Rattle.cany_model.specs.Bus.State.{RunState, opening}
use Rattle.cany_model.specs.Rules.Messages.{message_key, messages_of}
use Rattle.cany_model.specs.Rules.Rooms.{actions_room}
use Rattle.cany_model.proofs.Runs.Journals.{run_push, step_is, legal_push, legal_short}
use Rattle.cany_model.proofs.Runs.Steps.{after_turn-trace}
use Rattle.can_bus.specs.Bus.{BusParts}
use Rattle.can_controller.specs.Controller.{ControllerState}
use Rattle.cany_world.specs.Incarnations.{IncarnationsParts}
use Rattle.cany_world.specs.Kept.{AreControllersOf, AreNodesOf, StandFor}
use Rattle.cany_world.specs.Replies.{IfDone}
use Rattle.cany_world.specs.WorldFields.{IsRun}
use Rattle.cany_world.specs.declared.world.World.TheInside.{Inside}

-- what is done leads to more
if_done : (r : StepReply) (P Q : Type 0) → (P → Q) → IfDone r P (Unit {0}) → IfDone r Q (Unit {0})
if_done r P Q f = go (is_done r)
  where
    go : (b : Bool) → MatchBool b P (Unit {0}) → MatchBool b Q (Unit {0})
    go true h = f h
    go false h = tt

-- ---- the reply to the step

pub slot_replies : (scenario : ScenarioParts) (s : RunState) (step : Step) (r : StepReply) → step ≡ Slot → r ≡ slot_reply scenario s → r ≡ reply scenario s step
unfolding reply
slot_replies scenario s step r e is = is ∙ sym (ap (reply scenario s) e)

pub turn_replies : (scenario : ScenarioParts) (s : RunState) (step : Step) (i : ℕ) (r : StepReply) → step ≡ Turn i → r ≡ turn_reply scenario i s → r ≡ reply scenario s step
unfolding reply
turn_replies scenario s step i r e is = is ∙ sym (ap (reply scenario s) e)

-- ---- the state after it

proceed_slot : (scenario : ScenarioParts) (s : RunState) (step : Step) → step ≡ Slot
    → proceed scenario s step ≡ after_restarts scenario (after_slot (script scenario.rules) s)
unfolding proceed
proceed_slot scenario s step e = ap (proceed scenario s) e

proceed_turn : (scenario : ScenarioParts) (s : RunState) (step : Step) (i : ℕ) → step ≡ Turn i → proceed scenario s step ≡ after_turn scenario i s
unfolding proceed
proceed_turn scenario s step i e = ap (proceed scenario s) e

pub slot_stands : (scenario : ScenarioParts) (s : RunState) (step : Step) (r : StepReply) (bus : BusParts) (controllers : List ControllerState) (nodes : List IncarnationsParts)
    → step ≡ Slot → IfDone r (StandFor scenario (after_restarts scenario (after_slot (script scenario.rules) s)) bus controllers nodes) (Unit {0})
    → IfDone r (StandFor scenario (proceed scenario s step) bus controllers nodes) (Unit {0})
slot_stands scenario s step r bus controllers nodes e h =
    subst (λ (t : RunState). IfDone r (StandFor scenario t bus controllers nodes) (Unit {0})) (sym (proceed_slot scenario s step e)) h

pub turn_stands : (scenario : ScenarioParts) (journal : List Step) (step : Step) (i : ℕ) (r : StepReply) (bus : BusParts) (controllers after : List ControllerState) (nodes nodes' : List IncarnationsParts)
    → step ≡ Turn i → StandFor scenario (run scenario journal) bus controllers nodes
    → IfDone r (AreControllersOf scenario (after_turn scenario i (run scenario journal)) after × AreNodesOf scenario (after_turn scenario i (run scenario journal)) nodes') (Unit {0})
    → IfDone r (StandFor scenario (proceed scenario (run scenario journal) step) bus after nodes') (Unit {0})
turn_stands scenario journal step i r bus controllers after nodes nodes' e stands =
    let s : RunState = run scenario journal in
    if_done r (AreControllersOf scenario (after_turn scenario i s) after × AreNodesOf scenario (after_turn scenario i s) nodes')
    (StandFor scenario (proceed scenario s step) bus after nodes')
    (λ h. subst (λ (t : RunState). StandFor scenario t bus after nodes') (sym (proceed_turn scenario s step i e))
    (record {
      bus = record { params = stands.bus.params; trace = stands.bus.trace ∙ sym (after_turn-trace scenario i s); follows = stands.bus.follows };
      controllers = h.0;
      nodes = h.1;
    }))

-- ---- the journal with one step more

-- there is room for the step
pub step_room : (scenario : ScenarioParts) (journal : List Step) (step : Step) (r : StepReply) (room : ℕ) → IsLegal scenario journal → r ≡ Done → r ≡ reply scenario (run scenario journal) step
    → room ≡ scenario.params.slots * (scenario.params.nodes + 1) → length journal < room
step_room scenario journal step r room legal done is e =
    let short : length (journal ++ step ∷ []) ≤ scenario.params.slots * (scenario.params.nodes + 1) =
    legal_short scenario (journal ++ step ∷ []) (legal_push scenario journal step legal (ap is_done (sym is ∙ done))) in
    let long : length (journal ++ step ∷ []) ≡ length journal + 1 = length-append journal (step ∷ []) in
    omega (arith, short, long, e)

pub step_runs : (scenario : ScenarioParts) (journal : List Step) (step : Step) (r : StepReply) → r ≡ Done → r ≡ reply scenario (run scenario journal) step
    → run scenario (journal ++ step ∷ []) ≡ proceed scenario (run scenario journal) step
step_runs scenario journal step r done is =
    run_push scenario (opening scenario.params.nodes) journal step ∙ step_is scenario (run scenario journal) step (ap is_done (sym is ∙ done))

pub step_stands : (scenario : ScenarioParts) (journal : List Step) (step : Step) (r : StepReply) (bus : BusParts) (controllers : List ControllerState) (nodes : List IncarnationsParts) → r ≡ Done
    → r ≡ reply scenario (run scenario journal) step → IfDone r (StandFor scenario (proceed scenario (run scenario journal) step) bus controllers nodes) (Unit {0})
    → StandFor scenario (run scenario (journal ++ step ∷ [])) bus controllers nodes
step_stands scenario journal step r bus controllers nodes done is h =
    let P : Type 0 = StandFor scenario (proceed scenario (run scenario journal) step) bus controllers nodes in
    subst (λ (t : RunState). StandFor scenario t bus controllers nodes) (sym (step_runs scenario journal step r done is))
    (subst (λ (x : StepReply). IfDone x P (Unit {0})) done h)

-- a slot that can be made
pub done_slot : (scenario : ScenarioParts) (s : RunState) → reply scenario s Slot ≡ Done → slot_reply scenario s ≡ Done
unfolding reply
done_slot scenario s done = done

pub slot_made : (scenario : ScenarioParts) (journal : List Step) (bus : BusParts) (controllers : List ControllerState) (nodes : List IncarnationsParts) → reply scenario (run scenario journal) Slot ≡ Done
    → StandFor scenario (after_restarts scenario (after_slot (script scenario.rules) (run scenario journal))) bus controllers nodes
    → StandFor scenario (run scenario (journal ++ Slot ∷ [])) bus controllers nodes
slot_made scenario journal bus controllers nodes done h =
    step_stands scenario journal Slot Done bus controllers nodes refl (sym done)
    (slot_stands scenario (run scenario journal) Slot Done bus controllers nodes refl h)

pub same_stands : (scenario : ScenarioParts) (s t : RunState) (bus bus' : BusParts) (controllers after : List ControllerState) (nodes nodes' : List IncarnationsParts) → s ≡ t → bus' ≡ bus → after ≡ controllers
    → nodes' ≡ nodes → StandFor scenario s bus controllers nodes → StandFor scenario t bus' after nodes'
same_stands scenario s t bus bus' controllers after nodes nodes' same_state same_bus same_controllers same_nodes h =
    subst (λ (x : List IncarnationsParts). StandFor scenario t bus' after x) (sym same_nodes)
    (subst (λ (x : List ControllerState). StandFor scenario t bus' x nodes) (sym same_controllers)
    (subst (λ (x : BusParts). StandFor scenario t x controllers nodes) (sym same_bus)
    (subst (λ (x : RunState). StandFor scenario x bus controllers nodes) same_state h)))

-- ---- the fields of a world, whose controllers and nodes are read and written through slices

pub read_stands : (scenario : ScenarioParts) (s : RunState) (bus : BusParts) (row row_read : List ControllerState) (kept kept_read : List IncarnationsParts)
    → StandFor scenario s bus row kept → row_read ≡ row → kept_read ≡ kept → StandFor scenario s bus row_read kept_read
read_stands scenario s bus row row_read kept kept_read h same_row same_kept =
    same_stands scenario s s bus bus row row_read kept kept_read refl refl same_row same_kept h

-- the reply to a turn by what was read
pub turn_answer : (scenario : ScenarioParts) (journal : List Step) (bus : BusParts) (row row_read : List ControllerState) (kept kept_read : List IncarnationsParts) (i : ℕ) (r : StepReply)
    → StandFor scenario (run scenario journal) bus row kept → row_read ≡ row → kept_read ≡ kept
    → ((s : ScenarioParts) (j : List Step) → AreControllersOf s (run s j) row_read → AreNodesOf s (run s j) kept_read → r ≡ turn_reply s i (run s j))
    → r ≡ reply scenario (run scenario journal) (Turn i)
turn_answer scenario journal bus row row_read kept kept_read i r h same_row same_kept law =
    let stands = read_stands scenario (run scenario journal) bus row row_read kept kept_read h same_row same_kept in
    turn_replies scenario (run scenario journal) (Turn i) i r refl (law scenario journal stands.controllers stands.nodes)

-- the world stays a run where this becomes of its journal, and these of its controllers and its
-- nodes
pub stays_run : (w v : Inside) (journal : List Step) (row : List ControllerState) (kept : List IncarnationsParts) → IsRun w → v.scenario ≡ w.scenario → v.script ≡ w.script
    → v.keys.items ≡ w.keys.items → v.actions ≡ w.actions → v.journal ≡ record { items = journal; room = w.journal.room } → IsLegal w.scenario journal
    → v.controllers.items ≡ row → v.nodes.items ≡ kept → StandFor w.scenario (run w.scenario journal) v.bus row kept → IsRun v
stays_run w v journal row kept is same script keys actions steps legal row_is kept_is stands =
    let items : v.journal.items ≡ journal = ap (λ (b : Bounded Step). b.items) steps in
    record {
      legal = subst IsLegalScenario (sym same) is.legal;
      opening = ap (λ (s : ScenarioParts). s.inc) same ∙ is.opening;
      script = script ∙ is.script ∙ ap (λ (s : ScenarioParts). s.rules) (sym same);
      steps = subst (λ (s : ScenarioParts). IsLegal s v.journal.items) (sym same) (subst (λ (j : List Step). IsLegal w.scenario j) (sym items) legal);
      room = ap (λ (b : Bounded Step). b.room) steps ∙ is.room ∙ ap (λ (s : ScenarioParts). s.params.slots * (s.params.nodes + 1)) (sym same);
      stands = subst (λ (s : ScenarioParts). StandFor s (run s v.journal.items) v.bus v.controllers.items v.nodes.items) (sym same)
          (same_stands w.scenario (run w.scenario journal) (run w.scenario v.journal.items) v.bus v.bus row v.controllers.items kept v.nodes.items
          (ap (run w.scenario) (sym items)) refl row_is kept_is stands);
      actions = actions ∙ is.actions ∙ ap (λ (s : ScenarioParts). record { items = []; room = actions_room s }) (sym same);
      keys = keys ∙ is.keys ∙ ap (λ (s : ScenarioParts). map message_key (messages_of s.sends)) (sym same);
    }
