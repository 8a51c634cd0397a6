-- That a world can rest, and the rounds that it makes then.
use Rattle.std.proofs.Common.{◌≡◌, ℕ, ◌+◌, ◌-◌, ◌*◌, ◌<◌, ◌≤◌, List, [], ◌++◌, length, reverse, ap, sym, ◌∙◌, subst, arith}
use Rattle.std.proofs.lemmas.List.{length-append, length-reverse}
use Rattle.cany_base.specs.declared.actions.Action.{Action}
use Rattle.cany_base.specs.declared.message.NodeAsk.{NodeAsk}
use Rattle.cany_base.specs.declared.rule.Rule.{Rule}
use Rattle.cany_base.specs.declared.slot_note.SlotNote.{SlotNote}
use Rattle.cany_base.specs.declared.step.Step.{Step}
use Rattle.cany_base.specs.Bounded.{Bounded}
use Rattle.cany_base.specs.Nodes.{Nodes}
use Rattle.cany_base.specs.Scenario.{ScenarioParts, IsLegalScenario}
use Rattle.cany_model.specs.Runs.RoundRobin.{rounds}
use Rattle.cany_model.specs.Runs.Run.{IsLegal, run}
use Rattle.cany_model.specs.Bus.State.{slots_run}
use Rattle.cany_model.specs.Rules.Rooms.{actions_room}
use Rattle.cany_model.proofs.Runs.Journals.{legal_short}
use Rattle.cany_model.proofs.Runs.Runs.{orderly}
use Rattle.can_bus.specs.Bus.{BusParts}
use Rattle.can_controller.specs.Controller.{ControllerState}
use Rattle.cany_world.specs.Incarnations.{IncarnationsParts}
use Rattle.cany_world.specs.Kept.{StandFor}
use Rattle.cany_world.specs.Resting.{CanAllPass, CanRest, IsFree, IsOpen, rounds_of}
use Rattle.cany_world.specs.World.{WorldParts, state_of}
use Rattle.cany_world.specs.WorldFields.{IsRun, world_parts}
use Rattle.cany_world.specs.declared.world.World.TheInside.{Inside}
use Rattle.cany_world.proofs.Idle.IdleSlots.{MayRest, after_rest, idle_rounds}
use Rattle.cany_world.proofs.Idle.IdleRound.{IsIdleNext}
use Rattle.cany_world.proofs.Idle.IdleRounds.{stretch_legal, stretch_ran, stretch_steps}
use Rattle.cany_world.proofs.Idle.RestFacts.{last_idle, may_rest, rounds_are}
use Rattle.cany_world.proofs.Idle.StretchFacts as stretch

-- what the world has found out of the next slots
pub record IsReady (scenario : ScenarioParts) (journal : List Step) (slots : ℕ) (due : Nodes) (bus : BusParts) (row : List ControllerState)
    (kept : List IncarnationsParts) : Type 0 where
  pub legal : IsLegalScenario scenario
  pub steps : IsLegal scenario journal
  pub stands : StandFor scenario (run scenario journal) bus row kept
  pub some : 0 < slots
  pub passes : CanAllPass (slots_run (run scenario journal)) slots due row kept
  pub idle : IsOpen scenario (run scenario journal) slots

module _ (scenario : ScenarioParts) (journal : List Step) (slots : ℕ) (due : Nodes) (bus : BusParts) (row : List ControllerState)
    (kept : List IncarnationsParts)
    (ready : IsReady scenario journal slots due bus row kept) where
  with_last : slots - 1 + 1 ≡ slots
  with_last = omega (arith, ready.some)

  may : MayRest scenario (run scenario journal) (slots - 1)
  may = may_rest scenario journal slots due bus row kept ready.stands ready.passes ready.idle (slots - 1) with_last

  last : IsIdleNext scenario (after_rest (slots - 1) (run scenario journal))
  last = last_idle scenario journal slots due bus row kept ready.stands ready.passes ready.idle (slots - 1) with_last

  -- the steps are those of the rounds
  pub steps_are : rounds_of slots row ≡ rounds scenario slots (run scenario journal)
  steps_are =
      rounds_are scenario (run scenario journal) row slots (orderly scenario journal) ready.stands.controllers
      ∙ sym (subst (λ n. rounds scenario n (run scenario journal) ≡ idle_rounds n (run scenario journal).nodes) with_last
      (stretch_steps scenario journal (slots - 1) may last))

  -- each is done
  rounds_legal : IsLegal scenario (journal ++ rounds scenario slots (run scenario journal))
  rounds_legal =
      subst (λ n. IsLegal scenario (journal ++ rounds scenario n (run scenario journal))) with_last
      (stretch_legal scenario journal (slots - 1) may last ready.steps)

  pub then_legal : IsLegal scenario (journal ++ rounds_of slots row)
  then_legal = subst (λ (steps : List Step). IsLegal scenario (journal ++ steps)) (sym steps_are) rounds_legal

  -- and so many slots run
  pub then_ran : slots_run (run scenario (journal ++ rounds_of slots row)) ≡ slots_run (run scenario journal) + slots
  then_ran =
      ap (λ (steps : List Step). slots_run (run scenario (journal ++ steps))) steps_are
      ∙ subst (λ n. slots_run (run scenario (journal ++ rounds scenario n (run scenario journal))) ≡ slots_run (run scenario journal) + n) with_last
      (stretch_ran scenario journal (slots - 1) may last)

  -- there is room for them
  pub steps_room : (room : ℕ) → room ≡ scenario.params.slots * (scenario.params.nodes + 1) → length journal + length (rounds_of slots row) ≤ room
  steps_room room is = omega (arith, legal_short scenario (journal ++ rounds_of slots row) then_legal, length-append journal (rounds_of slots row), is)

  pub can_rest : scenario.inc ≡ 0 → (actions : Bounded Action) → actions ≡ record { items = []; room = actions_room scenario }
      → CanRest slots due bus row kept actions
  can_rest opening actions free =
      stretch.can_rest scenario journal slots due bus row kept ready.legal ready.stands ready.passes ready.idle ready.some opening actions free

-- what was found out makes it ready
ready_by : (scenario : ScenarioParts) (journal : List Step) (bus : BusParts) (row row0 : List ControllerState) (kept kept0 : List IncarnationsParts)
    (notes : List SlotNote) (rules : List Rule) (restarts : List NodeAsk) (most slots : ℕ) (due : Nodes) → IsLegalScenario scenario → IsLegal scenario journal
    → StandFor scenario (run scenario journal) bus row kept → row0 ≡ row → kept0 ≡ kept → notes ≡ reverse bus.trace
    → slots_run (run scenario journal) + most ≤ scenario.params.slots → slots ≤ most → (0 < slots → CanAllPass (length notes) slots due row0 kept0)
    → rules ≡ scenario.rules → restarts ≡ scenario.restarts
    → ((follows : ScenarioParts) → rules ≡ follows.rules → restarts ≡ follows.restarts → (slot : ℕ) → length notes ≤ slot
    → slot < length notes + slots → IsFree follows slot)
    → 0 < slots → IsReady scenario journal slots due bus row kept
ready_by scenario journal bus row row0 kept kept0 notes rules restarts most slots due legal steps stands same_row same_kept oldest room few passes same also free some =
    let now : length notes ≡ slots_run (run scenario journal) = ap (λ t. length t) oldest ∙ length-reverse bus.trace ∙ ap (λ t. length t) stands.bus.trace in
    record {
      legal = legal;
      steps = steps;
      stands = stands;
      some = some;
      passes = subst (λ n. CanAllPass n slots due row kept) now
          (subst (λ (x : List IncarnationsParts). CanAllPass (length notes) slots due row x) same_kept
          (subst (λ (x : List ControllerState). CanAllPass (length notes) slots due x kept0) same_row (passes some)));
      idle = record {
        room = omega (arith, room, few);
        free = λ slot from below. free scenario same also slot (omega (arith, from, now)) (omega (arith, below, now));
      };
    }

-- the same of a world whose fields are `u`, and which is seen as `w`
pub ready_for : (u : Inside) (w : WorldParts) → world_parts u ≡ w → IsRun u → (row : List ControllerState) (kept : List IncarnationsParts) (notes : List SlotNote) (restarts : List NodeAsk)
    (most slots : ℕ) (due : Nodes) → row ≡ u.controllers.items → kept ≡ u.nodes.items → notes ≡ reverse u.bus.trace
    → slots_run (state_of w) + most ≤ w.scenario.params.slots → slots ≤ most → (0 < slots → CanAllPass (length notes) slots due row kept) → restarts ≡ u.scenario.restarts
    → ((follows : ScenarioParts) → u.script ≡ follows.rules → restarts ≡ follows.restarts → (slot : ℕ) → length notes ≤ slot
    → slot < length notes + slots → IsFree follows slot)
    → 0 < slots → IsReady u.scenario u.journal.items slots due u.bus u.controllers.items u.nodes.items
ready_for u w viewed is row kept notes restarts most slots due same_row same_kept oldest room few passes also free some =
    ready_by u.scenario u.journal.items u.bus u.controllers.items row u.nodes.items kept notes u.script restarts most slots due is.legal is.steps is.stands same_row same_kept
    oldest (subst (λ (x : WorldParts). slots_run (state_of x) + most ≤ x.scenario.params.slots) (sym viewed) room) few passes is.script also free some
