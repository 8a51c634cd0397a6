use Rattle.std.proofs.Common.{◌≡◌, suc, ◌+◌, ◌-◌, ◌≤◌, ◌++◌, List, length, ap, ◌∙◌, arith}
use Rattle.std.proofs.lemmas.List.{length-append}
use Rattle.cany_base.specs.declared.step.Step.{Step}
use Rattle.cany_base.specs.Bounded.{Bounded}
use Rattle.can_controller.specs.Controller.{ControllerState}
use Rattle.cany_world.specs.Resting.{rounds_of}
use Rattle.cany_world.proofs.Idle.JournalRounds.{round_room, rounds_pushed_all, rounds_pushed_next}
use Rattle.cany_world.proofs.journal.push_rounds.Goals as goal

pub extend-requires : goal.extend-requires
extend-requires c =
    let row : List ControllerState = c.args.controllers.now in
    let whole : List Step = c.args.journal.now.items ++ rounds_of c.args.slots row in
    let left : c.args.slots - c.loop-slot._slot ≡ suc (c.args.slots - (c.loop-slot._slot + 1)) = omega (arith, c.loop-slot-test.true) in
    let fits : length whole ≤ c.args.journal.now.room = omega (arith, c.requires.room, length-append c.args.journal.now.items (rounds_of c.args.slots row)) in
    let room = round_room row whole c.loop-slot.journal.items (c.args.slots - c.loop-slot._slot) (c.args.slots - (c.loop-slot._slot + 1)) c.args.journal.now.room
    c.loop-slot.invariant.0 left fits in
    omega (arith, room, c.loop-slot.invariant.1, ap (λ (l : List Step). length l) c.round_of-steps.ensures.steps)

pub loop-slot-preserved : goal.loop-slot-preserved
loop-slot-preserved c =
    let row : List ControllerState = c.args.controllers.now in
    let left : c.args.slots - c.loop-slot._slot ≡ suc (c.args.slots - (c.loop-slot._slot + 1)) = omega (arith, c.loop-slot-test.true) in (
      rounds_pushed_next row (c.args.journal.now.items ++ rounds_of c.args.slots row) c.loop-slot.journal.items c.extend.new.self.items
          (c.args.slots - c.loop-slot._slot) (c.args.slots - (c.loop-slot._slot + 1)) c.loop-slot.invariant.0 left
          (ap (λ (b : Bounded Step). b.items) c.extend.ensures ∙ ap (λ (l : List Step). c.loop-slot.journal.items ++ l) c.round_of-steps.ensures.steps),
      ap (λ (b : Bounded Step). b.room) c.extend.ensures ∙ c.loop-slot.invariant.1,
    )

pub returns : goal.returns
returns c =
    let none : c.args.slots - c.loop-slot._slot ≡ 0 = omega (arith, c.loop-slot-test.false) in
    let items = rounds_pushed_all c.args.controllers.now (c.args.journal.now.items ++ rounds_of c.args.slots c.args.controllers.now) c.loop-slot.journal.items
    (c.args.slots - c.loop-slot._slot) c.loop-slot.invariant.0 none in
    λ k. record { items = items k; room = c.loop-slot.invariant.1 k }
