use Rattle.std.proofs.Common.{length, sym, ◌∙◌, arith}
use Rattle.std.proofs.lemmas.Bool.{eqb-true}
use Rattle.std.proofs.lemmas.List.{nil_from_length}
use Rattle.cany_world.proofs.Idle.FreeFacts.{all_free, one_more_free}
use Rattle.cany_world.proofs.free_slots.free_slots.Goals as goal

pub loop-slots-preserved : goal.loop-slots-preserved
loop-slots-preserved c = (
  omega (arith, c.loop-slots-test.true),
  one_more_free c.args.script.now c.args.restarts.now c.args.next c.loop-slots.slots c.loop-slots.invariant.1
      (λ scenario same also. c.is_free.ensures scenario same also c.if-is_free.true),
)

pub returns-then-is_empty-2-clause-free : goal.returns-then-is_empty-2-clause-free
returns-then-is_empty-2-clause-free c =
    let restarts = c.args.restarts.now in
    all_free c.args.script.now restarts c.args.next c.args.most (c.is_empty.ensures.0 c.if-is_empty.true)
    (nil_from_length restarts (eqb-true (length restarts) 0 (sym c.is_empty-then-is_empty.ensures ∙ c.if-is_empty-2.true)))
