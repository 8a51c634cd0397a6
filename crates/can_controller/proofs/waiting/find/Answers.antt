use Rattle.std.proofs.Common.{◌+◌, ◌-◌, ◌/◌, ◌<◌, ℕ, length, add-one, arith}
use Rattle.can_controller.specs.Waiting.{identity_number}
use Rattle.can_controller.proofs.AscendingFacts.{below_to, above_from}
use Rattle.can_controller.proofs.waiting.find.Goals as goal

pub loop-low-preserved-then-there-number-2 : goal.loop-low-preserved-then-there-number-2
loop-low-preserved-then-there-number-2 c =
    let middle : ℕ = c.loop-low.low + (c.loop-low.high - c.loop-low.low) / 2 in
    let there : middle < length c.args.frames.now = omega (arith, c.loop-low.invariant.within) in
    let less : identity_number c.args.format c.index-frames-middle.result < c.args.number = omega (arith, c.identity_number-there.ensures.number) in
    record {
      ordered = omega arith;
      within = c.loop-low.invariant.within;
      below = rw add-one (below_to (identity_number c.args.format) c.args.number c.args.frames.now middle c.index-frames-middle.result c.requires.ascending there c.index-frames-middle.is less);
      above = c.loop-low.invariant.above;
    }

pub loop-low-preserved : goal.loop-low-preserved
loop-low-preserved c =
    let middle : ℕ = c.loop-low.low + (c.loop-low.high - c.loop-low.low) / 2 in
    let there : middle < length c.args.frames.now = omega (arith, c.loop-low.invariant.within) in
    let more : c.args.number < identity_number c.args.format c.index-frames-middle.result = omega (arith, c.identity_number-there.ensures.number) in
    record {
      ordered = omega arith;
      within = omega (arith, c.loop-low.invariant.within);
      below = c.loop-low.invariant.below;
      above = above_from (identity_number c.args.format) c.args.number c.args.frames.now middle c.index-frames-middle.result c.requires.ascending there c.index-frames-middle.is more;
    }
