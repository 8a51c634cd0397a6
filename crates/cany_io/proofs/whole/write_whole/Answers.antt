use Rattle.std.proofs.Common.{length, refl, ap, arith}
use Rattle.std.proofs.lemmas.List.{take_rest}
use Rattle.cany_io.proofs.SinkFacts.{Takes-take-add}
use Rattle.cany_io.proofs.whole.write_whole.Goals as goal

pub pieces-preserved : goal.pieces-preserved
pieces-preserved g c =
    let piece = rw take_rest at c.in_ok-written.ensures.bytes in
    record {
      within = omega (arith, c.in_ok-written.ensures.bound);
      taken = Takes-take-add _ _ _ _ _ _ c.pieces.invariant.taken piece;
      count = omega arith;
      untouched = λ none. absurd (omega (arith, c.in_ok-written.ensures.some));
    }

pub returns-clause-empty : goal.returns-clause-empty
returns-clause-empty g c = λ empty. (refl, c.pieces.invariant.untouched (omega (arith, ap length empty)))
