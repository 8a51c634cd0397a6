use Rattle.std.proofs.Common.{suc, arith, refl}
use Rattle.cany_replica.proofs.value.Value.after_key.Goals as goal

pub invariant_of-result : goal.invariant_of-result
invariant_of-result c =
    record {
      short = omega (arith, c.payload.invariant.short);
      places = refl;
      zeros = λ i past. c.payload.invariant.zeros (suc (suc i)) (omega (arith, past));
    }
