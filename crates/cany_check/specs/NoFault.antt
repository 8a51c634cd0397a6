-- No status of a verdict is one that a command answers where it does not succeed. This lemma stands
-- here and not in `proofs/`, since the command's clause `no_fault` cites it and a clause of the
-- code sees `specs/` alone.
use Rattle.std.specs.Prelude.{ℕ}
use Rattle.std.proofs.Common.{arith, inl, inr}
use Rattle.cany_command.specs.Status.{IsNoFault}
use Rattle.cany_check.specs.Top.{IsVerdict}

pub verdict_is_no_fault : (given : ℕ) → IsVerdict given → IsNoFault given
verdict_is_no_fault given (inl done) = inl (omega (arith, done))
verdict_is_no_fault given (inr (inl broken)) = inr (omega (arith, broken))
verdict_is_no_fault given (inr (inr unsettled)) = inr (omega (arith, unsettled))
