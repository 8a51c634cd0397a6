-- The law of a command whose one status of success is `DONE`: that is none which a command answers
-- where it does not succeed. This lemma stands here and not in `proofs/`, since the clause
-- `no_fault` of `OneWordCommand` cites it, and a clause of the code sees of its own crate `specs/`
-- alone.
use Rattle.std.specs.Prelude.{◌≡◌, ℕ}
use Rattle.std.proofs.Common.{arith, inl}
use Rattle.cany_command.specs.declared.status.TheConstants.{DONE}
use Rattle.cany_command.specs.Status.{IsNoFault}

pub done_is_no_fault : (status : ℕ) → status ≡ DONE → IsNoFault status
done_is_no_fault status is = inl (omega (arith, is))
