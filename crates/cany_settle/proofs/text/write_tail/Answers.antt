use Rattle.std.proofs.lemmas.Result.{err_from_is_err_and}
use Rattle.cany_log.proofs.WrittenFacts.{IsWritten-then, IsWritten-short}
use Rattle.cany_settle.proofs.TextFacts.{tail-is}
use Rattle.cany_settle.proofs.text.write_tail.Goals as goal

pub returns-in_err-write_lengths : goal.returns-in_err-write_lengths
returns-in_err-write_lengths g c =
    let p = err_from_is_err_and c.from_residual.result c.from_residual.ensures.1 in
    rw (p.1, tail-is) (IsWritten-short _ _ _ _ _ _ _ c.in_err-write_lengths.ensures)

pub returns-in_err-write_claim : goal.returns-in_err-write_claim
returns-in_err-write_claim g c =
    let p = err_from_is_err_and c.from_residual-in_err-write_claim.result c.from_residual-in_err-write_claim.ensures.1 in
    rw (p.1, tail-is) (IsWritten-then _ _ _ _ _ _ _ _ _ c.in_ok-write_lengths.ensures (IsWritten-short _ _ _ _ _ _ _ c.in_err-write_claim.ensures))

pub returns : goal.returns
returns g c =
    rw tail-is (IsWritten-then _ _ _ _ _ _ _ _ _ c.in_ok-write_lengths.ensures (IsWritten-then _ _ _ _ _ _ _ _ _ c.in_ok-write_claim.ensures c.write_ending.ensures))
