use Rattle.std.proofs.lemmas.Result.{err_from_is_err_and}
use Rattle.cany_log.proofs.WrittenFacts.{IsWritten-then, IsWritten-short}
use Rattle.cany_check.proofs.Texts.TextFacts.{text-is}
use Rattle.cany_check.proofs.text.write_check.Goals as goal

pub returns-in_err-write_head : goal.returns-in_err-write_head
returns-in_err-write_head g c =
    let p = err_from_is_err_and c.from_residual.result c.from_residual.ensures.1 in
    rw (p.1, text-is c.args.account.now c.args.found c.args.unused.now)
    (IsWritten-short _ _ _ _ _ _ _ c.in_err-write_head.ensures)

pub returns-in_err-write_deliveries : goal.returns-in_err-write_deliveries
returns-in_err-write_deliveries g c =
    let p = err_from_is_err_and c.from_residual-in_err-write_deliveries.result c.from_residual-in_err-write_deliveries.ensures.1 in
    rw (p.1, text-is c.args.account.now c.args.found c.args.unused.now)
    (IsWritten-then _ _ _ _ _ _ _ _ _ c.in_ok-write_head.ensures (IsWritten-short _ _ _ _ _ _ _ c.in_err-write_deliveries.ensures))

pub returns-in_err-write_membership : goal.returns-in_err-write_membership
returns-in_err-write_membership g c =
    let p = err_from_is_err_and c.from_residual-in_err-write_membership.result c.from_residual-in_err-write_membership.ensures.1 in
    rw (p.1, text-is c.args.account.now c.args.found c.args.unused.now)
    (IsWritten-then _ _ _ _ _ _ _ _ _ c.in_ok-write_head.ensures (IsWritten-then _ _ _ _ _ _ _ _ _ c.in_ok-write_deliveries.ensures (IsWritten-short _ _ _ _ _ _ _ c.in_err-write_membership.ensures)))

pub returns : goal.returns
returns g c =
    rw (text-is c.args.account.now c.args.found c.args.unused.now)
    (IsWritten-then _ _ _ _ _ _ _ _ _ c.in_ok-write_head.ensures (IsWritten-then _ _ _ _ _ _ _ _ _ c.in_ok-write_deliveries.ensures (IsWritten-then _ _ _ _ _ _ _ _ _ c.in_ok-write_membership.ensures c.write_ending.ensures)))
