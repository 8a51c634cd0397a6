use Rattle.std.proofs.Common.{refl, ◌∙◌}
use Rattle.std.specs.Prelude.{option_to_list}
use Rattle.std.proofs.lemmas.Result.{err_from_is_err_and}
use Rattle.cany_check.specs.Deciding.Integrity.{wrong_entry}
use Rattle.cany_check.specs.Deciding.OneOrder.{parting}
use Rattle.cany_log.proofs.WrittenFacts.{IsWritten-then, IsWritten-short}
use Rattle.cany_check.proofs.Texts.TextFacts.{delivery-is, listed}
use Rattle.cany_check.proofs.text.write_deliveries.Goals as goal

pub returns-in_err-write_lines : goal.returns-in_err-write_lines
returns-in_err-write_lines g c =
    let a = c.args.account.now in
    let p = err_from_is_err_and c.from_residual.result c.from_residual.ensures.1 in
    let wrong = listed c.wrong_entry-wrong.result (wrong_entry a) c.as_slice.result.now (c.wrong_entry-wrong.ensures ∙ c.requires.wrong) c.as_slice.ensures in
    rw (p.1, delivery-is a c.as_slice.result.now (option_to_list (parting a)) wrong refl)
    (IsWritten-short _ _ _ _ _ _ _ c.in_err-write_lines.ensures)

pub returns-in_err-write_messages : goal.returns-in_err-write_messages
returns-in_err-write_messages g c =
    let a = c.args.account.now in
    let p = err_from_is_err_and c.from_residual-in_err-write_messages.result c.from_residual-in_err-write_messages.ensures.1 in
    let wrong = listed c.wrong_entry-wrong.result (wrong_entry a) c.as_slice.result.now (c.wrong_entry-wrong.ensures ∙ c.requires.wrong) c.as_slice.ensures in
    rw (p.1, delivery-is a c.as_slice.result.now (option_to_list (parting a)) wrong refl)
    (IsWritten-then _ _ _ _ _ _ _ _ _ c.in_ok-write_lines.ensures (IsWritten-short _ _ _ _ _ _ _ c.in_err-write_messages.ensures))

pub returns : goal.returns
returns g c =
    let a = c.args.account.now in
    let wrong = listed c.wrong_entry-wrong.result (wrong_entry a) c.as_slice.result.now (c.wrong_entry-wrong.ensures ∙ c.requires.wrong) c.as_slice.ensures in
    let parted = listed c.parting-parting.result (parting a) c.as_slice-2.result.now (c.parting-parting.ensures ∙ c.requires.parting) c.as_slice-2.ensures in
    rw (delivery-is a c.as_slice.result.now c.as_slice-2.result.now wrong parted)
    (IsWritten-then _ _ _ _ _ _ _ _ _ c.in_ok-write_lines.ensures (IsWritten-then _ _ _ _ _ _ _ _ _ c.in_ok-write_messages.ensures c.write_lines-2.ensures))
