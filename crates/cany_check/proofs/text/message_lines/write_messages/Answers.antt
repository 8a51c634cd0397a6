use Rattle.std.proofs.Common.{get_or, length, sym, ◌∙◌, ap, arith}
use Rattle.std.proofs.lemmas.Result.{err_from_is_err_and}
use Rattle.cany_log.proofs.WrittenFacts.{IsWritten-next, IsWritten-cut, IsWritten-all, concat-map}
use Rattle.cany_check.proofs.Texts.LineFacts.{message_text, message_told-at}
use Rattle.cany_check.proofs.text.message_lines.write_messages.Goals as goal

pub loop-i-preserved : goal.loop-i-preserved
loop-i-preserved g c =
    let a = c.args.account.now in
    let messages = c.messages-message-items.ensures.messages in
    let same = message_told-at a _ _ _ c.loop-i.i _ _ c.requires c.params-params.ensures messages c.loop-i-test.true c.message-item.is c.index-told-i.is in
    IsWritten-next (message_text a) _ _ _ _ _ _ _ _ _ c.loop-i.invariant (omega (arith, c.loop-i-test.true, ap length messages))
    (c.message-item.is ∙ ap (λ l. get_or l c.loop-i.i c.message-item.result) messages) (rw (sym same) c.in_ok-write_message.ensures)

pub returns-in_err-write_message : goal.returns-in_err-write_message
returns-in_err-write_message g c =
    let a = c.args.account.now in
    let p = err_from_is_err_and c.from_residual.result c.from_residual.ensures.1 in
    let messages = c.messages-message-items.ensures.messages in
    let same = message_told-at a _ _ _ c.loop-i.i _ _ c.requires c.params-params.ensures messages c.loop-i-test.true c.message-item.is c.index-told-i.is in
    rw (p.1, concat-map (message_text a) a.messages) (IsWritten-cut (message_text a) _ _ _ _ _ _ _ _ _ _ c.loop-i.invariant
    (omega (arith, c.loop-i-test.true, ap length messages)) (c.message-item.is ∙ ap (λ l. get_or l c.loop-i.i c.message-item.result) messages)
    (rw (sym same) c.in_err-write_message.ensures))

pub returns : goal.returns
returns g c =
    let a = c.args.account.now in
    rw (concat-map (message_text a) a.messages) (IsWritten-all (message_text a) _ _ _ _ _ _ c.loop-i.invariant
    (omega (arith, c.loop-i-test.false, ap length c.messages-message-items.ensures.messages)))
