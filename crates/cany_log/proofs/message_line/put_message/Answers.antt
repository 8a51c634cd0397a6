use Rattle.cany_text.specs.ReportLines.{message_line}
use Rattle.cany_log.proofs.LineFacts.{field_put, three_put, word_put}
use Rattle.cany_log.proofs.message_line.put_message.Goals as goal

pub returns-clause-text : goal.returns-clause-text
unfolding message_line
returns-clause-text c =
    let state = rw c.state_name.ensures.name at c.put_text.ensures in
    let node = rw (c.from.ensures, c.get.ensures.value) at c.put_number-2.ensures.text in
    let fields = three_put _ _ _ _ _ _ _ _ c.put_bytes.ensures state c.put_number.ensures.text node in
    word_put _ _ _ _ _ (field_put _ _ _ _ _ fields c.put_service.ensures.text) c.put_bytes-2.ensures
