use Rattle.cany_text.specs.ReportLines.{entry_line}
use Rattle.cany_log.proofs.LineFacts.{field_put, fields_none, word_put}
use Rattle.cany_log.proofs.delivery.delivery_before.Goals as goal

pub returns-clause-text : goal.returns-clause-text
unfolding entry_line
returns-clause-text c =
    word_put _ _ _ _ _
    (field_put _ _ _ _ _
    (field_put _ _ _ _ _
    (field_put _ _ _ _ _
    (field_put _ _ _ _ _
    (field_put _ _ _ _ _ (fields_none _ _ c.byte_before-at.ensures.text) c.payload_before-at.ensures.text)
    (rw c.from.ensures at c.number_before-at.ensures.text))
    (rw (c.from-2.ensures, c.get.ensures.value) at c.number_before-at-2.ensures.text))
    c.service_before-at.ensures.text)
    c.number_before-at-3.ensures.text)
    c.word_before.ensures.text
