use Rattle.std.proofs.Common.{ap, length, arith}
use Rattle.cany_text.specs.ReportLines.{entry_line}
use Rattle.cany_log.proofs.LineFacts.{length_put, three_put, word_put}
use Rattle.cany_log.proofs.entries.put_view.Goals as goal

pub returns-clause-text : goal.returns-clause-text
unfolding entry_line
returns-clause-text g c =
    let number = rw c.from.ensures at c.put_number.ensures.text in
    word_put _ _ _ _ _ (three_put _ _ _ _ _ _ _ _ c.put_bytes.ensures c.put_set.ensures.text number c.put_number-2.ensures.text) c.put_bytes-2.ensures

pub returns-clause-short : goal.returns-clause-short
returns-clause-short g c =
    let set = length_put _ _ _ _ c.put_set.ensures.text c.put_set.ensures.short in
    let number = length_put _ _ _ _ c.put_number.ensures.text c.put_number.ensures.short in
    let slot = length_put _ _ _ _ c.put_number-2.ensures.text c.put_number-2.ensures.short in
    omega (arith, ap length c.put_bytes.ensures, set, number, slot, ap length c.put_bytes-2.ensures)
