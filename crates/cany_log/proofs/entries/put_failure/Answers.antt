use Rattle.std.proofs.Common.{ap, length, arith}
use Rattle.cany_text.specs.ReportLines.{entry_line}
use Rattle.cany_log.proofs.LineFacts.{length_put, three_put, word_put}
use Rattle.cany_log.proofs.entries.put_failure.Goals as goal

pub returns-clause-text : goal.returns-clause-text
unfolding entry_line
returns-clause-text g c =
    let cycle = rw c.from.ensures at c.put_number.ensures.text in
    let node = rw (c.from-2.ensures, c.get.ensures.value) at c.put_number-2.ensures.text in
    word_put _ _ _ _ _ (three_put _ _ _ _ _ _ _ _ c.put_bytes.ensures cycle node c.put_number-3.ensures.text) c.put_bytes-2.ensures

pub returns-clause-short : goal.returns-clause-short
returns-clause-short g c =
    let cycle = length_put _ _ _ _ c.put_number.ensures.text c.put_number.ensures.short in
    let node = length_put _ _ _ _ c.put_number-2.ensures.text c.put_number-2.ensures.short in
    let slot = length_put _ _ _ _ c.put_number-3.ensures.text c.put_number-3.ensures.short in
    omega (arith, ap length c.put_bytes.ensures, cycle, node, slot, ap length c.put_bytes-2.ensures)
