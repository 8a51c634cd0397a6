use Rattle.std.proofs.Common.{length, arith}
use Rattle.std.specs.Prelude.{decimal}
use Rattle.cany_text.specs.ReportLines.{payload_text, set_text}
use Rattle.cany_log.proofs.LineFacts.{one_spaced, one_short}
use Rattle.cany_log.proofs.line.put_field.Goals as goal

pub returns-in-Text-clause-short : goal.returns-in-Text-clause-short
returns-in-Text-clause-short g c = rw c.in-Text.is (one_short c.in-Text.text.now (length c.in-Text.text.now) (omega arith))

pub returns-in-Number-clause-short : goal.returns-in-Number-clause-short
returns-in-Number-clause-short g c = rw c.in-Number.is (one_short _ _ c.put_number.ensures.short)

pub returns-in-Count-clause-short : goal.returns-in-Count-clause-short
returns-in-Count-clause-short g c = rw c.in-Count.is (one_short _ _ c.put_count.ensures.short)

pub returns-in-Node-clause-short : goal.returns-in-Node-clause-short
returns-in-Node-clause-short g c = rw c.in-Node.is (one_short _ _ c.put_node.ensures.short)

pub returns-in-Bytes-clause-short : goal.returns-in-Bytes-clause-short
returns-in-Bytes-clause-short g c = rw c.in-Bytes.is (one_short _ _ c.put_payload.ensures.short)

pub returns-in-Set-clause-short : goal.returns-in-Set-clause-short
returns-in-Set-clause-short g c = rw c.in-Set.is (one_short _ _ c.put_set.ensures.short)

pub returns-in-NumberIfAny-clause-text : goal.returns-in-NumberIfAny-clause-text
returns-in-NumberIfAny-clause-text g c = rw c.in-NumberIfAny.is c.put_number_if_any.ensures.text

pub returns-in-NumberIfAny-clause-short : goal.returns-in-NumberIfAny-clause-short
returns-in-NumberIfAny-clause-short g c = rw c.in-NumberIfAny.is c.put_number_if_any.ensures.short

pub returns-in-SetIfAny-clause-text : goal.returns-in-SetIfAny-clause-text
returns-in-SetIfAny-clause-text g c = rw c.in-SetIfAny.is c.put_set_if_any.ensures.text

pub returns-in-SetIfAny-clause-short : goal.returns-in-SetIfAny-clause-short
returns-in-SetIfAny-clause-short g c = rw c.in-SetIfAny.is c.put_set_if_any.ensures.short

pub returns-in-Text-clause-text : goal.returns-in-Text-clause-text
returns-in-Text-clause-text g c = rw c.in-Text.is (one_spaced c.in-Text.text.now c.args.line_buffer.now _ c.put_text.ensures)

pub returns-in-Number-clause-text : goal.returns-in-Number-clause-text
returns-in-Number-clause-text g c = rw c.in-Number.is (one_spaced (decimal c.in-Number.number) c.args.line_buffer.now _ c.put_number.ensures.text)

pub returns-in-Count-clause-text : goal.returns-in-Count-clause-text
returns-in-Count-clause-text g c = rw c.in-Count.is (one_spaced (decimal c.in-Count.number) c.args.line_buffer.now _ c.put_count.ensures.text)

pub returns-in-Set-clause-text : goal.returns-in-Set-clause-text
returns-in-Set-clause-text g c = rw c.in-Set.is (one_spaced (set_text c.in-Set.set) c.args.line_buffer.now _ c.put_set.ensures.text)

pub returns-in-Bytes-clause-text : goal.returns-in-Bytes-clause-text
returns-in-Bytes-clause-text g c = rw c.in-Bytes.is (one_spaced (payload_text c.in-Bytes.payload) c.args.line_buffer.now _ c.put_payload.ensures.text)
