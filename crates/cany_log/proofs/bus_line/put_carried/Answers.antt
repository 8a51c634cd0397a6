use Rattle.std.proofs.Common.{ap, length, arith}
use Rattle.cany_log.proofs.LineFacts.{length_put}
use Rattle.cany_log.proofs.bus_line.put_carried.Goals as goal

pub returns-clause-short : goal.returns-clause-short
returns-clause-short c =
    let verdict = length_put _ _ _ _ c.put_text.ensures c.verdict_name.ensures.short in
    let acceptors = length_put _ _ _ _ c.put_set.ensures.text c.put_set.ensures.short in
    let senders = length_put _ _ _ _ c.put_set-2.ensures.text c.put_set-2.ensures.short in
    let payload = length_put _ _ _ _ c.put_frame_payload.ensures.text c.put_frame_payload.ensures.short in
    let number = length_put _ _ _ _ c.put_number.ensures.text c.put_number.ensures.short in
    let node = length_put _ _ _ _ c.put_node.ensures.text c.put_node.ensures.short in
    let class = length_put _ _ _ _ c.put_text-2.ensures c.class_name.ensures.short in
    omega (arith, verdict, acceptors, ap length c.put_bytes.ensures, senders, ap length c.put_bytes-2.ensures, payload, number, node, class)
