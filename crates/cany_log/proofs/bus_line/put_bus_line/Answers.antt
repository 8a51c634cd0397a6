use Rattle.std.proofs.Common.{[], ◌∷◌}
use Rattle.std.specs.Prelude.{codes, decimal}
use Rattle.cany_text.specs.ReportLines.{bus_line, frame_payload, node_text, set_text}
use Rattle.cany_text.specs.TextNames.{class_name, verdict_name}
use Rattle.cany_log.specs.Fields.{set_if_any}
use Rattle.cany_log.proofs.LineFacts.{field_put, fields_none, fields_put, last_fields, word_put}
use Rattle.cany_log.proofs.bus_line.put_bus_line.Goals as goal
use Rattle.cany_log.proofs.bus_line.put_bus_line.Goals.{in-None, in-Some}

pub returns-clause-text : goal.returns-clause-text
unfolding bus_line
returns-clause-text c =
    let restart = last_fields (set_if_any (codes "restart") c.args.again) _ _ _ (fields_none _ _ c.put_bytes.ensures) c.put_set_if_any.ensures.text in
    let stop = fields_put (set_if_any (codes "stop") c.args.note.now.stops) _ _ _ _ restart c.put_set_if_any-2.ensures.text in
    elim c.match-note.branch [
      | in-None w ↦
          rw w.in-None.is (word_put _ _ _ _ _
          (field_put _ _ _ _ _ (rw w.page-is (field_put (codes "idle") _ _ _ _ stop w.put_bytes-in-None.ensures)) c.put_number.ensures.text)
          c.put_bytes-2.ensures)
      | in-Some w ↦
          let f = w.in-Some.frame in
          let carried = class_name f.class ∷ node_text f.node f.inc ∷ decimal f.number ∷ frame_payload f
          ∷ codes "from" ∷ set_text c.args.note.now.senders ∷ codes "to" ∷ set_text c.args.note.now.takers ∷ verdict_name c.args.note.now.verdict ∷ [] in
          rw w.in-Some.is (word_put _ _ _ _ _
          (field_put _ _ _ _ _ (rw w.page-is (fields_put carried _ _ _ _ stop w.put_carried.ensures.text)) c.put_number.ensures.text)
          c.put_bytes-2.ensures)
    ]
