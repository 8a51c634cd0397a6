use Rattle.std.proofs.Common.{[], ◌∷◌, ◌++◌, codes, map, refl, ◌∙◌, ap}
use Rattle.cany_text.specs.ReportLines.{journal_line, step_letter}
use Rattle.cany_log.proofs.LineFacts.{field_put, fields_none, word_put}
use Rattle.cany_log.proofs.line.put_steps.Goals as goal

pub returns-clause-text : goal.returns-clause-text
unfolding journal_line
returns-clause-text g c =
    let letters = map step_letter c.args.steps.now in
    word_put (codes "journal") (letters ∷ []) c.args.line_buffer.now (32 ∷ (letters ++ c.put_bytes.new.self)) _
    (field_put letters [] (10 ∷ c.args.line_buffer.now) c.put_bytes.new.self _ (fields_none _ _ c.put_bytes.ensures) refl)
    (c.put_bytes-2.ensures ∙ ap (λ r. codes "journal " ++ r) c.put_steps.ensures)
