use Rattle.std.proofs.Common.{ap, sym, ◌∙◌}
use Rattle.cany_media.specs.MediaText.{media_refusal_line}
use Rattle.cany_media.proofs.refusal.MediaRefusal.line.Goals as goal

pub returns-in-Overlap : goal.returns-in-Overlap
unfolding media_refusal_line
returns-in-Overlap c = c.numbered.ensures ∙ sym (ap media_refusal_line c.in-Overlap.is)

pub returns-in-TooMany : goal.returns-in-TooMany
unfolding media_refusal_line
returns-in-TooMany c = c.numbered-in-TooMany.ensures ∙ sym (ap media_refusal_line c.in-TooMany.is)
