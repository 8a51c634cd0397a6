use Rattle.std.proofs.Common.{◌∙◌}
use Rattle.cany_check.specs.Texts.CheckLines.{parted_line}
use Rattle.cany_check.proofs.text.witness_lines.PartingLine.write.Goals as goal

pub returns : goal.returns
unfolding parted_line
returns g c =
    rw (
      ← (c.from.ensures ∙ c.get.ensures.value),
      ← (c.from-2.ensures ∙ c.get-2.ensures.value),
      ← (c.from-3.ensures ∙ c.get-3.ensures.value),
      ← c.from-4.ensures,
      ← (c.from-5.ensures ∙ c.get-4.ensures.value),
      ← c.from-6.ensures,
    ) c.write_line.ensures
