use Rattle.std.proofs.Common.{◌∙◌}
use Rattle.cany_check.proofs.Texts.LineFacts.{sign_line-put}
use Rattle.cany_check.proofs.text.sign_lines.write_sign.Goals as goal

pub returns : goal.returns
returns g c =
    rw (sign_line-put c.args.sign.now c.args.told.now c.fate_fields-fate.result _ _ _ _ _ _ (c.from.ensures ∙ c.get.ensures.value) c.from-2.ensures
    c.fate_fields-fate.ensures.texts c.first_or_dash.ensures.texts c.last_if_any.ensures.texts c.first_of.ensures c.last_if_any-2.ensures.texts) c.write_line.ensures
