use Rattle.std.proofs.Common.{◌∷◌, ◌∙◌, [], append_assoc}
use Rattle.std.proofs.lemmas.Result.{on_ok_weaker}
use Rattle.cany_media.proofs.medium_lines.put_field.Goals as goal

pub returns : goal.returns
returns c =
    on_ok_weaker c.put-2.result (λ more.
    more ∙ rw (c.in_ok-put.ensures, c.as_bytes.ensures.value) (append_assoc c.args.text.now.items (32 ∷ []) c.args.field.now)) c.put-2.ensures
