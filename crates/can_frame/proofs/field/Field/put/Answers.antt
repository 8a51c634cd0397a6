use Rattle.std.proofs.Common.{◌∙◌, ap, ◌+◌, ◌*◌, ◌^◌}
use Rattle.std.specs.Int.{bit_at}
use Rattle.can_frame.specs.Field.{field_of}
use Rattle.can_frame.proofs.FieldFacts.{put_is, field_of-with_field, with_field-sum, bit_at-with_field}
use Rattle.can_frame.proofs.field.Field.put.Goals as goal

pub returns-clause-taken : goal.returns-clause-taken
returns-clause-taken g c =
    ap (field_of g.row.SHIFT g.row.WIDTH) (put_is _ _ _ _ c.requires.placed c.ranges.word.fits c.requires.fits)
    ∙ field_of-with_field g.row.SHIFT g.row.WIDTH _ _ c.requires.fits

pub returns-clause-outside : goal.returns-clause-outside
returns-clause-outside g c = λ i outside.
    ap (λ n. bit_at n i) (put_is _ _ _ _ c.requires.placed c.ranges.word.fits c.requires.fits)
    ∙ bit_at-with_field g.row.SHIFT g.row.WIDTH _ _ c.requires.fits i outside

pub returns-clause-sum : goal.returns-clause-sum
returns-clause-sum g c =
    ap (λ n. n + field_of g.row.SHIFT g.row.WIDTH c.args.word * 2 ^ g.row.SHIFT) (put_is _ _ _ _ c.requires.placed c.ranges.word.fits c.requires.fits)
    ∙ with_field-sum g.row.SHIFT g.row.WIDTH _ _
