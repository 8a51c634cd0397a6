use Rattle.can_frame.proofs.FieldFacts.{take_is}
use Rattle.can_frame.proofs.field.Field.take.Goals as goal

pub returns : goal.returns
returns g c = take_is _ _ _ c.requires
