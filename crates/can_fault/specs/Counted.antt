-- What Partial slots count for, as a key.
use Rattle.std.specs.Prelude.{Bool, if◌then◌else◌}
use Rattle.cany_base.specs.declared.class.Class.TheVariants.{Rha}
use Rattle.cany_model.specs.Bus.Frames.{Identity, same_class}
use Rattle.can_fault.specs.declared.counts.Counted.{Counted}
use Rattle.can_fault.specs.declared.counts.Counted.TheVariants.{Vectors, Frame}
use Rattle.can_fault.specs.contracts.counts.CountedPartialEq.TheImpl as counted_eq
use Rattle.can_fault.specs.Identities.{frame_identity}

abbrev pub same_counted : Counted → Counted → Bool
same_counted = (counted_eq.ghosts).eq

abbrev pub counted_of : Identity → Counted
counted_of x = if same_class x.class Rha then Vectors x.number else Frame (frame_identity x)
