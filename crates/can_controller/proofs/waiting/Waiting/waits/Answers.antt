use Rattle.std.proofs.Common.{◌∙◌}
use Rattle.std.specs.Prelude.{All}
use Rattle.cany_base.specs.Frame.{identifier_of}
use Rattle.can_frame.specs.Identifier.{FitsIdentifier}
use Rattle.can_controller.proofs.OrderFacts.{waits_is}
use Rattle.can_controller.proofs.PlaceFacts.{found_waits}
use Rattle.can_controller.proofs.waiting.Waiting.waits.Goals as goal

pub returns-clause-by_identifier : goal.returns-clause-by_identifier
returns-clause-by_identifier c =
    rw (← c.self.view_is)
    (c.is_some.ensures
    ∙ found_waits (identifier_of c.self.inside.format) c.args.ident c.self.inside.frames.items c.place_of.result (rw c.as_slice.ensures.value at c.place_of.ensures.found)
    (rw c.as_slice.ensures.value at c.place_of.ensures.absent))

pub returns-clause-by_identity : goal.returns-clause-by_identity
returns-clause-by_identity c = λ f fits none same.
    let fit : All (FitsIdentifier c.args.self.now.format) c.args.self.now.frames = rw (← c.self.view_is) c.self.invariant.fit in
    returns-clause-by_identifier c ∙ waits_is c.args.self.now.format c.args.ident f c.args.self.now.frames fits none same fit
