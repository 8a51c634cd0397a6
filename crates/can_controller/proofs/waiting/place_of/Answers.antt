use Rattle.std.proofs.Common.{◌≢◌, ◌∙◌}
use Rattle.std.proofs.lemmas.List.Elements.{at_read}
use Rattle.cany_base.specs.Frame.{identifier_of}
use Rattle.can_controller.proofs.OrderFacts.{absent_identity, other_incarnation}
use Rattle.can_controller.proofs.waiting.place_of.Goals as goal

pub returns-else-identifier-ident-clause-absent : goal.returns-else-identifier-ident-clause-absent
returns-else-identifier-ident-clause-absent c =
    let here = at_read c.args.frames.now (λ f. identifier_of c.args.format f ≢ c.args.ident) c.in-Ok.place c.index-frames-place.result c.in-Ok.ensures.found.within c.index-frames-place.is
    (λ same. c.if-identifier-ident.false (c.identifier.ensures.value ∙ same)) in
    other_incarnation c.args.format c.args.ident c.in-Ok.place c.args.frames.now c.requires.fit c.requires.ascending (rw c.without_incarnation.ensures at c.in-Ok.ensures.found) here

pub returns-in-Err-clause-absent : goal.returns-in-Err-clause-absent
returns-in-Err-clause-absent c =
    absent_identity c.args.format c.args.ident c.in-Err.field-0 c.args.frames.now c.requires.fit (rw c.without_incarnation.ensures at c.in-Err.ensures.absent)
