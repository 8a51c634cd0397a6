use Rattle.std.proofs.Common.{List, ap, sym, ◌∙◌}
use Rattle.std.specs.Prelude.{All}
use Rattle.cany_base.specs.Frame.{FrameParts, identifier_of}
use Rattle.can_frame.specs.Identifier.{FitsIdentifier}
use Rattle.can_controller.specs.Waiting.{WaitingFrames, IsPlaceOf}
use Rattle.can_controller.proofs.KeptFacts.{kept-remove}
use Rattle.can_controller.proofs.OrderFacts.{ascending_identifiers, without_is}
use Rattle.can_controller.proofs.PlaceFacts.{HaveOthers, others_kept, place_removed}
use Rattle.can_controller.proofs.waiting.Waiting.withdraw.Goals as goal

pub invariant_of-self : goal.invariant_of-self
invariant_of-self c =
    let at : IsPlaceOf (identifier_of c.self.inside.format) c.args.ident c.in-Some.place c.self.inside.frames.items = rw c.as_slice.ensures.value at c.in-Some.ensures.found in
    rw (c.remove.ensures.items, c.remove.ensures.capacity) (kept-remove c.self.inside.format c.self.inside.frames.items c.self.inside.room _ c.args.ident c.in-Some.place c.self.invariant at)

pub returns-in-Some-clause-by_identifier : goal.returns-in-Some-clause-by_identifier
returns-in-Some-clause-by_identifier c =
    let at : IsPlaceOf (identifier_of c.self.inside.format) c.args.ident c.in-Some.place c.self.inside.frames.items = rw c.as_slice.ensures.value at c.in-Some.ensures.found in
    let up = ascending_identifiers c.self.inside.format c.self.inside.frames.items c.self.invariant.fit c.self.invariant.ascending in
    rw (← c.self.view_is)
    (ap (λ (fs : List FrameParts). record { format = c.self.inside.format; frames = fs; room = c.self.inside.room })
    (c.remove.ensures.items ∙ sym (place_removed (identifier_of c.self.inside.format) c.args.ident c.self.inside.frames.items c.in-Some.place up at)))

pub returns-in-Some-clause-by_identity : goal.returns-in-Some-clause-by_identity
returns-in-Some-clause-by_identity c = λ f fits none same.
    let fit : All (FitsIdentifier c.args.self.now.format) c.args.self.now.frames = rw (← c.self.view_is) c.self.invariant.fit in
    ap (λ (w : WaitingFrames). w.frames) (returns-in-Some-clause-by_identifier c) ∙ without_is c.args.self.now.format c.args.ident f c.args.self.now.frames fits none same fit

pub returns-in_default-clause-by_identifier : goal.returns-in_default-clause-by_identifier
returns-in_default-clause-by_identifier c =
    let others : HaveOthers (identifier_of c.self.inside.format) c.args.ident c.self.inside.frames.items = rw c.as_slice.ensures.value at c.in_default.ensures.absent in
    rw (← c.self.view_is)
    (ap (λ (fs : List FrameParts). record { format = c.self.inside.format; frames = fs; room = c.self.inside.room })
    (sym (others_kept (identifier_of c.self.inside.format) c.args.ident c.self.inside.frames.items others)))

pub returns-in_default-clause-by_identity : goal.returns-in_default-clause-by_identity
returns-in_default-clause-by_identity c = λ f fits none same.
    let fit : All (FitsIdentifier c.args.self.now.format) c.args.self.now.frames = rw (← c.self.view_is) c.self.invariant.fit in
    ap (λ (w : WaitingFrames). w.frames) (returns-in_default-clause-by_identifier c) ∙ without_is c.args.self.now.format c.args.ident f c.args.self.now.frames fits none same fit
