use Rattle.std.proofs.Common.{◌∙◌, ap, List}
use Rattle.std.specs.Prelude.{slice_get}
use Rattle.cany_base.specs.Frame.{FrameParts}
use Rattle.can_controller.proofs.OrderFacts.{ascending_identifiers, first_is_least, head_has_least_key}
use Rattle.can_controller.proofs.waiting.Waiting.first.Goals as goal

pub returns-clause-least : goal.returns-clause-least
returns-clause-least c =
    rw (← c.self.view_is)
    (c.copied.ensures ∙ c.first.ensures.value ∙ ap (λ (fs : List FrameParts). slice_get fs 0) c.deref.ensures.value
    ∙ first_is_least c.self.inside.format c.self.inside.frames.items c.self.invariant.fit c.self.invariant.ascending)

pub returns-clause-least_key : goal.returns-clause-least_key
returns-clause-least_key c =
    rw (← c.self.view_is, c.copied.ensures, c.first.ensures.value, c.deref.ensures.value)
    (head_has_least_key c.self.inside.format c.self.inside.frames.items
    (ascending_identifiers c.self.inside.format c.self.inside.frames.items c.self.invariant.fit c.self.invariant.ascending))
