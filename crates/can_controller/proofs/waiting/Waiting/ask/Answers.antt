use Rattle.std.proofs.Common.{◌≡◌, List, [], ◌∷◌, ◌++◌, length, refl, ap, sym, ◌∙◌, arith, eqb-true}
use Rattle.cany_base.specs.Frame.{FrameParts}
use Rattle.cany_model.specs.Bus.Waiting.{put_in_order, with_frame}
use Rattle.can_controller.proofs.waiting.Waiting.ask.Goals as goal

with_first : (f : FrameParts) (frames : List FrameParts) → length frames ≡ 0 → with_frame f frames ≡ frames ++ f ∷ []
unfolding put_in_order
with_first f [] none = refl
with_first f (x ∷ frames) none = absurd (omega (arith, none))

pub returns-then-is_empty : goal.returns-then-is_empty
returns-then-is_empty c =
    let none : length c.self.inside.frames.items ≡ 0 = omega (arith, eqb-true _ 0 (sym c.is_empty.ensures ∙ c.if-is_empty.true)) in
    rw (← c.self.view_is)
    (ap (λ (fs : List FrameParts). record { format = c.self.inside.format; frames = fs; room = c.self.inside.room })
    (c.push_reserved.ensures.items ∙ sym (with_first c.args.frame c.self.inside.frames.items none)))
