-- The classes whose frames show life are those of the table of classes.
use Rattle.std.proofs.Common.{◌≡◌, refl, ◌∙◌, ap, ◌||◌}
use Rattle.cany_base.specs.declared.class.Class.{Class}
use Rattle.cany_base.specs.declared.class.Class.TheVariants as class
use Rattle.cany_base.specs.declared.class.Class.TheVariants.{Accept, Rha, Els, Fda, Join, Leave, Confirm, Tot, Rel, Ed}
use Rattle.cany_base.specs.Frame.{FrameParts}
use Rattle.can_frame.specs.Classes as classes
use Rattle.cany_model.specs.Bus.Frames.{same_class}
use Rattle.cany_model.specs.Rules.Knowledge.{shows_life}
use Rattle.cany_life.proofs.frames.shows_life.Goals as goal

by_class : (k : Class) → classes.shows_life k ≡ (same_class k class.Els || same_class k class.Rha || same_class k class.Tot)
unfolding same_class
by_class Accept = refl
by_class Rha = refl
by_class Els = refl
by_class Fda = refl
by_class Join = refl
by_class Leave = refl
by_class Confirm = refl
by_class Tot = refl
by_class Rel = refl
by_class Ed = refl

of_frame : (f : FrameParts) → classes.shows_life f.class ≡ shows_life f
unfolding shows_life
of_frame f = by_class f.class

pub returns : goal.returns
returns c = c.shows_life.ensures ∙ ap (λ (f : FrameParts). classes.shows_life f.class) c.frame.view_is ∙ of_frame c.args.frame.now
