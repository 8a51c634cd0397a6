-- Vectors of one cycle count together.
use Rattle.std.proofs.Common.{◌≡◌, ap, ◌∙◌, sym}
use Rattle.cany_base.specs.Frame.{FrameParts}
use Rattle.cany_base.specs.declared.class.Class.TheVariants.{Rha}
use Rattle.can_fault.specs.declared.counts.Counted.TheVariants.{Vectors, Frame}
use Rattle.can_fault.proofs.CountedFacts.{counted_vectors, counted_frame}
use Rattle.can_fault.proofs.counts.Counted.of.Goals as goal

pub returns-in-Rha : goal.returns-in-Rha
returns-in-Rha c =
    let number : c.frame.inside.number ≡ c.args.frame.now.number = ap (λ (f : FrameParts). f.number) c.frame.view_is in
    let class : c.args.frame.now.class ≡ Rha = sym (ap (λ (f : FrameParts). f.class) c.frame.view_is) ∙ c.in-Rha.is in
    ap (λ n. Vectors n) number ∙ counted_vectors c.args.frame.now class

pub returns-in_default : goal.returns-in_default
returns-in_default c =
    let class : c.frame.inside.class ≡ c.args.frame.now.class = ap (λ (f : FrameParts). f.class) c.frame.view_is in
    ap (λ n. Frame n) c.of.ensures ∙ counted_frame c.args.frame.now (λ e. c.in_default.not-Rha (class ∙ e))
