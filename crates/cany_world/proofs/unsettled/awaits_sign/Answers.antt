use Rattle.std.proofs.Common.{[], ◌∷◌, ap, arith, refl, sym, subst, ◌<◌, ◌^◌, ◌∙◌}
use Rattle.std.proofs.lemmas.Bool.{true≢false}
use Rattle.cany_base.specs.declared.class.Class.TheVariants.{Fda}
use Rattle.cany_base.specs.Frame.{FrameParts, identifier_of}
use Rattle.cany_base.specs.Layout.{layout}
use Rattle.can_frame.specs.Identifier.{FitsIdentifier}
use Rattle.cany_model.specs.Bus.Frames.{identity_of}
use Rattle.cany_model.specs.Rules.Knowledge.{fda_of}
use Rattle.cany_world.proofs.UnsettledFacts.{awaits_one, node_fits, stopped_awaits, unfit_awaits}
use Rattle.cany_world.proofs.unsettled.awaits_sign.Goals as goal
use Rattle.cany_world.proofs.unsettled.awaits_sign.Goals.{then-is_some-via-then-is_some, then-is_some-via-else-is_some+then-not-number_fits}

pub returns-then-is_some : goal.returns-then-is_some
returns-then-is_some c = elim c.then-is_some.branch [
  | then-is_some-via-then-is_some w ↦ stopped_awaits (fda_of (record { node = c.args.node; cycle = c.args.cycle }) ∷ []) c.args.controller.now c.stopped.result c.stopped.ensures (sym c.is_some.ensures ∙ w.if-is_some.true)
  | then-is_some-via-else-is_some+then-not-number_fits w ↦
      unfit_awaits (record { node = c.args.node; cycle = c.args.cycle }) c.args.controller.now c.args.format c.requires.format c.frames_fit.ensures
      (λ below. true≢false (sym (w.number_fits.ensures.1 below) ∙ w.if-not-number_fits.true))
]

pub returns : goal.returns
returns c =
    let f : FrameParts = record { class = Fda; number = c.args.cycle; node = c.args.node; inc = 0; payload = c.empty.result } in
    let number : c.args.cycle < 2 ^ (layout c.args.format).number_width = c.number_fits.ensures.0 c.if-not-number_fits.false in
    let fits : FitsIdentifier c.args.format f = ((number, node_fits c.args.format c.args.node c.requires.node), omega arith) in
    c.waits.ensures.by_identity f (subst (λ k. FitsIdentifier k f) (sym c.requires.format) fits) refl
    (ap (λ k. identifier_of k f) c.requires.format ∙ sym c.identifier.ensures.value)
    ∙ awaits_one (identity_of f) c.args.controller.now c.stopped.result c.stopped.ensures (sym c.is_some.ensures ∙ c.if-is_some.false)
