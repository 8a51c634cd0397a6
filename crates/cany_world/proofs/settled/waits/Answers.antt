use Rattle.std.proofs.Common.{sym, subst, ap, ◌∙◌, arith}
use Rattle.cany_base.specs.Frame.{FrameParts, identifier_of}
use Rattle.can_frame.specs.Identifier.{FitsIdentifier}
use Rattle.cany_world.proofs.settled.waits.Goals as goal

pub identifier-requires : goal.identifier-requires
identifier-requires c =
    c.small_numbers_fit.ensures (record { class = c.args.class; number = c.args.key.now.seq; node = c.args.key.now.origin; inc = 0; payload = c.empty.result })
    c.requires.key

pub returns : goal.returns
returns c =
    let f : FrameParts = record { class = c.args.class; number = c.args.key.now.seq; node = c.args.key.now.origin; inc = 0; payload = c.empty.result } in
    let fits : FitsIdentifier c.args.format f = (c.small_numbers_fit.ensures f c.requires.key, rw c.requires.plain (omega arith)) in
    c.waits.ensures.by_identity f (subst (λ k. FitsIdentifier k f) (sym c.requires.format) fits) c.requires.plain
    (ap (λ k. identifier_of k f) c.requires.format ∙ sym c.identifier.ensures.value)
