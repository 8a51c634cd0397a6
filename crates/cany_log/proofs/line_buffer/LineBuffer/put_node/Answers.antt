use Rattle.std.proofs.Common.{◌<◌, ◌∷◌, ◌++◌, ◌∙◌, ap, arith, length, length-append, rules}
use Rattle.std.specs.Prelude.{decimal}
use Rattle.cany_log.proofs.NumberFacts.{node_digits, node_text-put, node_text-short, inc_text, inc_text-short}
use Rattle.cany_log.proofs.line_buffer.LineBuffer.put_node.Goals as goal

pub put_digits-requires : goal.put_digits-requires
put_digits-requires g c =
    let small : c.from.result < 64 = omega (arith, c.from.ensures, c.get.ensures.in_range) in
    let few = inc_text-short c.args.inc (omega (arith, c.ranges.inc.fits)) in (
      search rules,
      omega (arith, node_digits c.from.result small, few, ap length c.put_incarnation.ensures, length-append (inc_text c.args.inc) c.args.self.now),
    )

pub put_byte-requires : goal.put_byte-requires
put_byte-requires g c =
    let small : c.from.result < 64 = omega (arith, c.from.ensures, c.get.ensures.in_range) in
    let few = inc_text-short c.args.inc (omega (arith, c.ranges.inc.fits)) in (
      search rules,
      omega (
        arith,
        node_digits c.from.result small,
        few,
        ap length c.put_incarnation.ensures,
        length-append (inc_text c.args.inc) c.args.self.now,
        ap length c.put_digits.ensures,
        length-append (decimal c.from.result) c.put_incarnation.new.self,
      ),
    )

pub returns-clause-text : goal.returns-clause-text
returns-clause-text g c =
    c.put_byte.ensures
    ∙ ap (λ line_buffer. 32 ∷ line_buffer) (c.put_digits.ensures
    ∙ ap (λ node. decimal node ++ c.put_incarnation.new.self) (c.from.ensures ∙ c.get.ensures.value)
    ∙ ap (λ line_buffer. decimal c.args.node ++ line_buffer) c.put_incarnation.ensures
    ∙ node_text-put c.args.node c.args.inc c.args.self.now)

pub returns-clause-short : goal.returns-clause-short
returns-clause-short g c =
    node_text-short c.args.node c.args.inc (omega (arith, c.get.ensures.value, c.get.ensures.in_range)) (omega (arith, c.ranges.inc.fits))
