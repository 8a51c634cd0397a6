use Rattle.std.proofs.Common.{rules, Some, None, refl, sym, ap, ◌∙◌}
use Rattle.cany_media.proofs.WordFacts.{set_last, set_step}
use Rattle.cany_media.proofs.fault_words.set_in.Goals as goal

pub returns-in_err-node_in : goal.returns-in_err-node_in
returns-in_err-node_in c =
    c.from_residual.ensures
    ∙ sym (c.loop-word.invariant.1
    ∙ set_step c.loop-word.nodes c.loop-word.rest.now c.in-Some.word.now c.in-Some.later.now None c.in-Some.ensures.parts (sym c.in_err-node_in.was ∙ c.node_in.ensures))

pub loop-word-preserved : goal.loop-word-preserved
loop-word-preserved c = (
  search rules,
  c.loop-word.invariant.1
      ∙ set_step c.loop-word.nodes c.loop-word.rest.now c.in-Some.word.now c.in-Some.later.now (Some c.in_ok-node_in.field-0) c.in-Some.ensures.parts
      (sym c.in_ok-node_in.was ∙ c.node_in.ensures)
      ∙ rw (sym c.insert.ensures.set) refl,
)

pub returns-in_err-node_in-2 : goal.returns-in_err-node_in-2
returns-in_err-node_in-2 c =
    c.from_residual-in_err-node_in-2.ensures
    ∙ sym (c.loop-word.invariant.1
    ∙ set_last c.loop-word.nodes c.loop-word.rest.now None c.in_default.ensures.parts (sym c.in_err-node_in-2.was ∙ c.node_in-2.ensures))

pub returns : goal.returns
returns c =
    ap (λ n. Some n) c.insert-2.ensures.set
    ∙ sym (c.loop-word.invariant.1
    ∙ set_last c.loop-word.nodes c.loop-word.rest.now (Some c.in_ok-node_in-2.field-0) c.in_default.ensures.parts (sym c.in_ok-node_in-2.was ∙ c.node_in-2.ensures))
