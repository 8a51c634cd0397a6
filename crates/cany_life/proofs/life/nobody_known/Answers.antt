-- An empty set is nobody.
use Rattle.std.proofs.Common.{◌≡◌, [], ◌∷◌, ◌++◌, replicate, ap, sym, ◌∙◌}
use Rattle.std.proofs.lemmas.List.{replicate_more}
use Rattle.cany_base.specs.Bounded.{Bounded}
use Rattle.cany_base.specs.Nodes.{Nodes, nobody}
use Rattle.cany_base.proofs.NodesFacts.{has_none, same_nodes}
use Rattle.cany_life.proofs.life.nobody_known.Goals as goal

pub loop-preserved : goal.loop-preserved
loop-preserved c =
    let empty : c.empty.result ≡ nobody = same_nodes c.empty.result nobody (λ i. c.empty.ensures.has i ∙ sym (has_none i)) in (
      ap (λ (list : Bounded Nodes). list.items) c.push.ensures
          ∙ ap (λ items. items ++ c.empty.result ∷ []) c.loop.invariant.0
          ∙ ap (λ nodes. replicate c.loop.counter nobody ++ nodes ∷ []) empty
          ∙ replicate_more c.loop.counter nobody,
      ap (λ (list : Bounded Nodes). list.room) c.push.ensures ∙ c.loop.invariant.1,
    )
