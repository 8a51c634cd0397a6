-- An empty set is nobody.
use Rattle.std.proofs.Common.{[], ◌∷◌, ◌++◌, replicate, ap, ◌∙◌}
use Rattle.std.proofs.lemmas.List.{replicate_more}
use Rattle.cany_base.specs.Bounded.{Bounded}
use Rattle.cany_base.specs.Nodes.{Nodes, nobody}
use Rattle.cany_totcan.proofs.message_set.MessageSet.build.Goals as goal

pub loop-preserved : goal.loop-preserved
loop-preserved c = (
  ap (λ (list : Bounded Nodes). list.items) c.push.ensures
      ∙ ap (λ items. items ++ c.empty.result ∷ []) c.loop.invariant.0
      ∙ ap (λ nodes. replicate c.loop.counter nobody ++ nodes ∷ []) c.empty.ensures.set
      ∙ replicate_more c.loop.counter nobody,
  ap (λ (list : Bounded Nodes). list.room) c.push.ensures ∙ c.loop.invariant.1,
)
