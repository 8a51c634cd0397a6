-- So many blank messages are pushed.
use Rattle.std.proofs.Common.{[], ◌∷◌, ◌++◌, replicate, ap, ◌∙◌}
use Rattle.std.proofs.lemmas.List.{replicate_more}
use Rattle.cany_base.specs.Bounded.{Bounded}
use Rattle.cany_totcan.specs.declared.backlog.OwnMessage.{OwnMessage}
use Rattle.cany_totcan.specs.Backlog.{blank}
use Rattle.cany_totcan.proofs.backlog.Backlog.build.Goals as goal

pub loop-preserved : goal.loop-preserved
loop-preserved c = (
  ap (λ (list : Bounded OwnMessage). list.items) c.push.ensures
      ∙ ap (λ items. items ++ c.blank.result ∷ []) c.loop.invariant.0
      ∙ ap (λ (own : OwnMessage). replicate c.loop.counter blank ++ own ∷ []) c.blank.ensures
      ∙ replicate_more c.loop.counter blank,
  ap (λ (list : Bounded OwnMessage). list.room) c.push.ensures ∙ c.loop.invariant.1,
)
