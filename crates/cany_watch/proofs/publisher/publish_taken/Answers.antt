use Rattle.std.proofs.Common.{◌∙◌, Some, ap}
use Rattle.std.proofs.lemmas.Bool.{false≢true}
use Rattle.cany_watch.specs.declared.published.Published.{Published}
use Rattle.cany_watch.specs.Shown.{State}
use Rattle.cany_watch.proofs.Waiting.{may_show, now_shown}
use Rattle.cany_watch.proofs.publisher.publish_taken.Goals as goal

pub publish_as-writer-requires : goal.publish_as-writer-requires
publish_as-writer-requires g c next after = may_show _ _ c.args.taken.now c.args.writer.desk.shown.value next _ c.requires after

pub returns-in-Ok-clause-writer : goal.returns-in-Ok-clause-writer
returns-in-Ok-clause-writer g c =
    let all = rw c.in-Ok.is at c.publish_as-writer.ensures.values in
    rw all.1 (now_shown c.args.taken.now c.args.writer.desk.shown.value c.publish_as-writer.result.0.desk.shown.value _ c.requires all.0)

pub returns-in-Ok-clause-shown : goal.returns-in-Ok-clause-shown
returns-in-Ok-clause-shown g c =
    let all = rw c.in-Ok.is at c.publish_as-writer.ensures.values in
    ap (λ (s : State). s.0) (all.0 ∙ c.requires.next)

pub returns-in-Ok-clause-known : goal.returns-in-Ok-clause-known
returns-in-Ok-clause-known g c = λ _.
    let all = rw c.in-Ok.is at c.publish_as-writer.ensures.values in
    let told = rw c.in-Ok.is at c.publish_as-writer.ensures.rule in
    told.0 ∙ ap (λ (s : State). Some s.1) (all.0 ∙ c.requires.next)

pub returns-in-Err-clause-writer : goal.returns-in-Err-clause-writer
returns-in-Err-clause-writer g c =
    let none = rw c.in-Err.is at c.publish_as-writer.ensures.values in
    rw (none.0, none.1) c.requires

pub returns-in-Err-clause-shown : goal.returns-in-Err-clause-shown
returns-in-Err-clause-shown g c =
    let none = rw c.in-Err.is at c.publish_as-writer.ensures.values in
    ap (λ (p : Published). p.entries.items) none.0

pub returns-in-Err-clause-known : goal.returns-in-Err-clause-known
returns-in-Err-clause-known g c = λ e. absurd (false≢true e)
