use Rattle.std.proofs.Common.{◌∙◌, ap, refl, sym, subst, inl, inr, arith}
use Rattle.std.proofs.lemmas.Result.{IfErr-weaker, IfOk-at_ok, IfOk-weaker}
use Rattle.cany_command.specs.Promises.{HasRun}
use Rattle.cany_command.proofs.PerformingFacts.{run_answered, run_answered_in_part}
use Rattle.cany_world.specs.World.{WorldParts}
use Rattle.cany_command.proofs.concluding.conclude.Goals as goal

pub answer-requires : goal.answer-requires
answer-requires g c = subst HasRun (sym c.in-Ok.ensures.ended) (record { journal = refl; promises = c.in-Ok.ensures.promises })

pub returns-in-Ok-clause-done : goal.returns-in-Ok-clause-done
returns-in-Ok-clause-done g c =
    IfOk-weaker c.status_of.result _ _ (λ status is words planned.
    run_answered (g.C.Command.text words) c.args.scenario c.in-Ok.world _ _ c.in-Ok.ensures.ended c.in-Ok.ensures.promises
    ((rw is at c.answer.ensures.written) words planned)) c.status_of.ensures.ok

pub returns-in-Ok-clause-success : goal.returns-in-Ok-clause-success
returns-in-Ok-clause-success g c =
    IfOk-weaker c.status_of.result _ _ (λ status is words planned.
    (rw is at c.answer.ensures.success) words planned ∙ ap (λ (w : WorldParts). g.C.Command.success words w.scenario w.journal) c.in-Ok.ensures.ended)
    c.status_of.ensures.ok

pub returns-in-Ok-clause-followed : goal.returns-in-Ok-clause-followed
returns-in-Ok-clause-followed g c = IfOk-weaker c.status_of.result _ _ (λ status is. c.in-Ok.ensures.followed) c.status_of.ensures.ok

pub returns-in-Ok-clause-status : goal.returns-in-Ok-clause-status
returns-in-Ok-clause-status g c = IfOk-weaker c.status_of.result _ _ (λ status is. IfOk-at_ok _ is c.answer.ensures.status) c.status_of.ensures.ok

pub returns-in-Ok-clause-refused : goal.returns-in-Ok-clause-refused
returns-in-Ok-clause-refused g c =
    IfErr-weaker c.status_of.result _ _ (λ status other is. elim other [
      | inl failed ↦ absurd (omega (arith, failed, is))
      | inr memory ↦ absurd (omega (arith, memory, is))
    ]) c.status_of.ensures.other

pub returns-in-Ok-clause-write_fault : goal.returns-in-Ok-clause-write_fault
returns-in-Ok-clause-write_fault g c =
    IfErr-weaker c.status_of.result _ _ (λ status failed is. (rw (failed is) at c.answer.ensures.failed) refl) c.status_of.ensures.failed

pub returns-in-Ok-clause-prefix : goal.returns-in-Ok-clause-prefix
returns-in-Ok-clause-prefix g c =
    IfErr-weaker c.status_of.result _ _ (λ status failed is words planned.
    run_answered_in_part (g.C.Command.text words) c.args.scenario c.in-Ok.world _ _ c.in-Ok.ensures.followed c.in-Ok.ensures.ended
    ((rw (failed is) at c.answer.ensures.prefix) refl words planned)) c.status_of.ensures.failed

pub returns-in-Ok-clause-untouched : goal.returns-in-Ok-clause-untouched
returns-in-Ok-clause-untouched g c =
    IfErr-weaker c.status_of.result _ _ (λ status memory is. (rw (memory is) at c.answer.ensures.untouched) refl) c.status_of.ensures.memory

pub returns-in-Ok-clause-other : goal.returns-in-Ok-clause-other
returns-in-Ok-clause-other g c = IfErr-weaker c.status_of.result _ _ (λ status other. inr other) c.status_of.ensures.other
