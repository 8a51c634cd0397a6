use Rattle.std.proofs.Common.{inl, inr, sym, ◌∙◌}
use Rattle.cany_replay.proofs.StormTopFacts.{done_is_no_memory, fault_is_no_memory, not_refused, stormed, stormed_in_part}
use Rattle.cany_replay.proofs.storm_run.run_storm.Goals as goal

pub returns-in-Ok-run-clause-done : goal.returns-in-Ok-run-clause-done
returns-in-Ok-run-clause-done g c = λ done.
    stormed c.args.number c.in-Ok.scenario c.in-Ok-run.world _ _ c.in-Ok.ensures c.in-Ok-run.ensures.ended (c.summarize.ensures.done done) c.in-Ok-run.ensures.promises

pub returns-in-Ok-run-clause-prefix : goal.returns-in-Ok-run-clause-prefix
returns-in-Ok-run-clause-prefix g c = λ fault.
    stormed_in_part c.args.number c.in-Ok.scenario c.in-Ok-run.world _ _ c.in-Ok.ensures c.in-Ok-run.ensures.ended c.summarize.ensures.prefix

pub returns-in-Ok-run-clause-untouched : goal.returns-in-Ok-run-clause-untouched
returns-in-Ok-run-clause-untouched g c = λ memory. elim c.summarize.ensures.status [
  | inl done ↦ absurd (done_is_no_memory (sym done ∙ memory))
  | inr fault ↦ absurd (fault_is_no_memory (sym fault ∙ memory))
]

pub returns-in-Ok-run-clause-status : goal.returns-in-Ok-run-clause-status
returns-in-Ok-run-clause-status g c = elim c.summarize.ensures.status [ inl done ↦ inl done | inr fault ↦ inr (inl fault) ]

pub unreachable-requires : goal.unreachable-requires
unreachable-requires g c =
    not_refused c.args.number c.in-Ok.scenario c.in-Err-Journal.field-0 c.in-Err-Journal.field-0-0 c.in-Ok.ensures c.in-Err-Journal.field-0-is
    c.in-Err-Journal.ensures.refused
