use Rattle.std.proofs.Common.{refl, sym, subst, ◌∙◌, ap}
use Rattle.std.proofs.lemmas.Result.{err_from_is_err_and}
use Rattle.cany_log.proofs.ReportFacts.{heading-is}
use Rattle.cany_log.proofs.WrittenFacts.{IsWritten-then, IsWritten-short}
use Rattle.cany_world.specs.Journal.{Repeats}
use Rattle.cany_log.proofs.report.write_heading.Goals as goal

pub write_journal-requires : goal.write_journal-requires
write_journal-requires g c = record {
  page = c.requires;
  period = subst (Repeats c.period.result) (sym c.journal.ensures.journal) c.period.ensures;
}

pub returns-in_err-write_first_line : goal.returns-in_err-write_first_line
returns-in_err-write_first_line g c =
    let p = err_from_is_err_and c.from_residual.result c.from_residual.ensures.1 in
    let params = c.params.view_is ∙ c.params-params.ensures.params ∙ ap (λ s. s.params) c.scenario.ensures in
    record {
      written = rw (p.1, heading-is c.args.world.now.scenario _ c.args.world.now.journal c.args.world.now.journal params refl)
          (IsWritten-short _ _ _ _ _ _ _ c.in_err-write_first_line.ensures);
      empty = c.requires;
    }

pub returns-in_err-write_params : goal.returns-in_err-write_params
returns-in_err-write_params g c =
    let p = err_from_is_err_and c.from_residual-in_err-write_params.result c.from_residual-in_err-write_params.ensures.1 in
    let params = c.params.view_is ∙ c.params-params.ensures.params ∙ ap (λ s. s.params) c.scenario.ensures in
    record {
      written = rw (p.1, heading-is c.args.world.now.scenario _ c.args.world.now.journal c.args.world.now.journal params refl)
          (IsWritten-then _ _ _ _ _ _ _ _ _ c.in_ok-write_first_line.ensures (IsWritten-short _ _ _ _ _ _ _ (rw (← c.params.view_is) at c.in_err-write_params.ensures)));
      empty = c.requires;
    }

pub returns : goal.returns
returns g c =
    let params = c.params.view_is ∙ c.params-params.ensures.params ∙ ap (λ s. s.params) c.scenario.ensures in
    record {
      written = rw (heading-is c.args.world.now.scenario _ c.args.world.now.journal c.journal.result.now params c.journal.ensures.journal)
          (IsWritten-then _ _ _ _ _ _ _ _ _ c.in_ok-write_first_line.ensures (IsWritten-then _ _ _ _ _ _ _ _ _ (rw (← c.params.view_is) at c.in_ok-write_params.ensures) c.write_journal.ensures.written));
      empty = c.write_journal.ensures.empty;
    }
